-- `writer::room_for` meets its contract. Assumes nothing.
use Rattle.std.proofs.Common.{sym, ap, ◌∙◌, ◌+◌, ◌*◌}
use Rattle.std.proofs.lemmas.Result.{err_from_is_err_and}
use Rattle.sheet.specs.Components.{listed_count}
use Rattle.sheet.proofs.Laws.Cases.{allowed_room}
use Rattle.writer.proofs.Room.{refused, answer_count, answer_check, answer_short, answer_length}
use Rattle.writer.proofs.room_for.Goals as goal

pub returns-then-not-allowed_count : goal.returns-then-not-allowed_count
returns-then-not-allowed_count c = answer_count _ _ _ (sym c.allowed_count.ensures ∙ c.if-not-allowed_count.true)

pub returns-in_err-check : goal.returns-in_err-check
returns-in_err-check c =
    let (y, e, q) = err_from_is_err_and c.from_residual.result c.from_residual.ensures.1 in
    e ∙ ap refused q
    ∙ answer_check _ _ _ (sym c.allowed_count.ensures ∙ c.if-not-allowed_count.false) _
    (sym c.check.ensures.value ∙ c.in_err-check.was)

pub length_of-needed-requires : goal.length_of-needed-requires
length_of-needed-requires c = allowed_room _ (sym c.allowed_count.ensures ∙ c.if-not-allowed_count.false)

pub returns-then-size-needed : goal.returns-then-size-needed
returns-then-size-needed c =
    let passed = sym c.check.ensures.value ∙ c.in_ok-check.was in
    answer_short _ _ _ (sym c.allowed_count.ensures ∙ c.if-not-allowed_count.false) passed _
    (c.length_of-needed.ensures ∙ ap (λ a. 2 + 5 * listed_count a + 6 * c.args.split.count) c.parts.ensures)
    c.if-size-needed.true

pub returns : goal.returns
returns c =
    answer_length _ _ _ (sym c.allowed_count.ensures ∙ c.if-not-allowed_count.false)
    (sym c.check.ensures.value ∙ c.in_ok-check.was) _
    (c.length_of-needed.ensures ∙ ap (λ a. 2 + 5 * listed_count a + 6 * c.args.split.count) c.parts.ensures)
    c.if-size-needed.false
