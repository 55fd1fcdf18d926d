-- `reader::check_codes` meets its contract. Assumes nothing.
use Rattle.std.proofs.Common.{sym, ap, ◌∙◌, ◌+◌, ◌-◌, ◌*◌, get_or, Result, Err}
use Rattle.refusal.specs.declared.Refusal.{Refusal}
use Rattle.std.proofs.lemmas.Result.{err_from_is_err_and}
use Rattle.sheet.specs.Components.{codes_reading}
use Rattle.reader.proofs.Codes.{codes_turn, then_of}
use Rattle.reader.proofs.check_codes.Goals as goal

abbrev refused : Refusal → Result (Unit {0}) Refusal
refused refusal = Err refusal

pub loop-place-preserved : goal.loop-place-preserved
loop-place-preserved c =
    let l = c.loop-place in
    let s = c.args.s.now in
    let rest = codes_reading (c.args.n - (l.place + 1)) s (1 + 5 * (l.place + 1)) (l.place + 1) (get_or s (1 + 5 * l.place) 0) in
    sym (codes_turn c.args.n l.place s l.before c.loop-place-test.true
    ∙ ap (λ r. then_of r rest) (sym c.check_code.ensures.tests ∙ c.in_ok-check_code.was)) ∙ l.invariant

pub returns-in_err-check_code : goal.returns-in_err-check_code
returns-in_err-check_code c =
    let l = c.loop-place in
    let s = c.args.s.now in
    let rest = codes_reading (c.args.n - (l.place + 1)) s (1 + 5 * (l.place + 1)) (l.place + 1) (get_or s (1 + 5 * l.place) 0) in
    let (y, e, q) = err_from_is_err_and c.from_residual.result c.from_residual.ensures.1 in
    let k = sym l.invariant ∙ codes_turn c.args.n l.place s l.before c.loop-place-test.true
    ∙ ap (λ r. then_of r rest) (sym c.check_code.ensures.tests ∙ c.in_err-check_code.was) in
    e ∙ ap refused q ∙ sym k
