-- `rated_on::Ready::new` meets its contract. Assumes nothing.
use Rattle.std.proofs.Common.{◌≡◌, sym, ◌∙◌, subst, IfErr, arith}
use Rattle.std.proofs.lemmas.Result.{IfOk-at_ok, err_from_is_err_and}
use Rattle.rating.specs.Inner.Given.{TurnedAway}
use Rattle.rating.proofs.CallCases.{in_range_lem, turned_away, count_few, count_enough, ready_for}
use Rattle.rating.proofs.CallCases.{given_Proposal, given_room}
use Rattle.rating.proofs.rated_on.Ready.new.Goals as goal

pub returns-in_err-simplified-clause-refused : goal.returns-in_err-simplified-clause-refused
returns-in_err-simplified-clause-refused c = λ gas suffices same.
    let (refusal, is, same_refusal) = err_from_is_err_and c.from_residual.result c.from_residual.ensures.1 in
    rw (is, same_refusal) (turned_away gas _ same _ c.in_err-simplified.was)

pub returns-then-present_count-lt-FEWEST-clause-refused : goal.returns-then-present_count-lt-FEWEST-clause-refused
returns-then-present_count-lt-FEWEST-clause-refused c = λ gas suffices same.
    let is = c.in_ok-simplified.was in
    count_few gas (in_range_lem gas _ same _ is) _ _ (IfOk-at_ok _ is same.mixture) c.present_count.ensures
    (omega (arith, c.if-present_count-lt-FEWEST.true))

pub invariant_of-result : goal.invariant_of-result
invariant_of-result c =
    let gas = c.requires.gas in
    let same = c.requires.same in
    let is = c.in_ok-simplified.was in
    let p = in_range_lem gas _ same _ is in
    let mixture = IfOk-at_ok _ is same.mixture in
    let on = count_enough gas p _ _ mixture c.present_count.ensures
    (omega (arith, c.if-present_count-lt-FEWEST.false)) in
    let ready = ready_for gas p on _ _ _ mixture c.choose.ensures (IfOk-at_ok _ is same.inert) in
    record {
      proposal = given_Proposal gas c.requires.suffices _ _ _ ready;
      room = given_room gas c.requires.suffices _ _ _ ready;
    }

pub returns-clause-ready : goal.returns-clause-ready
returns-clause-ready c = λ gas suffices same.
    let is = c.in_ok-simplified.was in
    let p = in_range_lem gas _ same _ is in
    let mixture = IfOk-at_ok _ is same.mixture in
    let on = count_enough gas p _ _ mixture c.present_count.ensures
    (omega (arith, c.if-present_count-lt-FEWEST.false)) in
    ready_for gas p on _ _ _ mixture c.choose.ensures (IfOk-at_ok _ is same.inert)
