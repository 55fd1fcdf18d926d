use Rattle.choice.proofs.Keying.{take_one, take_none, take_empty}
use Rattle.choice.proofs.Keys.take.Goals as goal

pub returns-in-Some : goal.returns-in-Some
returns-in-Some g c fit marks d =
    take_one _ _ _ _ _ _ _ d (c.containing.ensures fit marks d) c.if-containing-wanted.true _
    (c.fittest.ensures.fittest fit marks d) c.fittest.ensures.in_place _ c.in-Some.is

pub returns-in_default : goal.returns-in_default
returns-in_default g c fit marks d =
    take_empty _ _ _ _ _ _ _ d (c.containing.ensures fit marks d) c.if-containing-wanted.true _
    (c.fittest.ensures.fittest fit marks d) c.in_default.is

pub returns-else-containing-wanted : goal.returns-else-containing-wanted
returns-else-containing-wanted g c fit marks d =
    take_none _ _ _ _ _ _ _ d (c.containing.ensures fit marks d) c.if-containing-wanted.false
