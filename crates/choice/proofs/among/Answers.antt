use Rattle.systems.specs.Choice.{marks_of}
use Rattle.choice.proofs.Listing.{choice_is}
use Rattle.choice.proofs.among.Goals as goal

pub returns : goal.returns
unfolding marks_of
returns g c = choice_is _ _ _ _ _ (c.pass-2.ensures _ _ (c.pass.ensures _ _ c.new-keys.ensures)) c.choice.ensures
