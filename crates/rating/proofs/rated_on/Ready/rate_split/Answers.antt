-- `rated_on::Ready::rate_split` meets its contract. Assumes nothing.
use Rattle.std.proofs.Common.{rules, ◌∙◌}
use Rattle.rating.proofs.CallCases.{split_misfit, split_fitting}
use Rattle.rating.proofs.rated_on.Ready.rate_split.Goals as goal

pub returns-then-not-fits : goal.returns-then-not-fits
returns-then-not-fits c =
    c.into.ensures ∙ split_misfit _ _ _ _ c.args.split _ c.args.self.now.room c.fits-fits.ensures (search rules)

pub returns : goal.returns
returns c =
    split_fitting _ _ _ _ c.args.split _ c.args.self.now.room c.fits-fits.ensures _ _ (search rules)
    c.cells_of.ensures c.proposed.ensures
