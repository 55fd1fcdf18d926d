-- `writer::put_amount` meets its contract. Assumes nothing.
use Rattle.std.proofs.Common.{◌∙◌}
use Rattle.writer.proofs.Turns.{put_four}
use Rattle.writer.proofs.put_amount.Goals as goal

pub returns : goal.returns
returns c = put_four _ _ _ c.args.amount c.requires c.ranges.amount.fits (c.copy_from_slice.ensures.after ∙ c.to_be_bytes.ensures)
