use Rattle.std.proofs.Common.{refl, rules, arith}
use Rattle.display.proofs.Runs.{part_is}
use Rattle.display.proofs.put_word.Goals as goal

pub returns : goal.returns
returns c =
    record {
      stored = part_is _ _ _ _ _ c.copy_from_slice.ensures.after (omega arith) (search rules);
      ended = refl;
    }
