-- `reader::check_code` meets its contract: what its tests answer is the register's. Assumes nothing.
use Rattle.std.proofs.Common.{rules}
use Rattle.reader.proofs.Codes.{registered}
use Rattle.reader.proofs.check_code.Goals as goal

pub returns-in_default-clause-register : goal.returns-in_default-clause-register
returns-in_default-clause-register c = registered _ _ _ _ (search rules)

pub returns-in_default-2-clause-register : goal.returns-in_default-2-clause-register
returns-in_default-2-clause-register c = registered _ _ _ _ (search rules)

pub returns-in-0-2-clause-register : goal.returns-in-0-2-clause-register
returns-in-0-2-clause-register c = registered _ _ _ _ (search rules)
