use Rattle.std.proofs.Common.{◌≡◌, ◌≤◌, drop, map, length}
use Rattle.analysis.specs.Check.{lowest_fault}
use Rattle.analysis.proofs.fault.Given as goal

-- the fault so far is that of what stands from here on
abbrev pub invariant-loop-code : goal.invariant-loop-code
invariant-loop-code g l =
    (l.code ≤ length l.amounts) × (l.fault ≡ lowest_fault l.code (map g.A.Amount.parts_of (drop l.code l.amounts)))
