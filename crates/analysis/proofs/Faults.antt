-- The answer of the ranges, by where the lowest fault is; and the check's from it. Assumes nothing.
use Rattle.std.proofs.Common.{◌≡◌, ℕ, ◌+◌, List, true, false, length, arith, ◌<◌, ◌≤◌, ◌∙◌, sym}
use Rattle.std.proofs.Common.{eq-eqb, ne_eqb, Ok, Err}
use Rattle.refusal.specs.declared.Refusal.TheVariants.{OutOfRange}
use Rattle.analysis.specs.Check.{all_in_range, lowest_fault, ranges_checked_of}
use Rattle.analysis.proofs.Laws.Lowest.{lowest_none, lowest_within}

module _ (xs : List ℕ) (n code : ℕ) (long : length xs ≡ n) (lowest : code ≡ lowest_fault 0 xs) where
  -- a fault below the end: not all are in range
  pub some_at_fault : code < n → Err (OutOfRange code) ≡ ranges_checked_of xs
  some_at_fault below =
      let e : all_in_range 0 xs ≡ false =
      sym (lowest_none 0 xs) ∙ ne_eqb (lowest_fault 0 xs) (0 + length xs) (λ e. omega arith) in
      rw (e, lowest)

  -- none: all are
  pub none_at_fault : n ≤ code → Ok tt ≡ ranges_checked_of xs
  none_at_fault past =
      let e : all_in_range 0 xs ≡ true =
      sym (lowest_none 0 xs) ∙ eq-eqb (lowest_fault 0 xs) (0 + length xs) (omega (arith, (lowest_within 0 xs).1)) in
      rw e
