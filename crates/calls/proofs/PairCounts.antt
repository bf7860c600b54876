-- Line 2 of two lists: where it does not hold, both have n rows, n from 1 to 64.
use mathlib.Core.Bool.{false, not, ◌||◌}
use mathlib.Core.Path.{◌≡◌}
use Prim.Native.Nat.{◌≤◌}
use lib.Dec.{eqb}
use borrow.Author.Tests.{eqb-true, not-false}
use Rattle.buffers.specs.Refusals.{bad_count}
use Rattle.comparison.specs.Compared.{bad_counts}
use Rattle.stabilizer.proofs.SharedTests.{counted}
use Rattle.stabilizer.specs.Lists.{GeneratorList}
use Rattle.words.proofs.Flags.{neither}

module _ (l m : GeneratorList) (p : bad_counts l m ≡ false) where
  pub counts-agree : l.n ≡ m.n
  counts-agree =
      eqb-true l.n m.n (not-false (eqb l.n m.n)
      (neither (bad_count m.n) (not (eqb l.n m.n))
      (neither (bad_count l.n) (bad_count m.n || not (eqb l.n m.n)) p).1).1)

  pub at_least_one : 1 ≤ l.n
  at_least_one =
      (counted l.n (neither (bad_count l.n) (bad_count m.n || not (eqb l.n m.n)) p).0).0

  pub at-most-64 : l.n ≤ 64
  at-most-64 =
      (counted l.n (neither (bad_count l.n) (bad_count m.n || not (eqb l.n m.n)) p).0).1
