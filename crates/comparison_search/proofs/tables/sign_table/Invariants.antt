-- What the loops of `sign_table` keep.
use mathlib.Core.List.{List}
use Prim.Native.Nat.{◌≤◌, ℕ}
use lib.ListN.{take}
use Rattle.clifford.specs.Vectors.{codes_of}
use Rattle.clifford_impl.specs.internal.Actions.{ActsAs}
use Rattle.comparison.specs.internal.Equations.{equations_in}
use Rattle.comparison.specs.internal.Searches.{SentUpToSign, SignTable}
use Rattle.comparison.specs.internal.Setting.{NoSigns, Setting, generators_in}
use Rattle.comparison_search.proofs.tables.sign_table.Given as goal

abbrev pub invariant-loop-i : goal.invariant-loop-i
invariant-loop-i l =
    (l.i ≤ l.n) × ((choice frame : List ℕ) → Setting l.n (generators_in l.first) (generators_in l.second) frame → SentUpToSign l.n
    (generators_in l.first) (generators_in l.second) (codes_of choice)
    → NoSigns choice → ActsAs (codes_of (take l.n choice)) l.by → SignTable l.n (generators_in l.first) (generators_in l.second)
    (codes_of choice) l.i (equations_in l.table))
