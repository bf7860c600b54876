-- What the loops of `first_against` keep.
use mathlib.Core.List.{List}
use mathlib.Core.Bool.{Bool}
use Prim.Native.Nat.{ℕ}
use lib.ListN.{get_or}
use Rattle.pauli.specs.Pauli.{anticommute, i⁰, row}
use Rattle.words.proofs.Searching.{NoneBelow}
use Rattle.parity_impl.proofs.generators.first_against.Given as goal

abbrev pub clashing : List ℕ → List ℕ → ℕ → ℕ → ℕ → Bool
clashing zs xs z x i = anticommute 64 (row i⁰ (get_or zs i 0) (get_or xs i 0)) (row i⁰ z x)

abbrev pub invariant-loop-j : goal.invariant-loop-j
invariant-loop-j l = NoneBelow (clashing l.zs l.xs l.z l.x) l.j
