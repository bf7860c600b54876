-- The codes after a pivot on an edge j, k: 11 before those of j and k, and 2 before those of their other neighbours.
use mathlib.Core.Bool.{◌&&◌, Bool, cond, false, not, true, ◌||◌}
use mathlib.Core.Path.{ap, ap₂, ◌∙◌, ◌≡◌}
use Prim.Native.Nat.{ℕ}
use lib.Dec.{eqb}
use borrow.Author.Tests.{eqb-true}
use Rattle.clifford.proofs.CliffordLaws.{cliffords, from_five, on_clifford}
use Rattle.clifford.specs.Clifford.{Clifford, clifford_of, then}
use Rattle.record.proofs.Complement.{under}
use Rattle.record.specs.Graph.{Graph, Simple}
use Rattle.operations.specs.Steps.{pivot_record}
use Rattle.record.specs.Records.{GraphRecord}
use Rattle.words.proofs.Flags.{implies}
use Rattle.words.specs.Bits.{◌⊕◌}

-- ---- at one place; the bits say: J and K, it is j, k; a and b, j and k are joined to it. Where j and k are joined:
abbrev known : Bool → Bool → Bool → Bool → Bool
known J K a b = (not J || (not a && b)) && (not K || (a && not b))

abbrev near : Bool → Bool → Clifford → Clifford
near J a c = cond J (then (clifford_of 13) c) (cond a (then (clifford_of 6) c) c)

-- the code after each of the three; jj, jk and kj say which of j and k are joined, e whether they are the same
abbrev thrice : Bool → Bool → Bool → Bool → Bool → Bool → Bool → Bool → Clifford → Clifford
thrice jj jk kj e J K a b c =
    near J ((a ⊕ ((jj && a) && not J)) ⊕ (((kj ⊕ ((jk && jj) && not e)) && (b ⊕ ((jk && a) && not K))) && not J))
    (near K (b ⊕ ((jk && a) && not K)) (near J a c))

abbrev pub pivoted_code : Bool → Bool → Bool → Bool → Clifford → Clifford
pivoted_code J K a b c = cond (K || J) (then (clifford_of 11) c) (cond (a || b) (then (clifford_of 2) c) c)

code_at : (jj jk kj e J K a b : Bool) (c : Clifford) → jj ≡ false → jk ≡ true → kj ≡ true → known J K a b ≡ true
    → thrice jj jk kj e J K a b c ≡ pivoted_code J K a b c
code_at jj jk kj e J K a b c hjj hjk hkj h =
    ap (λ v. thrice v jk kj e J K a b c) hjj
    ∙ ap₂ (λ v w. thrice false v w e J K a b c) hjk hkj
    ∙ under (known J K a b) (thrice false true true e J K a b c) (pivoted_code J K a b c) h
    (on_clifford (λ c. cond (known J K a b) (thrice false true true e J K a b c) (pivoted_code J K a b c)
    ≡ pivoted_code J K a b c)
    (λ p q r s t. cliffords 9
    (λ J K a b p q r s t. cond (known J K a b) (thrice false true true e J K a b (from_five p q r s t))
    (pivoted_code J K a b (from_five p q r s t)))
    (λ J K a b p q r s t. pivoted_code J K a b (from_five p q r s t)) tt J K a b p q r s t) c)

module _ (n : ℕ) (r : GraphRecord) (S : Simple n r.graph) (j k : ℕ) (edge : r.graph j k ≡ true) where
  abbrev θ : Graph
  θ = r.graph

  back : θ k j ≡ true
  back = S.symmetric k j ∙ edge

  possible : (q : ℕ) → known (eqb q j) (eqb q k) (θ j q) (θ k q) ≡ true
  possible q = ap₂ ◌&&◌
      (implies (eqb q j) _ (λ d. let e = eqb-true q j d in
      ap₂ (λ s t. not s && t) (ap (θ j) e ∙ S.loopless j) (ap (θ k) e ∙ back)))
      (implies (eqb q k) _ (λ d. let e = eqb-true q k d in
      ap₂ (λ s t. s && not t) (ap (θ j) e ∙ edge) (ap (θ k) e ∙ S.loopless k)))

  pub pivot-code : (q : ℕ) → (pivot_record r j k).codes q
      ≡ pivoted_code (eqb q j) (eqb q k) (r.graph j q) (r.graph k q) (r.codes q)
  pivot-code q =
      code_at (θ j j) (θ j k) (θ k j) (eqb j k) (eqb q j) (eqb q k) (θ j q) (θ k q) (r.codes q) (S.loopless j) edge
      back
      (possible q)
