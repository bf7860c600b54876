-- What refusals 11 and 12 mean: at such a stop the group, signs dropped, is that of no simple graph.
use mathlib.Core.Bool.{◌&&◌, Bool, and-false, false, false≢true, not, true, true≢false}
use mathlib.Core.Logic.{inl, inr, ◌≢◌}
use mathlib.Core.Path.{ap, ap₂, refl, sym, ◌∙◌, ◌≡◌}
use Prim.Native.Nat.{◌<◌, ℕ}
use native.Mathlib.Decide.{ℕ_discrete}
use lib.Arith.{lt_of_le-ne}
use lib.Dec.{eqb}
use borrow.Author.Tests.{lt-ltb}
use Rattle.clifford.proofs.VectorLaws.{act-inverse}
use Rattle.clifford.specs.Clifford.{bit_c, image, inverse}
use Rattle.clifford.specs.Vectors.{act}
use Rattle.record.proofs.GraphGroups.{x-determines}
use Rattle.record.specs.Graph.{Simple, graph_generator}
use Rattle.pauli.proofs.PauliLaws.{letter-bits}
use Rattle.pauli.specs.Pauli.{identity, letter, letter_at, minus, scaled, x_bit}
use Rattle.pauli.specs.declared.Letter.TheVariants.{X}
use Rattle.record.specs.Records.{GraphRecord, rows_of}
use Rattle.stabilizer.proofs.GroupLaws.{in-identity, in_row}
use Rattle.words.proofs.Places.{other_place, same_place}
use Rattle.words.proofs.Sums.{lt-or-ge}
use Rattle.image.proofs.Running.{Stopped}
use Rattle.image.specs.Image.{InUnsigned, UnsignedGraph, is_y}
use Rattle.image.specs.Rule.{only_c, state_of}

module _ (n : ℕ) (r : GraphRecord) (G : Simple n r.graph) where
  -- the x bits of generator j: D at j, C at the neighbours
  own_x : (j : ℕ) → (rows_of n r j).x j ≡ (state_of r).D j
  unfolding act
  own_x j = ap₂ (λ z x. x_bit (image (r.codes j) (letter z x))) (G.loopless j) (same_place j)

  other-x : (j q : ℕ) → q ≢ j → (rows_of n r j).x q ≡ (r.graph j q && (state_of r).C q)
  unfolding act
  other-x j q d = ap (λ x. x_bit (image (r.codes q) (letter (r.graph j q) x))) (other_place d)
      ∙ go (r.graph j q)
    where
      go : (b : Bool) → x_bit (image (r.codes q) (letter b false)) ≡ (b && bit_c (r.codes q))
      go false = refl
      go true = refl

  -- its letter at j is the image of X
  pub own-letter : (j : ℕ) → letter_at (rows_of n r j) j ≡ image (r.codes j) X
  unfolding act
  own-letter j =
      letter-bits (image (r.codes j) (letter (r.graph j j) (eqb j j)))
      ∙ ap₂ (λ z x. image (r.codes j) (letter z x)) (G.loopless j) (same_place j)

  -- ---- 11: the image of K_j has an empty x part, and only the identity has one in a graph's group
  module _ (H : Stopped n (state_of r)) (j : ℕ) (l : j < n) (cj : (state_of r).C j ≡ true) where
    no-D : (v : ℕ) → v < n → (state_of r).C v ≡ true → (state_of r).D v ≡ false
    no-D v k e = ap (λ c. c && (state_of r).D v) (sym e) ∙ H.no_both v k

    only : (v : ℕ) → v < n → (state_of r).C v ≡ true → only_c (state_of r) v ≡ true
    only v k e = ap₂ (λ c d. c && not d) e (no-D v k e)

    no_edge : (i k : ℕ) → i < k → i < n → k < n → r.graph i k ≡ true → (state_of r).C i ≡ true →
        (state_of r).C k ≡ true → ⊥
    no_edge i k o a b e ci ck =
        true≢false (sym (ap₂ ◌&&◌ (lt-ltb i k o) (ap₂ ◌&&◌ e (ap₂ ◌&&◌ (only i a ci) (only k b ck))))
        ∙ H.no-pair i k a b)

    apart : (q : ℕ) → q < n → q ≢ j → (e c : Bool) → r.graph j q ≡ e → (state_of r).C q ≡ c
        → (e && c) ≡ false
    apart q k d false c p s = refl
    apart q k d true false p s = refl
    apart q k d true true p s = elim (lt-or-ge q j) [
      | inl o ↦ absurd (no_edge q j o k l (G.symmetric q j ∙ p) s cj)
      | inr o ↦ absurd (no_edge j q (lt_of_le-ne o (λ e. d (sym e))) l k p cj s)
    ]

    empty : (q : ℕ) → q < n → (rows_of n r j).x q ≡ false
    empty q k = go (ℕ_discrete q j)
      where
        go : Dec (q ≡ j) → (rows_of n r j).x q ≡ false
        go (yes e) = ap (rows_of n r j).x e ∙ own_x j ∙ no-D j l cj
        go (no d) = other-x j q d ∙ apart q k d (r.graph j q) ((state_of r).C q) refl refl

    pub stuck-no-graph : UnsignedGraph n (rows_of n r) → ⊥
    unfolding act
    stuck-no-graph U =
        true≢false (sym (same_place j)
        ∙ ap (λ p. p.x j) (sym (act-inverse n r.codes (graph_generator r.graph j)))
        ∙ gone)
      where
        inside : InUnsigned n (graph_generator U.graph) (rows_of n r j)
        inside = U.there (rows_of n r j) (in_row n n (rows_of n r) j l)

        trivial : scaled (minus inside.0) (rows_of n r j) ≡ identity
        trivial =
            x-determines n U.graph U.simple inside.1 (in-identity n n (graph_generator U.graph))
            empty

        gone : (act n (λ q. inverse (r.codes q)) (rows_of n r j)).x j ≡ false
        gone = ap₂ (λ z x. x_bit (image (inverse (r.codes j)) (letter z x))) (ap (λ p. p.z j) trivial)
            (ap (λ p. p.x j) trivial)

  -- ---- 12: Y at the own place; in a graph's group the element with that x part has X there
  pub looped-no-graph : ((v : ℕ) → v < n → (state_of r).C v ≡ false) → (j : ℕ) → j < n →
      is_y (letter_at (rows_of n r j) j) ≡ true → UnsignedGraph n (rows_of n r) → ⊥
  looped-no-graph no-C j l y U = true≢false (sym own-z ∙ ap (λ p. p.z j) match ∙ U.simple.loopless j)
    where
      bits_of : (z x : Bool) → is_y (letter z x) ≡ true → (z ≡ true) × (x ≡ true)
      bits_of true true e = (refl, refl)
      bits_of true false e = absurd (false≢true e)
      bits_of false true e = absurd (false≢true e)
      bits_of false false e = absurd (false≢true e)

      own-z : (rows_of n r j).z j ≡ true
      own-z = (bits_of ((rows_of n r j).z j) ((rows_of n r j).x j) y).0

      x-part : (q : ℕ) → q < n → (rows_of n r j).x q ≡ eqb q j
      x-part q k = go (ℕ_discrete q j)
        where
          go : Dec (q ≡ j) → (rows_of n r j).x q ≡ eqb q j
          go (yes e) =
              ap (rows_of n r j).x e ∙ (bits_of ((rows_of n r j).z j) ((rows_of n r j).x j) y).1
              ∙ sym (same_place j)
              ∙ ap (λ v. eqb v j) (sym e)
          go (no d) =
              other-x j q d ∙ ap (λ b. r.graph j q && b) (no-C q k) ∙ and-false (r.graph j q)
              ∙ sym (other_place d)

      inside : InUnsigned n (graph_generator U.graph) (rows_of n r j)
      inside = U.there (rows_of n r j) (in_row n n (rows_of n r) j l)

      match : scaled (minus inside.0) (rows_of n r j) ≡ graph_generator U.graph j
      match = x-determines n U.graph U.simple inside.1 (in_row n n (graph_generator U.graph) j l)
          x-part
