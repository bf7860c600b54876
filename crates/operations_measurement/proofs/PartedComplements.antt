-- A complementation at q without the edges at q: each neighbour of q gets the others flipped and loses
-- q.
use mathlib.Core.Bool.{◌&&◌, Bool, cond, false, not, true, ◌||◌}
use mathlib.Core.List.{List}
use mathlib.Core.Path.{ap, ap₂, refl, sym, ◌∙◌, ◌≡◌}
use Prim.Native.Nat.{◌<◌, ◌^◌, ℕ}
use lib.Bits.{bit_or, bit_xor}
use lib.Dec.{eqb}
use lib.ListN.{get_or, length, set}
use borrow.Author.Tests.{eqb-true}
use Rattle.record.proofs.Complement.{under}
use Rattle.record.proofs.PivotWords.{closed_at}
use Rattle.record.specs.Graph.{Graph, Simple, complement}
use Rattle.record.specs.internal.NeighbourWords.{SameGraph}
use Rattle.record.specs.NeighbourWords.{graph_in}
use Rattle.words.proofs.BitLaws.{bit-flip, bit-xor}
use Rattle.words.proofs.Finite.{bits, ⊕-zero}
use Rattle.words.proofs.Flags.{implies, same_bit-true}
use Rattle.words.specs.Bits.{bit, same_bit, ◌⊕◌}
use Rattle.operations_measurement.proofs.RemovedEdges.{all-parted, parted_from}

-- ---- in the word of i, at l; the bits say: L and E, l is q, i; t, i is joined to l; b and d, q is joined to i, l
abbrev known : Bool → Bool → Bool → Bool → Bool → Bool
known L E t b d = (not L || (not d && same_bit t b)) && (not E || same_bit d b)

abbrev flipped : Bool → Bool → Bool → Bool → Bool → Bool
flipped L E t b d = t ⊕ (b && ((d || L) ⊕ E))

abbrev away : Bool → Bool → Bool → Bool → Bool → Bool
away L E t b d = (t ⊕ ((b && d) && not E)) && not L

away-at : (L E t b d : Bool) → known L E t b d ≡ true → flipped L E t b d ≡ away L E t b d
away-at L E t b d h = under (known L E t b d) (flipped L E t b d) (away L E t b d) h
    (bits 5 (λ L E t b d. cond (known L E t b d) (flipped L E t b d) (away L E t b d)) away tt L E t b d)

module _ (old : List ℕ) (q : ℕ) (S : Simple (length old) (graph_in old)) where
  abbrev θ : Graph
  θ = graph_in old

  -- where i is joined to q or not, as b says
  without : (i : ℕ) (b : Bool) → θ q i ≡ b → (l : ℕ)
      → θ i l ⊕ (b && ((θ q l || eqb l q) ⊕ eqb l i)) ≡ (complement θ q i l && not (eqb l q))
  without i b e l =
      ap (λ b. flipped (eqb l q) (eqb l i) (θ i l) b (θ q l)) (sym e)
      ∙ away-at (eqb l q) (eqb l i) (θ i l) (θ q i) (θ q l)
      (ap₂ ◌&&◌
      (implies (eqb l q) _ (λ d. let f = eqb-true l q d in
      ap₂ (λ s t. not s && t) (ap (θ q) f ∙ S.loopless q) (same_bit-true (ap (θ i) f ∙ S.symmetric i q))))
      (implies (eqb l i) _ (λ d. same_bit-true (ap (θ q) (eqb-true l i d)))))

  -- each neighbour of q got the others flipped and lost q
  pub all-away : (new : List ℕ) (s : ℕ) → s ≡ 2 ^ q → ((i : ℕ) → get_or new i 0 ≡ cond (bit (get_or old q 0) i)
      (bit_xor (get_or old i 0) (bit_xor (bit_or (get_or old q 0) s) (2 ^ i))) (get_or old i 0)) → q < length new
      → SameGraph (graph_in (set new q 0)) (parted_from (complement (graph_in old) q) q)
  all-away new s es h hq = all-parted (complement θ q) q new hq (λ i l. ap (λ w. bit w l) (h i) ∙ go i l (θ q i) refl)
    where
      go : (i l : ℕ) (b : Bool) → θ q i ≡ b
          → bit (cond b (bit_xor (get_or old i 0) (bit_xor (bit_or (get_or old q 0) s) (2 ^ i))) (get_or old i 0)) l
          ≡ (complement θ q i l && not (eqb l q))
      go i l true d =
          bit-xor (get_or old i 0) (bit_xor (bit_or (get_or old q 0) s) (2 ^ i)) l
          ∙ ap (λ b. θ i l ⊕ b) (bit-flip (bit_or (get_or old q 0) s) i l ∙ ap (λ b. b ⊕ eqb l i) (closed_at old S q s es l))
          ∙ without i true d l
      go i l false d = sym (⊕-zero (θ i l)) ∙ without i false d l
