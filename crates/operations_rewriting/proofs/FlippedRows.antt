-- The loop that flips a word in the word of each of some vertices, and what it comes to.
use mathlib.Core.Bool.{◌&&◌, Bool, and-false, cond, false, not, true}
use mathlib.Core.List.{List}
use mathlib.Core.Path.{ap, ap₂, refl, sym, ◌∙◌, ◌≡◌}
use Prim.Native.Nat.{◌<◌, ◌^◌, ℕ, ◌≤◌}
use native.Mathlib.Decide.{ℕ_discrete}
use lib.Bits.{bit_xor}
use lib.Count.{count_trailing_zeros}
use lib.Dec.{eqb}
use lib.ListN.{get_or, length, set}
use Rattle.buffers.proofs.OverSets.{Over, next-named, over-end, over-start, over-step}
use Rattle.record.specs.Graph.{Graph, complement}
use Rattle.record.specs.internal.NeighbourWords.{SameGraph}
use Rattle.record.specs.NeighbourWords.{graph_in}
use Rattle.words.proofs.BitLaws.{bit-flip, bit-xor}
use Rattle.words.proofs.Finite.{⊕-zero}
use Rattle.words.proofs.Places.{other_place, same_place}
use Rattle.words.specs.Bits.{bit, ◌⊕◌}

-- ---- the loop: vertex i gets the word f i flipped in its own
abbrev pub EachAt : List ℕ → ℕ → (ℕ → ℕ) → ℕ → ℕ → Type 0
EachAt old vertices f i v = v ≡ cond (bit vertices i) (bit_xor (get_or old i 0) (f i)) (get_or old i 0)

abbrev pub Flipping : List ℕ → ℕ → (ℕ → ℕ) → List ℕ → ℕ → Type 0
Flipping old vertices f new rest = Over (EachAt old vertices f) vertices old new rest

module _ (old : List ℕ) (vertices : ℕ) (f : ℕ → ℕ) where
  pub flip-start : vertices < 2 ^ (length old) → Flipping old vertices f old vertices
  flip-start h = over-start (EachAt old vertices f) old vertices h
      (λ i e. sym (ap (λ b. cond b (bit_xor (get_or old i 0) (f i)) (get_or old i 0)) e))

  module _ (new : List ℕ) (rest : ℕ) (F : Flipping old vertices f new rest) where
    pub flip-more : length old ≤ 64 → (rest ≡ 0 → ⊥) → (i : ℕ) → i ≡ count_trailing_zeros 64 rest → (v rest' : ℕ)
        → v ≡ f i → rest' ≡ bit_xor rest (2 ^ i) → Flipping old vertices f (set new i (bit_xor (get_or new i 0) v)) rest'
    flip-more s z i e v rest' h d =
        let here = next-named (EachAt old vertices f) vertices old new rest F s z i e in
        over-step (EachAt old vertices f) vertices old new rest F s z i e (bit_xor (get_or new i 0) v) rest'
        (ap₂ bit_xor (F.left i here) h
        ∙ sym (ap (λ b. cond b (bit_xor (get_or old i 0) (f i)) (get_or old i 0)) (F.named i here))) d

    pub flip-end : rest ≡ 0 → (i : ℕ) → EachAt old vertices f i (get_or new i 0)
    flip-end e = over-end (EachAt old vertices f) vertices old new rest F e

-- ---- the same word for each vertex
abbrev pub Flipped : List ℕ → ℕ → ℕ → List ℕ → Type 0
Flipped old rows word new = SameGraph (graph_in new) (λ k l. graph_in old k l ⊕ (bit rows k && bit word l))

module _ (old new : List ℕ) (rows word : ℕ) (h : (i : ℕ) → EachAt old rows (λ _. word) i (get_or new i 0)) where
  pub rows-flipped : Flipped old rows word new
  rows-flipped k l = ap (λ w. bit w l) (h k) ∙ go (bit rows k)
    where
      go : (b : Bool) → bit (cond b (bit_xor (get_or old k 0) word) (get_or old k 0)) l
          ≡ graph_in old k l ⊕ (b && bit word l)
      go true = bit-xor (get_or old k 0) word l
      go false = sym (⊕-zero (graph_in old k l))

-- ---- each neighbour of a gets the others
module _ (old new : List ℕ) (a : ℕ)
    (h : (i : ℕ) → EachAt old (get_or old a 0) (λ i. bit_xor (get_or old a 0) (2 ^ i)) i (get_or new i 0)) where
  abbrev θ : Graph
  θ = graph_in old

  pub around-flipped : SameGraph (graph_in new) (complement (graph_in old) a)
  around-flipped i q = ap (λ w. bit w q) (h i) ∙ go (θ a i) refl
    where
      tidy : (b : Bool) → b ⊕ false ≡ ((true && b) && not false)
      tidy false = refl
      tidy true = refl

      edges : θ a i ≡ true → Dec (q ≡ i) → θ a q ⊕ eqb q i ≡ ((θ a i && θ a q) && not (eqb q i))
      edges e (yes d) = ap₂ ◌⊕◌ (ap (θ a) d ∙ e) (ap (λ v. eqb v i) d ∙ same_place i)
          ∙ sym (ap (λ b. (θ a i && θ a q) && not b) (ap (λ v. eqb v i) d ∙ same_place i)
          ∙ and-false (θ a i && θ a q))
      edges e (no d) = ap (λ b. θ a q ⊕ b) (other_place d) ∙ tidy (θ a q)
          ∙ ap₂ (λ b c. (b && θ a q) && not c) (sym e) (sym (other_place d))

      go : (b : Bool) → θ a i ≡ b
          → bit (cond b (bit_xor (get_or old i 0) (bit_xor (get_or old a 0) (2 ^ i))) (get_or old i 0)) q
          ≡ complement (graph_in old) a i q
      go true e =
          bit-xor (get_or old i 0) (bit_xor (get_or old a 0) (2 ^ i)) q
          ∙ ap (λ b. θ i q ⊕ b) (bit-flip (get_or old a 0) i q ∙ edges e (ℕ_discrete q i))
      go false e = sym (ap (λ b. θ i q ⊕ ((b && θ a q) && not (eqb q i))) e ∙ ⊕-zero (θ i q))
