-- The edges at a vertex removed: a loop in which each neighbour loses the vertex, and then its own word is 0.
use mathlib.Core.Bool.{◌&&◌, Bool, and-false, and-true, cond, false, not, true}
use mathlib.Core.List.{List}
use mathlib.Core.Path.{ap, ap₂, refl, subst, sym, ◌∙◌, ◌≡◌}
use Prim.Native.Nat.{◌<◌, ◌^◌, ℕ, ◌≤◌}
use native.Mathlib.Decide.{ℕ_discrete}
use lib.Bits.{bit_xor}
use lib.Count.{count_trailing_zeros}
use lib.Dec.{eqb}
use lib.ListN.{get_or, length, set}
use lib.Seq.{get_or-set_other, get_or-set_same}
use Rattle.buffers.proofs.OverSets.{Over, next-named, over-end, over-start, over-step}
use Rattle.record.specs.Graph.{Graph, Simple}
use Rattle.record.specs.internal.NeighbourWords.{SameGraph}
use Rattle.record.specs.NeighbourWords.{graph_in}
use Rattle.words.proofs.BitLaws.{bit-flip, lt-of-bits, zero_bit}
use Rattle.words.proofs.Finite.{⊕-cleared, ⊕-zero}
use Rattle.words.proofs.Places.{other_place, same_place}
use Rattle.words.specs.Bits.{bit, ◌⊕◌}

abbrev pub parted_from : Graph → ℕ → Graph
parted_from θ q k l = θ k l && (not (eqb k q) && not (eqb l q))

-- the word of i without q
abbrev pub LeftAt : List ℕ → ℕ → ℕ → ℕ → Type 0
LeftAt old q i v = (l : ℕ) → bit v l ≡ (graph_in old i l && not (eqb l q))

-- the neighbours of q in `rest` are still to come
abbrev pub Leaving : List ℕ → ℕ → List ℕ → ℕ → Type 0
Leaving old q new rest = Over (LeftAt old q) (get_or old q 0) old new rest

-- and last its own word
pub all-parted : (φ : Graph) (q : ℕ) (new : List ℕ) → q < length new
    → ((k l : ℕ) → graph_in new k l ≡ (φ k l && not (eqb l q))) → SameGraph (graph_in (set new q 0)) (parted_from φ q)
all-parted φ q new hq h k l = elim (ℕ_discrete k q) [
  | yes d ↦ subst (λ m. bit (get_or (set new q 0) m 0) l ≡ parted_from φ q m l) (sym d)
      (ap (λ w. bit w l) (get_or-set_same new q 0 0 hq) ∙ zero_bit l
      ∙ sym (ap (λ b. φ q l && (not b && not (eqb l q))) (same_place q) ∙ and-false (φ q l)))
  | no d ↦ ap (λ w. bit w l) (get_or-set_other new q k 0 0 d) ∙ h k l
      ∙ ap (λ b. φ k l && (not b && not (eqb l q))) (sym (other_place d))
]

module _ (old : List ℕ) (q : ℕ) (S : Simple (length old) (graph_in old)) where
  abbrev θ : Graph
  θ = graph_in old

  -- where i is joined to q or not, as b says, a flip at q where it is takes q away
  without : (i : ℕ) (b : Bool) → θ q i ≡ b → (l : ℕ) → θ i l ⊕ (b && eqb l q) ≡ (θ i l && not (eqb l q))
  without i b e l = elim (ℕ_discrete l q) [
    | yes d ↦ subst (λ m. θ i m ⊕ (b && eqb m q) ≡ (θ i m && not (eqb m q))) (sym d)
        (ap₂ (λ u v. u ⊕ (b && v)) (S.symmetric i q ∙ e) (same_place q) ∙ ⊕-cleared b
        ∙ sym (ap (λ v. θ i q && not v) (same_place q) ∙ and-false (θ i q)))
    | no d ↦ ap (λ v. θ i l ⊕ (b && v)) (other_place d) ∙ ap (λ v. θ i l ⊕ v) (and-false b) ∙ ⊕-zero (θ i l)
        ∙ sym (ap (λ v. θ i l && not v) (other_place d) ∙ and-true (θ i l))
  ]

  pub leave-start : Leaving old q old (get_or old q 0)
  leave-start = over-start (LeftAt old q) old (get_or old q 0) (lt-of-bits (length old) (get_or old q 0) (S.below q))
      (λ i e l. sym (⊕-zero (θ i l)) ∙ without i false e l)

  module _ (new : List ℕ) (rest : ℕ) (L : Leaving old q new rest) where
    pub leave-more : length old ≤ 64 → (rest ≡ 0 → ⊥) → (i : ℕ) → i ≡ count_trailing_zeros 64 rest → (own rest' : ℕ)
        → own ≡ 2 ^ q → rest' ≡ bit_xor rest (2 ^ i) → Leaving old q (set new i (bit_xor (get_or new i 0) own)) rest'
    leave-more s z i e own rest' h f =
        let named = next-named (LeftAt old q) (get_or old q 0) old new rest L s z i e in
        over-step (LeftAt old q) (get_or old q 0) old new rest L s z i e (bit_xor (get_or new i 0) own) rest'
        (λ l. ap₂ (λ u v. bit (bit_xor u v) l) (L.left i named) h ∙ bit-flip (get_or old i 0) q l
        ∙ without i true (L.named i named) l) f

    pub leave-end : rest ≡ 0 → q < length old → SameGraph (graph_in (set new q 0)) (parted_from (graph_in old) q)
    leave-end e hq = all-parted θ q new (subst (λ m. q < m) (sym L.long) hq)
        (over-end (LeftAt old q) (get_or old q 0) old new rest L e)

  -- or where one call flipped q in the word of each neighbour
  pub all-left : (new : List ℕ) (own : ℕ) → own ≡ 2 ^ q → ((i : ℕ) → get_or new i 0
      ≡ cond (bit (get_or old q 0) i) (bit_xor (get_or old i 0) own) (get_or old i 0)) → q < length new
      → SameGraph (graph_in (set new q 0)) (parted_from (graph_in old) q)
  all-left new own e h hq = all-parted θ q new hq (λ k l. ap (λ w. bit w l) (h k) ∙ go k l (θ q k) refl)
    where
      go : (k l : ℕ) (b : Bool) → θ q k ≡ b
          → bit (cond b (bit_xor (get_or old k 0) own) (get_or old k 0)) l ≡ (θ k l && not (eqb l q))
      go k l true d = ap (λ u. bit (bit_xor (get_or old k 0) u) l) e ∙ bit-flip (get_or old k 0) q l ∙ without k true d l
      go k l false d = sym (⊕-zero (θ k l)) ∙ without k false d l
