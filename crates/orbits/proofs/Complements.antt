-- Complementing a graph by its number.
use mathlib.Core.Bool.{◌&&◌, and-true, not}
use mathlib.Core.Path.{ap, ap₂, fun_ext, sym, ◌∙◌, ◌≡◌}
use Prim.Native.Nat.{◌<◌, ℕ, ◌≤◌}
use native.Mathlib.Omega.{arith}
use lib.Bits.{bit_xor, xor_lt}
use lib.Dec.{eqb}
use Rattle.record.proofs.Complement.{complement-simple}
use Rattle.record.specs.Graph.{Graph, Simple, complement}
use Rattle.words.proofs.BitLaws.{bit-ext, bit-xor}
use Rattle.words.proofs.Finite.{⊕-twice, ⊕-zero}
use Rattle.words.proofs.Places.{other_place}
use Rattle.words.specs.Bits.{bit, ◌⊕◌}
use Rattle.orbits.proofs.GraphNumbers.{
  graph-bit,
  graph-number,
  graph-simple,
  number_bit,
  number-graph,
  number_lt,
}
use Rattle.orbits.proofs.Pairs.{pair_inside}
use Rattle.orbits.specs.Numbers.{complement_number, graph_at, graph_count, graph_number, pair_at, pairs_of}
use Rattle.orbits.specs.internal.Numbers.{pairs_within}

-- complementing twice at a vertex changes nothing
pub complement-twice : {n : ℕ} (θ : Graph) → Simple n θ → (a : ℕ) → complement (complement θ a) a ≡ θ
complement-twice θ S a = fun_ext (λ i. fun_ext (λ j.
    ap₂ (λ u v. complement θ a i j ⊕ ((u && v) && not (eqb j i))) (around i) (around j)
    ∙ ⊕-twice (θ i j) ((θ a i && θ a j) && not (eqb j i))))
  where
    around : (i : ℕ) → complement θ a a i ≡ θ a i
    around i = ap (λ b. θ a i ⊕ ((b && θ a i) && not (eqb i a))) (S.loopless a) ∙ ⊕-zero (θ a i)

pub complement-lt : (n g a : ℕ) → complement_number n g a < graph_count n
unfolding complement_number
complement-lt n g a = number_lt n (complement (graph_at n g) a)

module _ (n : ℕ) (few : n ≤ 6) where
  pub complement-graph : (g a : ℕ) → graph_at n (complement_number n g a) ≡ complement (graph_at n g) a
  unfolding complement_number
  complement-graph g a =
      number-graph n few (complement (graph_at n g) a) (complement-simple n (graph_at n g) (graph-simple n few g) a)

  pub complement-number : (θ : Graph) → Simple n θ → (a : ℕ)
      → complement_number n (graph_number n θ) a ≡ graph_number n (complement θ a)
  unfolding complement_number
  complement-number θ S a = ap (λ φ. graph_number n (complement φ a)) (number-graph n few θ S)

  pub number-twice : (g a : ℕ) → g < graph_count n → complement_number n (complement_number n g a) a ≡ g
  unfolding complement_number
  number-twice g a l =
      ap (λ φ. graph_number n (complement φ a)) (complement-graph g a)
      ∙ ap (graph_number n) (complement-twice (graph_at n g) (graph-simple n few g) a)
      ∙ graph-number n few g l

  -- the pairs of neighbours of a are flipped
  pub complement-flips : (g a s : ℕ) → g < graph_count n → ((j : ℕ) → bit s j ≡ graph_at n g a j)
      → bit_xor g (pairs_within n s) ≡ complement_number n g a
  unfolding complement_number pairs_within
  complement-flips g a s l h =
      bit-ext (pairs_of n) _ _ (xor_lt (pairs_of n) g _ l (number_lt n (λ i j. bit s i && bit s j)))
      (number_lt n (complement (graph_at n g) a)) at
    where
      apart : (u v : ℕ) → u < v → v ≡ u → ⊥
      apart u v l e = omega arith

      flips : (u v : ℕ) → u < v
          → (bit s u && bit s v) ≡ ((graph_at n g a u && graph_at n g a v) && not (eqb v u))
      flips u v l =
          ap₂ ◌&&◌ (h u) (h v)
          ∙ sym (ap (λ b. (graph_at n g a u && graph_at n g a v) && not b) (other_place (apart u v l)) ∙ and-true _)

      at : (k : ℕ) → k < pairs_of n
          → bit (bit_xor g (graph_number n (λ i j. bit s i && bit s j))) k
          ≡ bit (graph_number n (complement (graph_at n g) a)) k
      at k p =
          let low = (pair_at n k).low in
          let high = (pair_at n k).high in
          bit-xor g _ k
          ∙ ap₂ ◌⊕◌ (sym (graph-bit n few g k p))
          (number_bit n (λ i j. bit s i && bit s j) k p ∙ flips low high (pair_inside n few k p).0)
          ∙ sym (number_bit n (complement (graph_at n g) a) k p)
