-- Graphs on up to 6 vertices and their numbers: each simple graph has one, and each number is that of a simple graph.
use mathlib.Core.Bool.{◌&&◌, Bool, true, ◌||◌}
use mathlib.Core.Logic.{inl, inr, ◌⊎◌}
use mathlib.Core.Path.{ap, ap₂, fun_ext, refl, sym, ◌∙◌, ◌≡◌}
use Prim.Native.Nat.{◌<◌, ℕ, ◌≤◌}
use native.Mathlib.Decide.{ℕ_discrete}
use native.Mathlib.Omega.{arith}
use lib.Dec.{eqb}
use borrow.Author.Tests.{eqb-true}
use Rattle.record.specs.Graph.{Graph, Simple}
use Rattle.words.proofs.BitLaws.{bit-ext, bit-word_of, word_of-lt}
use Rattle.words.proofs.Finite.{bits}
use Rattle.words.proofs.Flags.{both_true, either, never_true, same-by-both}
use Rattle.words.proofs.Places.{same_place}
use Rattle.words.proofs.SearchLaws.{some-ext, some_in, some-true}
use Rattle.words.proofs.Sums.{lt-or-ge}
use Rattle.words.specs.Bits.{bit}
use Rattle.words.specs.Search.{first, some}
use Rattle.orbits.proofs.Pairs.{pair-apart, pair_inside, pair-met}
use Rattle.orbits.specs.Numbers.{graph_at, graph_count, graph_number, joins, pair_at, pairs_of}
use Rattle.orbits.specs.declared.Pair.{Pair}

joins-comm : (p : Pair) (i j : ℕ) → joins p i j ≡ joins p j i
joins-comm p i j =
    bits 4 (λ a b c d. (a && b) || (c && d)) (λ a b c d. (d && c) || (b && a)) tt (eqb i p.low) (eqb j p.high)
    (eqb i p.high) (eqb j p.low)

joined : (p : Pair) (i j : ℕ) → joins p i j ≡ true
    → ((i ≡ p.low) × (j ≡ p.high)) ⊎ ((i ≡ p.high) × (j ≡ p.low))
joined p i j e = go (either (eqb i p.low && eqb j p.high) (eqb i p.high && eqb j p.low) e)
  where
    go : ((eqb i p.low && eqb j p.high) ≡ true) ⊎ ((eqb i p.high && eqb j p.low) ≡ true)
        → ((i ≡ p.low) × (j ≡ p.high)) ⊎ ((i ≡ p.high) × (j ≡ p.low))
    go (inl h) = let b = both_true _ _ h in inl (eqb-true _ _ b.0, eqb-true _ _ b.1)
    go (inr h) = let b = both_true _ _ h in inr (eqb-true _ _ b.0, eqb-true _ _ b.1)

-- ---- the number of a graph
pub number_bit : (n : ℕ) (θ : Graph) (k : ℕ) → k < pairs_of n
    → bit (graph_number n θ) k ≡ θ (pair_at n k).low (pair_at n k).high
unfolding graph_number
number_bit n θ k l = bit-word_of (pairs_of n) (λ k. θ (pair_at n k).low (pair_at n k).high) k l

pub number_lt : (n : ℕ) (θ : Graph) → graph_number n θ < graph_count n
unfolding graph_number
number_lt n θ = word_of-lt (pairs_of n) (λ k. θ (pair_at n k).low (pair_at n k).high)

module _ (n : ℕ) (few : n ≤ 6) where
  -- ---- the graph with a number
  -- two vertices of it that are joined are two of the vertices below n
  joined-inside : (g i j : ℕ) → graph_at n g i j ≡ true → (i < n) × ((j < n) × (i ≡ j → ⊥))
  unfolding graph_at
  joined-inside g i j e =
      let F = some-true (pairs_of n) (λ k. bit g k && joins (pair_at n k) i j) e in
      let k = first (pairs_of n) (λ k. bit g k && joins (pair_at n k) i j) in
      let between = pair_inside n few k F.below in
      go (pair_at n k) between.0 between.1 (joined (pair_at n k) i j (both_true (bit g k) _ F.passes).1)
    where
      go : (p : Pair) → p.low < p.high → p.high < n
          → ((i ≡ p.low) × (j ≡ p.high)) ⊎ ((i ≡ p.high) × (j ≡ p.low)) → (i < n) × ((j < n) × (i ≡ j → ⊥))
      go p l h (inl (a, b)) = (omega arith, (omega arith, λ e. omega arith))
      go p l h (inr (a, b)) = (omega arith, (omega arith, λ e. omega arith))

  pub graph-simple : (g : ℕ) → Simple n (graph_at n g)
  unfolding graph_at
  graph-simple g =
      record {
        symmetric = symmetric;
        loopless = λ i. never_true (graph_at n g i i) (λ e. (joined-inside g i i e).1.1 refl);
        below = λ i q l. never_true (graph_at n g i q) (λ e. absurd (high q l (joined-inside g i q e).1.0));
      }
    where
      symmetric : (i j : ℕ) → graph_at n g i j ≡ graph_at n g j i
      symmetric i j = some-ext (pairs_of n) _ _ (λ k l. ap (λ b. bit g k && b) (joins-comm (pair_at n k) i j))

      high : (q : ℕ) → n ≤ q → q < n → ⊥
      high q l h = omega arith

  -- at a pair it has the bit
  pub graph-bit : (g k : ℕ) → k < pairs_of n → graph_at n g (pair_at n k).low (pair_at n k).high ≡ bit g k
  unfolding graph_at
  graph-bit g k l = same-by-both _ _ forth back
    where
      test : ℕ → Bool
      test m = bit g m && joins (pair_at n m) (pair_at n k).low (pair_at n k).high

      forth : some (pairs_of n) test ≡ true → bit g k ≡ true
      forth e =
          let F = some-true (pairs_of n) test e in
          let m = first (pairs_of n) test in
          let b = both_true (bit g m) _ F.passes in
          ap (bit g) (eqb-true k m (sym (pair-apart n few m F.below k l) ∙ b.1)) ∙ b.0

      back : bit g k ≡ true → some (pairs_of n) test ≡ true
      back e = some_in (pairs_of n) test k l (ap₂ ◌&&◌ e (pair-apart n few k l k l ∙ same_place k))

  -- ---- there and back
  pub graph-number : (g : ℕ) → g < graph_count n → graph_number n (graph_at n g) ≡ g
  graph-number g l =
      bit-ext (pairs_of n) _ g (number_lt n (graph_at n g)) l (λ k h. number_bit n (graph_at n g) k h ∙ graph-bit g k h)

  -- simple graphs that agree at every pair are equal
  pub same-at-pairs : (θ φ : Graph) → Simple n θ → Simple n φ
      → ((k : ℕ) → k < pairs_of n → θ (pair_at n k).low (pair_at n k).high ≡ φ (pair_at n k).low
      (pair_at n k).high)
      → θ ≡ φ
  same-at-pairs θ φ S R h = fun_ext (λ i. fun_ext (λ j. all i j (lt-or-ge i n) (lt-or-ge j n)))
    where
      rising : (i j : ℕ) → i < j → j < n → θ i j ≡ φ i j
      rising i j l m =
          let P = (pair-met n few i j l m).1 in
          ap₂ θ (sym P.low) (sym P.high) ∙ h (pair-met n few i j l m).0 P.within ∙ ap₂ φ P.low P.high

      between : (i j : ℕ) → i < n → j < n → (i < j) ⊎ ((i ≡ j) ⊎ (j < i)) → θ i j ≡ φ i j
      between i j a b (inl l) = rising i j l b
      between i j a b (inr (inl e)) = ap (θ i) (sym e) ∙ S.loopless i ∙ sym (R.loopless i) ∙ ap (φ i) e
      between i j a b (inr (inr l)) = S.symmetric i j ∙ rising j i l a ∙ R.symmetric j i

      order : (i j : ℕ) → (i < j) ⊎ ((i ≡ j) ⊎ (j < i))
      order i j = go (lt-or-ge i j) (ℕ_discrete i j)
        where
          go : (i < j) ⊎ (j ≤ i) → Dec (i ≡ j) → (i < j) ⊎ ((i ≡ j) ⊎ (j < i))
          go (inl l) d = inl l
          go (inr l) (yes e) = inr (inl e)
          go (inr l) (no d) = inr (inr (omega (arith, d)))

      all : (i j : ℕ) → (i < n) ⊎ (n ≤ i) → (j < n) ⊎ (n ≤ j) → θ i j ≡ φ i j
      all i j (inl a) (inl b) = between i j a b (order i j)
      all i j a (inr b) = S.below i j b ∙ sym (R.below i j b)
      all i j (inr a) (inl b) = S.symmetric i j ∙ S.below j i a ∙ sym (R.symmetric i j ∙ R.below j i a)

  pub number-graph : (θ : Graph) → Simple n θ → graph_at n (graph_number n θ) ≡ θ
  number-graph θ S =
      same-at-pairs _ θ (graph-simple (graph_number n θ)) S (λ k l. graph-bit (graph_number n θ) k l ∙ number_bit n θ k l)
