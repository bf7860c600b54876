-- The pairs of up to 6 vertices: each once, and every one. Facts about finitely many numbers, by computed tests.
use mathlib.Core.Bool.{◌&&◌, Bool, true}
use mathlib.Core.Path.{refl, ◌≡◌}
use Prim.Native.Nat.{◌<◌, ℕ, ◌≤◌}
use native.Mathlib.Omega.{arith}
use lib.Dec.{eqb, leb, ltb}
use lib.Pow.{pow_mono}
use borrow.Author.Tests.{eqb-true, leb-true, ltb-true}
use Rattle.words.proofs.Flags.{both_true, true-same_bit}
use Rattle.words.proofs.SearchLaws.{every-at, some-true}
use Rattle.words.specs.Bits.{same_bit}
use Rattle.words.specs.Search.{every, first, some}
use Rattle.orbits.specs.Numbers.{graph_count, joins, pair_at, pairs_of}

-- on n vertices: a pair lies below n, the smaller vertex first; pair k is that of no other place
inside : ℕ → ℕ → Bool
inside n k = ltb (pair_at n k).low (pair_at n k).high && ltb (pair_at n k).high n

apart : ℕ → ℕ → ℕ → Bool
apart n k m = same_bit (joins (pair_at n k) (pair_at n m).low (pair_at n m).high) (eqb m k)

-- every two vertices are a pair
met : ℕ → ℕ → ℕ → Bool
met n j i = some (pairs_of n) (λ k. eqb (pair_at n k).low i && eqb (pair_at n k).high j)

insides : every 7 (λ n. every (pairs_of n) (inside n)) ≡ true
unfolding every inside pair_at
insides = refl

aparts : every 7 (λ n. every (pairs_of n) (λ k. every (pairs_of n) (apart n k))) ≡ true
unfolding every apart pair_at
aparts = refl

mets : every 7 (λ n. every n (λ j. every j (met n j))) ≡ true
unfolding every met pair_at some
mets = refl

counts : every 7 (λ n. leb (pairs_of n) 15) ≡ true
unfolding every
counts = refl

-- pair k is that of i and j, the smaller first
pub record IsPair (n i j k : ℕ) : Type 0 where
  pub within : k < pairs_of n
  pub low : (pair_at n k).low ≡ i
  pub high : (pair_at n k).high ≡ j

module _ (n : ℕ) (few : n ≤ 6) where
  at : (f : ℕ → Bool) → every 7 f ≡ true → f n ≡ true
  at f e = every-at 7 f e n (omega arith)

  pub few-pairs : pairs_of n ≤ 15
  few-pairs = leb-true (pairs_of n) 15 (at (λ n. leb (pairs_of n) 15) counts)

  pub graphs-fit : graph_count n ≤ 32768
  graphs-fit = pow_mono few-pairs

  module _ (k : ℕ) (l : k < pairs_of n) where
    pub pair_inside : ((pair_at n k).low < (pair_at n k).high) × ((pair_at n k).high < n)
    unfolding inside
    pair_inside =
        let h = both_true (ltb (pair_at n k).low (pair_at n k).high) (ltb (pair_at n k).high n)
        (every-at (pairs_of n) (inside n) (at (λ n. every (pairs_of n) (inside n)) insides) k l)
        in
        (ltb-true _ _ h.0, ltb-true _ _ h.1)

    pub pair-apart : (m : ℕ) → m < pairs_of n
        → joins (pair_at n k) (pair_at n m).low (pair_at n m).high ≡ eqb m k
    unfolding apart
    pair-apart m h =
        true-same_bit _ _
        (every-at (pairs_of n) (apart n k)
        (every-at (pairs_of n) (λ k. every (pairs_of n) (apart n k))
        (at (λ n. every (pairs_of n) (λ k. every (pairs_of n) (apart n k))) aparts) k l) m h)

  pub pair-met : (i j : ℕ) → i < j → j < n → (k : ℕ) × IsPair n i j k
  unfolding met
  pair-met i j l h =
      let test : ℕ → Bool = λ k. eqb (pair_at n k).low i && eqb (pair_at n k).high j in
      let F = some-true (pairs_of n) test
      (every-at j (met n j) (every-at n (λ j. every j (met n j)) (at (λ n. every n (λ j. every j (met n j))) mets) j h)
      i l) in
      let k = first (pairs_of n) test in
      let ends = both_true (eqb (pair_at n k).low i) (eqb (pair_at n k).high j) F.passes in
      (k, record { within = F.below; low = eqb-true _ _ ends.0; high = eqb-true _ _ ends.1 })
