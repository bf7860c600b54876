-- Loops over the pairs of up to 6 vertices: the pair beside its place, and a number that is built bit by bit.
use mathlib.Core.Bool.{◌&&◌, Bool, true}
use mathlib.Core.Logic.{inl, inr, ◌⊎◌}
use mathlib.Core.Path.{ap, refl, subst, sym, ◌∙◌, ◌≡◌}
use Prim.Native.Nat.{◌*◌, ◌+◌, ◌-◌, ◌<◌, ℕ, ◌≤◌}
use native.Mathlib.Decide.{ℕ_discrete}
use native.Mathlib.Nat.{le_antisymm}
use native.Mathlib.Numerals.{add-one}
use native.Mathlib.Omega.{arith}
use lib.Dec.{ltb}
use borrow.Author.Tests.{le-ltb, lt-ltb, ltb-true}
use Rattle.record.specs.Graph.{Graph}
use Rattle.orbits.proofs.GraphNumbers.{number_bit, number_lt}
use Rattle.orbits.proofs.Pairs.{few-pairs, pair_inside}
use Rattle.orbits.specs.Numbers.{graph_number, next_pair, pair_at, pairs_of}
use Rattle.orbits.specs.declared.Pair.{Pair}
use Rattle.words.proofs.BitLaws.{bit-above, bit-ext∞, zero_bit}
use Rattle.words.proofs.Places.{put_other, put_same, upto-other}
use Rattle.words.proofs.SearchLaws.{every-at}
use Rattle.words.proofs.Sums.{lt-or-ge}
use Rattle.words.specs.Bits.{bit, put}
use Rattle.words.specs.Search.{every}

-- the product of which the number of pairs is the half
pub product-fits : (n : ℕ) → n ≤ 6 → n * (n - 1) < 64
unfolding every
product-fits n few = ltb-true (n * (n - 1)) 64 (every-at 7 (λ n. ltb (n * (n - 1)) 64) products n (omega arith))
  where
    products : every 7 (λ n. ltb (n * (n - 1)) 64) ≡ true
    products = refl

-- the loop is at pair k of n vertices
pub record AtPair (n pairs k : ℕ) (pair : Pair) : Type 0 where
  pub few : n ≤ 6
  pub all : pairs ≡ pairs_of n
  pub upto : k ≤ pairs
  pub is : pair ≡ pair_at n k

pub first-pair : (n pairs : ℕ) → n ≤ 6 → pairs ≡ pairs_of n → AtPair n pairs 0 (record { low = 0; high = 1 })
unfolding pair_at
first-pair n pairs few e = record { few = few; all = e; upto = omega arith; is = refl }

-- what is known of it
pub record Inside (n k : ℕ) (pair : Pair) : Type 0 where
  pub rises : pair.low < pair.high
  pub below : pair.high < n
  pub vertices : n ≤ 6
  pub place : k < 15

module _ {n pairs k : ℕ} {pair : Pair} (A : AtPair n pairs k pair) (more : k < pairs) where
  pub following-pair : (next : Pair) → next ≡ next_pair n pair → AtPair n pairs (k + 1) next
  unfolding pair_at
  following-pair next e = record {
    few = A.few;
    all = A.all;
    upto = omega arith;
    is = e ∙ ap (next_pair n) A.is ∙ ap (pair_at n) (sym (add-one k));
  }

  pub this-pair : Inside n k pair
  this-pair =
      let within : k < pairs_of n = subst (λ m. k < m) A.all more in
      let P = pair_inside n A.few k within in
      record {
        rises = subst (λ p. p.low < p.high) (sym A.is) P.0;
        below = subst (λ p. p.high < n) (sym A.is) P.1;
        vertices = A.few;
        place = omega (arith, within, few-pairs n A.few);
      }

-- the bits of the pairs before k stand in the number
pub record Numbering (n pairs : ℕ) (θ : Graph) (number k : ℕ) (pair : Pair) : Type 0 where
  pub at : AtPair n pairs k pair
  pub bits : (q : ℕ) → bit number q ≡ (ltb q k && θ (pair_at n q).low (pair_at n q).high)

pub none-numbered : (n pairs : ℕ) (θ : Graph) → n ≤ 6 → pairs ≡ pairs_of n
    → Numbering n pairs θ 0 0 (record { low = 0; high = 1 })
none-numbered n pairs θ few e = record {
  at = first-pair n pairs few e;
  bits = λ q. zero_bit q ∙ sym (ap (λ b. b && θ (pair_at n q).low (pair_at n q).high) (le-ltb q 0 (omega arith)));
}

module _ {n pairs number k : ℕ} {pair : Pair} (θ : Graph) (N : Numbering n pairs θ number k pair) where
  pub one-numbered : k < pairs → (joined : Bool) → joined ≡ θ pair.low pair.high → (r : ℕ)
      → ((j : ℕ) → bit r j ≡ put (bit number) k joined j) → (next : Pair) → next ≡ next_pair n pair
      → Numbering n pairs θ r (k + 1) next
  one-numbered more joined e r h next f = record {
    at = following-pair N.at more next f;
    bits = λ q. h q ∙ at q (ℕ_discrete q k);
  }
    where
      at : (q : ℕ) → Dec (q ≡ k)
          → put (bit number) k joined q ≡ (ltb q (k + 1) && θ (pair_at n q).low (pair_at n q).high)
      at q (yes d) =
          ap (put (bit number) k joined) d ∙ put_same (bit number) k joined ∙ e
          ∙ ap (λ p. θ p.low p.high) (N.at.is ∙ ap (pair_at n) (sym d))
          ∙ ap (λ b. b && θ (pair_at n q).low (pair_at n q).high) (sym (lt-ltb q (k + 1) (omega arith)))
      at q (no d) =
          put_other (bit number) k joined q d ∙ N.bits q
          ∙ ap (λ b. b && θ (pair_at n q).low (pair_at n q).high) (sym (upto-other q k d))

  pub all-numbered : pairs ≤ k → number ≡ graph_number n θ
  all-numbered end = bit-ext∞ number (graph_number n θ) (λ q. N.bits q ∙ at q (lt-or-ge q (pairs_of n)))
    where
      last : k ≡ pairs_of n
      last = le_antisymm N.at.upto end ∙ N.at.all

      at : (q : ℕ) → (q < pairs_of n) ⊎ (pairs_of n ≤ q)
          → (ltb q k && θ (pair_at n q).low (pair_at n q).high) ≡ bit (graph_number n θ) q
      at q (inl l) =
          ap (λ b. b && θ (pair_at n q).low (pair_at n q).high) (ap (ltb q) last ∙ lt-ltb q _ l)
          ∙ sym (number_bit n θ q l)
      at q (inr l) =
          ap (λ b. b && θ (pair_at n q).low (pair_at n q).high) (ap (ltb q) last ∙ le-ltb q _ l)
          ∙ sym (bit-above (pairs_of n) (graph_number n θ) (number_lt n θ) q l)
