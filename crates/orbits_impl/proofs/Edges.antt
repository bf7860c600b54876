-- Neighbour words of a graph, built from its number pair by pair.
use mathlib.Core.Bool.{◌&&◌, Bool, and_comm, and-false, and-true, false, or-false, true, ◌||◌}
use mathlib.Core.List.{List}
use mathlib.Core.Logic.{◌≢◌}
use mathlib.Core.Path.{ap, ap₂, refl, subst, sym, ◌∙◌, ◌≡◌}
use Prim.Native.Nat.{◌+◌, ◌<◌, ◌^◌, ℕ, ◌≤◌}
use native.Mathlib.Decide.{ℕ_discrete}
use native.Mathlib.Nat.{le_antisymm}
use native.Mathlib.Numerals.{add-one}
use native.Mathlib.Omega.{arith}
use lib.Bits.{bit_or}
use lib.Dec.{eqb}
use lib.ListN.{get_or, length, length-set, replicate, set}
use lib.Seq.{get_or-set_other, get_or-set_same}
use Rattle.buffers.proofs.Mapping.{zeros, zeros-at}
use Rattle.orbits.specs.Numbers.{graph_at, joins, next_pair, pair_at, pairs_of}
use Rattle.orbits.specs.declared.Pair.{Pair}
use Rattle.words.proofs.BitLaws.{bit-or, bit-single, zero_bit}
use Rattle.words.proofs.Places.{other_place, same_place}
use Rattle.words.specs.Bits.{bit}
use Rattle.words.specs.Search.{some}
use Rattle.orbits_impl.proofs.PairLoops.{AtPair, first-pair, following-pair, this-pair}

-- ---- a bit set where a test is true
pub added : (w q s : ℕ) (b : Bool) → b ≡ true → s ≡ 2 ^ q → (j : ℕ)
    → bit (bit_or w s) j ≡ (bit w j || (eqb j q && b))
added w q s b h e j =
    bit-or w s j
    ∙ ap (λ v. bit w j || v) (ap (λ m. bit m j) e ∙ bit-single q j ∙ sym (ap (λ v. eqb j q && v) h ∙ and-true _))

pub not-added : (w q : ℕ) (b : Bool) → b ≡ false → (j : ℕ) → bit w j ≡ (bit w j || (eqb j q && b))
not-added w q b h j =
    sym (ap (λ v. bit w j || v) (ap (λ v. eqb j q && v) h ∙ and-false (eqb j q)) ∙ or-false (bit w j))

-- ---- the pairs at a vertex
module _ (p : Pair) (rises : p.low < p.high) (j : ℕ) where
  joins-low : joins p p.low j ≡ eqb j p.high
  joins-low =
      ap₂ (λ u v. (u && eqb j p.high) || (v && eqb j p.low)) (same_place p.low)
      (other_place {i = p.low} {j = p.high} (λ e. absurd (omega arith))) ∙ or-false (eqb j p.high)

  joins-high : joins p p.high j ≡ eqb j p.low
  joins-high =
      ap₂ (λ u v. (u && eqb j p.high) || (v && eqb j p.low))
      (other_place {i = p.high} {j = p.low} (λ e. absurd (omega arith))) (same_place p.high)

  joins-other : (i : ℕ) → i ≢ p.low → i ≢ p.high → joins p i j ≡ false
  joins-other i a b = ap₂ (λ u v. (u && eqb j p.high) || (v && eqb j p.low)) (other_place a) (other_place b)

-- ---- the words of the graph that has the pairs before k
pub record Joining (n pairs g : ℕ) (words : List ℕ) (k : ℕ) (pair : Pair) : Type 0 where
  pub at : AtPair n pairs k pair
  pub long : length words ≡ 6
  pub edges : (i j : ℕ) → bit (get_or words i 0) j ≡ some k (λ m. bit g m && joins (pair_at n m) i j)

pub none-joined : (n pairs g : ℕ) → n ≤ 6 → pairs ≡ pairs_of n
    → Joining n pairs g (replicate 6 0) 0 (record { low = 0; high = 1 })
unfolding some zeros
none-joined n pairs g few e = record {
  at = first-pair n pairs few e;
  long = refl;
  edges = λ i j. ap (λ w. bit w j) (zeros-at 6 i) ∙ zero_bit j;
}

module _ {n pairs g : ℕ} {words : List ℕ} {k : ℕ} {pair : Pair} (J : Joining n pairs g words k pair)
    (more : k < pairs) (joined : Bool) (e : joined ≡ bit g k) where
  pub one-joined : (w v : ℕ) → ((j : ℕ) → bit w j ≡ (bit (get_or words pair.low 0) j ||
      (eqb j pair.high && joined)))
      → ((j : ℕ) → bit v j
      ≡ (bit (get_or (set words pair.low w) pair.high 0) j || (eqb j pair.low && joined)))
      → (next : Pair) → next ≡ next_pair n pair
      → Joining n pairs g (set (set words pair.low w) pair.high v) (k + 1) next
  unfolding some
  one-joined w v hw hv next f = record {
    at = following-pair J.at more next f;
    long = length-set (set words low w) high v ∙ length-set words low w ∙ J.long;
    edges = λ i j. at i j (ℕ_discrete i high) (ℕ_discrete i low)
        ∙ ap₂ (λ u p. u || (bit g k && joins p i j)) (J.edges i j) J.at.is
        ∙ ap (λ m. some m (λ m. bit g m && joins (pair_at n m) i j)) (sym (add-one k));
  }
    where
      low : ℕ
      low = pair.low

      high : ℕ
      high = pair.high

      rises : pair.low < pair.high
      rises = (this-pair J.at more).rises

      inside : pair.high < 6
      inside = omega (arith, this-pair J.at more)

      after : List ℕ
      after = set (set words low w) high v

      turned : (b c : Bool) → b ≡ c → (c && joined) ≡ (bit g k && b)
      turned b c h = and_comm c joined ∙ ap₂ ◌&&◌ e (sym h)

      at_high : (j : ℕ) → bit (get_or after high 0) j ≡ (bit (get_or words high 0) j || (bit g k && joins pair high j))
      at_high j =
          ap (λ m. bit m j) (get_or-set_same (set words low w) high v 0
          (omega (arith, inside, length-set words low w, J.long)))
          ∙ hv j
          ∙ ap₂ (λ m b. bit m j || b) (get_or-set_other words low high w 0 (λ c. absurd (omega (arith, rises, c))))
          (turned _ _ (joins-high pair rises j))

      at_low : (j : ℕ) → bit (get_or after low 0) j ≡ (bit (get_or words low 0) j || (bit g k && joins pair low j))
      at_low j =
          ap (λ m. bit m j) (get_or-set_other (set words low w) high low v 0 (λ c. absurd (omega (arith, rises, c)))
          ∙ get_or-set_same words low w 0 (omega (arith, rises, inside, J.long)))
          ∙ hw j ∙ ap (λ b. bit (get_or words low 0) j || b) (turned _ _ (joins-low pair rises j))

      at : (i j : ℕ) → Dec (i ≡ high) → Dec (i ≡ low)
          → bit (get_or after i 0) j ≡ (bit (get_or words i 0) j || (bit g k && joins pair i j))
      at i j (yes d) b =
          subst (λ i. bit (get_or after i 0) j ≡ (bit (get_or words i 0) j || (bit g k && joins pair i j))) (sym d)
          (at_high j)
      at i j (no d) (yes b) =
          subst (λ i. bit (get_or after i 0) j ≡ (bit (get_or words i 0) j || (bit g k && joins pair i j))) (sym b)
          (at_low j)
      at i j (no d) (no b) =
          ap (λ m. bit m j) (get_or-set_other (set words low w) high i v 0 d ∙ get_or-set_other words low i w 0 b)
          ∙ sym (ap (λ c. bit (get_or words i 0) j || c) (ap (λ c. bit g k && c) (joins-other pair rises j i b d)
          ∙ and-false (bit g k)) ∙ or-false (bit (get_or words i 0) j))

pub all-joined : {n pairs g : ℕ} {words : List ℕ} {k : ℕ} {pair : Pair} → Joining n pairs g words k pair → pairs ≤ k
    → (i j : ℕ) → bit (get_or words i 0) j ≡ graph_at n g i j
unfolding graph_at
all-joined {n = n} {g = g} J end i j =
    J.edges i j
    ∙ ap (λ m. some m (λ m. bit g m && joins (pair_at n m) i j)) (le_antisymm J.at.upto end ∙ J.at.all)
