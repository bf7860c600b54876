-- A round, pair of rows by pair of rows.
use mathlib.Core.Bool.{Bool, cond, false, true, not}
use mathlib.Core.List.{List}
use mathlib.Core.Logic.{inl, inr, ◌⊎◌}
use mathlib.Core.Path.{ap, ap₂, refl, subst, sym, ◌∙◌, ◌≡◌}
use Prim.Native.Nat.{◌%◌, ◌*◌, ◌+◌, ◌-◌, ◌/◌, ◌<◌, ◌^◌, ℕ, ◌≤◌}
use native.Mathlib.Decide.{ℕ_discrete}
use native.Mathlib.Nat.{div-eq_of_lt, le-div_iff_mul-le, lt_of_lt_of_le, mul-mod_left, not-le_of_lt, suc-mul, zero-mul}
use native.Mathlib.Numerals.{add-one}
use native.Mathlib.Omega.{arith}
use lib.Bits.{bit_and, bit_xor}
use lib.Dec.{eqb}
use lib.ListN.{get_or, length, length-set, set}
use lib.Seq.{get_or-set_other, get_or-set_same}
use borrow.Author.Tests.{not-true}
use Rattle.words.specs.Bits.{bit}
use Rattle.words.proofs.PairWords.{lower-bit, upper-bit}
use Rattle.words.proofs.Sums.{lt-or-ge}
use Rattle.words.specs.internal.Squares.{Exchanged, Fits, Round, crossed, lacks}

-- the upper row of the pair that row r is in
abbrev pub upper : ℕ → ℕ → ℕ
upper s r = cond (lacks s r) r (r - s)

-- the pairs whose upper row is below k are exchanged, the others as they were
pub record Upto (m s k : ℕ) (rows₀ rows : List ℕ) : Type 0 where
  pub long : length rows ≡ 64
  pub done : (r c : ℕ) → r < m → c < m → upper s r < k
      → bit (get_or rows r 0) c ≡ bit (get_or rows₀ (crossed s r c) 0) (crossed s c r)
  pub kept : (r : ℕ) → r < m → k ≤ upper s r → get_or rows r 0 ≡ get_or rows₀ r 0

-- ---- crossed, by what the two lack
crossed-by : (s r c : ℕ) {u v : Bool} → lacks s r ≡ u → lacks s c ≡ v
    → crossed s r c ≡ cond u (cond v r (r + s)) (cond v (r - s) r)
unfolding crossed
crossed-by s r c e f = ap₂ (λ u v. cond u (cond v r (r + s)) (cond v (r - s) r)) e f

-- ---- a round with nothing to do
below-lacks : (s i : ℕ) → i < s → lacks s i ≡ true
unfolding lacks
below-lacks s i l = ap (λ v. eqb (v % 2) 0) (div-eq_of_lt l)

pub nothing-exchanged : (m s : ℕ) (rows : List ℕ) → length rows ≡ 64 → m ≤ s → Exchanged m s rows rows
nothing-exchanged m s rows long l =
    record {
      long = long;
      inside = λ r c hr hc. subst (λ v. v < m) (sym (same r c hr hc)) hr;
      moved = λ r c hr hc. ap₂ (λ u v. bit (get_or rows u 0) v) (sym (same r c hr hc)) (sym (same c r hc hr));
    }
  where
    same : (r c : ℕ) → r < m → c < m → crossed s r c ≡ r
    same r c hr hc = crossed-by s r c (below-lacks s r (lt_of_lt_of_le hr l)) (below-lacks s c (lt_of_lt_of_le hc l))

module _ (m s low : ℕ) (small : m ≤ 64) (R : Round s low) (F : Fits m s) where
  -- ---- before the first pair, and after the last
  pub none_yet : (rows : List ℕ) → length rows ≡ 64 → Upto m s 0 rows rows
  none_yet rows long = record { long = long; done = λ r c hr hc l. absurd (omega arith); kept = λ r hr l. refl }

  upper-below : (r : ℕ) → r < m → upper s r < m
  upper-below r h = go (lacks s r)
    where
      go : (v : Bool) → cond v r (r - s) < m
      go true = h
      go false = omega arith

  -- the upper row lacks bit s
  upper-lacks : (r : ℕ) → r < m → lacks s (upper s r) ≡ true
  upper-lacks r h = go (lacks s r) refl
    where
      go : (v : Bool) → lacks s r ≡ v → lacks s (cond v r (r - s)) ≡ true
      go true e = e
      go false e = R.back r (omega arith) (R.above r (omega arith) e) ∙ ap not e

  inside : (r c : ℕ) → r < m → c < m → crossed s r c < m
  inside r c hr hc = go (lacks s r) (lacks s c) refl refl
    where
      go : (u v : Bool) → lacks s r ≡ u → lacks s c ≡ v → crossed s r c < m
      go true true e f = subst (λ k. k < m) (sym (crossed-by s r c e f)) hr
      go true false e f = subst (λ k. k < m) (sym (crossed-by s r c e f)) (F.partner r hr e)
      go false true e f =
          let l : r - s < m = omega arith in subst (λ k. k < m) (sym (crossed-by s r c e f)) l
      go false false e f = subst (λ k. k < m) (sym (crossed-by s r c e f)) hr

  pub all-exchanged : (k : ℕ) (rows₀ rows : List ℕ) → Upto m s k rows₀ rows → m ≤ k → Exchanged m s rows₀ rows
  all-exchanged k rows₀ rows U l =
      record {
        long = U.long;
        inside = inside;
        moved = λ r c hr hc. U.done r c hr hc (lt_of_lt_of_le (upper-below r hr) l);
      }

  -- ---- the blocks by their numbers
  pub block-begins : (i : ℕ) → i * (2 * s) % (2 * s) ≡ 0
  block-begins i = mul-mod_left i (2 * s)

  pub block-inside : (i : ℕ) → i < m / (2 * s) → i * (2 * s) < m
  block-inside i l =
      let next : i * (2 * s) + 2 * s ≤ m = subst (λ v. v ≤ m) (suc-mul i (2 * s))
      ((le-div_iff_mul-le (omega (arith, R.positive))).0 l) in
      omega (arith, next, R.positive)

  pub blocks-end : (i : ℕ) → m / (2 * s) ≤ i → m ≤ i * (2 * s)
  blocks-end i l = go (lt-or-ge (i * (2 * s)) m)
    where
      go : (i * (2 * s) < m) ⊎ (m ≤ i * (2 * s)) → m ≤ i * (2 * s)
      go (inl h) =
          let more : i < m / (2 * s) = (le-div_iff_mul-le (omega (arith, R.positive))).1
          (subst (λ v. v ≤ m) (sym (suc-mul i (2 * s))) (F.whole (i * (2 * s)) h (block-begins i))) in
          absurd (not-le_of_lt more l)
      go (inr h) = h

  pub no-block : (rows : List ℕ) → length rows ≡ 64 → Upto m s (0 * (2 * s)) rows rows
  no-block rows long = subst (λ k. Upto m s k rows rows) (sym (zero-mul (2 * s))) (none_yet rows long)

  pub one-block : (i : ℕ) (rows₀ rows : List ℕ) → Upto m s (i * (2 * s) + 2 * s) rows₀ rows
      → Upto m s ((i + 1) * (2 * s)) rows₀ rows
  one-block i rows₀ rows U =
      subst (λ k. Upto m s k rows₀ rows) (sym (ap (λ v. v * (2 * s)) (add-one i) ∙ suc-mul i (2 * s))) U

  -- ---- a block is passed
  module _ (block : ℕ) (hb : block < m) (start : block % (2 * s) ≡ 0) where
    pub block-passed : (k : ℕ) (rows₀ rows : List ℕ) → k ≤ block + s → block + s ≤ k → Upto m s k rows₀ rows
        → Upto m s (block + 2 * s) rows₀ rows
    block-passed k rows₀ rows l l' U =
        record {
          long = U.long;
          done = λ r c hr hc h. U.done r c hr hc
              (lt_of_lt_of_le (R.ends block (upper s r) (omega arith)
              (lt_of_lt_of_le (upper-below r hr) small) start (upper-lacks r hr) h) l');
          kept = λ r hr h. U.kept r hr (omega (arith, R.positive));
        }

    -- ---- a pair
    module _ (k : ℕ) (from : block ≤ k) (more : k < block + s) where
      pub pair-below : k + s < m
      pair-below = omega (arith, F.whole block hb start)

      lacking : lacks s k ≡ true
      lacking = R.begins block k (omega arith) (omega (arith, F.whole block hb start)) start from more

      having : lacks s (k + s) ≡ false
      having =
          let back : k + s - s ≡ k = omega arith in
          not-true (lacks s (k + s))
          (sym (R.back (k + s) (omega (arith, pair-below)) (omega arith)) ∙ ap (lacks s) back ∙ lacking)

      module _ (rows₀ rows : List ℕ) (U : Upto m s k rows₀ rows) where
        abbrev a : ℕ
        a = get_or rows k 0

        abbrev b : ℕ
        b = get_or rows (k + s) 0

        abbrev d : ℕ
        d = bit_and (bit_xor (a / 2 ^ s) b) low

        abbrev rows₂ : List ℕ
        rows₂ = set (set rows k (bit_xor a (d * 2 ^ s % 2 ^ 64))) (k + s) (bit_xor b d)

        own : upper s k ≡ k
        own = ap (λ v. cond v k (k - s)) lacking

        partner : upper s (k + s) ≡ k
        partner =
            let back : k + s - s ≡ k = omega arith in
            ap (λ v. cond v (k + s) (k + s - s)) having ∙ back

        away : (r : ℕ) → k + 1 ≤ upper s r → upper s r ≡ k → ⊥
        away r l e = omega arith

        a₀ : a ≡ get_or rows₀ k 0
        a₀ = U.kept k (omega (arith, pair-below)) (omega (arith, own))

        b₀ : b ≡ get_or rows₀ (k + s) 0
        b₀ = U.kept (k + s) pair-below (omega (arith, partner))

        apart : k + s ≡ k → ⊥
        apart e = omega (arith, R.positive)

        other : (r : ℕ) → (r ≡ k → ⊥) → (r ≡ k + s → ⊥) → get_or rows₂ r 0 ≡ get_or rows r 0
        other r u v = get_or-set_other (set rows k (bit_xor a (d * 2 ^ s % 2 ^ 64))) (k + s) r (bit_xor b d) 0 v
            ∙ get_or-set_other rows k r (bit_xor a (d * 2 ^ s % 2 ^ 64)) 0 u

        upper-there : k < length rows
        upper-there = omega (arith, pair-below, U.long)

        lower-there : k + s < length (set rows k (bit_xor a (d * 2 ^ s % 2 ^ 64)))
        lower-there = omega (arith, pair-below, length-set rows k (bit_xor a (d * 2 ^ s % 2 ^ 64)), U.long)

        upper-row : get_or rows₂ k 0 ≡ bit_xor a (d * 2 ^ s % 2 ^ 64)
        upper-row = get_or-set_other (set rows k (bit_xor a (d * 2 ^ s % 2 ^ 64))) (k + s) k (bit_xor b d) 0
            (λ e. apart (sym e))
            ∙ get_or-set_same rows k (bit_xor a (d * 2 ^ s % 2 ^ 64)) 0 upper-there

        lower-row : get_or rows₂ (k + s) 0 ≡ bit_xor b d
        lower-row = get_or-set_same (set rows k (bit_xor a (d * 2 ^ s % 2 ^ 64))) (k + s) (bit_xor b d) 0 lower-there

        -- what the two rows hold
        upper-moved : (c : ℕ) → c < m → (v : Bool) → lacks s c ≡ v
            → cond v (bit a c) (bit b (c - s)) ≡ bit (get_or rows₀ (crossed s k c) 0) (crossed s c k)
        upper-moved c hc true e = ap (λ w. bit w c) a₀
            ∙ ap₂ (λ u w. bit (get_or rows₀ u 0) w) (sym (crossed-by s k c lacking e)) (sym (crossed-by s c k e lacking))
        upper-moved c hc false e = ap (λ w. bit w (c - s)) b₀
            ∙ ap₂ (λ u w. bit (get_or rows₀ u 0) w) (sym (crossed-by s k c lacking e)) (sym (crossed-by s c k e lacking))

        lower-moved : (c : ℕ) → c < m → (v : Bool) → lacks s c ≡ v
            → cond v (bit a (c + s)) (bit b c) ≡ bit (get_or rows₀ (crossed s (k + s) c) 0) (crossed s c (k + s))
        lower-moved c hc true e =
            let back : k ≡ k + s - s = omega arith in
            ap (λ w. bit w (c + s)) (a₀ ∙ ap (λ u. get_or rows₀ u 0) back)
            ∙ ap₂ (λ u w. bit (get_or rows₀ u 0) w) (sym (crossed-by s (k + s) c having e))
            (sym (crossed-by s c (k + s) e having))
        lower-moved c hc false e = ap (λ w. bit w c) b₀
            ∙ ap₂ (λ u w. bit (get_or rows₀ u 0) w) (sym (crossed-by s (k + s) c having e))
            (sym (crossed-by s c (k + s) e having))

        -- a row whose upper is k is one of the two
        before : (r : ℕ) → r < m → upper s r < k + 1 → (r ≡ k → ⊥) → (r ≡ k + s → ⊥) → upper s r < k
        before r hr l u v = go (lacks s r) refl l
          where
            go : (w : Bool) → lacks s r ≡ w → cond w r (r - s) < k + 1 → cond w r (r - s) < k
            go true e h = omega (arith, u)
            go false e h = omega (arith, v, R.above r (omega arith) e)

        at : (r c : ℕ) → r < m → c < m → upper s r < k + 1 → Dec (r ≡ k) → Dec (r ≡ k + s)
            → bit (get_or rows₂ r 0) c ≡ bit (get_or rows₀ (crossed s r c) 0) (crossed s c r)
        at r c hr hc l (yes e) w = subst (λ r. bit (get_or rows₂ r 0) c ≡ bit (get_or rows₀ (crossed s r c) 0)
            (crossed s c r))
            (sym e) (ap (λ w. bit w c) upper-row ∙ upper-bit s low R a b c (omega arith)
            ∙ upper-moved c hc (lacks s c) refl)
        at r c hr hc l (no u) (yes e) = subst (λ r. bit (get_or rows₂ r 0) c
            ≡ bit (get_or rows₀ (crossed s r c) 0) (crossed s c r))
            (sym e) (ap (λ w. bit w c) lower-row ∙ lower-bit s low R a b c (omega arith)
            ∙ lower-moved c hc (lacks s c) refl)
        at r c hr hc l (no u) (no v) = ap (λ w. bit w c) (other r u v) ∙ U.done r c hr hc (before r hr l u v)

        pub pair-exchanged : Upto m s (k + 1) rows₀
            (set (set rows k (bit_xor (get_or rows k 0)
            (bit_and (bit_xor (get_or rows k 0 / 2 ^ s) (get_or rows (k + s) 0)) low * 2 ^ s % 2 ^ 64)))
            (k + s) (bit_xor (get_or rows (k + s) 0) (bit_and (bit_xor (get_or rows k 0 / 2 ^ s) (get_or rows (k + s) 0)) low)))
        pair-exchanged =
            record {
              long = simp length-set U.long;
              done = λ r c hr hc l. at r c hr hc l (ℕ_discrete r k) (ℕ_discrete r (k + s));
              kept = λ r hr l. other r (λ e. away r l (ap (upper s) e ∙ own)) (λ e. away r l (ap (upper s) e ∙ partner))
                  ∙ U.kept r hr (omega arith);
            }
