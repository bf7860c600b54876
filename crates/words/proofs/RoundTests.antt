-- The six rounds: what each needs, by computed tests.
use mathlib.Core.Bool.{◌&&◌, Bool, false, false≢true, not, true, ◌||◌}
use mathlib.Core.Path.{ap, ap₂, refl, ◌≡◌}
use Prim.Native.Nat.{◌%◌, ◌*◌, ◌+◌, ◌-◌, ◌<◌, ℕ, ◌≤◌}
use native.Mathlib.Omega.{arith}
use lib.Dec.{eqb, leb, ltb}
use borrow.Author.Tests.{eq-eqb, eqb-true, le-leb, leb-true, lt-ltb, ltb-true}
use Rattle.words.proofs.Flags.{both_true, true-same_bit}
use Rattle.words.proofs.SearchLaws.{every-at}
use Rattle.words.specs.Bits.{bit, same_bit}
use Rattle.words.specs.Search.{every}
use Rattle.words.specs.internal.Squares.{Fits, Round, Size, eight, full, half, lacks, sixteen}

-- a test that follows from another
abbrev follows : Bool → Bool → Bool
follows a b = not a || b

followed : (a b : Bool) → follows a b ≡ true → a ≡ true → b ≡ true
followed true b h e = h
followed false b h e = absurd (false≢true e)

abbrev column : ℕ → ℕ → ℕ → Bool
column s low c = same_bit (bit low c) (lacks s c)
    && (follows (not (lacks s c)) (leb s c)
    && (follows (leb s c) (same_bit (lacks s (c - s)) (not (lacks s c)))
    && follows (eqb (c % (2 * s)) 0) (eqb ((c + 2 * s) % (2 * s)) 0)))

abbrev blocks : ℕ → ℕ → ℕ → Bool
blocks s b k = follows (eqb (b % (2 * s)) 0)
    (follows (leb b k && ltb k (b + s)) (lacks s k)
    && follows (lacks s k && ltb k (b + 2 * s)) (ltb k (b + s)))

-- the facts from the tests
round_by : (s low : ℕ) → 1 ≤ s → s ≤ 32 → every 64 (column s low) ≡ true
    → every 64 (λ b. every 64 (blocks s b)) ≡ true → Round s low
round_by s low p q columns pairs =
    record {
      positive = p;
      short = q;
      mask = λ c h. true-same_bit _ _ (both_true (same_bit (bit low c) (lacks s c)) _ (at c h)).0;
      above = λ c h e. leb-true s c (followed (not (lacks s c)) (leb s c) (rest1 c h).0 (ap not e));
      back = λ c h l. true-same_bit _ _ (followed (leb s c) _ (rest2 c h).0 (le-leb s c l));
      next = λ b h e. eqb-true _ 0 (followed (eqb (b % (2 * s)) 0) _ (rest2 b h).1 (eq-eqb _ 0 e));
      begins = λ b k hb hk e l m. followed (leb b k && ltb k (b + s)) (lacks s k) (pair b k hb hk e).0
          (ap₂ ◌&&◌ (le-leb b k l) (lt-ltb k (b + s) m));
      ends = λ b k hb hk e f l. ltb-true k (b + s) (followed (lacks s k && ltb k (b + 2 * s)) (ltb k (b + s))
          (pair b k hb hk e).1 (ap₂ ◌&&◌ f (lt-ltb k (b + 2 * s) l)));
    }
  where
    at : (c : ℕ) → c < 64 → column s low c ≡ true
    at c h = every-at 64 (column s low) columns c h

    rest1 : (c : ℕ) → c < 64 → (follows (not (lacks s c)) (leb s c) ≡ true)
        × ((follows (leb s c) (same_bit (lacks s (c - s)) (not (lacks s c)))
        && follows (eqb (c % (2 * s)) 0) (eqb ((c + 2 * s) % (2 * s)) 0)) ≡ true)
    rest1 c h = both_true _ _ (both_true (same_bit (bit low c) (lacks s c)) _ (at c h)).1

    rest2 : (c : ℕ) → c < 64 → (follows (leb s c) (same_bit (lacks s (c - s)) (not (lacks s c))) ≡ true)
        × (follows (eqb (c % (2 * s)) 0) (eqb ((c + 2 * s) % (2 * s)) 0) ≡ true)
    rest2 c h = both_true _ _ (rest1 c h).1

    pair : (b k : ℕ) → b < 64 → k < 64 → b % (2 * s) ≡ 0
        → (follows (leb b k && ltb k (b + s)) (lacks s k) ≡ true)
        × (follows (lacks s k && ltb k (b + 2 * s)) (ltb k (b + s)) ≡ true)
    pair b k hb hk e = both_true _ _ (followed (eqb (b % (2 * s)) 0) _
        (every-at 64 (blocks s b) (every-at 64 (λ b. every 64 (blocks s b)) pairs b hb) k hk) (eq-eqb _ 0 e))

pub round32 : Round 32 4294967295
unfolding every bit lacks
round32 = round_by 32 4294967295 (omega arith) (omega arith) refl refl

pub round16 : Round 16 281470681808895
unfolding every bit lacks
round16 = round_by 16 281470681808895 (omega arith) (omega arith) refl refl

pub round8 : Round 8 71777214294589695
unfolding every bit lacks
round8 = round_by 8 71777214294589695 (omega arith) (omega arith) refl refl

pub round4 : Round 4 1085102592571150095
unfolding every bit lacks
round4 = round_by 4 1085102592571150095 (omega arith) (omega arith) refl refl

pub round2 : Round 2 3689348814741910323
unfolding every bit lacks
round2 = round_by 2 3689348814741910323 (omega arith) (omega arith) refl refl

pub round1 : Round 1 6148914691236517205
unfolding every bit lacks
round1 = round_by 1 6148914691236517205 (omega arith) (omega arith) refl refl

-- the sizes
abbrev filled : ℕ → ℕ → ℕ → Bool
filled m s i = follows (eqb (i % (2 * s)) 0) (leb (i + 2 * s) m) && follows (lacks s i) (ltb (i + s) m)

fits_by : (m s : ℕ) → every m (filled m s) ≡ true → Fits m s
fits_by m s e =
    record {
      whole = λ b h f. leb-true _ _ (followed (eqb (b % (2 * s)) 0) _ (parts b h).0 (eq-eqb _ 0 f));
      partner = λ i h f. ltb-true _ _ (followed (lacks s i) _ (parts i h).1 f);
    }
  where
    parts : (i : ℕ) → i < m → (follows (eqb (i % (2 * s)) 0) (leb (i + 2 * s) m) ≡ true)
        × (follows (lacks s i) (ltb (i + s) m) ≡ true)
    parts i h = both_true _ _ (every-at m (filled m s) e i h)

pub size_below : {m : ℕ} → Size m → m ≤ 64
size_below eight = omega arith
size_below sixteen = omega arith
size_below half = omega arith
size_below full = omega arith

-- the blocks of a round fill each size above s
pub fits32 : {m : ℕ} → Size m → 32 < m → Fits m 32
unfolding every lacks
fits32 eight l = absurd (omega arith)
fits32 sixteen l = absurd (omega arith)
fits32 half l = absurd (omega arith)
fits32 full l = fits_by 64 32 refl

pub fits16 : {m : ℕ} → Size m → 16 < m → Fits m 16
unfolding every lacks
fits16 eight l = absurd (omega arith)
fits16 sixteen l = absurd (omega arith)
fits16 half l = fits_by 32 16 refl
fits16 full l = fits_by 64 16 refl

pub fits8 : {m : ℕ} → Size m → 8 < m → Fits m 8
unfolding every lacks
fits8 eight l = absurd (omega arith)
fits8 sixteen l = fits_by 16 8 refl
fits8 half l = fits_by 32 8 refl
fits8 full l = fits_by 64 8 refl

pub fits4 : {m : ℕ} → Size m → 4 < m → Fits m 4
unfolding every lacks
fits4 eight l = fits_by 8 4 refl
fits4 sixteen l = fits_by 16 4 refl
fits4 half l = fits_by 32 4 refl
fits4 full l = fits_by 64 4 refl

pub fits2 : {m : ℕ} → Size m → 2 < m → Fits m 2
unfolding every lacks
fits2 eight l = fits_by 8 2 refl
fits2 sixteen l = fits_by 16 2 refl
fits2 half l = fits_by 32 2 refl
fits2 full l = fits_by 64 2 refl

pub fits1 : {m : ℕ} → Size m → 1 < m → Fits m 1
unfolding every lacks
fits1 eight l = fits_by 8 1 refl
fits1 sixteen l = fits_by 16 1 refl
fits1 half l = fits_by 32 1 refl
fits1 full l = fits_by 64 1 refl
