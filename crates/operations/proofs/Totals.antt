-- Sums of weights over a word, and how setting one place changes them.
use mathlib.Core.Bool.{Bool, cond, false, true}
use mathlib.Core.Logic.{inl, inr, ◌⊎◌}
use mathlib.Core.Path.{ap, sym, ◌∙◌, ◌≡◌}
use Prim.Native.Nat.{◌*◌, ◌+◌, ◌<◌, suc, zero, ℕ, ◌≤◌}
use native.Mathlib.Nat.{mul-le-mul_right, not-suc-le-zero, suc-mul}
use native.Mathlib.Omega.{arith}
use Rattle.words.proofs.Places.{put_other, put_same}
use Rattle.words.proofs.Sums.{fold-ext, last_or}
use Rattle.words.specs.Bits.{Word, fold, put}
use Rattle.operations.specs.internal.Settling.{total}

module _ (weight : ℕ → ℕ) where
  abbrev at : Bool → ℕ → ℕ
  at c q = cond c (weight q) 0

  pub total-cong : (n : ℕ) (f g : Word) → ((q : ℕ) → q < n → f q ≡ g q) → total weight n f ≡ total weight n g
  unfolding total
  total-cong n f g h = fold-ext 0 ◌+◌ n (λ q l. ap (λ b. cond b (weight q) 0) (h q l))

  total-above : (n : ℕ) (f : Word) (v : ℕ) (b : Bool) → n ≤ v → total weight n (put f v b) ≡ total weight n f
  total-above n f v b l = total-cong n (put f v b) f (λ q k. put_other f v b q (λ e. absurd (omega (arith, e))))

  pub total-put : (n : ℕ) (f : Word) (v : ℕ) (b : Bool) → v < n
      → total weight n (put f v b) + cond (f v) (weight v) 0 ≡ total weight n f + cond b (weight v) 0
  unfolding total fold
  total-put zero f v b l = absurd (not-suc-le-zero l)
  total-put (suc n) f v b l = go (λ k. total-put n f v b k) (last_or l)
    where
      go : (v < n → total weight n (put f v b) + at (f v) v ≡ total weight n f + at b v) → (v ≡ n) ⊎ (v < n)
          → total weight n (put f v b) + at (put f v b n) n + at (f v) v ≡ total weight n f + at (f n) n + at b v
      go ih (inl p) =
          omega (
            arith,
            total-above n f v b (omega (arith, p)),
            ap (λ w. at (put f v b w) w) (sym p) ∙ ap (λ c. at c v) (put_same f v b),
            ap (λ w. at (f w) w) p,
          )
      go ih (inr k) =
          omega (arith, ih k, ap (λ c. at c n) (put_other f v b n (λ e. absurd (omega (arith, e)))))

pub total-le : (n : ℕ) (f : Word) → total (λ q. 1) n f ≤ n
unfolding total fold
total-le zero f = omega arith
total-le (suc n) f = small (f n) (total-le n f)
  where
    small : (b : Bool) → total (λ q. 1) n f ≤ n → total (λ q. 1) n f + cond b 1 0 ≤ suc n
    small false h = omega arith
    small true h = omega arith

pub at_most : (b : Bool) (m : ℕ) → cond b m 0 ≤ m
at_most false m = omega arith
at_most true m = omega arith

-- two sums as one number, the first counting more than any second
pub first-less : (n a b c d : ℕ) → a < b → c ≤ n → a * (n + 1) + c < b * (n + 1) + d
first-less n a b c d l h = omega (arith, mul-le-mul_right (n + 1) l, suc-mul a (n + 1))
