-- How setting one place changes the number of places below n where a word is 1.
use mathlib.Core.Bool.{Bool}
use mathlib.Core.Logic.{inl, inr, ◌⊎◌}
use mathlib.Core.Path.{ap, sym, ◌∙◌, ◌≡◌}
use Prim.Native.Nat.{◌+◌, ◌<◌, suc, zero, ℕ, ◌≤◌}
use native.Mathlib.Nat.{not-suc-le-zero}
use native.Mathlib.Omega.{arith}
use Rattle.cut.proofs.Counting.{count-ext}
use Rattle.cut.specs.Kernel.{count}
use Rattle.words.proofs.Places.{put_other, put_same}
use Rattle.words.proofs.Sums.{last_or}
use Rattle.words.specs.Bits.{Word, digit, fold, put}

count-put-above : (n : ℕ) (f : Word) (v : ℕ) (b : Bool) → n ≤ v → count n (put f v b) ≡ count n f
count-put-above n f v b l =
    count-ext n (put f v b) f (λ q k. put_other f v b q (λ e. absurd (omega (arith, e))))

pub count-put : (n : ℕ) (f : Word) (v : ℕ) (b : Bool) → v < n →
    count n (put f v b) + digit (f v) ≡ count n f + digit b
unfolding fold
count-put zero f v b l = absurd (not-suc-le-zero l)
count-put (suc n) f v b l = go (λ k. count-put n f v b k) (last_or l)
  where
    go : (v < n → count n (put f v b) + digit (f v) ≡ count n f + digit b) → (v ≡ n) ⊎ (v < n) →
        count n (put f v b) + digit (put f v b n) + digit (f v) ≡ count n f + digit (f n) + digit b
    go ih (inl p) =
        omega (
          arith,
          count-put-above n f v b (omega (arith, p)),
          ap digit (ap (put f v b) (sym p) ∙ put_same f v b),
          ap (λ w. digit (f w)) p,
        )
    go ih (inr k) = omega (arith, ih k, ap digit (put_other f v b n (λ e. absurd (omega (arith, e)))))
