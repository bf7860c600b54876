-- The rank of a bit matrix: the larger the smaller the kernel is.
use mathlib.Core.Bool.{Bool, false, not, true}
use mathlib.Core.Logic.{inl, inr, ◌⊎◌}
use mathlib.Core.Path.{ap, ap₂, refl, sym, ◌∙◌, ◌≡◌}
use Prim.Native.Nat.{◌*◌, ◌+◌, ◌<◌, ◌≤◌, ◌^◌, suc, zero, ℕ}
use native.Mathlib.Nat.{
  add-mul,
  add-zero,
  mul-add,
  mul-le-mul_left,
  mul-lt-mul_of_pos_right,
  mul-zero,
  two-pow-succ,
}
use native.Mathlib.Numerals.{add-one}
use native.Mathlib.Omega.{arith}
use lib.Pow.{pow-lt, pow_pos}
use Rattle.record.specs.Columns.{is_column_dependent}
use Rattle.words.proofs.Sums.{lt-or-ge}
use Rattle.words.specs.Bits.{Word, digit, fold}
use Rattle.cut.proofs.Counting.{count_none}
use Rattle.cut.proofs.KernelLaws.{in-kernel, kernel-doubled, kernel-kept}
use Rattle.cut.specs.Kernel.{kernel_size}
use Rattle.cut.specs.Rank.{rank}

-- where every column is a sum of earlier ones there is no rank
pub rank-none : (m n : ℕ) (M : ℕ → Word) → ((q : ℕ) → q < n → is_column_dependent m M q ≡ true) → rank m n M ≡ 0
rank-none m n M h = count_none n (λ q. not (is_column_dependent m M q)) (λ q l. ap not (h q l))

-- the words on n places are shared out evenly over the sums of columns
pub rank-kernel : (m n : ℕ) (M : ℕ → Word) → 2 ^ rank m n M * kernel_size m n M ≡ 2 ^ n
unfolding fold
rank-kernel m zero M = ap (λ b. 1 * (0 + digit b)) ((in-kernel m 0 M 0).1 (λ j l. refl))
rank-kernel m (suc q) M = go (is_column_dependent m M q) refl (rank-kernel m q M)
  where
    go : (b : Bool) → is_column_dependent m M q ≡ b → 2 ^ rank m q M * kernel_size m q M ≡ 2 ^ q
        → 2 ^ (rank m q M + digit (not b)) * kernel_size m (suc q) M ≡ 2 ^ suc q
    go true e ih = ap₂ (λ r k. 2 ^ r * k) (add-zero (rank m q M)) (kernel-doubled m M q e)
        ∙ mul-add (2 ^ rank m q M) (kernel_size m q M) (kernel_size m q M) ∙ ap₂ ◌+◌ ih ih ∙ sym (two-pow-succ q)
    go false e ih = ap₂ (λ r k. 2 ^ r * k) (add-one (rank m q M)) (kernel-kept m M q e)
        ∙ ap (λ p. p * kernel_size m q M) (two-pow-succ (rank m q M))
        ∙ add-mul (2 ^ rank m q M) (2 ^ rank m q M) (kernel_size m q M) ∙ ap₂ ◌+◌ ih ih ∙ sym (two-pow-succ q)

-- a larger kernel, a smaller rank
smaller : (a b k l p : ℕ) → 2 ^ a * k ≡ p → 2 ^ b * l ≡ p → 0 < p → k ≤ l → b ≤ a
smaller a b k l p e f pos h = go (lt-or-ge a b)
  where
    some-l : (l : ℕ) → 2 ^ b * l ≡ p → 0 < l
    some-l zero f = absurd (omega (arith, f, mul-zero (2 ^ b), pos))
    some-l (suc l) f = omega arith

    go : (a < b) ⊎ (b ≤ a) → b ≤ a
    go (inl less) = absurd (omega (
      arith,
      e,
      f,
      mul-le-mul_left (2 ^ a) h,
      mul-lt-mul_of_pos_right (pow-lt less) (some-l l f),
    ))
    go (inr le) = le

pub rank-by-kernels : (m n : ℕ) (M N : ℕ → Word) → kernel_size m n M ≤ kernel_size m n N → rank m n N ≤ rank m n M
rank-by-kernels m n M N h =
    smaller (rank m n M) (rank m n N) (kernel_size m n M) (kernel_size m n N) (2 ^ n) (rank-kernel m n M)
    (rank-kernel m n N) (pow_pos n) h
