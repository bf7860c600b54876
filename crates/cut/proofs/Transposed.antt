-- A square matrix and its transpose have one rank: the pairs of a row word and a column word that meet evenly are
-- counted twice.
use mathlib.Core.Bool.{◌&&◌, Bool, and-false, false, not}
use mathlib.Core.Path.{ap, ap₂, sym, ◌∙◌, ◌≡◌}
use Prim.Native.Nat.{◌*◌, ◌+◌, ◌^◌, suc, zero, ℕ}
use native.Mathlib.Nat.{add_comm, add-mul, eq_of_mul-eq-mul_left, le_antisymm, le_of_eq, zero-mul}
use native.Mathlib.Omega.{arith}
use lib.Pow.{pow_pos}
use Rattle.cut.proofs.Counting.{sums}
use Rattle.words.proofs.Finite.{and-exchange, and-⊕, ⊕-comm}
use Rattle.words.proofs.Sums.{bit_monoid, fold-ext, fold-hom, fold-mul, fold-swap}
use Rattle.words.specs.Bits.{Word, bit, digit, fold, parity, ◌⊕◌}
use Rattle.cut.proofs.EvenWords.{evens, evens-twice}
use Rattle.cut.proofs.KernelLaws.{sum_at}
use Rattle.cut.proofs.RankLaws.{rank-by-kernels}
use Rattle.cut.specs.Kernel.{in_kernel, kernel_size}
use Rattle.cut.specs.Rank.{rank}

-- ---- sums of numbers
abbrev sum : ℕ → (ℕ → ℕ) → ℕ
sum = fold 0 ◌+◌

sum-constant : (b c : ℕ) → sum b (λ v. c) ≡ b * c
unfolding fold
sum-constant zero c = sym (zero-mul c)
sum-constant (suc b) c = omega (arith, sum-constant b c)

sum-times : (b c : ℕ) (f : ℕ → ℕ) → sum b (λ v. f v * c) ≡ sum b f * c
sum-times b c f = sym (fold-hom 0 ◌+◌ 0 ◌+◌ (λ x. x * c) (zero-mul c) (λ x y. add-mul x y c) b f)

-- ---- pairs of a row word and a column word that meet in an even number of ones
module _ (n : ℕ) where
  pairs : (ℕ → Word) → ℕ
  pairs M = sum (2 ^ n) (λ v. evens n (sum_at n M (bit v)))

  pairs-kernel : (M : ℕ → Word) → pairs M + pairs M ≡ 2 ^ n * 2 ^ n + kernel_size n n M * 2 ^ n
  unfolding pairs in_kernel
  pairs-kernel M =
      sym (fold-mul 0 ◌+◌ sums add_comm (2 ^ n) _ _)
      ∙ fold-ext 0 ◌+◌ (2 ^ n) (λ v l. evens-twice n (sum_at n M (bit v)))
      ∙ fold-mul 0 ◌+◌ sums add_comm (2 ^ n) _ _
      ∙ ap₂ ◌+◌ (sum-constant (2 ^ n) (2 ^ n)) (sum-times (2 ^ n) (2 ^ n) (λ v. digit (in_kernel n n M v)))

  -- rows first or columns first
  exchange : (M : ℕ → Word) (u v : Word)
      → parity n (λ j. u j && sum_at n M v j) ≡ parity n (λ t. v t && sum_at n (λ t j. M j t) u t)
  exchange M u v =
      fold-ext false ◌⊕◌ n (λ j l. within (u j) (λ t. v t && M j t))
      ∙ fold-swap false ◌⊕◌ bit_monoid ⊕-comm n n (λ j t. u j && (v t && M j t))
      ∙ fold-ext false ◌⊕◌ n (λ t l. fold-ext false ◌⊕◌ n (λ j k. and-exchange (u j) (v t) (M j t))
      ∙ sym (within (v t) (λ j. u j && M j t)))
    where
      within : (a : Bool) (f : Word) → (a && parity n f) ≡ parity n (λ t. a && f t)
      within a f = fold-hom false ◌⊕◌ false ◌⊕◌ (λ b. a && b) (and-false a) (and-⊕ a) n f

  pairs-transposed : (M : ℕ → Word) → pairs M ≡ pairs (λ j t. M t j)
  unfolding pairs
  pairs-transposed M =
      fold-swap 0 ◌+◌ sums add_comm (2 ^ n) (2 ^ n) _
      ∙ fold-ext 0 ◌+◌ (2 ^ n) (λ u k. fold-ext 0 ◌+◌ (2 ^ n) (λ v l. ap (λ b. digit (not b))
      (exchange M (bit u) (bit v))))

  kernel-transposed : (M : ℕ → Word) → kernel_size n n M ≡ kernel_size n n (λ j t. M t j)
  kernel-transposed M = eq_of_mul-eq-mul_left (2 ^ n) (pow_pos n) _ _
      (omega (arith, pairs-kernel M, pairs-kernel (λ j t. M t j), pairs-transposed M))

  pub rank-transposed : (M : ℕ → Word) → rank n n M ≡ rank n n (λ j t. M t j)
  rank-transposed M = le_antisymm
      (rank-by-kernels n n (λ j t. M t j) M (le_of_eq (sym (kernel-transposed M))))
      (rank-by-kernels n n M (λ j t. M t j) (le_of_eq (kernel-transposed M)))
