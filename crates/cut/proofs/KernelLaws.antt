-- The kernel of a bit matrix, column by column: a column that is a sum of earlier ones doubles it, any other keeps its
-- size.
use mathlib.Core.Bool.{◌&&◌, Bool, false, not, true}
use mathlib.Core.Logic.{◌↔◌}
use mathlib.Core.Path.{ap, ap₂, fun_ext, sym, ◌∙◌, ◌≡◌}
use Prim.Native.Nat.{◌+◌, ◌<◌, ◌^◌, suc, ℕ}
use native.Mathlib.Nat.{le_refl, lt_irrefl, one-mul, two-pow-succ}
use native.Mathlib.Omega.{arith}
use lib.Bits.{bit_xor, xor_shifted}
use lib.Dec.{eqb}
use borrow.Author.Tests.{not-true}
use Rattle.record.specs.Columns.{is_column_dependent}
use Rattle.words.proofs.BitLaws.{bit-above, bit-single, bit-xor}
use Rattle.words.proofs.Finite.{bits, ⊕-and, ⊕-self}
use Rattle.words.proofs.Flags.{same_bit-true, true-same_bit}
use Rattle.words.proofs.Places.{other_place, same_place}
use Rattle.words.proofs.SearchLaws.{every-at, every_in, some-false, some-true}
use Rattle.words.proofs.Sums.{fold-ext, parity-add}
use Rattle.words.specs.Bits.{Word, bit, fold, parity, same_bit, ◌⊕◌}
use Rattle.words.specs.Search.{IsFirst, every, first}
use Rattle.cut.proofs.Counting.{count_add, count-exchange, count-ext, count_none}
use Rattle.cut.specs.Kernel.{count, in_kernel, kernel_size}

-- the sum of the columns that a word chooses, in row j
abbrev pub sum_at : ℕ → (ℕ → Word) → Word → Word
sum_at n M w j = parity n (λ t. w t && M j t)

-- ---- the test
pub in-kernel : (m n : ℕ) (M : ℕ → Word) (v : ℕ) →
    (in_kernel m n M v ≡ true) ↔ ((j : ℕ) → j < m → parity n (λ t. bit v t && M j t) ≡ false)
unfolding in_kernel
in-kernel m n M v = (
  (λ e j l. not-true (sum_at n M (bit v) j) (every-at m _ e j l)),
  (λ h. every_in m _ (λ j l. ap not (h j l))),
)

-- two words add as numbers
pub xor-sum : (n : ℕ) (M : ℕ → Word) (v d j : ℕ)
    → sum_at n M (bit (bit_xor v d)) j ≡ sum_at n M (bit v) j ⊕ sum_at n M (bit d) j
xor-sum n M v d j =
    fold-ext false ◌⊕◌ n (λ t l. ap (λ b. b && M j t) (bit-xor v d t) ∙ ⊕-and (bit v t) (bit d t) (M j t))
    ∙ parity-add n _ _

-- ---- one column more
module _ (m : ℕ) (M : ℕ → Word) (q : ℕ) where
  -- the word names columns before q that add to column q
  abbrev is_sum : ℕ → Bool
  is_sum v = every m (λ j. same_bit (M j q) (sum_at q M (bit v) j))

  kernel-without : (v : ℕ) → v < 2 ^ q → in_kernel m (suc q) M v ≡ in_kernel m q M v
  unfolding in_kernel fold
  kernel-without v l = ap (every m) (fun_ext (λ j.
      ap (λ b. not (sum_at q M (bit v) j ⊕ (b && M j q))) (bit-above q v l q (le_refl q))
      ∙ none (sum_at q M (bit v) j)))
    where
      none : (a : Bool) → not (a ⊕ false) ≡ not a
      none = bits 1 (λ a. not (a ⊕ false)) (λ a. not a) tt

  kernel-with : (v : ℕ) → v < 2 ^ q → in_kernel m (suc q) M (2 ^ q + v) ≡ is_sum v
  unfolding in_kernel fold
  kernel-with v l = ap (every m) (fun_ext (λ j.
      ap₂ (λ a b. not (a ⊕ (b && M j q)))
      (fold-ext false ◌⊕◌ q (λ t k. ap (λ b. b && M j t) (set-bit t
      ∙ ap (λ b. b ⊕ bit v t) (other_place {i = t} {j = q} (λ e. lt_irrefl q (rw e at k))))))
      (set-bit q ∙ ap₂ ◌⊕◌ (same_place q) (bit-above q v l q (le_refl q)))
      ∙ equal (sum_at q M (bit v) j) (M j q)))
    where
      set-bit : (t : ℕ) → bit (2 ^ q + v) t ≡ eqb t q ⊕ bit v t
      set-bit t =
          ap (λ u. bit u t) (ap (λ p. p + v) (sym (one-mul (2 ^ q))) ∙ sym (xor_shifted 1 q v l)
          ∙ ap (λ p. bit_xor p v) (one-mul (2 ^ q)))
          ∙ bit-xor (2 ^ q) v t ∙ ap (λ b. b ⊕ bit v t) (bit-single q t)

      equal : (a b : Bool) → not (a ⊕ (true && b)) ≡ same_bit b a
      equal = bits 2 (λ a b. not (a ⊕ (true && b))) (λ a b. same_bit b a) tt

  kernel-split : kernel_size m (suc q) M ≡ kernel_size m q M + count (2 ^ q) is_sum
  kernel-split =
      ap (λ b. count b (in_kernel m (suc q) M)) (two-pow-succ q)
      ∙ count_add (2 ^ q) (2 ^ q) (in_kernel m (suc q) M)
      ∙ ap₂ ◌+◌ (count-ext (2 ^ q) _ _ kernel-without) (count-ext (2 ^ q) _ _ kernel-with)

  -- no word names column q
  sums_none : is_column_dependent m M q ≡ false → count (2 ^ q) is_sum ≡ 0
  unfolding is_column_dependent
  sums_none e = count_none (2 ^ q) is_sum (some-false (2 ^ q) is_sum e)

  -- one does: adding it exchanges the words that name column q and those of the kernel
  sums-kernel : is_column_dependent m M q ≡ true → count (2 ^ q) is_sum ≡ kernel_size m q M
  unfolding is_column_dependent
  sums-kernel e = count-exchange q d D.below is_sum (in_kernel m q M)
      (λ v k. (in-kernel m q M (bit_xor v d)).1 (λ j h. xor-sum q M v d j
      ∙ ap₂ ◌⊕◌ (sym (named v k j h)) (sym (named d D.passes j h)) ∙ ⊕-self (M j q)))
      (λ v k. every_in m _ (λ j h. same_bit-true (named d D.passes j h
      ∙ sym (xor-sum q M v d j ∙ ap (λ b. b ⊕ sum_at q M (bit d) j) ((in-kernel m q M v).0 k j h)))))
    where
      d : ℕ
      d = first (2 ^ q) is_sum

      D : IsFirst (2 ^ q) is_sum d
      D = some-true (2 ^ q) is_sum e

      named : (v : ℕ) → is_sum v ≡ true → (j : ℕ) → j < m → M j q ≡ sum_at q M (bit v) j
      named v k j h = true-same_bit (M j q) (sum_at q M (bit v) j) (every-at m _ k j h)

  pub kernel-kept : is_column_dependent m M q ≡ false → kernel_size m (suc q) M ≡ kernel_size m q M
  kernel-kept e = omega (arith, kernel-split, sums_none e)

  pub kernel-doubled : is_column_dependent m M q ≡ true → kernel_size m (suc q) M ≡ kernel_size m q M + kernel_size m q M
  kernel-doubled e = omega (arith, kernel-split, sums-kernel e)
