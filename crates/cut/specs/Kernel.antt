-- The kernel of a bit matrix, and how many words it has.
use Rattle.std.specs.Prelude.{◌&&◌, Bool, not, ◌+◌, ◌^◌, ℕ}
use Rattle.words.specs.Bits.{Word, bit, digit, fold, parity}
use Rattle.words.specs.Search.{every}

-- how many numbers below the bound pass
abbrev pub count : ℕ → (ℕ → Bool) → ℕ
count b f = fold 0 ◌+◌ b (λ v. digit (f v))

-- the word chooses, of the first n columns of m rows, some that add to zero
unfoldable pub in_kernel : ℕ → ℕ → (ℕ → Word) → ℕ → Bool
in_kernel m n M v = every m (λ j. not (parity n (λ t. bit v t && M j t)))

-- the number of words on n places in the kernel
abbrev pub kernel_size : ℕ → ℕ → (ℕ → Word) → ℕ
kernel_size m n M = count (2 ^ n) (in_kernel m n M)
