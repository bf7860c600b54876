-- Bit matrices, one word a row: whether a column is a sum modulo 2 of the columns before it.
use Rattle.std.specs.Prelude.{◌&&◌, Bool, ◌≡◌, ◌<◌, ◌^◌, ℕ}
use Rattle.words.specs.Bits.{Word, bit, parity, same_bit}
use Rattle.words.specs.Search.{every, some}

-- column q of the first m rows is the sum of the earlier columns that a word names
abbrev pub ColumnDependent : ℕ → (ℕ → Word) → ℕ → Type 0
ColumnDependent m M q = (v : Word) × ((j : ℕ) → j < m → M j q ≡ parity q (λ t. v t && M j t))

-- the same as a test, by search over the words
unfoldable pub is_column_dependent : ℕ → (ℕ → Word) → ℕ → Bool
is_column_dependent m M q = some (2 ^ q) (λ v. every m (λ j. same_bit (M j q) (parity q (λ t. bit v t && M j t))))
