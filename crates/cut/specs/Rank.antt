-- The rank of a bit matrix, modulo 2.
use Rattle.std.specs.Prelude.{not, ◌+◌, ℕ}
use Rattle.record.specs.Columns.{is_column_dependent}
use Rattle.words.specs.Bits.{Word, digit, fold}

-- how many of the first n columns are no sum modulo 2 of earlier columns; the matrix has m rows
abbrev pub rank : ℕ → ℕ → (ℕ → Word) → ℕ
rank m n M = fold 0 ◌+◌ n (λ q. digit (not (is_column_dependent m M q)))
