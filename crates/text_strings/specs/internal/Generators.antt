-- What only the contracts of inner functions name: the letters of a line, and the code's generator of a row.
use Rattle.std.specs.Prelude.{true, List, ◌≡◌, ◌*◌, ◌+◌, ◌-◌, ◌<◌, ◌^◌, suc, ℕ, get_or}
use Rattle.pauli.specs.Pauli.{Pauli, sign_bit, x_bit, z_bit}
use Rattle.pauli.specs.declared.Generator.{Generator}
use Rattle.text.specs.Reading.{byte_at, is_letter, letter_of, line_fits}
use Rattle.words.specs.Bits.{word_of}

-- the n bytes behind a place are letters
abbrev pub LettersFit : List ℕ → ℕ → ℕ → Type 0
LettersFit t from n = (q : ℕ) → q < n → is_letter (get_or t (from + suc q) 0) ≡ true

-- each of n lines fits
abbrev pub LinesFit : List ℕ → ℕ → Type 0
LinesFit t n = (j : ℕ) → j < n → line_fits n (byte_at n t j) ≡ true

-- two words of 32 bits in one, z below x
abbrev pub both_words : ℕ → ℕ → ℕ
both_words z x = x * 2 ^ 32 + z

-- the z and x bits of the letters from q to m - 1 behind a place, that of q lowest
abbrev pub letters_from : List ℕ → ℕ → ℕ → ℕ → ℕ
letters_from t from m q =
    both_words (word_of (m - q) (λ i. z_bit (letter_of (get_or t (from + suc (q + i)) 0))))
    (word_of (m - q) (λ i. x_bit (letter_of (get_or t (from + suc (q + i)) 0))))

-- a row as a sign and the words of its first n letters
abbrev pub generator_in : ℕ → Pauli → Generator
generator_in n p = record { minus = sign_bit p.phase; z = word_of n p.z; x = word_of n p.x }
