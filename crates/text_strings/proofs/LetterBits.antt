-- The bits of a letter, from the word that is shifted by its byte.
use mathlib.Core.Bool.{true, ◌||◌}
use mathlib.Core.Logic.{inl, inr}
use mathlib.Core.Path.{refl, subst, sym, ◌≡◌}
use Prim.Native.Nat.{◌%◌, ◌/◌, ◌^◌, ℕ}
use lib.Bits.{bit_and}
use lib.Dec.{eqb}
use borrow.Author.Tests.{eqb-true}
use Rattle.pauli.specs.Pauli.{x_bit, z_bit}
use Rattle.text.specs.Reading.{is_letter, letter_of}
use Rattle.words.proofs.Flags.{either}
use Rattle.words.specs.Bits.{digit}
use Rattle.text_strings.specs.internal.Generators.{both_words}

-- what holds of the four letters holds of each byte that passes
by-letter : (P : ℕ → Type 0) → P 73 → P 88 → P 89 → P 90 → (b : ℕ) → is_letter b ≡ true → P b
by-letter P i x y z b h = elim (either (eqb b 73 || eqb b 88) (eqb b 89 || eqb b 90) h) [
  | inl e ↦ elim (either (eqb b 73) (eqb b 88) e) [
    | inl d ↦ subst P (sym (eqb-true b 73 d)) i
    | inr d ↦ subst P (sym (eqb-true b 88 d)) x
  ]
  | inr e ↦ elim (either (eqb b 89) (eqb b 90) e) [
    | inl d ↦ subst P (sym (eqb-true b 89 d)) y
    | inr d ↦ subst P (sym (eqb-true b 90 d)) z
  ]
]

pub letter-shifted : (b : ℕ) → is_letter b ≡ true →
    bit_and (216172782214447104 / 2 ^ (b % 64)) 4294967297
    ≡ both_words (digit (z_bit (letter_of b))) (digit (x_bit (letter_of b)))
letter-shifted =
    by-letter (λ b. bit_and (216172782214447104 / 2 ^ (b % 64)) 4294967297
    ≡ both_words (digit (z_bit (letter_of b))) (digit (x_bit (letter_of b))))
    refl refl refl refl
