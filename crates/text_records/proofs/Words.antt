-- A word read digit by digit.
use mathlib.Core.Path.{ap, sym, ◌∙◌, ◌≡◌}
use Prim.Native.Nat.{◌%◌, ◌+◌, ◌<◌, ℕ}
use native.Mathlib.Nat.{lt_of_lt_of_le, pow-le-pow_right}
use native.Mathlib.Numerals.{add-one}
use native.Mathlib.Omega.{arith}
use lib.Dec.{lit<}
use Rattle.text.proofs.DigitLaws.{push-exact}
use Rattle.text.proofs.RecordReading.{hex-below}
use Rattle.text.specs.RecordTexts.{hex_of}
use Rattle.text.specs.Text.{hex_value}
use Rattle.text.specs.internal.Scan.{push}

-- one digit more
pub word_more : (byte : ℕ → ℕ) (k : ℕ) → k < 16 → push (hex_of k byte) (hex_value (byte k) % 16) ≡ hex_of (k + 1) byte
unfolding hex_of
word_more byte k inside =
    push-exact (hex_of k byte) (hex_value (byte k) % 16)
    (lt_of_lt_of_le (hex-below k byte) (pow-le-pow_right {n = 16} (lit< tt) {i = k} {j = 15} (omega arith)))
    ∙ ap (λ j. hex_of j byte) (sym (add-one k))
