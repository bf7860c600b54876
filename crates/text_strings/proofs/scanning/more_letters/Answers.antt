-- `more_letters` meets its contract: words with one more letter at their low ends.
use native.Mathlib.Omega.{arith}
use Rattle.pauli.specs.Pauli.{x_bit, z_bit}
use Rattle.text.specs.Reading.{letter_of}
use Rattle.words.proofs.BitLaws.{digit_lt}
use Rattle.text_strings.proofs.scanning.more_letters.Goals as goal

pub overflow_add-result : goal.overflow_add-result
overflow_add-result c =
    record {
      fits = omega (
        arith,
        c.requires.1,
        c.letter_bits.ensures,
        digit_lt (z_bit (letter_of c.args.b)),
        digit_lt (x_bit (letter_of c.args.b)),
      );
    }
