-- `letter_bits` meets its contract: the z bit of a letter at place 0, its x bit at place 32.
use Rattle.text_strings.proofs.LetterBits.{letter-shifted}
use Rattle.text_strings.proofs.scanning.letter_bits.Goals as goal

pub returns : goal.returns
returns c = letter-shifted c.args.b c.requires
