-- `odd_letter` meets its contract: the letter of an upper half that a lower half has no place for.
use mathlib.Core.Path.{refl}
use native.Mathlib.Omega.{arith}
use Rattle.text_strings.proofs.RowLoops.{even-read, letter-fit, odd-read}
use Rattle.text_strings.proofs.scanning.odd_letter.Goals as goal

pub letter_bits-requires : goal.letter_bits-requires
letter_bits-requires c =
    letter-fit c.args.text.now c.args.from c.args.n (omega (arith, c.if-n-eq1.true)) c.args.n
    c.requires.1
    (omega arith) refl

pub returns-then-n-eq1 : goal.returns-then-n-eq1
returns-then-n-eq1 c =
    odd-read c.args.text.now c.args.from c.args.n c.if-n-eq1.true c.letter_bits.ensures

pub returns-else-n-eq1 : goal.returns-else-n-eq1
returns-else-n-eq1 c =
    even-read c.args.text.now c.args.from c.args.n c.if-n-eq1.false
