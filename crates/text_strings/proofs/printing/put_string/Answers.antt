-- `put_string` meets its contract: the line of a row.
use native.Mathlib.Omega.{arith}
use Rattle.buffers.proofs.Tabulate.{tabulate-length}
use Rattle.pauli.specs.Pauli.{letter}
use Rattle.text.specs.Strings.{letter_byte}
use Rattle.words.specs.Bits.{bit, is_odd}
use Rattle.text_strings.proofs.PrintLoops.{line-put}
use Rattle.text_strings.proofs.printing.put_string.Goals as goal

pub put-requires : goal.put-requires
put-requires c =
    omega (
      arith,
      c.requires.1,
      c.put-letters.ensures.end,
      c.put-letters.auto,
      c.put_letters-end.ensures.end,
      c.put_letters-end.auto,
      tabulate-length c.args.n (λ q. letter_byte (letter (bit c.args.z q) (bit c.args.x q))),
    )

pub returns : goal.returns
returns c =
    line-put c.args.n (is_odd c.args.sign) c.args.z c.args.x c.args.at c.args.out.now
    c.requires.1 c.sign_byte.ensures c.put-letters.ensures c.put_letters-end.ensures c.put.ensures
