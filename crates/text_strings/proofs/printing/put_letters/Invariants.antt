-- What the loops of `put_letters` keep.
use Rattle.pauli.specs.Pauli.{letter}
use Rattle.text.specs.Strings.{letter_byte}
use Rattle.words.specs.Bits.{bit}
use Rattle.text_strings.proofs.PrintLoops.{TablePut}
use Rattle.text_strings.proofs.printing.put_letters.Given as goal

abbrev pub invariant-loop-q : goal.invariant-loop-q
invariant-loop-q l = TablePut l.n (λ i. letter_byte (letter (bit l.z i) (bit l.x i))) l.at l.initial.out l.out l.q
