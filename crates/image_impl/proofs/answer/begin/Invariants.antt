-- What the loops of `begin` keep.
use Rattle.clifford.specs.Clifford.{bit_c, bit_d}
use Rattle.image_impl.proofs.CodeBits.{BitsBelow}
use Rattle.image_impl.proofs.answer.begin.Given as goal

abbrev pub invariant-loop-q : goal.invariant-loop-q
invariant-loop-q l = BitsBelow l.codes bit_c l.c l.q × BitsBelow l.codes bit_d l.d l.q
