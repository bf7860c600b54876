-- `kept` meets its contract: the vertices without a Hadamard.
use mathlib.Core.Bool.{not}
use mathlib.Core.Path.{ap}
use Rattle.clifford.specs.Clifford.{bit_c}
use Rattle.clifford.specs.Vectors.{codes_of}
use Rattle.amplitude_impl.proofs.FoundWords.{found_none, found-one}
use Rattle.amplitude_impl.proofs.Loops.{found_word}
use Rattle.amplitude_impl.proofs.turns.kept.Goals as goal

pub loop-i-init : goal.loop-i-init
loop-i-init c = found_none _ _

pub loop-i-preserved : goal.loop-i-preserved
loop-i-preserved c =
    let codes = c.args.codes.now in
    found-one (λ q. not (bit_c (codes_of codes q))) _ _ _ _ _ c.loop-i-test.true c.loop-i.invariant
    (ap not c.c_bit.ensures) c.flip_where-all.ensures

pub returns : goal.returns
returns c =
    let codes = c.args.codes.now in
    found_word (λ q. not (bit_c (codes_of codes q))) _ _ _ c.loop-i-test.false c.loop-i.invariant
