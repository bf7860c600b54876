-- `put_letters` meets its contract: the letters of the first n qubits.
use mathlib.Core.Path.{ap, ap₂, ◌∙◌}
use Rattle.pauli.specs.Pauli.{letter}
use Rattle.text.specs.Strings.{letter_byte}
use Rattle.text_strings.proofs.PrintLoops.{all-put, none-put, one-put}
use Rattle.text_strings.proofs.printing.put_letters.Goals as goal

pub loop-q-init : goal.loop-q-init
loop-q-init c = none-put _ _ _ _ c.requires.1

pub loop-q-preserved : goal.loop-q-preserved
loop-q-preserved c =
    let i = c.loop-q-test.true in
    one-put _ _ _ _ c.requires.1 c.loop-q.invariant i
    (c.letter_byte.ensures ∙ ap letter_byte (c.letter_of.ensures
    ∙ ap₂ letter c.has.ensures c.has-in-loop-q.ensures))

pub returns : goal.returns
returns c =
    all-put _ _ _ _ c.requires.1 c.loop-q.invariant c.loop-q-test.false
