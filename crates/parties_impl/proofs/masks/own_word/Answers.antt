-- `own_word` meets its contract: the word of the qubits of a party.
use mathlib.Core.Path.{◌∙◌}
use borrow.Author.Tests.{eq-eqb, ne_eqb}
use Rattle.parties_impl.proofs.OwnWords.{party-one, party-other}
use Rattle.parties_impl.proofs.masks.own_word.Goals as goal

pub returns-then-party-eq1 : goal.returns-then-party-eq1
returns-then-party-eq1 c =
    party-one c.args.word c.args.party c.ranges.word.fits (eq-eqb _ 1 c.if-party-eq1.true)

pub returns-else-party-eq1 : goal.returns-else-party-eq1
returns-else-party-eq1 c =
    c.others.ensures ∙ party-other c.args.word c.args.party (ne_eqb _ 1 c.if-party-eq1.false)
