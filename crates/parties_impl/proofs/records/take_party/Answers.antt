-- `take_party` meets its contract: a copy of the party's vertices, the others alone in +Z.
use Rattle.parties_impl.proofs.Copies.{taken}
use Rattle.parties_impl.proofs.records.take_party.Goals as goal

pub returns : goal.returns
returns c =
    let a = c.args in
    taken a.word a.party a.neighbours.now a.codes.now a.used c.own_word-own.ensures
    c.mask.ensures.0 c.mask.ensures.1 c.mask_used.ensures
