-- `put_party` meets its contract: the party's vertices of a copy put into the record.
use Rattle.parties_impl.proofs.Copies.{put_back}
use Rattle.parties_impl.proofs.records.put_party.Goals as goal

pub returns : goal.returns
returns c =
    let a = c.args in
    put_back a.word a.party a.words.now a.bytes.now a.neighbours.now a.codes.now
    c.own_word-own.ensures c.merge.ensures.0 c.merge.ensures.1
