-- `transpose` meets its contract: transposes the first n rows and columns.
use Rattle.words.proofs.RoundTests.{fits1, fits16, fits2, fits32, fits4, fits8}
use Rattle.words.proofs.RoundTests.{round1, round16, round2, round32, round4, round8, size_below}
use Rattle.words.proofs.Rounds.{six-rounds}
use Rattle.words.proofs.transposition.transpose.Goals as goal

pub exchange-requires : goal.exchange-requires
exchange-requires c = let size = c.size_for-m.ensures.1 in record { rows_len = (c.requires.0, size_below size); round = (round32, fits32 size) }

pub exchange-requires-2 : goal.exchange-requires-2
exchange-requires-2 c = let size = c.size_for-m.ensures.1 in record { rows_len = (c.exchange.ensures.long, size_below size); round = (round16, fits16 size) }

pub exchange-requires-3 : goal.exchange-requires-3
exchange-requires-3 c = let size = c.size_for-m.ensures.1 in record { rows_len = (c.exchange-2.ensures.long, size_below size); round = (round8, fits8 size) }

pub exchange-requires-4 : goal.exchange-requires-4
exchange-requires-4 c = let size = c.size_for-m.ensures.1 in record { rows_len = (c.exchange-3.ensures.long, size_below size); round = (round4, fits4 size) }

pub exchange-requires-5 : goal.exchange-requires-5
exchange-requires-5 c = let size = c.size_for-m.ensures.1 in record { rows_len = (c.exchange-4.ensures.long, size_below size); round = (round2, fits2 size) }

pub exchange-requires-6 : goal.exchange-requires-6
exchange-requires-6 c = let size = c.size_for-m.ensures.1 in record { rows_len = (c.exchange-5.ensures.long, size_below size); round = (round1, fits1 size) }

pub returns : goal.returns
returns c =
    let at5 = c.before.before in
    let at4 = at5.before.before in
    let at3 = at4.before.before in
    let at2 = at3.before.before in
    let at1 = at2.before.before in
    let size = at1.size_for-m.ensures in
    six-rounds _ _ size.0 (size_below size.1) _ _ _ _ _ _ _ at1.exchange.ensures at2.exchange-2.ensures
    at3.exchange-3.ensures at4.exchange-4.ensures at5.exchange-5.ensures c.exchange-6.ensures
