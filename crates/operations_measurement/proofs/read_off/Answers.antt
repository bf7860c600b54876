-- `read_off` meets its contract: a Pauli is determined where its qubit has no neighbours and the code there sends X to
-- it.
use Rattle.operations.proofs.UnrefusedRecords.{unrefused-codes, unrefused-place}
use Rattle.operations_measurement.proofs.ReadingOff.{read-by-calls}
use Rattle.operations_measurement.proofs.read_off.Goals as goal

pub bounds-codes-q : goal.bounds-codes-q
bounds-codes-q c = unrefused-place _ _ c.requires.unrefused.0 _ c.requires.unrefused.1

pub image-own-requires : goal.image-own-requires
image-own-requires c = (unrefused-codes _ _ c.requires.unrefused.0).1 _

pub returns : goal.returns
returns c =
    let own = c.image-own in
    read-by-calls _ _ c.requires.unrefused.0 _ c.requires.unrefused.1 _ c.requires.le_pauli.0 own.result.minus
    own.ensures.letter_value own.ensures.minus_value c.letter_named.ensures c.eq.ensures
