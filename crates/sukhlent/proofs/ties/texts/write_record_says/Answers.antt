-- `write_record_says` meets its contract.
use Rattle.claims.proofs.RecordTextsHold.{write-record-says}
use Rattle.sukhlent.proofs.ties.texts.write_record_says.Goals as goal

pub returns : goal.returns
returns c = write-record-says _ _ _ _ _ _ c.sukhlent_write_record.ensures
