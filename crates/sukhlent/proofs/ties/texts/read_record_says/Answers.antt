-- `read_record_says` meets its contract.
use Rattle.claims.proofs.RecordTextsHold.{read-record-says}
use Rattle.sukhlent.proofs.ties.texts.read_record_says.Goals as goal

pub returns : goal.returns
returns c = read-record-says _ _ _ _ _ _ _ _ _ _ c.sukhlent_read_record.ensures
