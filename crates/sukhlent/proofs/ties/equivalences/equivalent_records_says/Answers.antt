-- `equivalent_records_says` meets its contract.
use Rattle.claims.proofs.RecordsHold.{equivalent-records-says}
use Rattle.sukhlent.proofs.ties.equivalences.equivalent_records_says.Goals as goal

pub returns : goal.returns
returns c = equivalent-records-says _ _ _ _ _ _ _ _ _ c.sukhlent_equivalent_records.ensures
