-- `compare_records_says` meets its contract.
use Rattle.claims.proofs.RecordPairsHold.{compare-records-says}
use Rattle.sukhlent.proofs.ties.comparisons.compare_records_says.Goals as goal

pub returns : goal.returns
returns c = compare-records-says _ _ _ _ _ _ _ _ _ c.sukhlent_compare_records.ensures
