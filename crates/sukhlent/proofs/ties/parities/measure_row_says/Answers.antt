-- `measure_row_says` meets its contract.
use Rattle.claims_parity.proofs.ParitiesHold.{measure-row-says}
use Rattle.sukhlent.proofs.ties.parities.measure_row_says.Goals as goal

pub returns : goal.returns
returns c = measure-row-says _ _ _ _ _ _ _ _ _ _ _ c.sukhlent_measure_row.ensures
