-- `run_says` meets its contract.
use Rattle.claims.proofs.RunDemandHolds.{run-says}
use Rattle.sukhlent.proofs.ties.run.run_says.Goals as goal

pub returns : goal.returns
returns c =
    run-says _ _ _ _ _ _ _ _ _ c.sukhlent_run.ensures
