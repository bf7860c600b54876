-- What an accepted call leaves of a record that no line refuses, none refuses.
use mathlib.Core.Path.{◌≡◌}
use Rattle.buffers.specs.Refusals.{first_fitting}
use Rattle.operations.proofs.LeftRecords.{used-left}
use Rattle.operations.specs.Steps.{measurement_of}
use Rattle.operations.specs.Used.{UsedRecord, UsedUnrefused}
use Rattle.source.proofs.Observed.{answered, observed-accepted}
use Rattle.source.proofs.RenewedRecords.{renew-passes, renewed-passes}
use Rattle.jobs.specs.Asked.{Request, carry_out, observation_of, renewal_of, request_lines}
use Rattle.jobs.specs.Runs.{request_leaves}

pub request-left : (u : UsedRecord) (r : Request) → first_fitting (request_lines u r) ≡ 0 → UsedUnrefused
    (request_leaves u r)
request-left u (carry_out o) z = record { no_line = (used-left u o z).passes }
request-left u (observation_of pauli q b) z =
    record {
      no_line = (used-left u (measurement_of pauli q (answered u pauli q b))
          (observed-accepted u pauli q b z)).passes;
    }
request-left u (renewal_of q k) z = record { no_line = renewed-passes u q k (renew-passes u q k z) }
