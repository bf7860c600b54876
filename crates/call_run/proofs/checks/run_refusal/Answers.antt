-- `run_refusal` meets its contract: the number of the first line that holds.
use Rattle.operations.specs.Used.{used_record}
use Rattle.call_run.proofs.RunLines.{many-steps, record-decides}
use Rattle.call_run.proofs.checks.run_refusal.Goals as goal

pub returns-then-ops-gt4096 : goal.returns-then-ops-gt4096
returns-then-ops-gt4096 c =
    let a = c.args in
    many-steps (used_record a.n a.neighbours.now a.codes.now a.used) a.ops.now a.others c.if-ops-gt4096.true

pub returns : goal.returns
returns c =
    let a = c.args in
    record-decides (used_record a.n a.neighbours.now a.codes.now a.used) a.ops.now a.others _ c.reaches-six.ensures
    c.if-ops-gt4096.false c.used_refusal.ensures
