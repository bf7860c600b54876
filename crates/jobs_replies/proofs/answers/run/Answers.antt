-- `run` meets its contract: the steps, lent to the runner; then the record that is meant.
use mathlib.Core.Path.{refl}
use native.Mathlib.Omega.{arith}
use Rattle.call_run.proofs.LastRecord.{first-ready, last-ready, last-settled}
use Rattle.operations.specs.Used.{UsedRecord, used_record}
use Rattle.jobs_replies.proofs.answers.run.Goals as goal

pub run_lent-used-requires : goal.run_lent-used-requires
run_lent-used-requires c =
    let a = c.args in
    (omega (arith, c.requires.0), first-ready _ (used_record a.n a.neighbours.now a.codes.now 0) c.requires.1)

pub settle_last-requires : goal.settle_last-requires
settle_last-requires c =
    let a = c.args in
    let u : UsedRecord = used_record a.n a.neighbours.now a.codes.now 0 in (
      omega (arith, c.requires.0, c.run_lent-used.auto.answers),
      last-ready u _ _ refl _ _ _ _ _ c.run_lent-used.ensures (first-ready _ u c.requires.1),
    )

pub returns : goal.returns
returns c =
    let a = c.args in
    last-settled (used_record a.n a.neighbours.now a.codes.now 0) _ _ refl _ _ _ _ _ c.run_lent-used.ensures _ _
    c.settle_last.ensures
