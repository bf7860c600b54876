-- `run_step` meets its contract: one step on a record that no line refuses.
use mathlib.Core.Path.{subst, sym}
use native.Mathlib.Omega.{arith}
use Rattle.jobs.specs.declared.Answer.{Answer}
use Rattle.operations.specs.Used.{used_record}
use Rattle.call_run.specs.internal.StepRuns.{WaitedStep}
use Rattle.call_run.proofs.Running.{gate-small, lot-small, photon-small, value-small, wrong-by}
use Rattle.call_run.proofs.WaitedSteps.{complement-waited, cz-waited, gate-waited, pivot-waited}
use Rattle.call_run.proofs.WaitedSteps.{measured-waited, observed-waited, plain-waited, renewed-waited, wrong-waited}
use Rattle.call_run.proofs.steps.run_step.Goals as goal

pub returns-then-unused_set-wrong_value : goal.returns-then-unused_set-wrong_value
returns-then-unused_set-wrong_value c =
    let a = c.args in
    let u = used_record a.n a.neighbours.now a.codes.now a.used.now in
    subst (λ (r : Answer). WaitedStep a.waiting u a.s r a.neighbours.now a.codes.now a.used.now) (sym c.refused.ensures)
    (wrong-waited a.waiting u c.requires a.s
    (wrong-by u a.s c.unused_set.ensures c.wrong_value.ensures c.if-unused_set-wrong_value.true))

pub measure_value-requires : goal.measure_value-requires
measure_value-requires c =
    let a = c.args in
    let u = used_record a.n a.neighbours.now a.codes.now a.used.now in
    let right = wrong-by u a.s c.unused_set.ensures c.wrong_value.ensures c.if-unused_set-wrong_value.false in
    record { value_bound = value-small u a.s right c.in-Measure.is; standing = c.requires }

pub returns-in-Measure : goal.returns-in-Measure
returns-in-Measure c =
    let a = c.args in
    let u = used_record a.n a.neighbours.now a.codes.now a.used.now in
    let right = wrong-by u a.s c.unused_set.ensures c.wrong_value.ensures c.if-unused_set-wrong_value.false in
    measured-waited a.waiting u c.requires a.s right c.in-Measure.is _ _ _ _ c.measure_value.ensures

pub observe_value-requires : goal.observe_value-requires
observe_value-requires c =
    let a = c.args in
    let u = used_record a.n a.neighbours.now a.codes.now a.used.now in
    let right = wrong-by u a.s c.unused_set.ensures c.wrong_value.ensures c.if-unused_set-wrong_value.false in
    record { value_bound = lot-small u a.s right c.in-Observe.is; standing = c.requires }

pub returns-in-Observe : goal.returns-in-Observe
returns-in-Observe c =
    let a = c.args in
    let u = used_record a.n a.neighbours.now a.codes.now a.used.now in
    let right = wrong-by u a.s c.unused_set.ensures c.wrong_value.ensures c.if-unused_set-wrong_value.false in
    observed-waited a.waiting u c.requires a.s right c.in-Observe.is _ _ _ _ c.observe_value.ensures

pub renew_value-requires : goal.renew_value-requires
renew_value-requires c =
    let a = c.args in
    let u = used_record a.n a.neighbours.now a.codes.now a.used.now in
    let right = wrong-by u a.s c.unused_set.ensures c.wrong_value.ensures c.if-unused_set-wrong_value.false in
    record { value_bound = photon-small u a.s right c.in-Renew.is; standing = c.requires }

pub returns-in-Renew : goal.returns-in-Renew
returns-in-Renew c =
    let a = c.args in
    let u = used_record a.n a.neighbours.now a.codes.now a.used.now in
    let right = wrong-by u a.s c.unused_set.ensures c.wrong_value.ensures c.if-unused_set-wrong_value.false in
    let R = c.renew_value.ensures in
    renewed-waited a.waiting u c.requires a.s right c.in-Renew.is _ _ _ _ R.0 R.1

pub overflow_cast-value : goal.overflow_cast-value
overflow_cast-value c =
    let a = c.args in
    let u = used_record a.n a.neighbours.now a.codes.now a.used.now in
    let right = wrong-by u a.s c.unused_set.ensures c.wrong_value.ensures c.if-unused_set-wrong_value.false in
    omega (arith, gate-small u a.s right c.in-Gate.is)

pub returns-in-Gate : goal.returns-in-Gate
returns-in-Gate c =
    let a = c.args in
    let u = used_record a.n a.neighbours.now a.codes.now a.used.now in
    let right = wrong-by u a.s c.unused_set.ensures c.wrong_value.ensures c.if-unused_set-wrong_value.false in
    subst (λ (r : Answer). WaitedStep a.waiting u a.s r c.args.neighbours.now c.gate_waiting.new.codes a.used.now)
    (sym c.plain.ensures) (plain-waited a.waiting u c.requires a.s right _ _ _
    (gate-waited a.waiting u c.requires a.s.a a.s.b a.s.value c.in-Gate.is _ _ _ c.gate_waiting.ensures))

pub returns-in-Cz : goal.returns-in-Cz
returns-in-Cz c =
    let a = c.args in
    let u = used_record a.n a.neighbours.now a.codes.now a.used.now in
    let right = wrong-by u a.s c.unused_set.ensures c.wrong_value.ensures c.if-unused_set-wrong_value.false in
    subst (λ (r : Answer). WaitedStep a.waiting u a.s r
    c.cz_waiting.new.neighbours c.cz_waiting.new.codes a.used.now)
    (sym c.plain-in-Cz.ensures) (plain-waited a.waiting u c.requires a.s right _ _ _
    (cz-waited a.waiting u c.requires a.s.a a.s.b a.s.value c.in-Cz.is _ _ _ c.cz_waiting.ensures))

pub returns-in-Complement : goal.returns-in-Complement
returns-in-Complement c =
    let a = c.args in
    let u = used_record a.n a.neighbours.now a.codes.now a.used.now in
    let right = wrong-by u a.s c.unused_set.ensures c.wrong_value.ensures c.if-unused_set-wrong_value.false in
    subst (λ (r : Answer). WaitedStep a.waiting u a.s r
    c.complement_waiting.new.neighbours c.complement_waiting.new.codes a.used.now)
    (sym c.plain-in-Complement.ensures) (plain-waited a.waiting u c.requires a.s right _ _ _
    (complement-waited a.waiting u c.requires a.s.a a.s.b a.s.value c.in-Complement.is _ _ _
    c.complement_waiting.ensures))

pub returns-in-Pivot : goal.returns-in-Pivot
returns-in-Pivot c =
    let a = c.args in
    let u = used_record a.n a.neighbours.now a.codes.now a.used.now in
    let right = wrong-by u a.s c.unused_set.ensures c.wrong_value.ensures c.if-unused_set-wrong_value.false in
    subst (λ (r : Answer). WaitedStep a.waiting u a.s r
    c.pivot_waiting.new.neighbours c.pivot_waiting.new.codes a.used.now)
    (sym c.plain-in-Pivot.ensures) (plain-waited a.waiting u c.requires a.s right _ _ _
    (pivot-waited a.waiting u c.requires a.s.a a.s.b a.s.value c.in-Pivot.is _ _ _ c.pivot_waiting.ensures))
