-- `run` meets its contract: steps on a record in place, one after the other.
use mathlib.Core.Path.{◌∙◌, refl, sym}
use native.Mathlib.Nat.{le_of_eq, le_refl}
use Rattle.buffers.proofs.RefusalLaws.{passed_on}
use Rattle.operations.specs.Used.{used_record}
use Rattle.call_run.proofs.RunAnswers.{run-accepted, run-ready, run-refused}
use Rattle.call_run.proofs.run.Goals as goal

pub returns-in_err-run_refusal : goal.returns-in_err-run_refusal
returns-in_err-run_refusal c =
    let a = c.args in
    let R = passed_on _ _ c.from_residual.ensures.1 c.in_err-run_refusal.ensures in
    run-refused (used_record a.n a.neighbours.now a.codes.now a.used.now) (record {
      ops = a.ops.now;
      a = a.a.now;
      b = a.b.now;
      value = a.value.now;
      refusals = a.refusals.now;
      outcomes = a.outcomes.now;
      determined = a.determined.now;
    }) _ _ c.one_other_than-asked.ensures c.one_other_than-answered.ensures _ R.0 R.1

pub run_numbers-next-requires : goal.run_numbers-next-requires
run_numbers-next-requires c =
    let a = c.args in
    let R = run-ready (used_record a.n a.neighbours.now a.codes.now a.used.now) (record {
      ops = a.ops.now;
      a = a.a.now;
      b = a.b.now;
      value = a.value.now;
      refusals = a.refusals.now;
      outcomes = a.outcomes.now;
      determined = a.determined.now;
    }) _ _ c.one_other_than-asked.ensures c.one_other_than-answered.ensures _ c.in_ok-run_refusal.ensures refl in
    (le_refl _, le_of_eq (sym R.refusals), R.asked, R.held)

pub unpack-requires : goal.unpack-requires
unpack-requires c =
    let a = c.args in
    let R = run-ready (used_record a.n a.neighbours.now a.codes.now a.used.now) (record {
      ops = a.ops.now;
      a = a.a.now;
      b = a.b.now;
      value = a.value.now;
      refusals = a.refusals.now;
      outcomes = a.outcomes.now;
      determined = a.determined.now;
    }) _ _ c.one_other_than-asked.ensures c.one_other_than-answered.ensures _ c.in_ok-run_refusal.ensures refl in
    let long = sym (c.run_numbers-next.auto.answers ∙ R.refusals) in
    (R.outcomes ∙ long, R.determined ∙ long)

pub returns : goal.returns
returns c =
    let a = c.args in
    run-accepted (used_record a.n a.neighbours.now a.codes.now a.used.now) (record {
      ops = a.ops.now;
      a = a.a.now;
      b = a.b.now;
      value = a.value.now;
      refusals = a.refusals.now;
      outcomes = a.outcomes.now;
      determined = a.determined.now;
    }) _ _ c.one_other_than-asked.ensures c.one_other_than-answered.ensures _ c.in_ok-run_refusal.ensures refl
    _ _ _ _ _ _ _ c.run_numbers-next.ensures c.run_numbers-next.auto.answers
    c.unpack.ensures.0 c.unpack.ensures.1 c.unpack.ensures.2
