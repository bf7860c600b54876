-- `run_numbers`: after k of the steps, in blocks.
use Prim.Native.Nat.{◌-◌}
use Rattle.jobs.specs.Parallel.{steps_in}
use Rattle.call_run.specs.internal.LentRuns.{ReadyAt}
use Rattle.operations.specs.Used.{used_record}
use Rattle.call_run.proofs.Blocks.{RunTo}
use Rattle.call_run.proofs.numbers.run_numbers.Given as goal

abbrev pub invariant-loop-k : goal.invariant-loop-k
invariant-loop-k l = record {
  ran : RunTo (used_record l.n l.fn.neighbours l.fn.codes l.used) (steps_in l.ops l.a l.b l.value) l.count l.k
      l.fn.answers l.neighbours l.codes l.word l.answers;
  ready : ReadyAt l.k l.answers (used_record l.n l.neighbours l.codes l.word);
}

abbrev pub decreases-loop-k : goal.decreases-loop-k
decreases-loop-k l = l.count - l.k
