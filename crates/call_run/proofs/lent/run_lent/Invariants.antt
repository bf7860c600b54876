-- `run_lent`: after k of the steps.
use Rattle.std.proofs.Common.{length, ◌≤◌, take}
use Rattle.call_run.specs.internal.LentRuns.{WaitingRun}
use Rattle.operations.specs.Used.{used_record}
use Rattle.call_run.proofs.lent.run_lent.Given as goal

abbrev pub invariant-loop-k : goal.invariant-loop-k
invariant-loop-k l = record {
  count : l.k ≤ length l.steps;
  ran : WaitingRun (used_record l.n l.fn.neighbours l.fn.codes l.used) (take l.k l.steps) l.at l.fn.answers
      l.neighbours l.codes l.word l.answers;
}
