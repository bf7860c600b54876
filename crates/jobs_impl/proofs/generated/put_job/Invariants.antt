-- What the loops of `put_job` keep.
use Prim.Native.Nat.{◌-◌}
use Rattle.jobs_impl.proofs.JobLines.{Writing}
use Rattle.jobs_impl.proofs.generated.put_job.Given as goal

abbrev pub invariant-loop : goal.invariant-loop
invariant-loop l = Writing l.n l.count l.seed l.initial.out l.initial.at l.out l.at l.s (l.count - l.counter)
