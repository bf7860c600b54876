-- What the loop of `unpack` keeps.
use Rattle.call_run.proofs.Telling.{Told}
use Rattle.call_run.proofs.checks.unpack.Given as goal

abbrev pub invariant-loop-k : goal.invariant-loop-k
invariant-loop-k l = Told l.initial.answers l.answers l.outcomes l.determined l.k
