-- `pivot_waiting` meets its contract: the record pivoted on an edge.
use Rattle.operations.specs.Steps.{pivot_of}
use mathlib.Core.Path.{subst, sym}
use Rattle.operations.specs.Used.{UsedUnrefused}
use Rattle.call_run.proofs.WaitingLaws.{call-as}
use Rattle.call_run.proofs.waiting.pivot_waiting.Goals as goal

pub pivot_known-requires : goal.pivot_known-requires
pivot_known-requires c = subst UsedUnrefused (sym c.settle_waiting.ensures) c.requires.checked

pub returns : goal.returns
returns c =
    call-as _ _ (pivot_of c.args.j c.args.k) c.pivot_known.new.neighbours c.pivot_known.new.codes
    _ c.settle_waiting.ensures c.pivot_known.ensures
