-- `settle_waiting` meets its contract: the record that is meant, in the buffers.
use mathlib.Core.Path.{ap, sym, ◌∙◌}
use Rattle.call_run.specs.internal.Waiting.{meant}
use Rattle.operations.specs.Used.{used_record}
use Rattle.call_run.proofs.WaitingLaws.{ready_held, settled-meant}
use Rattle.call_run.proofs.waiting.settle_waiting.Goals as goal

pub normalise-requires : goal.normalise-requires
normalise-requires c =
    let a = c.args in
    ready_held a.waiting (used_record a.n a.neighbours.now a.codes.now a.used) c.requires

pub returns-then-waiting : goal.returns-then-waiting
returns-then-waiting c =
    let a = c.args in
    let u = used_record a.n a.neighbours.now a.codes.now a.used in
    settled-meant a.waiting u c.requires _ _ c.normalise.ensures.after
    ∙ ap (λ w. meant w u) (sym c.if-waiting.true)

pub returns-else-waiting : goal.returns-else-waiting
returns-else-waiting c =
    let a = c.args in
    ap (λ w. meant w (used_record a.n a.neighbours.now a.codes.now a.used)) (sym c.if-waiting.false)
