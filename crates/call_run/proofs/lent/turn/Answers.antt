-- `turn` meets its contract: one step, and what it answers is kept.
use mathlib.Core.Path.{subst, sym}
use Rattle.call_run.specs.internal.Waiting.{Standing, meant}
use Rattle.operations.specs.Used.{used_record}
use Rattle.call_run.proofs.MarkedSteps.{small-answer}
use Rattle.call_run.proofs.LentLaws.{turned}
use Rattle.call_run.proofs.lent.turn.Goals as goal

pub run_step-r-requires : goal.run_step-r-requires
run_step-r-requires c =
    let a = c.args in
    subst (λ b. Standing b (used_record a.n a.neighbours.now a.codes.now a.used))
    (sym c.marked_before-waiting.ensures) c.requires.1.standing

pub pack-requires : goal.pack-requires
pack-requires c =
    let a = c.args in
    small-answer (meant c.marked_before-waiting.result (used_record a.n a.neighbours.now a.codes.now a.used)) a.s _
    c.run_step-r.ensures.run.answer

pub returns : goal.returns
returns c =
    let a = c.args in
    turned _ (used_record a.n a.neighbours.now a.codes.now a.used) a.s _ _ _ _ _ _ c.requires.0 _ _
    c.marked_before-waiting.ensures c.next_waiting-marked.ensures c.pack.ensures c.run_step-r.ensures
