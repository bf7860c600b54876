-- `run_lent` meets its contract: the steps of a lent slice, one after the other.
use mathlib.Core.Path.{subst}
use Prim.Native.Nat.{◌+◌}
use native.Mathlib.Omega.{arith}
use lib.Seq.{length-take-le, take_all}
use Rattle.std.proofs.Common.{add-one}
use Rattle.operations.specs.Used.{used_record}
use Rattle.call_run.proofs.LentLaws.{none-ran, ran-next}
use Rattle.call_run.specs.internal.LentRuns.{ReadyAt, WaitingRun}
use Rattle.call_run.proofs.lent.run_lent.Goals as goal

pub loop-k-init : goal.loop-k-init
loop-k-init c =
    let a = c.args in
    record {
      count = omega arith;
      ran = none-ran (used_record a.n a.neighbours.now a.codes.now a.used) a.at a.answers.now;
    }

pub turn-word-requires : goal.turn-word-requires
turn-word-requires c =
    let a = c.args in
    let l = c.loop-k in (
      omega (arith, c.requires.0, l.auto.answers),
      subst (λ m. ReadyAt (a.at + m) l.answers (used_record a.n l.neighbours l.codes l.word))
          (length-take-le l.k a.steps.now l.invariant.count) (l.invariant.ran.ready c.requires.1),
    )

pub loop-k-preserved : goal.loop-k-preserved
loop-k-preserved c =
    let a = c.args in
    let l = c.loop-k in
    record {
      count = omega arith;
      ran = rw add-one (ran-next (used_record a.n a.neighbours.now a.codes.now a.used) a.steps.now l.k a.at _
          (omega arith) a.answers.now c.requires.0 l.neighbours l.codes l.word l.answers l.invariant.ran _ _ _ _
          c.turn-word.ensures);
    }

pub returns : goal.returns
returns c =
    let a = c.args in
    let l = c.loop-k in
    subst (λ t. WaitingRun (used_record a.n a.neighbours.now a.codes.now a.used) t a.at a.answers.now l.neighbours
    l.codes l.word l.answers) (take_all l.k a.steps.now (omega arith)) l.invariant.ran
