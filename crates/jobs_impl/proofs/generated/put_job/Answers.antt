-- `put_job` meets its contract: the text of the job that is drawn.
use mathlib.Core.Path.{subst, ◌≡◌}
use Prim.Native.Nat.{◌+◌, ◌-◌}
use native.Mathlib.Omega.{arith}
use Rattle.jobs_impl.proofs.JobLines.{Writing, all-written, line-room, line-written, none_written}
use Rattle.jobs_impl.proofs.generated.put_job.Goals as goal

pub loop-init : goal.loop-init
loop-init c =
    let all : c.args.count ≡ c.args.count - 0 = omega arith in
    subst (λ left. Writing c.args.n c.args.count c.args.seed c.put_head-at.new.out c.put_head-at.result
    c.put_head-at.new.out c.put_head-at.result c.args.seed left) all
    (none_written c.args.n c.args.count c.args.seed c.requires.0 c.requires.1 _ _
    c.requires.2 (omega (arith, c.put_head-at.auto, c.requires.3)) (omega (arith, c.put_head-at.ensures.end)))

pub put_step-at-requires : goal.put_step-at-requires
put_step-at-requires c =
    line-room c.args.n c.args.count c.args.seed c.requires.0 c.requires.1 _ _ _ _ _ _
    c.loop.invariant (omega (arith, c.loop-test.true)) _ c.draw-s.ensures _ c.drawn_step.ensures

pub loop-preserved : goal.loop-preserved
loop-preserved c =
    let one_less : c.args.count - c.loop.counter - 1 ≡ c.args.count - (c.loop.counter + 1) = omega arith in
    subst (λ left. Writing c.args.n c.args.count c.args.seed c.put_head-at.new.out c.put_head-at.result
    c.put_step-at.new.out c.put_step-at.result c.draw-s.result left) one_less
    (line-written c.args.n c.args.count c.args.seed c.requires.0 c.requires.1 _ _ _ _ _ _
    c.loop.invariant (omega (arith, c.loop-test.true)) _ c.draw-s.ensures _ c.drawn_step.ensures _ _
    c.put_step-at.ensures c.put_step-at.auto.out)

pub returns : goal.returns
returns c =
    all-written c.args.n c.args.count c.args.seed c.requires.0 c.requires.1 _ _ _ _ _ _ _
    c.requires.3 c.put_head-at.ensures c.loop.invariant (omega (arith, c.loop-test.false))
