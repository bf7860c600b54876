-- `read_block` meets its contract: what is read after a block more.
use mathlib.Core.Path.{◌∙◌, ap, refl}
use lib.ListN.{set}
use Rattle.jobs.proofs.OneByte.{feed-kept, feed-stored}
use Rattle.jobs.specs.internal.Scan.{as_reading, feed}
use Rattle.text.proofs.Feeding.{fed-more}
use Rattle.text.specs.internal.Feeding.{fed_bytes}
use Rattle.jobs_impl.proofs.scanning.read_block.Goals as goal
use Rattle.jobs_impl.proofs.scanning.read_block.Goals.{else-row-count, then-row-count}

pub loop-b-init : goal.loop-b-init
unfolding fed_bytes
loop-b-init c = refl

pub loop-b-preserved : goal.loop-b-preserved
loop-b-preserved c =
    let l = c.loop-b in
    let next = c.scan_byte-next.result in
    let sofar = as_reading l.scan l.steps in
    let on = fed-more feed _ sofar _ l.b-index c.loop-b-test.true l.invariant in
    elim c.if-row-count.branch [
      | then-row-count w ↦ (λ k. as_reading (w.scan-is k) (w.steps-is k))
          ∙ on _ (ap (λ step. as_reading next (set l.steps l.scan.count step)) w.step_of.ensures
          ∙ feed-stored sofar _ next c.scan_byte-next.ensures w.if-row-count.true)
      | else-row-count w ↦ (λ k. as_reading (w.scan-is k) (w.steps-is k))
          ∙ on _ (feed-kept sofar _ next c.scan_byte-next.ensures w.if-row-count.false)
    ]
