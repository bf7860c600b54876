-- `scan_block` meets its contract: the scan after a block more; the lines that end in it, if they are of the first 64,
-- are in the buffers.
use mathlib.Core.Path.{refl, ◌∙◌}
use Rattle.text.specs.internal.Feeding.{fed_bytes}
use Rattle.text.specs.internal.Scan.{as_reading, feed}
use Rattle.text.proofs.Feeding.{fed-more}
use Rattle.text.proofs.OneByte.{feed-kept, feed-stored}
use Rattle.text_impl.proofs.blocks.scan_block.Goals as goal
use Rattle.text_impl.proofs.blocks.scan_block.Goals.{else-row-count, then-row-count}

pub loop-b-init : goal.loop-b-init
unfolding fed_bytes
loop-b-init c = refl

pub loop-b-preserved : goal.loop-b-preserved
loop-b-preserved c =
    let l = c.loop-b in
    let sofar = as_reading l.s l.signs l.z l.x in
    let stepped = c.scan_byte-next.ensures in
    let on = fed-more feed _ sofar _ l.b-index c.loop-b-test.true l.invariant in
    elim c.if-row-count.branch [
      | then-row-count w ↦ (λ k. as_reading (w.s-is k) (w.signs-is k) (w.z-is k) (w.x-is k))
          ∙ on _ (feed-stored sofar _ _ stepped w.if-row-count.true)
      | else-row-count w ↦ (λ k. as_reading (w.s-is k) (w.signs-is k) (w.z-is k) (w.x-is k))
          ∙ on _ (feed-kept sofar _ _ stepped w.if-row-count.false)
    ]
