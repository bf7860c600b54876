-- `copy_front` meets its contract: all items, into the first places.
use mathlib.Core.Path.{ap, ◌∙◌}
use native.Mathlib.Numerals.{add-one}
use native.Mathlib.Omega.{arith}
use lib.ListN.{set}
use Rattle.buffers.proofs.CopiedItems.{front-more}
use Rattle.buffers.proofs.copying.copy_front.Goals as goal

pub loop-i-preserved : goal.loop-i-preserved
loop-i-preserved g c =
    let l = c.loop-i in
    ap (λ s. set s l.i c.index-from-i.result) l.invariant
    ∙ rw add-one (front-more c.args.from.now c.args.to.now l.i c.index-from-i.result (omega arith)
    (omega (arith, c.requires)) c.index-from-i.is)
