-- `mask` meets its contract: a record with the vertices outside a word alone in +Z.
use native.Mathlib.Omega.{arith}
use Rattle.buffers.proofs.Filling.{fill_end, fill_start, fill_step}
use Rattle.parties_impl.proofs.masks.mask.Goals as goal

pub loop-q-init : goal.loop-q-init
loop-q-init c =
    (fill_start 64 _ _ c.requires.words_len.0, fill_start 64 _ _ c.requires.words_len.1)

pub loop-q-preserved : goal.loop-q-preserved
loop-q-preserved c =
    let l = c.loop-q in (
      fill_step 64 _ l.words l.q _ l.invariant.0 (omega arith) c.pick.ensures,
      fill_step 64 _ l.bytes l.q _ l.invariant.1 (omega arith) c.pick-in-loop-q.ensures,
    )

pub returns : goal.returns
returns c =
    let l = c.loop-q in (
      fill_end 64 _ l.words l.q l.invariant.0 (omega arith),
      fill_end 64 _ l.bytes l.q l.invariant.1 (omega arith),
    )
