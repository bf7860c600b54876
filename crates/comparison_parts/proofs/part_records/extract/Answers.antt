-- `extract` meets its contract: the record of the part, with a place of the answer for each of its vertices.
use mathlib.Core.Path.{refl}
use native.Mathlib.Omega.{arith}
use Rattle.buffers.proofs.Filling.{fill_end, fill_start, fill_step}
use Rattle.comparison_parts.proofs.part_records.extract.Goals as goal

pub loop-i-init : goal.loop-i-init
loop-i-init c =
    (fill_start _ _ c.args.words.now c.requires.words_len.0, fill_start _ _ c.args.numbers.now c.requires.words_len.1)

pub compress-requires : goal.compress-requires
compress-requires c =
    (c.requires.at_len_bound, λ i l. omega (arith, c.requires.neighbours_len_bound.0, c.requires.neighbours_len_bound.2 i l))

pub loop-i-preserved : goal.loop-i-preserved
loop-i-preserved c = (
  fill_step _ _ c.loop-i.words c.loop-i.i _ c.loop-i.invariant.0 c.loop-i-test.true
      c.compress.ensures,
  fill_step _ _ c.loop-i.numbers c.loop-i.i _ c.loop-i.invariant.1 c.loop-i-test.true refl,
)

pub returns : goal.returns
returns c = (
  fill_end _ _ c.loop-i.words c.loop-i.i c.loop-i.invariant.0 c.loop-i-test.false,
  fill_end _ _ c.loop-i.numbers c.loop-i.i c.loop-i.invariant.1 c.loop-i-test.false,
)
