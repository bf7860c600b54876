-- `held_out` meets its contract: whether a state held in four places has a neighbour outside the word.
use mathlib.Core.Path.{◌∙◌, sym}
use Prim.Native.Nat.{◌<◌}
use native.Mathlib.Omega.{arith}
use Rattle.store_impl.proofs.Parts.{part_count}
use Rattle.words.proofs.Searching.{no-some, none_here, some-found}
use Rattle.words.specs.Bits.{bit}
use Rattle.parties_impl.proofs.HeldStates.{out-here}
use Rattle.parties_impl.proofs.checks.held_out.Goals as goal

pub reaches_out-requires : goal.reaches_out-requires
reaches_out-requires c =
    part_count c.loop-i.i 64 c.args.neighbours.now (omega (arith, c.requires.neighbours_len))

pub returns-then-word_at-reaches_out : goal.returns-then-word_at-reaches_out
returns-then-word_at-reaches_out c =
    let l : c.loop-i.i < 4 = omega arith in
    let here = out-here (bit c.args.own) c.args.heads.now c.args.neighbours.now c.requires.codes_value _ _ l
    c.word_at.ensures _ c.reaches_out.ensures in
    some-found _ _ c.loop-i.invariant _ l (sym here ∙ c.if-word_at-reaches_out.true)

pub loop-i-preserved : goal.loop-i-preserved
loop-i-preserved c =
    let l : c.loop-i.i < 4 = omega arith in
    let here = out-here (bit c.args.own) c.args.heads.now c.args.neighbours.now c.requires.codes_value _ _ l
    c.word_at.ensures _ c.reaches_out.ensures in
    none_here _ _ c.loop-i.invariant (sym here ∙ c.if-word_at-reaches_out.false)

pub returns : goal.returns
returns c = no-some _ _ c.loop-i.invariant _ (omega arith)
