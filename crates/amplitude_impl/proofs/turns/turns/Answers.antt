-- `turns` meets its contract: the turns of a word, from 0 to 3: those of its vertices without a Hadamard.
use mathlib.Core.Path.{refl}
use native.Mathlib.Omega.{arith}
use Rattle.amplitude.specs.internal.KeptTurns.{kept_turns}
use Rattle.operations.proofs.UnrefusedRecords.{unrefused-codes, unrefused-place, unrefused-short}
use Rattle.words.specs.Bits.{fold}
use Rattle.amplitude_impl.proofs.Loops.{chosen-low, turns-all, turns_more}
use Rattle.amplitude_impl.proofs.turns.turns.Goals as goal

pub kept-requires : goal.kept-requires
kept-requires c = unrefused-codes _ _ c.requires

pub loop-j-init : goal.loop-j-init
unfolding kept_turns fold
loop-j-init c = (omega arith, refl)

pub bounds-codes-j : goal.bounds-codes-j
bounds-codes-j c =
    unrefused-place _ _ c.requires _ c.loop-j-test.true

pub turns_of-requires : goal.turns_of-requires
turns_of-requires c = (
  omega (arith, c.loop-j-test.true, unrefused-short _ _ c.requires),
  chosen-low _ _ c.requires c.args.y _ (_, c.kept.ensures, refl) _ c.loop-j-test.true,
)

pub loop-j-preserved : goal.loop-j-preserved
loop-j-preserved c =
    let t = c.loop-j-test.true in (
      omega arith,
      turns_more _ _ c.requires c.args.y _ (_, c.kept.ensures, refl) _ _ _ c.loop-j-test.true
          c.loop-j.invariant.1 c.turns_of.ensures,
    )

pub returns : goal.returns
returns c =
    turns-all _ _ c.requires c.args.y _ (_, c.kept.ensures, refl) _ _ c.loop-j.invariant.0
    c.loop-j-test.false c.loop-j.invariant.1
