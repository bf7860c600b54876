-- `supports` meets its contract: whether a word is supported: each equation holds.
use mathlib.Core.Path.{refl}
use native.Mathlib.Omega.{arith}
use Rattle.amplitude.specs.internal.KeptTurns.{fits_at}
use Rattle.operations.proofs.UnrefusedRecords.{unrefused-codes, unrefused-place, unrefused-short}
use Rattle.operations.specs.internal.InPlace.{record_in}
use Rattle.record.specs.Lent.{held_record}
use Rattle.words.specs.Search.{every}
use Rattle.amplitude_impl.proofs.Loops.{all_pass, one-fails, one_more}
use Rattle.amplitude_impl.proofs.turns.supports.Goals as goal

pub loop-j-init : goal.loop-j-init
unfolding every
loop-j-init c = (omega arith, refl)

pub bounds-codes-j : goal.bounds-codes-j
bounds-codes-j c =
    unrefused-place _ _ c.requires _ c.loop-j-test.true

pub fits-requires : goal.fits-requires
fits-requires c =
    let U = c.requires in
    (omega (arith, c.loop-j-test.true, unrefused-short _ _ U), (unrefused-codes _ _ U).1 _)

pub returns-then-not-fits : goal.returns-then-not-fits
returns-then-not-fits c =
    let a = c.args in
    one-fails (fits_at (held_record (record_in a.neighbours.now a.codes.now)) a.y) _ _
    c.fits.ensures _ c.loop-j-test.true c.if-not-fits.true-raw

pub loop-j-preserved : goal.loop-j-preserved
loop-j-preserved c =
    let a = c.args in
    let t = c.loop-j-test.true in (
      omega arith,
      one_more (fits_at (held_record (record_in a.neighbours.now a.codes.now)) a.y) _ _
          c.fits.ensures c.loop-j.invariant.1 c.if-not-fits.false-raw,
    )

pub returns : goal.returns
returns c =
    let a = c.args in
    all_pass (fits_at (held_record (record_in a.neighbours.now a.codes.now)) a.y) _ _
    c.loop-j.invariant.0 c.loop-j-test.false c.loop-j.invariant.1
