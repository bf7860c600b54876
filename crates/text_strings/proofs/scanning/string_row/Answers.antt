-- `string_row` meets its contract: the row of the line of n letters that starts at a place.
use Prim.Native.Nat.{◌+◌, ◌/◌}
use native.Mathlib.Omega.{arith}
use Rattle.text_strings.proofs.RowLoops.{letter-fit, letter-read, none_read, room, row_read, x-joins, z-joins}
use Rattle.text_strings.proofs.scanning.string_row.Goals as goal

pub loop-q-init : goal.loop-q-init
loop-q-init c = (none_read _ _ _, record { upto = omega arith; words = c.odd_letter-high.ensures })

pub more_letters-low-requires : goal.more_letters-low-requires
more_letters-low-requires c =
    let some = c.loop-q-test.true in (
      letter-fit c.args.text.now c.args.from c.loop-q.q some c.args.n c.requires.2
          (omega (arith, c.loop-q.invariant.0.upto)) (omega (arith, some)),
      room _ _ _ c.loop-q.invariant.0 some (omega (arith, c.requires.0)),
    )

pub more_letters-high-requires : goal.more_letters-high-requires
more_letters-high-requires c =
    let some = c.loop-q-test.true in (
      letter-fit c.args.text.now c.args.from (c.args.n / 2 + c.loop-q.q) (omega (arith, some))
          c.args.n c.requires.2 (omega (arith, c.loop-q.invariant.1.upto)) (omega (arith, some)),
      room _ _ _ c.loop-q.invariant.1 some (omega (arith, c.requires.0)),
    )

pub loop-q-preserved : goal.loop-q-preserved
loop-q-preserved c =
    let a = c.args in
    let some = c.loop-q-test.true in (
      letter-read a.text.now a.from c.loop-q.q some _ c.loop-q.invariant.0 (omega (arith, some))
          c.more_letters-low.ensures,
      letter-read a.text.now (a.from + a.n / 2) c.loop-q.q some _ c.loop-q.invariant.1
          (omega (arith, some)) c.more_letters-high.ensures,
    )

pub joined-requires : goal.joined-requires
joined-requires c =
    z-joins c.args.text.now c.args.from c.args.n c.requires.0 c.loop-q.invariant c.loop-q-test.false

pub joined-requires-2 : goal.joined-requires-2
joined-requires-2 c =
    x-joins c.args.text.now c.args.from c.args.n c.requires.0 c.loop-q.invariant
    c.loop-q-test.false

pub returns : goal.returns
returns c =
    row_read c.args.text.now c.args.from c.args.n c.requires.0 c.loop-q.invariant
    c.loop-q-test.false c.joined.ensures c.joined-2.ensures
