-- `read_rows` meets its contract: the rows of the n lines of a text.
use mathlib.Core.Path.{refl}
use native.Mathlib.Omega.{arith}
use Rattle.text.proofs.SizeLaws.{line-inside}
use Rattle.text_strings.proofs.ListLoops.{all-rows, letters-of, no_rows, one-row}
use Rattle.text_strings.proofs.scanning.read_rows.Goals as goal

pub loop-j-init : goal.loop-j-init
loop-j-init c = no_rows _ _ _ _ _ refl refl refl

pub string_row-row-requires : goal.string_row-row-requires
string_row-row-requires c =
    let l = c.loop-j in (
      c.requires.0,
      omega (
        arith,
        l.invariant.place,
        line-inside c.args.text.now c.args.n l.j c.requires.1 c.loop-j-test.true,
      ),
      letters-of c.args.text.now c.args.n l.j c.requires.2 c.loop-j-test.true l.invariant.place,
    )

pub overflow_add-from-in-loop-j : goal.overflow_add-from-in-loop-j
overflow_add-from-in-loop-j c =
    let l = c.loop-j in
    omega (
      arith,
      l.invariant.place,
      line-inside c.args.text.now c.args.n l.j c.requires.1 c.loop-j-test.true,
      c.ranges,
    )

pub loop-j-preserved : goal.loop-j-preserved
loop-j-preserved c =
    let l = c.loop-j in
    one-row c.args.text.now c.args.n l.signs l.z l.x l.from l.j l.invariant
    c.loop-j-test.true c.requires.0 c.string_row-row.result c.string_row-row.ensures
    c.sign_digit.ensures

pub returns : goal.returns
returns c =
    let l = c.loop-j in let whole = all-rows c.args.text.now c.args.n l.signs l.z l.x l.invariant c.loop-j-test.false c.requires.0 in record { signs_value = whole.0; z_value = whole.1.0; x_value = whole.1.1 }
