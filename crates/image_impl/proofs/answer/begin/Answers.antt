-- `begin` meets its contract: the bits C and D of the codes, and nothing on the list.
use Rattle.clifford.specs.Clifford.{bit_c, bit_d}
use Rattle.image_impl.proofs.CodeBits.{begun, bits_none, bits-one}
use Rattle.image_impl.proofs.answer.begin.Goals as goal

pub loop-q-init : goal.loop-q-init
loop-q-init c = (bits_none c.args.codes.now bit_c, bits_none c.args.codes.now bit_d)

pub loop-q-preserved : goal.loop-q-preserved
loop-q-preserved c =
    let l = c.loop-q in
    let all = c.args.codes.now in (
      bits-one all bit_c l.c l.q _ _ l.invariant.0 c.c_bit.ensures c.flip_where-c.ensures,
      bits-one all bit_d l.d l.q _ _ l.invariant.1 c.d_bit.ensures c.flip_where-d.ensures,
    )

pub returns-clause-by_index : goal.returns-clause-by_index
returns-clause-by_index c =
    let l = c.loop-q in begun c.args.codes.now l.c l.d l.q l.invariant.0 l.invariant.1 c.loop-q-test.false
