-- `digit_word` meets its contract: bit k of every code.
use Prim.Native.Nat.{◌-◌}
use native.Mathlib.Omega.{arith}
use lib.ListN.{get_or}
use Rattle.words.proofs.BitLaws.{digit_lt}
use Rattle.words.specs.Bits.{bit}
use Rattle.clifford_impl.proofs.RowDigits.{digits-none, digits-one, digits-room}
use Rattle.clifford_impl.proofs.rows.digit_word.Goals as goal

pub loop-q-init : goal.loop-q-init
loop-q-init c = digits-none _ _

pub overflow_mul-word : goal.overflow_mul-word
overflow_mul-word c =
    let l = c.loop-q in
    omega (arith, digits-room _ _ l.word l.q l.invariant c.requires.0 c.loop-q-test.true)

pub overflow_add-word : goal.overflow_add-word
overflow_add-word c =
    let s = c.before.before.before.before in
    let l = s.loop-q in
    omega (
      arith,
      digits-room _ _ l.word l.q l.invariant s.requires.0 c.loop-q-test.true,
      c.digit_of.ensures,
      digit_lt (bit (get_or s.args.codes.now (l.q - 1) 0) s.args.k),
    )

pub loop-q-preserved : goal.loop-q-preserved
loop-q-preserved c =
    let l = c.loop-q in
    digits-one _ _ l.word l.q c.digit_of.result l.invariant c.loop-q-test.true
    c.digit_of.ensures
