-- `add_to_later` meets its contract: row k added to each later row below n that has bit i in its x word, or in its z
-- word.
use mathlib.Core.Path.{refl}
use native.Mathlib.Omega.{arith}
use Rattle.stabilizer_impl.proofs.Additions.{adding-step}
use Rattle.stabilizer_impl.proofs.independence.add_to_later.Goals as goal

pub loop-j-preserved : goal.loop-j-preserved
loop-j-preserved c =
    let a = c.args in
    adding-step a.n a.k a.in_x a.i a.z.now a.x.now c.loop-j.z c.loop-j.x c.loop-j.j
    c.loop-j.invariant
    c.loop-j-test.true (omega (arith, c.requires.z_len.0))
    (omega (arith, c.requires.z_len.1)) c.chosen_word-word.result c.chosen_word-word.ensures
    _ _ _ _ refl refl
    c.by_bit.ensures c.by_bit-in-loop-j.ensures
