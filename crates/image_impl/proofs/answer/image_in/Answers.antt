-- `image_in` meets its contract: the image in lent buffers, by the rule on a copy of the record.
use mathlib.Core.Path.{refl}
use Prim.Native.Nat.{◌<◌, ◌^◌}
use native.Mathlib.Omega.{arith}
use Rattle.image_impl.proofs.Answering.{answered}
use Rattle.operations.proofs.UnrefusedRecords.{unrefused-codes, unrefused-long, unrefused-short, unrefused-simple}
use Rattle.image_impl.proofs.answer.image_in.Goals as goal

pub action_of-left-requires : goal.action_of-left-requires
action_of-left-requires c = unrefused-codes _ _ c.rule_on-end.ensures.tracking.unrefused

pub sign_bytes-requires : goal.sign_bytes-requires
sign_bytes-requires c =
    let U = c.rule_on-end.ensures.tracking.unrefused in
    (unrefused-short _ _ U, unrefused-long _ _ U)

pub returns : goal.returns
returns c =
    let left = c.action_of-left in
    let b : left.result.b < 2 ^ 64 = omega arith in
    let sz : left.result.sz < 2 ^ 64 = omega arith in
    answered _ _ (unrefused-simple _ _ c.requires.unrefused) _ c.rule_on-end.ensures left.result left.ensures b sz _
    c.image_refusal.ensures refl _ c.sign_bytes.ensures
