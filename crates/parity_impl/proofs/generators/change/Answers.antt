-- `change` meets its contract: generator g goes into the others that do not commute with the row, which takes its
-- place.
use mathlib.Core.Path.{subst, sym}
use Prim.Native.Nat.{◌<◌, ◌≤◌}
use Rattle.parity.proofs.ChangedLists.{all_changed, none-changed, one-changed}
use Rattle.parity_impl.proofs.generators.change.Goals as goal

pub loop-j-init : goal.loop-j-init
loop-j-init c = none-changed _ _ _ _

pub loop-j-preserved : goal.loop-j-preserved
loop-j-preserved c =
    let r = c.cleared-next.result in
    one-changed _ _ _ _ c.requires.zs_len.0 c.requires.zs_len.1 _ _ _ _ c.loop-j.invariant
    (subst (λ m. c.loop-j.j < m) (sym c.loop-j.invariant.long.signs-length) c.loop-j-test.true)
    r.minus r.z r.x _ c.sign_digit.ensures c.cleared-next.ensures

pub returns : goal.returns
returns c =
    all_changed _ _ _ _ c.requires.zs_len.0 c.requires.zs_len.1 _ _ _ _ c.loop-j.invariant
    (subst (λ m. m ≤ c.loop-j.j) (sym c.loop-j.invariant.long.signs-length) c.loop-j-test.false)
    (subst (λ m. c.args.g < m) (sym c.loop-j.invariant.long.signs-length) c.requires.zs_len.2) c.args.minus _
    c.sign_digit-2.ensures
