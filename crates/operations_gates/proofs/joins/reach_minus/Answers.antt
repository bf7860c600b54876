-- `reach_minus` meets its contract: whether that product is minus Z at the vertex.
use mathlib.Core.Bool.{cond}
use mathlib.Core.Path.{ap, sym, ◌∙◌}
use Prim.Native.Nat.{◌/◌}
use Rattle.words.specs.Bits.{is_odd}
use Rattle.operations_gates.proofs.joins.reach_minus.Goals as goal

pub returns-then-c_bit : goal.returns-then-c_bit
returns-then-c_bit c =
    let code = c.args.code in
    sym (ap (λ b. cond b (is_odd (code / 2)) (is_odd code)) (sym c.c_bit.ensures ∙ c.if-c_bit.true))

pub returns-else-c_bit : goal.returns-else-c_bit
returns-else-c_bit c =
    let code = c.args.code in
    sym (ap (λ b. cond b (is_odd (code / 2)) (is_odd code)) (sym c.c_bit.ensures ∙ c.if-c_bit.false))
