-- `row` meets its contract: entry b is the code and then b. Each arm reads the table from place 24 times its code on.
use mathlib.Core.Path.{refl, ◌≡◌}
use Prim.Native.Nat.{◌*◌}
use native.Mathlib.Omega.{arith}
use Rattle.clifford_impl.proofs.TableRows.{then-row}
use Rattle.clifford_impl.proofs.TableRules.{then_table}
use Rattle.clifford_impl.proofs.compositions.row.Goals as goal

pub returns-in-2 : goal.returns-in-2
unfolding then_table
returns-in-2 c =
    let start = c.before.before.before in
    let k : 48 ≡ 24 * start.args.first = omega arith in
    then-row c.entries.result 48 start.args.first start.requires k c.entries.ensures

pub returns-in-6 : goal.returns-in-6
unfolding then_table
returns-in-6 c =
    let start = c.before.before.before in
    let k : 144 ≡ 24 * start.args.first = omega arith in
    then-row c.entries-in-6.result 144 start.args.first start.requires k c.entries-in-6.ensures

pub returns-in_default : goal.returns-in_default
unfolding then_table
returns-in_default c =
    let start = c.before.before.before in
    then-row c.entries-in_default.result _ start.args.first start.requires refl c.entries-in_default.ensures
