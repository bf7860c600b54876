-- `entry` meets its contract: the entry of the table.
use mathlib.Core.Path.{subst, sym}
use Prim.Native.Nat.{◌<◌}
use Rattle.clifford.specs.Clifford.{clifford_of, then}
use Rattle.clifford.proofs.CliffordLaws.{code_of-lt}
use Rattle.clifford_impl.proofs.TableRules.{then-entry, then_table}
use Rattle.clifford_impl.proofs.compositions.entry.Goals as goal

pub returns : goal.returns
unfolding then_table
returns c =
    let start = c in
    let a = start.args.first in
    let b = start.args.next in
    let e = then-entry a b start.requires.0 start.requires.1 in
    (e, subst (λ v. v < 24) (sym e) (code_of-lt (then (clifford_of a) (clifford_of b))))
