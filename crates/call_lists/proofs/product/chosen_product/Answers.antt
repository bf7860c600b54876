-- `chosen_product` meets its contract: the product of the chosen rows, in index order, its phase from 0 to 3.
use mathlib.Core.Path.{◌∙◌, subst, sym}
use Prim.Native.Nat.{◌+◌}
use native.Mathlib.Omega.{arith}
use Rattle.stabilizer.specs.Lists.{GeneratorList}
use Rattle.call_lists.proofs.PartProducts.{PartProduct, no_part, part_off, part-on, row_read, whole-product}
use Rattle.calls.proofs.ProductLines.{accepted-rows}
use Rattle.call_lists.proofs.product.chosen_product.Goals as goal
use Rattle.call_lists.proofs.product.chosen_product.Goals.{else-has, then-has}

pub loop-j-init : goal.loop-j-init
loop-j-init c = no_part _ _

pub has-requires : goal.has-requires
has-requires c =
    let a = c.args in
    let l : GeneratorList = record { n = a.n; signs = a.signs.now; z = a.z.now; x = a.x.now } in
    let F = accepted-rows l a.chosen c.requires in
    omega (arith, F.upto, c.loop-j-test.true)

pub row_at-row-requires : goal.row_at-row-requires
row_at-row-requires c =
    let a = c.args in
    let l : GeneratorList = record { n = a.n; signs = a.signs.now; z = a.z.now; x = a.x.now } in
    let whole = row_read l a.chosen c.requires c.loop-j.j c.loop-j-test.true in
    record { j_in_bounds = whole.0; j_bound = whole.1 }

pub loop-j-preserved : goal.loop-j-preserved
loop-j-preserved c =
    let L = c.loop-j in
    let a = c.args in
    let l : GeneratorList = record { n = a.n; signs = a.signs.now; z = a.z.now; x = a.x.now } in
    let test = c.has.ensures in
    let more = c.loop-j-test.true in
    elim c.if-has.branch [
      | then-has k ↦ subst (PartProduct l a.chosen (L.j + 1)) (sym k.product-is)
          (part-on l a.chosen c.requires L.j L.product L.invariant more _ _ (sym test ∙ k.if-has.true)
          k.row_at-row.ensures k.times-product.ensures)
      | else-has k ↦ subst (PartProduct l a.chosen (L.j + 1)) (sym k.product-is)
          (part_off l a.chosen c.requires L.j L.product L.invariant more (sym test ∙ k.if-has.false))
    ]

pub returns : goal.returns
returns c =
    let L = c.loop-j in
    whole-product _ _ L.j L.product L.invariant c.loop-j-test.false
