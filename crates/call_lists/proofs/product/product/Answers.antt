-- `product` meets its contract: the product of the rows that a word chooses, and the power of i in front of its
-- letters.
use mathlib.Core.Path.{refl, sym}
use Rattle.buffers.proofs.Calling.{refused}
use Rattle.buffers.proofs.RefusalLaws.{passed_on}
use Rattle.stabilizer.specs.Lists.{GeneratorList}
use Rattle.call_lists.proofs.ProductCalls.{product-accepted}
use Rattle.call_lists.proofs.product.product.Goals as goal

pub returns-in_err-product_refusal : goal.returns-in_err-product_refusal
returns-in_err-product_refusal c =
    let R = passed_on _ _ c.from_residual.ensures.1 c.in_err-product_refusal.ensures in
    refused _ R.0 R.1 (refl, (refl, (refl, tt)))

pub returns : goal.returns
returns c =
    let a = c.args in
    let l : GeneratorList = record { n = a.n; signs = a.signs.now; z = a.z.now; x = a.x.now } in
    product-accepted l a.chosen (sym c.in_ok-product_refusal.ensures)
    c.chosen_product-row.result c.chosen_product-row.ensures.0
    c.chosen_product-row.ensures.1
