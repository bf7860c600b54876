-- `product_refusal` meets its contract: the first line that holds; `Ok` where none does.
use mathlib.Core.Path.{sym, ◌∙◌}
use Rattle.buffers.proofs.RefusalLaws.{no-shape, of-shape}
use Rattle.stabilizer.proofs.EarlyLines.{says}
use Rattle.stabilizer.specs.Lists.{GeneratorList}
use Rattle.calls.proofs.ProductLines.{number-2, number-4, word_good, word-strays, word-tested}
use Rattle.call_lists.proofs.product.product_refusal.Goals as goal

pub returns-then-refuses_shape : goal.returns-then-refuses_shape
returns-then-refuses_shape c =
    let a = c.args in
    let l : GeneratorList = record { n = a.n; signs = a.signs.now; z = a.z.now; x = a.x.now } in
    of-shape _ (sym c.refuses_shape.ensures ∙ c.if-refuses_shape.true)
    (number-2 l a.chosen _ c.form_refusal-form.ensures)
    (number-4 l a.chosen _ c.form_refusal-form.ensures)

pub stray-requires : goal.stray-requires
stray-requires c =
    let a = c.args in
    let l : GeneratorList = record { n = a.n; signs = a.signs.now; z = a.z.now; x = a.x.now } in
    let S = no-shape _ (sym c.refuses_shape.ensures ∙ c.if-refuses_shape.false) in
    word-tested l a.chosen _ c.form_refusal-form.ensures S.0

pub returns-then-stray : goal.returns-then-stray
returns-then-stray c =
    let a = c.args in
    let l : GeneratorList = record { n = a.n; signs = a.signs.now; z = a.z.now; x = a.x.now } in
    let S = no-shape _ (sym c.refuses_shape.ensures ∙ c.if-refuses_shape.false) in
    word-strays l a.chosen _ c.form_refusal-form.ensures S.0 S.1 (says c.stray.ensures c.if-stray.true)

pub returns : goal.returns
returns c =
    let a = c.args in
    let l : GeneratorList = record { n = a.n; signs = a.signs.now; z = a.z.now; x = a.x.now } in
    word_good l a.chosen _ c.form_refusal-form.ensures (says c.stray.ensures c.if-stray.false)
