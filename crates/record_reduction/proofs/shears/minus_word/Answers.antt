-- `minus_word` meets its contract: the relative sign of the product of the letters of two rows that commute.
use mathlib.Core.Bool.{false, true}
use mathlib.Core.Path.{refl, sym, ◌∙◌}
use Rattle.record_reduction.proofs.RelativeSigns.{relative-sign}
use Rattle.record_reduction.proofs.shears.minus_word.Goals as goal

pub returns-then-dot_product : goal.returns-then-dot_product
returns-then-dot_product c =
    let a = c.args in
    relative-sign a.z a.x a.z2 a.x2 c.ranges.z.fits c.ranges.x.fits c.ranges.z2.fits
    c.ranges.x2.fits c.requires _ true (sym c.dot_product.ensures ∙ c.if-dot_product.true) refl

pub returns-else-dot_product : goal.returns-else-dot_product
returns-else-dot_product c =
    let a = c.args in
    relative-sign a.z a.x a.z2 a.x2 c.ranges.z.fits c.ranges.x.fits c.ranges.z2.fits
    c.ranges.x2.fits c.requires _ false (sym c.dot_product.ensures ∙ c.if-dot_product.false) refl
