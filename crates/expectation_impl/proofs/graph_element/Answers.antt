-- `graph_element` meets its contract: the element of a graph's group with these x bits.
use mathlib.Core.Path.{◌∙◌, subst, sym}
use Prim.Native.Nat.{◌+◌}
use Rattle.expectation_impl.proofs.Elements.{PartElement, element-off, element-on, no-element, whole-element}
use Rattle.expectation_impl.proofs.graph_element.Goals as goal
use Rattle.expectation_impl.proofs.graph_element.Goals.{else-has, then-has}

pub loop-j-init : goal.loop-j-init
loop-j-init c = no-element _ _

pub loop-j-preserved : goal.loop-j-preserved
loop-j-preserved c =
    let L = c.loop-j in
    let a = c.args in
    let test = c.has.ensures in
    let more = c.loop-j-test.true in
    elim c.if-has.branch [
      | then-has k ↦ subst (PartElement a.neighbours.now a.chosen (L.j + 1)) (sym k.element-is)
          (element-on a.neighbours.now a.chosen c.requires.0 c.requires.1 L.j L.element L.invariant more _
          k.single.ensures _ (sym test ∙ k.if-has.true) k.times-element.ensures)
      | else-has k ↦ subst (PartElement a.neighbours.now a.chosen (L.j + 1)) (sym k.element-is)
          (element-off a.neighbours.now a.chosen c.requires.0 c.requires.1 L.j L.element L.invariant more
          (sym test ∙ k.if-has.false))
    ]

pub returns : goal.returns
returns c =
    whole-element _ _ c.loop-j.j c.loop-j.element c.loop-j-test.false
    c.loop-j.invariant
