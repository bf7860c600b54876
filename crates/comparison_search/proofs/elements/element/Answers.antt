-- `element` meets its contract: an element of the second group: the row itself, or its negative, if that is one.
use mathlib.Core.Bool.{false}
use mathlib.Core.Path.{◌∙◌, ◌≡◌, ap, refl, subst, sym}
use Prim.Native.Nat.{◌+◌}
use native.Mathlib.Omega.{arith}
use Rattle.words.specs.Bits.{bit}
use Rattle.words.proofs.BitLaws.{zero_bit}
use Rattle.pauli.specs.Pauli.{anticommute, mul}
use Rattle.pauli.specs.internal.Rows.{generator_of}
use Rattle.pauli.proofs.PauliLaws.{Pauli-path}
use Rattle.comparison.specs.internal.Setting.{generators_in, generators_of}
use Rattle.comparison.proofs.RecordElements.{framed-proper, guessed}
use Rattle.stabilizer.proofs.Multiplying.{Multiplied, multiplied-off, multiplied-on, next-commutes, none-multiplied}
use Rattle.comparison_search.proofs.elements.element.Goals as goal
use Rattle.comparison_search.proofs.elements.element.Goals.{else-has, then-has}

pub loop-j-init : goal.loop-j-init
loop-j-init c = none-multiplied _ _ _ _ (Pauli-path refl zero_bit zero_bit)

pub times-h-requires : goal.times-h-requires
times-h-requires c =
    let l = c.loop-j in
    let proper = framed-proper c.args.n (generators_of (generators_in c.args.second.now)) c.requires.1.0
    c.requires.1.1 in
    subst (λ g. anticommute 64 (generator_of l.h) (generator_of g) ≡ false) (sym c.generator_at-g.ensures)
    (next-commutes c.args.n (omega arith) (generators_of (generators_in c.args.second.now)) proper.within
    (bit c.act_on-undone.result.x) l.j (generator_of l.h) l.invariant
    c.loop-j-test.true proper.commuting)

pub loop-j-preserved : goal.loop-j-preserved
loop-j-preserved c =
    let a = c.args in
    let l = c.loop-j in
    let w = bit c.act_on-undone.result.x in
    let test = c.has.ensures in
    let rows = generators_of (generators_in a.second.now) in
    let proper = framed-proper a.n rows c.requires.1.0 c.requires.1.1 in
    let more = c.loop-j-test.true in
    elim c.if-has.branch [
      | then-has k ↦ subst (λ h. Multiplied a.n rows w (l.j + 1) (generator_of h)) (sym k.h-is)
          (multiplied-on a.n (omega arith) rows proper.within w l.j (generator_of l.h) l.invariant more _
          (sym test ∙ k.if-has.true) (k.times-h.ensures ∙ ap (λ g. mul 64 (generator_of l.h) (generator_of g)) k.generator_at-g.ensures))
      | else-has k ↦ subst (λ h. Multiplied a.n rows w (l.j + 1) (generator_of h)) (sym k.h-is)
          (multiplied-off a.n (omega arith) rows proper.within w l.j (generator_of l.h) l.invariant more
          (sym test ∙ k.if-has.false))
    ]

pub returns : goal.returns
returns c =
    guessed c.args.n (omega arith) (generators_of (generators_in c.args.second.now)) c.requires.1.0
    c.requires.1.1
    (generator_of c.args.p) (generator_of c.act_on-undone.result)
    (c.act_on-undone.ensures c.requires.1.0 c.requires.1.2) c.loop-j.j _ c.loop-j-test.false
    c.loop-j.invariant
