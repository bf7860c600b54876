-- `is_ready` meets its contract: whether CZ can act on the graph at a and b as they are.
use native.Mathlib.Omega.{arith}
use Rattle.operations.proofs.UnrefusedRecords.{unrefused-codes, unrefused-place, unrefused-short}
use mathlib.Core.Bool.{true≢false}
use borrow.Author.Tests.{not-true}
use mathlib.Core.Path.{sym, ◌∙◌}
use Rattle.operations_gates.proofs.UnsettledGroups.{ready-first, ready-parted, ready-second}
use borrow.Author.Rules.{rules}
use Rattle.operations_gates.proofs.unsettled.is_ready.Goals as goal

pub bounds-codes-a : goal.bounds-codes-a
bounds-codes-a c =
    unrefused-place _ _ c.requires.unrefused _
    c.requires.a_in_bounds.0

pub bounds-codes-b : goal.bounds-codes-b
bounds-codes-b c =
    unrefused-place _ _ c.requires.unrefused _
    c.requires.a_in_bounds.1

pub is_crossed-requires : goal.is_crossed-requires
is_crossed-requires c = (unrefused-codes _ _ c.requires.unrefused).1 _

pub returns-then-is_crossed : goal.returns-then-is_crossed
returns-then-is_crossed c = λ e. absurd (true≢false (sym e))

pub is_crossed-requires-2 : goal.is_crossed-requires-2
is_crossed-requires-2 c = (unrefused-codes _ _ c.requires.unrefused).1 _

pub returns-then-is_crossed-2 : goal.returns-then-is_crossed-2
returns-then-is_crossed-2 c = λ e. absurd (true≢false (sym e))

pub c_bit-requires : goal.c_bit-requires
c_bit-requires c =
    (unrefused-codes _ _ c.requires.unrefused).1
    _

pub returns-then-not-c_bit : goal.returns-then-not-c_bit
returns-then-not-c_bit c =
    λ e.
    ready-first _ _ c.requires.unrefused c.args.a c.args.b
    (sym c.is_crossed.ensures ∙
    c.if-is_crossed.false)
    (sym c.is_crossed-2.ensures ∙ c.if-is_crossed-2.false)
    (sym c.c_bit.ensures ∙ not-true _ c.if-not-c_bit.true-raw)

pub c_bit-requires-2 : goal.c_bit-requires-2
c_bit-requires-2 c =
    (unrefused-codes _ _
    c.requires.unrefused).1 _

pub returns-then-not-c_bit-2 : goal.returns-then-not-c_bit-2
returns-then-not-c_bit-2 c =
    λ e.
    ready-second _ _ c.requires.unrefused c.args.a c.args.b
    (sym c.is_crossed.ensures ∙
    c.if-is_crossed.false)
    (sym c.is_crossed-2.ensures ∙
    c.if-is_crossed-2.false) (sym c.c_bit-2.ensures ∙ not-true _ c.if-not-c_bit-2.true-raw)

pub offset_bounds-neighbours-a : goal.offset_bounds-neighbours-a
offset_bounds-neighbours-a c = search rules

pub bounds-neighbours-a : goal.bounds-neighbours-a
bounds-neighbours-a c = search rules

pub has-requires : goal.has-requires
has-requires c =
    omega (arith, c.requires.a_in_bounds.1, unrefused-short _ _ c.requires.unrefused)

pub returns : goal.returns
returns c =
    λ e.
    ready-parted _ _ c.requires.unrefused c.args.a c.args.b
    (sym c.is_crossed.ensures ∙
    c.if-is_crossed.false)
    (sym c.is_crossed-2.ensures ∙
    c.if-is_crossed-2.false) (sym c.has.ensures ∙ not-true _ e)
