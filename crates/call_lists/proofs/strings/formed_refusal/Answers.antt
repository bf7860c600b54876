-- `formed_refusal` meets its contract: the first of lines 1, 2 and 4 that holds of a text and the buffers for its list;
-- 0 where none does.
use mathlib.Core.Bool.{Bool, not, ◌||◌}
use mathlib.Core.List.{List}
use mathlib.Core.Path.{ap, ap₂, sym, ◌∙◌, ◌≡◌}
use Prim.Native.Nat.{ℕ}
use borrow.Author.Tests.{not-false}
use Rattle.buffers.specs.Refusals.{bad_count, other_than}
use Rattle.buffers.proofs.Fitting.{first-is}
use Rattle.buffers.specs.Answers.{here, later, none}
use Rattle.call_lists.proofs.strings.formed_refusal.Goals as goal

-- line 4 from its three tests
fitting : (signs z x : List ℕ) {n m : ℕ} → n ≡ m → {a b c : Bool} → a ≡ other_than n signs → b ≡ other_than n z →
    c ≡ other_than n x → (other_than m signs || (other_than m z || other_than m x)) ≡ (a || (b || c))
fitting signs z x e ea eb ec =
    ap (λ k. other_than k signs || (other_than k z || other_than k x)) (sym e)
    ∙ sym (ap₂ ◌||◌ ea (ap₂ ◌||◌ eb ec))

pub returns-then-not-string_form : goal.returns-then-not-string_form
returns-then-not-string_form c = first-is (here (ap not (sym c.string_form.ensures) ∙ c.if-not-string_form.true-raw))

pub returns-then-bad_count : goal.returns-then-bad_count
returns-then-bad_count c =
    let lines = c.requires (sym c.string_form.ensures ∙ not-false _ c.if-not-string_form.false-raw) in
    first-is (later (ap not (sym c.string_form.ensures) ∙ c.if-not-string_form.false-raw)
    (here (ap bad_count (sym lines) ∙ sym c.bad_count.ensures ∙ c.if-bad_count.true)))

pub returns-then-other_than : goal.returns-then-other_than
returns-then-other_than c =
    let lines = c.requires (sym c.string_form.ensures ∙ not-false _ c.if-not-string_form.false-raw) in
    first-is (later (ap not (sym c.string_form.ensures) ∙ c.if-not-string_form.false-raw)
    (later (ap bad_count (sym lines) ∙ sym c.bad_count.ensures ∙ c.if-bad_count.false)
    (here (fitting c.args.signs.now c.args.z.now c.args.x.now lines
    c.other_than.ensures c.other_than-2.ensures
    c.other_than-3.ensures ∙ c.if-other_than.true))))

pub returns : goal.returns
returns c =
    let lines = c.requires (sym c.string_form.ensures ∙ not-false _ c.if-not-string_form.false-raw) in
    first-is (later (ap not (sym c.string_form.ensures) ∙ c.if-not-string_form.false-raw)
    (later (ap bad_count (sym lines) ∙ sym c.bad_count.ensures ∙ c.if-bad_count.false)
    (later (fitting c.args.signs.now c.args.z.now c.args.x.now lines
    c.other_than.ensures c.other_than-2.ensures
    c.other_than-3.ensures ∙ c.if-other_than.false) none)))
