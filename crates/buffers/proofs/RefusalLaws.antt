-- A refusal that is passed on with `?`: its number is that of the refused call, and not 0.
use Rattle.std.specs.Prelude.{Result, Ok, Err, ◌≡◌, ℕ}
use Rattle.std.specs.Result.{IsErrAnd}
use Rattle.std.proofs.Common.{ap, arith, ◌∙◌}
use mathlib.Core.Bool.{Bool, false, true, ◌||◌}
use mathlib.Core.Path.{refl}
use lib.Dec.{eqb}
use borrow.Author.Tests.{eqb-true, eqb-false}
use Rattle.words.proofs.Flags.{neither}
use Rattle.buffers.specs.internal.Numbers.{number_of, refusal_number}
use Rattle.buffers.specs.declared.refusals.Refusal.{Refusal}
use Rattle.buffers.specs.declared.refusals.Refusal.TheVariants.{Anticommute, Contradicted, Count, Dependent, Form, Full}
use Rattle.buffers.specs.declared.refusals.Refusal.TheVariants.{Graph, ImageC, ImageY, Inequivalent, Large, Length}
use Rattle.buffers.specs.declared.refusals.Refusal.TheVariants.{NotHeld, NotUsed, OtherGroup, Qubit, Steps, Stray, Used, Value}

-- no refusal has the number 0
pub refuses : (refusal : Refusal) → refusal_number refusal ≡ 0 → ⊥
refuses Form z = grind arith
refuses Count z = grind arith
refuses Large z = grind arith
refuses Length z = grind arith
refuses Stray z = grind arith
refuses Value z = grind arith
refuses Graph z = grind arith
refuses Qubit z = grind arith
refuses Anticommute z = grind arith
refuses Dependent z = grind arith
refuses ImageC z = grind arith
refuses ImageY z = grind arith
refuses Inequivalent z = grind arith
refuses Contradicted z = grind arith
refuses Steps z = grind arith
refuses Used z = grind arith
refuses NotHeld z = grind arith
refuses Full z = grind arith
refuses OtherGroup z = grind arith
refuses NotUsed z = grind arith

-- ---- `refuses_shape`
pub no-shape : (k : ℕ) → (eqb k 2 || eqb k 4) ≡ false → (k ≡ 2 → ⊥) × (k ≡ 4 → ⊥)
no-shape k e =
    let N = neither (eqb k 2) (eqb k 4) e in
    (eqb-false k 2 N.0, eqb-false k 4 N.1)

pub of-shape : {Q : Type 0} (k : ℕ) → (eqb k 2 || eqb k 4) ≡ true → (k ≡ 2 → Q) → ((k ≡ 2 → ⊥) → k ≡ 4 → Q) → Q
of-shape {Q} k e two four = go (eqb k 2) refl e
  where
    go : (b : Bool) → eqb k 2 ≡ b → (b || eqb k 4) ≡ true → Q
    go true h t = two (eqb-true k 2 h)
    go false h t = four (eqb-false k 2 h) (eqb-true k 4 t)

-- ---- `?`
-- what `?` returns of an `Err`: `let R = passed_on _ _ c.from_residual.ensures.1 c.in_err-f.ensures in refused _ R.0 R.1 ..`
pub passed_on : {A : Type 0} (r : Result A Refusal) (refusal : Refusal) → IsErrAnd r (λ v. v ≡ refusal) → {k : ℕ} →
    refusal_number refusal ≡ k → (number_of r ≡ k) × (number_of r ≡ 0 → ⊥)
passed_on (Ok _) refusal p e = absurd p
passed_on (Err v) refusal p e = (ap refusal_number p ∙ e, refuses v)
