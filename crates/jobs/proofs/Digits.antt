-- The digits of a field: one more at the low end, and back to the number.
use mathlib.Core.Path.{◌≡◌, sym, ap, ap₂, ◌∙◌}
use mathlib.Core.Bool.{cond}
use mathlib.Core.List.{[], ◌∷◌, ◌++◌}
use Prim.Native.Nat.{ℕ, ◌+◌, ◌-◌, ◌*◌, ◌<◌}
use native.Mathlib.Omega.{arith}
use lib.Dec.{ltb}
use borrow.Author.Tests.{lt-ltb, le-ltb, ltb-false}
use Rattle.text.proofs.NumeralLaws.{digits_last, two-places}
use Rattle.text.specs.Text.{digits}
use Rattle.words.proofs.Flags.{by-test}
use Rattle.jobs.specs.internal.Scan.{digit_value}

pub value-digit : (d : ℕ) → d < 10 → digit_value (48 + d) ≡ d
unfolding digit_value
value-digit d small =
    simp (le-ltb (48 + d) 48 (omega arith), lt-ltb (48 + d) 58 (omega arith)) (omega arith)

pub digit_value_lem : (b : ℕ) → digit_value b < 10 → b ≡ 48 + digit_value b
unfolding digit_value
digit_value_lem b =
    by-test Right (ltb b 48) 10 (cond (ltb b 58) (b - 48) 10) (λ _ small. absurd (omega arith))
    (λ above. by-test Right (ltb b 58) (b - 48) 10
    (λ below small. omega (arith, ltb-false b 48 above))
    (λ _ small. absurd (omega arith)))
  where
    Right : ℕ → Type 0
    Right v = v < 10 → b ≡ 48 + v

-- one digit more at the low end
pub digits_push : (v d : ℕ) → 0 < v → v < 100 → d < 10 → digits 3 (v * 10 + d) ≡ digits 3 v ++ (48 + d) ∷ []
digits_push v d some small one =
    digits_last 2 (v * 10 + d) (omega arith)
    ∙ ap₂ (λ m e. digits 2 m ++ (48 + e) ∷ []) (omega arith) (omega arith)
    ∙ ap (λ l. l ++ (48 + d) ∷ []) (two-places 0 v small ∙ sym (two-places 1 v small))
