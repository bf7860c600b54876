-- Each draw gives a gate, a CZ on two qubits or a measurement, with unused fields 0 and numbers that fit.
use mathlib.Core.Path.{◌≡◌, refl, ap}
use mathlib.Core.Bool.{false, true}
use mathlib.Core.List.{List, [], ◌∷◌}
use Prim.Native.Nat.{ℕ, zero, suc, ◌+◌, ◌*◌, ◌/◌, ◌%◌, ◌≤◌, ◌<◌}
use native.Mathlib.Nat.{mod-lt}
use native.Mathlib.Omega.{arith}
use lib.Dec.{eqb, lit<}
use lib.ListN.{length}
use borrow.Author.Tests.{eq-eqb, ne_eqb, eqb-false}
use Rattle.jobs.specs.Asked.{unused_set}
use Rattle.jobs.specs.declared.Op.TheVariants.{Gate, Cz, Measure}
use Rattle.jobs.specs.declared.Step.{Step}
use Rattle.jobs.specs.Text.{StepFits, EachStepFits, in_texts}
use Rattle.words.proofs.Flags.{by-test}
use Rattle.jobs.specs.Draws.{draw}
use Rattle.jobs.specs.Drawn.{does, drawn, drawn_code, drawn_outcome, qubit_a, qubit_b, step_of}
use Rattle.jobs.specs.Shapes.{AllDrawable, Drawable}
use Rattle.jobs.specs.internal.Shapes.{Small}
use Rattle.jobs.specs.Shapes.Drawable.{gate, cz, measure}

-- "d mod 3 of 0, 1, 2 picks gate, cz, measure"
pub gate-picked : (n d : ℕ) → d % 3 ≡ 0 → step_of n d ≡ does Gate (qubit_a n d) 0 (drawn_code d)
unfolding step_of
gate-picked n d picks = simp (eq-eqb (d % 3) 0 picks)

pub measure-picked : (n d : ℕ) → (d % 3 ≡ 0 → ⊥) → (d % 3 ≡ 1 → ⊥)
    → step_of n d ≡ does Measure (qubit_a n d) 0 (2 * (d / 32768 % 3) + drawn_outcome d)
unfolding step_of
measure-picked n d no-gate no-cz =
    simp (ne_eqb (d % 3) 0 no-gate, ne_eqb (d % 3) 1 no-cz)
    (ap (λ p. does Measure (qubit_a n d) 0 (2 * p + drawn_outcome d)) (omega arith))

-- "A cz with a = b becomes a gate with code 8 on a"
module _ (n d : ℕ) (picks : d % 3 ≡ 1) where
  pub cz-on-one : qubit_a n d ≡ qubit_b n d → step_of n d ≡ does Gate (qubit_a n d) 0 8
  unfolding step_of
  cz-on-one same = simp (ne_eqb (d % 3) 0 (omega arith), eq-eqb (d % 3) 1 picks, eq-eqb _ _ same)

  pub cz-on-two : (qubit_a n d ≡ qubit_b n d → ⊥) → step_of n d ≡ does Cz (qubit_a n d) (qubit_b n d) 0
  unfolding step_of
  cz-on-two other = simp (ne_eqb (d % 3) 0 (omega arith), eq-eqb (d % 3) 1 picks, ne_eqb _ _ other)

module _ (n : ℕ) (some : 0 < n) where
  pub below : (d : ℕ) → d % n < n
  below d = mod-lt d some

  -- each draw gives a step of these
  pub drawable : (d : ℕ) → Drawable n (step_of n d)
  unfolding step_of
  drawable d =
      let a = below (d / 8) in
      by-test (Drawable n) (eqb (d % 3) 0) _ _
      (λ _. gate a (omega arith))
      (λ _. by-test (Drawable n) (eqb (d % 3) 1) _ _
      (λ _. by-test (Drawable n) (eqb (qubit_a n d) (qubit_b n d)) _ _
      (λ _. gate a (lit< tt))
      (λ differ. cz a (below (d / 512)) (eqb-false _ _ differ)))
      (λ _. measure a (omega arith)))

  pub all-drawable : (count s : ℕ) → AllDrawable n (drawn n count s)
  unfolding drawn
  all-drawable zero s = tt
  all-drawable (suc k) s = (drawable (draw s), all-drawable k (draw s))

-- "fields that §5 calls unused are 0"
pub unused-none : {n : ℕ} {s : Step} → Drawable n s → unused_set s.op s.b s.value ≡ false
unused-none (gate h k) = refl
unused-none (cz h k differ) = refl
unused-none (measure h k) = refl

module _ {n : ℕ} (few : n ≤ 64) where
  pub small : {s : Step} → Drawable n s → Small s
  small (gate h k) = record { a = omega arith; b = lit< tt; value = omega arith }
  small (cz h k differ) = record { a = omega arith; b = omega arith; value = lit< tt }
  small (measure h k) = record { a = omega arith; b = lit< tt; value = omega arith }

  named : {s : Step} → Drawable n s → in_texts s.op ≡ true
  named (gate h k) = refl
  named (cz h k differ) = refl
  named (measure h k) = refl

  fits : {s : Step} → Drawable n s → StepFits s
  fits d = let m = small d in
      record { op = named d; a = omega (arith, m.a); b = omega (arith, m.b); value = omega (arith, m.value) }

  pub all_fit : (ss : List Step) → AllDrawable n ss → EachStepFits ss
  all_fit [] d = tt
  all_fit (s ∷ ss) d = (fits d.0, all_fit ss d.1)

-- one step for each draw
pub length-drawn : (n count s : ℕ) → length (drawn n count s) ≡ count
unfolding drawn
length-drawn n zero s = refl
length-drawn n (suc k) s = ap suc (length-drawn n k (draw s))
