-- The length of the text: at most 15 bytes for a step, and 61,463 in all.
use mathlib.Core.Path.{◌≡◌, sym, ap, subst}
use mathlib.Core.List.{List, [], ◌∷◌}
use Prim.Native.Nat.{ℕ, ◌+◌, ◌*◌, ◌≤◌, ◌<◌}
use native.Mathlib.Omega.{arith}
use lib.Dec.{lit<}
use lib.ListN.{length, length-append}
use Rattle.jobs.specs.declared.Op.{Op}
use Rattle.jobs.specs.declared.Op.TheVariants.{Gate, Cz, Measure}
use Rattle.jobs.specs.declared.Step.{Step}
use Rattle.text.proofs.HexLaws.{length-decimal}
use Rattle.text.proofs.NumeralLaws.{one_place, two-places}
use Rattle.jobs.specs.Text.{field, job_head, job_text, op_word, step_text, steps_text}
use Rattle.jobs.specs.Drawn.{drawn, generated_text}
use Rattle.jobs.specs.GeneratedLines.{room}
use Rattle.jobs.specs.Shapes.{AllDrawable, Drawable}
use Rattle.jobs.specs.Shapes.Drawable.{gate, cz, measure}
use Rattle.jobs.proofs.Shapes.{all-drawable, length-drawn}

two_digits : (v : ℕ) → v < 100 → length (field v) ≤ 2
two_digits v few = subst (λ l. length l ≤ 2) (sym (two-places 1 v few)) (length-decimal v)

one-digit : (v : ℕ) → v < 10 → length (field v) ≡ 1
one-digit v few = ap length (one_place 2 v few)

-- a line is as long as its parts
pub length-line : (op : Op) (a b value : ℕ)
    → length (step_text (record { op = op; a = a; b = b; value = value }))
    ≡ length (op_word op) + length (field a) + length (field b) + length (field value) + 4
unfolding step_text
length-line op a b value = simp length-append (omega arith)

module _ {n : ℕ} (few : n ≤ 64) where
  -- "measure 63 0 5" and its newline is the longest line
  pub length-step : {s : Step} → Drawable n s → length (step_text s) ≤ 15
  unfolding op_word
  length-step (gate {a} {code} h k) =
      omega (
        arith,
        length-line Gate a 0 code,
        two_digits a (omega arith),
        one-digit 0 (lit< tt),
        two_digits code (omega arith),
      )
  length-step (cz {a} {b} h k differ) =
      omega (
        arith,
        length-line Cz a b 0,
        two_digits a (omega arith),
        two_digits b (omega arith),
        one-digit 0 (lit< tt),
      )
  length-step (measure {a} {value} h k) =
      omega (
        arith,
        length-line Measure a 0 value,
        two_digits a (omega arith),
        one-digit 0 (lit< tt),
        one-digit value (omega arith),
      )

  pub length-steps : (ss : List Step) → AllDrawable n ss → length (steps_text ss) ≤ length ss * 15
  unfolding steps_text
  length-steps [] d = omega arith
  length-steps (s ∷ ss) d =
      simp length-append (omega (arith, length-step d.0, length-steps ss d.1))

  pub length-head : length (job_head n) ≤ 23
  unfolding job_head
  length-head = simp length-append (omega (arith, two_digits n (omega arith)))

  -- "Its lent buffer has 61,463 bytes"
  pub length-text : (count seed : ℕ) → 0 < n → count ≤ 4096 → length (generated_text n count seed) ≤ room
  unfolding job_text
  length-text count seed some short =
      let ss = drawn n count seed in
      omega (
        arith,
        length-append (job_head n) (steps_text ss),
        length-head,
        length-steps ss (all-drawable n some count seed),
        length-drawn n count seed,
      )
