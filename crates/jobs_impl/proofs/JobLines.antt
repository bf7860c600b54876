-- The loop that writes the lines of the steps drawn.
use mathlib.Core.Path.{◌≡◌, refl, sym, ap, ◌∙◌, subst}
use mathlib.Core.List.{List, [], ◌∷◌, ◌++◌, append_assoc, append-nil}
use Prim.Native.Nat.{ℕ, suc, zero, ◌+◌, ◌-◌, ◌*◌, ◌≤◌, ◌<◌}
use native.Mathlib.Nat.{add-zero, not-suc-le-zero}
use native.Mathlib.Omega.{arith}
use lib.ListN.{length, length-append}
use Rattle.jobs.proofs.Lengths.{length-head, length-step}
use Rattle.jobs.proofs.Shapes.{drawable, small}
use Rattle.jobs.specs.Drawn.{drawn, generated_text, step_of}
use Rattle.jobs.specs.Draws.{draw}
use Rattle.jobs.specs.GeneratedLines.{room}
use Rattle.jobs.specs.Shapes.{Drawable}
use Rattle.jobs.specs.internal.Shapes.{Small}
use Rattle.text.proofs.NumeralLaws.{two-places}
use Rattle.jobs.specs.Text.{field, job_head, job_text, qubits_line, step_names, step_text, steps_text}
use Rattle.jobs.specs.declared.Step.{Step}
use Rattle.buffers.proofs.Writing.{and_then, write-none}
use Rattle.text.specs.Text.{decimal, newline}
use Rattle.buffers.specs.Writing.{Printed}

-- the three lines before the steps
pub head-parts : (n : ℕ) → n ≤ 64 → qubits_line ++ decimal n ++ (10 ∷ step_names) ≡ job_head n
unfolding job_head
head-parts n few =
    ap (λ l. qubits_line ++ l ++ (10 ∷ step_names)) (sym (two-places 1 n (omega arith)))
    ∙ sym (append_assoc (qubits_line ++ field n) newline step_names)

-- the lines of the first steps stand from place at₀ on; `left` steps are still to be drawn, from the state s
pub record Writing (n count seed : ℕ) (out₀ : List ℕ) (at₀ : ℕ) (out : List ℕ) (at s left : ℕ) : Type 0 where
  pub sofar : List ℕ
  pub printed : Printed sofar at₀ out₀ out at
  pub whole : sofar ++ steps_text (drawn n left s) ≡ steps_text (drawn n count seed)
  pub fits : at₀ + length sofar + left * 15 ≤ length out₀
  pub long : length out ≡ length out₀

-- one step more
lines_more : (n left s : ℕ) → 0 < left
    → steps_text (drawn n left s) ≡ step_text (step_of n (draw s)) ++ steps_text (drawn n (left - 1) (draw s))
unfolding drawn steps_text
lines_more n zero s some = absurd (not-suc-le-zero some)
lines_more n (suc k) s some =
    let one_less : k ≡ suc k - 1 = omega arith in
    ap (λ j. step_text (step_of n (draw s)) ++ steps_text (drawn n j (draw s))) one_less

module _ (n count seed : ℕ) (some : 0 < n) (few : n ≤ 64) where
  pub none_written : (out₀ : List ℕ) (at₀ : ℕ) → count ≤ 4096 → length out₀ ≡ room → at₀ ≡ length (job_head n)
      → Writing n count seed out₀ at₀ out₀ at₀ seed count
  none_written out₀ at₀ short long head = record {
    sofar = [];
    printed = record { end = sym (add-zero _); out = write-none _ _ };
    whole = refl;
    fits = omega (arith, length-head {n = n} few);
    long = refl;
  }

  -- a turn: the draw d, and the step t
  module _ (out₀ : List ℕ) (at₀ : ℕ) (out : List ℕ) (at s left : ℕ) (w : Writing n count seed out₀ at₀ out at s left)
      (more : 0 < left) (d : ℕ) (drew : d ≡ draw s) (t : Step) (gave : t ≡ step_of n d) where
    is-drawable : Drawable n t
    is-drawable = subst (Drawable n) (sym gave) (drawable n some d)

    pub line-room : Small t × (at + length (step_text t) ≤ length out)
    line-room = (
      small few is-drawable,
      omega (arith, length-step few is-drawable, w.printed.end, w.fits, w.long),
    )

    first-line : steps_text (drawn n left s) ≡ step_text t ++ steps_text (drawn n (left - 1) d)
    first-line =
        lines_more n left s more
        ∙ ap (λ e. step_text (step_of n e) ++ steps_text (drawn n (left - 1) e)) (sym drew)
        ∙ ap (λ u. step_text u ++ steps_text (drawn n (left - 1) d)) (sym gave)

    pub line-written : (out' : List ℕ) (r : ℕ) → Printed (step_text t) at out out' r → length out' ≡ length out
        → Writing n count seed out₀ at₀ out' r d (left - 1)
    line-written out' r p long =
        record {
          sofar = w.sofar ++ step_text t;
          printed = and_then (omega (arith, w.fits)) w.printed p;
          whole =
              append_assoc w.sofar (step_text t) (steps_text (drawn n (left - 1) d))
              ∙ ap (λ l. w.sofar ++ l) (sym first-line) ∙ w.whole;
          fits = omega (
            arith,
            w.fits,
            length-step few is-drawable,
            length-append w.sofar (step_text t),
          );
          long = long ∙ w.long;
        }

  pub all-written : (o out₀ out : List ℕ) (at₀ at s left : ℕ) → length o ≡ room → Printed (job_head n) 0 o out₀ at₀
      → Writing n count seed out₀ at₀ out at s left → left ≤ 0 → Printed (generated_text n count seed) 0 o out at
  unfolding drawn steps_text job_text
  all-written o out₀ out at₀ at s left long head w none =
      let zero_left : left ≡ 0 = omega arith in
      let lines : w.sofar ≡ steps_text (drawn n count seed) =
      sym (append-nil w.sofar) ∙ ap (λ k. w.sofar ++ steps_text (drawn n k s)) (sym zero_left) ∙ w.whole
      in
      subst (λ l. Printed (job_head n ++ l) 0 o out at) lines
      (and_then (omega (arith, length-head {n = n} few)) head w.printed)
