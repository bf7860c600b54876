-- The scan of the text of a job ends at the start of a line, with n and the steps kept.
use mathlib.Core.Path.{◌≡◌, refl, sym, ap, ◌∙◌, subst}
use mathlib.Core.Logic.{⊎_elim}
use mathlib.Core.Bool.{true, false, and-false}
use mathlib.Core.List.{List, [], ◌∷◌, ◌++◌, append_assoc, append-nil}
use Prim.Native.Nat.{ℕ, ◌+◌, ◌≤◌, ◌<◌, min}
use native.Mathlib.Nat.{min-eq_left, min-eq_right, le-min}
use native.Mathlib.Numerals.{add-one}
use native.Mathlib.Omega.{arith}
use lib.Dec.{ltb, lit≤}
use lib.ListN.{length, take, set, length-append, length-set}
use lib.Seq.{take_all, take-suc-set, take-append-le}
use borrow.Author.Tests.{lt-ltb, le-ltb}
use Rattle.jobs.specs.declared.Op.TheVariants.{Gate}
use Rattle.jobs.specs.declared.Step.{Step}
use Rattle.text.specs.Text.{newline}
use Rattle.words.proofs.Sums.{lt-or-ge}
use Rattle.jobs.specs.Text.{field, StepFits, EachStepFits, step_text, steps_text, qubits_line, step_names, job_head}
use Rattle.jobs.specs.Text.{job_text, JobTextOf}
use Rattle.text.proofs.Feeding.{fed-append, fed-one}
use Rattle.text.specs.internal.Feeding.{fed_bytes}
use Rattle.jobs.specs.internal.Scan.{
  as_reading,
  begin,
  digit_value,
  head_step,
  more_step,
  one_more,
  Reading,
  scan_byte,
  stored,
}
use Rattle.jobs.specs.internal.Scan.{feed_next, feed, fed, StepsKept}
use Rattle.jobs.specs.declared.scan.Field.TheVariants.{N, Value}
use Rattle.jobs.specs.declared.scan.Place.TheVariants.{Head, Word, First, More}
use Rattle.jobs.specs.declared.scan.Scan.{Scan}
use Rattle.jobs.proofs.StepLine.{scan_at, reading_at, field-read, line_read}

-- the steps in their array: i steps are there, and one more comes
module _ (buf steps : List Step) (s : Step) (whole : length buf ≡ 4096)
    (kept : take (length steps) buf ≡ take 4096 steps) where
  abbrev i : ℕ
  i = length steps

  steps-stored : i < 4096 → take (i + 1) (set buf i s) ≡ take 4096 (steps ++ s ∷ [])
  steps-stored inside =
      ap (λ k. take k (set buf i s)) (add-one i) ∙ take-suc-set buf i s (omega arith)
      ∙ ap (λ l. l ++ s ∷ []) (kept ∙ take_all 4096 steps (omega arith))
      ∙ sym (take_all 4096 (steps ++ s ∷ []) (omega (arith, length-append steps (s ∷ []))))

  steps-full : 4096 ≤ i → take (i + 1) buf ≡ take 4096 (steps ++ s ∷ [])
  steps-full outside =
      take_all (i + 1) buf (omega arith) ∙ sym (take_all i buf (omega arith)) ∙ kept
      ∙ sym (take-append-le 4096 steps (s ∷ []) outside)

-- the count, up to 4,097
count-more : (i : ℕ) → one_more (min i 4097) ≡ min (i + 1) 4097
unfolding one_more
count-more i = ⊎_elim
    (λ few.
    ap one_more (min-eq_left {n = i} {m = 4097} (omega arith))
    ∙ simp (lt-ltb i 4097 (omega arith)) (sym (min-eq_left {n = i + 1} {m = 4097} (omega arith))))
    (λ many.
    ap one_more (min-eq_right {n = 4097} {m = i} (omega arith))
    ∙ sym (min-eq_right {n = 4097} {m = i + 1} (omega arith)))
    (lt-or-ge i 4097)

-- these steps have been read: a line starts, and n and the steps are kept
pub record Read (n : ℕ) (steps : List Step) (w : Reading) : Type 0 where
  pub place : w.scan.place ≡ Word 0
  pub kept : StepsKept n steps w
  pub whole : length w.steps ≡ 4096

-- a step more is stored, or is beyond the array
module _ (n : ℕ) (steps : List Step) (s : Step) (w : Reading) (read : Read n steps w) where
  abbrev c : ℕ
  c = w.scan.count

  abbrev before : Reading
  before = reading_at w.steps w.scan.n c (More Value) s.op s.a s.b s.value

  abbrev next : Scan
  next = scan_at w.scan.n (one_more c) (Word 0) s.op s.a s.b s.value

  long : length (steps ++ s ∷ []) ≡ length steps + 1
  long = length-append steps (s ∷ [])

  counted : one_more c ≡ min (length (steps ++ s ∷ [])) 4097
  counted = ap one_more read.kept.count ∙ count-more (length steps) ∙ ap (λ k. min k 4097) (sym long)

  step-stored : length steps < 4096 → Read n (steps ++ s ∷ []) (stored before next)
  step-stored inside =
      let here : c ≡ length steps = read.kept.count ∙ min-eq_left (omega arith) in
      record {
        place = refl;
        kept = record {
          qubits = read.kept.qubits;
          count = counted;
          steps =
              ap (λ k. take k (set w.steps c s)) long
              ∙ ap (λ k. take (length steps + 1) (set w.steps k s)) here
              ∙ steps-stored w.steps steps s read.whole read.kept.steps inside;
        };
        whole = length-set w.steps c s ∙ read.whole;
      }

  step-beyond : 4096 ≤ length steps → Read n (steps ++ s ∷ []) (as_reading next w.steps)
  step-beyond outside =
      record {
        place = refl;
        kept = record {
          qubits = read.kept.qubits;
          count = counted;
          steps =
              ap (λ k. take k w.steps) long
              ∙ steps-full w.steps steps s read.whole read.kept.steps outside;
        };
        whole = read.whole;
      }

  -- a line more
  step-more : StepFits s → Read n (steps ++ s ∷ []) (fed w (step_text s))
  unfolding one_more
  step-more fit =
      let h = w.scan in
      let start : w ≡ reading_at w.steps h.n c (Word 0) h.op h.a h.b h.number =
      λ i. as_reading (scan_at h.n c (read.place i) h.op h.a h.b h.number) w.steps
      in
      let whole : fed w (step_text s) ≡ feed_next before next =
      ap (λ v. fed v (step_text s)) start
      ∙ line_read w.steps h.n c h.op h.a h.b h.number s fit
      in
      subst (Read n (steps ++ s ∷ [])) (sym whole)
      (⊎_elim
      (λ inside.
      let here : c ≡ length steps = read.kept.count ∙ min-eq_left (omega arith) in
      let rises : ltb c (one_more c) ≡ true =
      simp (lt-ltb c 4097 (omega arith)) (lt-ltb c (c + 1) (omega arith)) in
      simp (rises, lt-ltb c 4096 (omega arith)) (step-stored inside))
      (λ outside.
      let here : c ≡ min (length steps) 4097 = read.kept.count in
      let full : ltb c 4096 ≡ false =
      le-ltb c 4096 (omega (arith, le-min {k = 4096} outside (lit≤ {m = 4096} {n = 4097} tt))) in
      simp (full, and-false) (step-beyond outside))
      (lt-or-ge (length steps) 4096))

-- more lines
steps-more : (n : ℕ) (ss ts : List Step) (w : Reading) → Read n ss w → EachStepFits ts
    → Read n (ss ++ ts) (fed w (steps_text ts))
unfolding steps_text fed_bytes
steps-more n ss [] w read fit = subst (λ l. Read n l w) (sym (append-nil ss)) read
steps-more n ss (t ∷ ts) w read fit =
    subst (Read n (ss ++ t ∷ ts)) (sym (fed-append feed w (step_text t) (steps_text ts)))
    (subst (λ l. Read n l (fed (fed w (step_text t)) (steps_text ts))) (append_assoc ss (t ∷ []) ts)
    (steps-more n (ss ++ t ∷ []) ts (fed w (step_text t)) (step-more n ss t w read fit.0) fit.1))

-- the three lines before the steps
module _ (S : List Step) (n : ℕ) (few : n < 1000) where
  qubits-read : fed (as_reading begin S) qubits_line ≡ reading_at S 0 0 (First N) Gate 0 0 0
  unfolding fed_bytes feed scan_byte head_step begin
  qubits-read = refl

  n-ends : feed (reading_at S 0 0 (More N) Gate 0 0 n) 10 ≡ reading_at S n 0 (Head 7) Gate 0 0 n
  unfolding feed scan_byte more_step digit_value
  n-ends = refl

  names-read : fed (reading_at S n 0 (Head 7) Gate 0 0 n) step_names ≡ reading_at S n 0 (Word 0) Gate 0 0 n
  unfolding fed_bytes feed scan_byte head_step
  names-read = refl

  head_read : fed (as_reading begin S) (job_head n) ≡ reading_at S n 0 (Word 0) Gate 0 0 n
  unfolding job_head
  head_read =
      let w = as_reading begin S in
      fed-append feed w (qubits_line ++ field n ++ newline) step_names
      ∙ ap (λ v. fed v step_names)
      (fed-one feed w (qubits_line ++ field n) 10
      ∙ ap (λ v. feed v 10)
      (fed-append feed w qubits_line (field n) ∙ ap (λ v. fed v (field n)) qubits-read
      ∙ field-read S 0 0 N Gate 0 0 0 n few)
      ∙ n-ends)
      ∙ names-read

-- a whole text
pub text-read : (S : List Step) → length S ≡ 4096 → (n : ℕ) (steps : List Step) (t : List ℕ)
    → JobTextOf n steps t → Read n steps (fed (as_reading begin S) t)
unfolding job_text
text-read S whole n steps t text =
    let w = reading_at S n 0 (Word 0) Gate 0 0 n in
    let none : Read n [] w = record {
      place = refl;
      kept = record { qubits = refl; count = refl; steps = refl };
      whole = whole;
    } in
    let all : fed (as_reading begin S) t ≡ fed w (steps_text steps) =
    ap (fed (as_reading begin S)) text.text ∙ fed-append feed (as_reading begin S) (job_head n) (steps_text steps)
    ∙ ap (λ v. fed v (steps_text steps)) (head_read S n text.few)
    in
    subst (Read n steps) (sym all) (steps-more n [] steps w none text.fit)
