-- Each byte keeps what is known of the text so far; so a scan that ends at the start of a line has read a text that
-- has the form.
use mathlib.Core.Path.{◌≡◌, sym, ap, ap₂, ◌∙◌, subst}
use mathlib.Core.Logic.{⊎_elim}
use mathlib.Core.Bool.{◌&&◌, and-eq-true_iff, cond, true}
use mathlib.Core.List.{List, [], ◌∷◌, ◌++◌, append_assoc, append-nil}
use Prim.Native.Nat.{ℕ, ◌+◌, ◌-◌, ◌*◌, ◌≤◌, ◌<◌, zero-le}
use native.Mathlib.Nat.{eq-or-lt_of_le}
use native.Mathlib.Numerals.{add-one}
use native.Mathlib.Omega.{arith}
use lib.Dec.{eqb, ltb, lit<}
use lib.ListN.{get_or, take, length-append, get_or-append}
use lib.Seq.{take-suc, take_all, get_or-append-add, get_or-append_seam}
use borrow.Author.Tests.{lt-ltb, le-ltb, ltb-true, eqb-true, eqb-false}
use Rattle.jobs.specs.declared.Step.{Step}
use Rattle.text.specs.Text.{space, newline}
use Rattle.words.proofs.Flags.{by-test}
use Rattle.words.proofs.Sums.{lt-or-ge}
use Rattle.jobs.specs.Text.{field, in_texts, op_word, StepFits, step_text, qubits_line, step_names, job_head}
use Rattle.jobs.specs.Text.{job_text}
use Rattle.jobs.specs.internal.Scan.{moved, with_op, with_number, head_bytes, head_step, letters}
use Rattle.jobs.specs.internal.Scan.{
  op_for,
  word_step,
  digit_value,
  first_step,
  separator,
  ended,
  more_step,
  step_at,
}
use Rattle.jobs.specs.declared.scan.Field.{Field}
use Rattle.jobs.specs.declared.scan.Field.TheVariants.{N, A, B, Value}
use Rattle.jobs.specs.declared.scan.Place.{Place}
use Rattle.jobs.specs.declared.scan.Place.TheVariants.{Head, Word, First, More, Broken}
use Rattle.jobs.specs.declared.scan.Scan.{Scan}
use Rattle.text.proofs.NumeralLaws.{one_place}
use Rattle.jobs.proofs.Digits.{digit_value_lem, digits_push}
use Rattle.jobs.proofs.OpLaws.{letter_at, next-in-texts, space-last, same_start}
use Rattle.jobs.proofs.Steps.{job-none, job-more, fit-more}
use Rattle.jobs.proofs.Sofar.{Upto, a_part, b_part, value_part, Before, Inside, AtHead, AtWord, Sofar}
use Rattle.jobs.proofs.Sofar.{upto-more, upto-field}

-- the operation that the scan holds stays one of texts
pub stays-in-texts : (p : Place) (s : Scan) (b : ℕ) → in_texts s.op ≡ true → in_texts (step_at p s b).op ≡ true
unfolding word_step first_step more_step
stays-in-texts (Head k) s b e = e
stays-in-texts (Word k) s b e =
    let o = op_for k s.op b in
    by-test (λ r. in_texts r.op ≡ true) (ltb k 11 && eqb b (get_or (letters o) k 0))
    (with_op s o (cond (eqb b 32) (First A) (Word (k + 1)))) (moved s Broken) (λ _. next-in-texts k s.op b e) (λ _. e)
stays-in-texts (First f) s b e =
    by-test (λ r. in_texts r.op ≡ true) (ltb (digit_value b) 10) (with_number s (digit_value b) (More f))
    (moved s Broken)
    (λ _. e) (λ _. e)
stays-in-texts (More f) s b e =
    let read = with_number s (s.number * 10 + digit_value b) (More f) in
    by-test (λ r. in_texts r.op ≡ true) (ltb (digit_value b) 10)
    (cond (ltb 0 s.number && ltb s.number 100) read (moved s Broken))
    (cond (eqb b (separator f)) (ended f s) (moved s Broken))
    (λ _. by-test (λ r. in_texts r.op ≡ true) (ltb 0 s.number && ltb s.number 100) read (moved s Broken)
    (λ _. e)
    (λ _. e))
    (λ _. by-test (λ r. in_texts r.op ≡ true) (eqb b (separator f)) (ended f s) (moved s Broken) (λ _. kept f)
    (λ _. e))
  where
    kept : (f : Field) → in_texts (ended f s).op ≡ true
    kept N = e
    kept A = e
    kept B = e
    kept Value = e
stays-in-texts Broken s b e = e

module _ (s : Scan) (t : List ℕ) (b : ℕ) (named : in_texts s.op ≡ true) where
  abbrev After : Scan → Type 0
  After r = Sofar r.place r (t ++ b ∷ [])

  -- in the line `qubits`
  qubits-sound : (k : ℕ) → AtHead k s.n t → b ≡ get_or head_bytes k 0 → k < 7
      → After (moved s (cond (eqb k 6) (First N) (cond (eqb k 19) (Word 0) (Head (k + 1)))))
  qubits-sound k sofar byte low =
      let here : t ≡ take k qubits_line =
      sofar.text ∙ ap (λ v. cond v (take k qubits_line) (qubits_line ++ field s.n ++ newline
      ++ take (k - 7) step_names)) (lt-ltb k 7 low) in
      let next : t ++ b ∷ [] ≡ take (k + 1) qubits_line =
      ap₂ (λ l c. l ++ c ∷ []) here (byte ∙ get_or-append qubits_line step_names 0 k low)
      ∙ sym (ap (λ m. take m qubits_line) (add-one k) ∙ take-suc qubits_line k 0 low)
      in
      by-test (λ p. After (moved s p)) (eqb k 6) (First N) (cond (eqb k 19) (Word 0) (Head (k + 1)))
      (λ last. next ∙ ap (λ m. take (m + 1) qubits_line) (eqb-true k 6 last))
      (λ more. by-test (λ p. After (moved s p)) (eqb k 19) (Word 0) (Head (k + 1))
      (λ last. absurd (omega (arith, eqb-true k 19 last)))
      (λ _. let inside : k + 1 < 7 = omega (arith, eqb-false k 6 more) in
      record {
        inside = omega arith;
        few = sofar.few;
        text = next ∙ sym (ap (λ v. cond v (take (k + 1) qubits_line) (qubits_line ++ field s.n ++ newline
            ++ take (k + 1 - 7) step_names)) (lt-ltb (k + 1) 7 inside));
      }))

  -- in the names
  names-sound : (k : ℕ) → AtHead k s.n t → b ≡ get_or head_bytes k 0 → 7 ≤ k
      → After (moved s (cond (eqb k 6) (First N) (cond (eqb k 19) (Word 0) (Head (k + 1)))))
  unfolding job_head
  names-sound k sofar byte high =
      let line = qubits_line ++ field s.n ++ newline in
      let part : ℕ → List ℕ = λ m. cond (ltb m 7) (take m qubits_line) (line ++ take (m - 7) step_names) in
      let i = k - 7 in
      let at : k ≡ 7 + i = omega arith in
      let inside : i < 13 = omega (arith, sofar.inside) in
      let here : t ≡ line ++ take i step_names =
      sofar.text ∙ ap (λ v. cond v (take k qubits_line) (line ++ take i step_names)) (le-ltb k 7 high) in
      let letter : b ≡ get_or step_names i 0 =
      byte ∙ ap (λ m. get_or head_bytes m 0) at ∙ get_or-append-add qubits_line step_names i 0 in
      let next : t ++ b ∷ [] ≡ line ++ take (i + 1) step_names =
      ap₂ (λ l c. l ++ c ∷ []) here letter
      ∙ append_assoc line (take i step_names) (get_or step_names i 0 ∷ [])
      ∙ ap (λ l. line ++ l) (sym (ap (λ m. take m step_names) (add-one i) ∙ take-suc step_names i 0 inside))
      in
      by-test (λ p. After (moved s p)) (eqb k 6) (First N) (cond (eqb k 19) (Word 0) (Head (k + 1)))
      (λ last. absurd (omega (arith, eqb-true k 6 last)))
      (λ _. by-test (λ p. After (moved s p)) (eqb k 19) (Word 0) (Head (k + 1))
      (λ last.
      let all : t ++ b ∷ [] ≡ job_head s.n =
      next ∙ ap (λ m. line ++ take (m - 7 + 1) step_names) (eqb-true k 19 last) in
      record {
        inside = zero-le;
        upto = record {
          steps = [];
          few = sofar.few;
          fit = tt;
          text = all ∙ sym (append-nil (job_text s.n []) ∙ job-none s.n);
        };
      })
      (λ more.
      let on : k + 1 - 7 ≡ i + 1 = omega arith in
      record {
        inside = omega (arith, sofar.inside, eqb-false k 19 more);
        few = sofar.few;
        text = next ∙ sym (ap (λ v. cond v (take (k + 1) qubits_line) (line ++ take (k + 1 - 7) step_names))
            (le-ltb (k + 1) 7 (omega arith))
            ∙ ap (λ m. line ++ take m step_names) on);
      }))

  head-sound : (k : ℕ) → AtHead k s.n t → After (moved s (head_step k b))
  unfolding head_step
  head-sound k sofar =
      by-test (λ p. After (moved s p)) (ltb k 20 && eqb b (get_or head_bytes k 0))
      (cond (eqb k 6) (First N) (cond (eqb k 19) (Word 0) (Head (k + 1)))) Broken
      (λ fits.
      let byte = eqb-true b (get_or head_bytes k 0) ((and-eq-true_iff (ltb k 20) (eqb b (get_or head_bytes k 0))).0
      fits).1 in
      ⊎_elim (qubits-sound k sofar byte) (names-sound k sofar byte) (lt-or-ge k 7))
      (λ _. tt)

  word_sound : (k : ℕ) → AtWord k s.n s.op t → After (word_step k s b)
  unfolding word_step
  word_sound k sofar =
      let o = op_for k s.op b in
      let read = with_op s o (cond (eqb b 32) (First A) (Word (k + 1))) in
      by-test After (ltb k 11 && eqb b (get_or (letters o) k 0)) read (moved s Broken)
      (λ fits.
      let same = same_start k s.op b sofar.inside in
      let long = length-append (op_word o) space in
      let byte : b ≡ get_or (a_part o) k 0 =
      eqb-true b (get_or (letters o) k 0) ((and-eq-true_iff (ltb k 11) (eqb b (get_or (letters o) k 0))).0 fits).1
      ∙ letter_at o k same.1 in
      let part : take k (a_part s.op) ++ b ∷ [] ≡ take (k + 1) (a_part o) =
      ap₂ (λ l c. l ++ c ∷ []) same.0 byte
      ∙ sym (ap (λ m. take m (a_part o)) (add-one k) ∙ take-suc (a_part o) k 0 (omega (arith, same.1, long)))
      in
      let upto = upto-more b (take (k + 1) (a_part o)) part sofar.upto in
      by-test (λ p. After (with_op s o p)) (eqb b 32) (First A) (Word (k + 1))
      (λ last.
      let end = space-last o k same.1 (sym byte ∙ eqb-true b 32 last) in
      subst (Upto s.n (t ++ b ∷ [])) (take_all (k + 1) (a_part o) (omega (arith, end, long))) upto)
      (λ more. record {
        inside = ⊎_elim
            (λ e. absurd (eqb-false b 32 more (byte ∙ ap (λ m. get_or (a_part o) m 0) e
            ∙ get_or-append_seam (op_word o) 32 [] 0)))
            (λ less. omega arith) (eq-or-lt_of_le same.1);
        upto = upto;
      }))
      (λ _. tt)

  first-sound : (f : Field) → Before f s.n s.op s.a s.b t → After (first_step f s b)
  unfolding first_step
  first-sound f sofar =
      let d = digit_value b in
      by-test After (ltb d 10) (with_number s d (More f)) (moved s Broken)
      (λ one. let small = ltb-true d 10 one in
      record {
        start = t;
        before = sofar;
        small = omega arith;
        text = ap (λ l. t ++ l) (ap (λ c. c ∷ []) (digit_value_lem b small) ∙ sym (one_place 2 d small));
      })
      (λ _. tt)

  ended-sound : (f : Field) → Inside f s.n s.op s.a s.b s.number t → b ≡ separator f
      → After (ended f s)
  unfolding step_text
  ended-sound N sofar byte =
      record {
        inside = lit< tt;
        few = sofar.small;
        text =
            ap₂ (λ l c. l ++ c ∷ []) (sofar.text ∙ ap (λ l. l ++ field s.number) sofar.before) byte
            ∙ sym (append-nil (qubits_line ++ field s.number ++ newline));
      }
  ended-sound A sofar byte = (
    subst (λ c. Upto s.n (t ++ b ∷ []) (a_part s.op ++ field s.number ++ c ∷ [])) byte
        (upto-field s.number b sofar.text sofar.before),
    sofar.small,
  )
  ended-sound B sofar byte = (
    subst (λ c. Upto s.n (t ++ b ∷ []) (b_part s.op s.a ++ field s.number ++ c ∷ [])) byte
        (upto-field s.number b sofar.text sofar.before.0),
    sofar.before.1,
    sofar.small,
  )
  ended-sound Value sofar byte =
      let l : Step = record { op = s.op; a = s.a; b = s.b; value = s.number } in
      let fit : StepFits l = record { op = named; a = sofar.before.1; b = sofar.before.2; value = sofar.small } in
      let line : Upto s.n (t ++ b ∷ []) (step_text l) =
      subst (λ c. Upto s.n (t ++ b ∷ []) (value_part s.op s.a s.b ++ field s.number ++ c ∷ [])) byte
      (upto-field s.number b sofar.text sofar.before.0) in
      record {
        inside = zero-le;
        upto = record {
          steps = line.steps ++ l ∷ [];
          few = line.few;
          fit = fit-more line.steps l line.fit fit;
          text = line.text ∙ sym (append-nil (job_text s.n (line.steps ++ l ∷ []))
              ∙ job-more s.n line.steps l);
        };
      }

  more-sound : (f : Field) → Inside f s.n s.op s.a s.b s.number t → After (more_step f s b)
  unfolding more_step
  more-sound f sofar =
      let d = digit_value b in
      let v = s.number in
      let read = with_number s (v * 10 + d) (More f) in
      by-test After (ltb d 10) (cond (ltb 0 v && ltb v 100) read (moved s Broken))
      (cond (eqb b (separator f)) (ended f s) (moved s Broken))
      (λ one. by-test After (ltb 0 v && ltb v 100) read (moved s Broken)
      (λ both.
      let small = ltb-true d 10 one in
      let tests = (and-eq-true_iff (ltb 0 v) (ltb v 100)).0 both in
      let some = ltb-true 0 v tests.0 in
      let short = ltb-true v 100 tests.1 in
      record {
        start = sofar.start;
        before = sofar.before;
        small = omega arith;
        text =
            ap (λ l. l ++ b ∷ []) sofar.text ∙ append_assoc sofar.start (field v) (b ∷ [])
            ∙ ap (λ l. sofar.start ++ l)
            (ap (λ c. field v ++ c ∷ []) (digit_value_lem b small) ∙ sym (digits_push v d some short small));
      })
      (λ _. tt))
      (λ _. by-test After (eqb b (separator f)) (ended f s) (moved s Broken)
      (λ fits. ended-sound f sofar (eqb-true b (separator f) fits))
      (λ _. tt))

  -- one more byte
  pub step-sound : (p : Place) → s.place ≡ p → Sofar p s t → After (step_at p s b)
  step-sound (Head k) e sofar = head-sound k sofar
  step-sound (Word k) e sofar = word_sound k sofar
  step-sound (First f) e sofar = first-sound f sofar
  step-sound (More f) e sofar = more-sound f sofar
  step-sound Broken e sofar = subst (λ p. Sofar p s (t ++ b ∷ [])) (sym e) tt
