-- Each text has one answer, so a program's contract fixes what is printed for the text that was read. With it the
-- answers to the empty text and to the names alone.
use mathlib.Core.Bool.{Bool, false, true, true≢false}
use mathlib.Core.List.{List, []}
use mathlib.Core.Logic.{◌↔◌}
use mathlib.Core.Path.{ap, refl, sym, ◌∙◌, ◌≡◌}
use Prim.Native.Nat.{◌<◌, ℕ}
use native.Mathlib.Omega.{arith}
use lib.ListN.{length, length-append, replicate}
use Rattle.buffers.specs.Refusals.{first_fitting}
use Rattle.stabilizer.specs.Lists.{GeneratorList}
use Rattle.text.proofs.FormLaws.{list-unique}
use Rattle.text.specs.internal.Scan.{Reading, begin, fed, as_reading, verdict}
use Rattle.text.specs.Text.{HasForm, TextOf, lines_text, list_names, list_text, refused_text}
use Rattle.std.specs.Prelude.{Err, Ok, Result}
use Rattle.std.specs.Result.{is_ok}
use Rattle.text_replies.proofs.ReadTexts.{formed-answers, malformed-answers, says-form}
use Rattle.calls.specs.ListAnswers.{AnswersList, list_read, list_answer}
use Rattle.text_replies.specs.internal.Places.{ScanOf}

module _ (t : List ℕ) where
  -- the text, scanned into buffers of zeros
  abbrev whole : Reading
  whole = fed (as_reading begin (replicate 64 0) (replicate 64 0) (replicate 64 0)) t

  abbrev judgement : Result ℕ ℕ
  judgement = verdict whole.scan

  scan-of : ScanOf t judgement whole.signs whole.zs whole.xs
  scan-of = record { scan = whole.scan; lines = refl; judged = refl }

  module _ (answer : GeneratorList → List ℕ) where
    pub has-answer : ((l : GeneratorList) → 64 < l.n → answer l ≡ refused_text 2)
        → (bytes : List ℕ) × AnswersList answer t bytes
    has-answer too_many = go judgement refl
      where
        go : (v : Result ℕ ℕ) → judgement ≡ v → (bytes : List ℕ) × AnswersList answer t bytes
        go (Ok n) e =
            (_, formed-answers t judgement whole.signs whole.zs whole.xs scan-of answer too_many n e)
        go (Err n) e =
            (_, malformed-answers t judgement whole.signs whole.zs whole.xs scan-of answer n e)

    pub one_answer : (a b : List ℕ) → AnswersList answer t a → AnswersList answer t b → a ≡ b
    one_answer a b A B = go (is_ok judgement) refl
      where
        form-said : (is_ok judgement ≡ true) ↔ HasForm t
        form-said = says-form t judgement whole.signs whole.zs whole.xs scan-of

        go : (v : Bool) → is_ok judgement ≡ v → a ≡ b
        go true e = let h = form-said.0 e in A.formed h.0 h.1 ∙ sym (B.formed h.0 h.1)
        go false e =
            let none : HasForm t → ⊥ = λ h. true≢false (sym (form-said.1 h) ∙ e) in
            A.malformed none ∙ sym (B.malformed none)

-- "Empty input gives 1"
pub empty-answer : (answer : GeneratorList → List ℕ) → AnswersList answer [] (refused_text 1)
unfolding list_text
empty-answer answer =
    record {
      malformed = λ h. refl;
      formed = λ ls T. absurd (omega (arith, ap length T.text, length-append list_names (lines_text ls)));
    }

-- "the names alone give 2": the answer to the list of no generator
pub names-answer : (answer : GeneratorList → List ℕ) → AnswersList answer list_names (answer (list_read []))
unfolding list_text lines_text
names-answer answer =
    record {
      malformed = λ h. absurd (h ([], alone));
      formed = λ ls T. ap (λ k. answer (list_read k)) (list-unique [] ls list_names alone T);
    }
  where
    alone : TextOf [] list_names
    alone = record { fit = tt; text = refl }

pub no-generator : list_answer (list_read []) ≡ refused_text 2
unfolding list_answer first_fitting
no-generator = refl
