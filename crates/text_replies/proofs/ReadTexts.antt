-- The answer to the text that was scanned: whatever the blocks in which it came, it is the definition's.
use mathlib.Core.Bool.{Bool, cond, false, true, true≢false}
use mathlib.Core.List.{List}
use mathlib.Core.Logic.{◌↔◌, ⊎_elim}
use mathlib.Core.Path.{ap, refl, subst, sym, ◌∙◌, ◌≡◌}
use Prim.Native.Nat.{◌<◌, min, ℕ, ◌≤◌}
use native.Mathlib.Nat.{min-eq_left}
use native.Mathlib.Omega.{arith}
use lib.ListN.{length, replicate, take}
use Rattle.stabilizer.specs.Lists.{GeneratorList}
use Rattle.text.proofs.KeptLaws.{count-few, count-many, signs-few, xs-few, zs-few}
use Rattle.text.proofs.Verdict.{text-judged}
use Rattle.text.specs.internal.Scan.{Judged, LinesKept, Reading, as_reading, at_sign, verdict}
use Rattle.text.specs.Text.{HasForm, ListLine, refused_text}
use Rattle.buffers.specs.Writing.{Printed}
use Rattle.std.specs.Prelude.{Err, None, Ok, Result, Some}
use Rattle.std.specs.Result.{is_ok, result_ok}
use Rattle.std.proofs.lemmas.Option.{none-some, same_Some}
use Rattle.words.proofs.Sums.{lt-or-ge}
use Rattle.calls.specs.ListAnswers.{AnswersList, ListResponse, list_read}
use Rattle.text_replies.specs.internal.Places.{ScanOf, list_at}

-- how many lines a verdict counts
abbrev counted : Result ℕ ℕ → ℕ
counted (Ok n) = n
counted (Err n) = n

counted-where : (b : Bool) (n : ℕ) → counted (cond b (Ok n) (Err n)) ≡ n
counted-where true n = refl
counted-where false n = refl

module _ (t : List ℕ) (v : Result ℕ ℕ) (signs z x : List ℕ) (S : ScanOf t v signs z x) where
  -- the verdict and the list are those of the text
  read-judged : Judged t (as_reading S.scan signs z x)
  read-judged = subst (Judged t) (sym S.lines)
      (text-judged (replicate 64 0) (replicate 64 0) (replicate 64 0) refl refl refl t)

  pub says-form : (is_ok v ≡ true) ↔ HasForm t
  says-form = subst (λ w. (is_ok w ≡ true) ↔ HasForm t) (sym S.judged) read-judged.form

  -- a text without the form
  pub malformed-answers : (answer : GeneratorList → List ℕ) (n : ℕ) → v ≡ Err n → AnswersList answer t
      (refused_text 1)
  malformed-answers answer n e =
      record {
        malformed = λ h. refl;
        formed = λ ls T. absurd (true≢false (sym (says-form.1 (ls, T)) ∙ ap is_ok e));
      }

  -- the list of a text with the form, where one of more than 64 is refused with 2
  module _ (answer : GeneratorList → List ℕ)
      (too_many : (l : GeneratorList) → 64 < l.n → answer l ≡ refused_text 2) where
    same_answer : (ls : List ListLine) → LinesKept ls (as_reading S.scan signs z x) →
        answer (list_at S.scan.count signs z x) ≡ answer (list_read ls)
    same_answer ls K = ⊎_elim many few (lt-or-ge 64 (length ls))
      where
        w : Reading
        w = as_reading S.scan signs z x

        many : 64 < length ls → answer (list_at S.scan.count signs z x) ≡ answer (list_read ls)
        many h =
            too_many (list_at S.scan.count signs z x) (omega (arith, count-many ls w K h))
            ∙ sym (too_many (list_read ls) h)

        few : length ls ≤ 64 → answer (list_at S.scan.count signs z x) ≡ answer (list_read ls)
        few h =
            let m : min (length ls) 64 ≡ length ls = min-eq_left h in
            ap (λ k. answer (list_at k signs z x)) (count-few ls w K h)
            ∙ ap answer (λ i. record {
              n = length ls;
              signs = (ap (λ k. take k signs) m ∙ signs-few ls w K h) i;
              z = (ap (λ k. take k z) m ∙ zs-few ls w K h) i;
              x = (ap (λ k. take k x) m ∙ xs-few ls w K h) i;
            })

    pub formed-answers : (n : ℕ) → v ≡ Ok n → AnswersList answer t (answer (list_at n signs z x))
    unfolding verdict
    formed-answers n e =
        record {
          malformed = λ h. absurd (h (says-form.0 (ap is_ok e)));
          formed = λ ls T. ap (λ k. answer (list_at k signs z x))
              (ap counted (sym e ∙ S.judged) ∙ counted-where (at_sign S.scan.place) S.scan.count)
              ∙ same_answer ls (read-judged.lines ls T);
        }

-- the answer, printed
module _ (answer : GeneratorList → List ℕ) (v : Result ℕ ℕ) (signs z x before after : List ℕ) (end : ℕ) where
  pub malformed-responds : (n : ℕ) → v ≡ Err n → Printed (refused_text 1) 0 before after end →
      (t : List ℕ) → ScanOf t v signs z x → ListResponse answer t before after end
  malformed-responds n e P t S =
      record { bytes = refused_text 1; answers = malformed-answers t v signs z x S answer n e; out = P }

  pub formed-responds : ((l : GeneratorList) → 64 < l.n → answer l ≡ refused_text 2) → (n : ℕ) → v ≡ Ok n →
      Printed (answer (list_at n signs z x)) 0 before after end →
      (t : List ℕ) → ScanOf t v signs z x → ListResponse answer t before after end
  formed-responds too_many n e P t S =
      record {
        bytes = answer (list_at n signs z x);
        answers = formed-answers t v signs z x S answer too_many n e;
        out = P;
      }

-- what a verdict is, from what it says of a text with the form
ok-where : (v : Result ℕ ℕ) (n : ℕ) → result_ok v ≡ Some n → v ≡ Ok n
ok-where (Ok m) n e = ap Ok (same_Some m n e)
ok-where (Err m) n e = absurd (none-some n e)

err-where : (v : Result ℕ ℕ) → result_ok v ≡ None → v ≡ Err (counted v)
err-where (Ok m) e = absurd (none-some m (sym e))
err-where (Err m) e = refl

-- the same where w is the verdict on the text, and v agrees with w but for the count of a text without the form
module _ (answer : GeneratorList → List ℕ) (v w : Result ℕ ℕ) (agrees : result_ok w ≡ result_ok v)
    (signs z x before after : List ℕ) (end : ℕ) where
  pub malformed-agreeing : (n : ℕ) → v ≡ Err n → Printed (refused_text 1) 0 before after end →
      (t : List ℕ) → ScanOf t w signs z x → ListResponse answer t before after end
  malformed-agreeing n e =
      malformed-responds answer w signs z x before after end (counted w) (err-where w (agrees ∙ ap result_ok e))

  pub formed-agreeing : ((l : GeneratorList) → 64 < l.n → answer l ≡ refused_text 2) → (n : ℕ) → v ≡ Ok n →
      Printed (answer (list_at n signs z x)) 0 before after end →
      (t : List ℕ) → ScanOf t w signs z x → ListResponse answer t before after end
  formed-agreeing too_many n e =
      formed-responds answer w signs z x before after end too_many n (ok-where w n (agrees ∙ ap result_ok e))
