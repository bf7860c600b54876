-- The form of a record's text: a text passes exactly if it is the text of some lines, and then it says just these.
use mathlib.Core.Bool.{◌&&◌, true}
use mathlib.Core.List.{◌++◌, List}
use mathlib.Core.Logic.{◌↔◌}
use mathlib.Core.Path.{ap, ap₂, refl, subst, sym, ◌∙◌, ◌≡◌}
use Prim.Native.Nat.{◌+◌, ◌<◌, suc, zero, ℕ}
use native.Mathlib.Omega.{arith}
use lib.Dec.{eqb}
use lib.ListN.{drop, get_or, length, length-append}
use lib.Seq.{drop_at, drop-drop, ext_get_or}
use borrow.Author.Tests.{eq-eqb, eqb-true}
use Rattle.words.proofs.Flags.{both_true}
use Rattle.words.proofs.SearchLaws.{every-at, every_in}
use Rattle.text.proofs.RecordLines.{lines-counted, same_text_lem, text-more, text-next}
use Rattle.text.proofs.RecordReading.{line-back, read_fits}
use Rattle.text.specs.RecordTexts.{
  HasRecordForm,
  LineFits,
  from_line,
  line_at,
  line_read,
  numbered_line,
  numbered_lines,
  numeral,
  qubit_count,
  record_form,
  record_lines_text,
  same_text,
}
use Rattle.text.specs.Text.{space}
use Rattle.text.specs.declared.records.RecordLine.{RecordLine}

-- ---- equal texts
same_true : (s t : List ℕ) → same_text s t ≡ true → s ≡ t
unfolding same_text
same_true s t e =
    let h = both_true (eqb (length s) (length t)) _ e in
    let long = eqb-true (length s) (length t) h.0 in
    ext_get_or 0 s t long
    (λ i l. eqb-true (get_or s i 0) (get_or t i 0)
    (every-at (length t) (λ i. eqb (get_or s i 0) (get_or t i 0)) h.1 i (subst (λ n. i < n) long l)))

true_same : (s t : List ℕ) → s ≡ t → same_text s t ≡ true
unfolding same_text
true_same s t e =
    ap₂ ◌&&◌ (eq-eqb (length s) (length t) (ap length e))
    (every_in (length t) _ (λ i l. eq-eqb (get_or s i 0) (get_or t i 0) (ap (λ r. get_or r i 0) e)))

-- ---- the text of lines that fit
module _ (n : ℕ) (L : ℕ → RecordLine) (fit : (q : ℕ) → q < n → LineFits (L q)) where
  abbrev whole : List ℕ
  whole = record_lines_text n L

  -- the line of qubit q, where the text from it on is what follows the lines before it
  line-there : (q : ℕ) → q < n → from_line whole q ≡ drop (length (record_lines_text q L)) whole →
      line_read whole q ≡ L q
  line-there q l e =
      let N = text-next L l in
      ap (line_at q) (e ∙ ap (drop (length (record_lines_text q L))) N.text
      ∙ drop_at (record_lines_text q L) (numbered_line q (L q) ++ N.rest) (length (record_lines_text q L)) refl)
      ∙ line-back q (L q) (fit q l) N.rest

  from-there : (q : ℕ) → q < suc n → from_line whole q ≡ drop (length (record_lines_text q L)) whole
  unfolding from_line record_lines_text numbered_lines
  from-there zero l = refl
  from-there (suc q) l =
      let before = from-there q (omega arith) in
      ap₂ (λ r t. drop (length (numbered_line q r)) t) (line-there q (omega arith) before) before
      ∙ drop-drop (length (numbered_line q (L q))) (length (record_lines_text q L)) whole
      ∙ ap (λ k. drop k whole) (sym (ap length (text-more L q)
      ∙ length-append (record_lines_text q L) (numbered_line q (L q))))

  -- each line is read back
  pub lines-back : (q : ℕ) → q < n → line_read whole q ≡ L q
  lines-back q l = line-there q l (from-there q (omega arith))

  pub count-back : qubit_count whole ≡ n
  count-back = omega (arith, lines-counted n L)

  pub text-form : record_form whole ≡ true
  unfolding record_form
  text-form =
      true_same whole _ (sym (ap (λ k. record_lines_text k (line_read whole)) count-back
      ∙ same_text_lem n (line_read whole) L lines-back))

-- ---- a text that passes
pub form-text : (t : List ℕ) → record_form t ≡ true → t ≡ record_lines_text (qubit_count t) (line_read t)
unfolding record_form
form-text t h = same_true t _ h

pub read-line-fits : (t : List ℕ) (q : ℕ) → LineFits (line_read t q)
read-line-fits t q = read_fits (λ c. get_or (from_line t q) (length (numeral q ++ space) + c) 0)

pub record-form-exactly : (t : List ℕ) → (record_form t ≡ true) ↔ HasRecordForm t
record-form-exactly t = (
  λ h. (qubit_count t, line_read t, (λ q l. read-line-fits t q), form-text t h),
  λ f. ap record_form f.3 ∙ text-form f.0 f.1 f.2,
)

-- a text of lines that it says itself
pub own-lines : (t : List ℕ) (n : ℕ) → t ≡ record_lines_text n (line_read t) → (record_form t ≡ true) × (qubit_count t ≡ n)
own-lines t n e = (
  ap record_form e ∙ text-form n (line_read t) (λ q l. read-line-fits t q),
  ap qubit_count e ∙ count-back n (line_read t) (λ q l. read-line-fits t q),
)
