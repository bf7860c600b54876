-- The form by position is exactly the form as printing: a text passes exactly if it is the text of some list.
use mathlib.Core.Bool.{◌&&◌, true}
use mathlib.Core.List.{List}
use mathlib.Core.Logic.{◌↔◌}
use mathlib.Core.Path.{ap, ap₂, subst, sym, ◌∙◌, ◌≡◌}
use Prim.Native.Nat.{◌%◌, ◌*◌, ◌+◌, ◌/◌, ◌<◌, suc, ℕ}
use native.Mathlib.Nat.{div-add-mod', div-lt_iff_lt-mul, mod-lt}
use native.Mathlib.Omega.{arith}
use lib.Dec.{eqb}
use lib.ListN.{get_or, length}
use lib.Seq.{ext_get_or}
use borrow.Author.Tests.{eq-eqb, eqb-true}
use Rattle.pauli.specs.Pauli.{Pauli}
use Rattle.words.proofs.Flags.{both_true}
use Rattle.words.proofs.SearchLaws.{every-at, every_in}
use Rattle.words.specs.Search.{every}
use Rattle.text.proofs.LineLaws.{line-back, line-end, line-fits, line-letter, line-sign}
use Rattle.text.proofs.TextLaws.{length-lines, lines-count, string-at}
use Rattle.text.specs.Reading.{byte_at, line_count, line_fits, row_of, string_form}
use Rattle.text.specs.Strings.{HasStringForm, strings_text, text_size}

-- the text of a list passes
module _ (n : ℕ) (R : ℕ → Pauli) where
  text-line-fits : (j : ℕ) → j < n → line_fits n (byte_at n (strings_text n R) j) ≡ true
  text-line-fits j l =
      line-fits n (byte_at n (strings_text n R) j) (R j)
      (string-at n n R j 0 l (omega arith) ∙ line-sign n (R j))
      (λ q k. string-at n n R j (suc q) l (omega arith) ∙ line-letter n (R j) q k)
      (string-at n n R j (suc n) l (omega arith) ∙ line-end n (R j))

  pub text-form : string_form (strings_text n R) ≡ true
  unfolding string_form
  text-form =
      subst (λ m. (eqb (length (strings_text n R)) (text_size m)
      && every m (λ j. line_fits m (byte_at m (strings_text n R) j))) ≡ true) (sym (lines-count n n R))
      (ap₂ ◌&&◌ (eq-eqb _ (text_size n) (length-lines n n R)) (every_in n _ text-line-fits))

-- a text of n lines that fit is that of the rows read
module _ (t : List ℕ) (n : ℕ) (size : length t ≡ text_size n)
    (fit : (j : ℕ) → j < n → line_fits n (byte_at n t j) ≡ true) where
  pub lines-text : t ≡ strings_text n (λ j. row_of (byte_at n t j))
  lines-text =
      ext_get_or 0 t (strings_text n R) (size ∙ sym (length-lines n n R))
      (λ i l. let below : i < n * (n + 2) = subst (λ k. i < k) size l in
      let row : i / (n + 2) < n = (div-lt_iff_lt-mul {x = i} {y = n} some).1 below in
      let column : i % (n + 2) < n + 2 = mod-lt i some in
      ap (λ k. get_or t k 0) (sym (div-add-mod' i (n + 2)))
      ∙ sym (string-at n n R (i / (n + 2)) (i % (n + 2)) row column
      ∙ line-back n (byte_at n t (i / (n + 2))) (fit (i / (n + 2)) row) (i % (n + 2)) column)
      ∙ ap (λ k. get_or (strings_text n R) k 0) (div-add-mod' i (n + 2)))
    where
      R : ℕ → Pauli
      R j = row_of (byte_at n t j)

      some : 0 < n + 2
      some = omega arith

  pub lines-form : string_form t ≡ true
  lines-form = ap string_form lines-text ∙ text-form n (λ j. row_of (byte_at n t j))

-- a text that passes
module _ (t : List ℕ) (h : string_form t ≡ true) where
  parts : (eqb (length t) (text_size (line_count t)) ≡ true)
      × (every (line_count t) (λ j. line_fits (line_count t) (byte_at (line_count t) t j)) ≡ true)
  unfolding string_form
  parts = both_true (eqb (length t) (text_size (line_count t))) _ h

  pub form-size : length t ≡ text_size (line_count t)
  form-size = eqb-true (length t) (text_size (line_count t)) parts.0

  pub form-lines : (j : ℕ) → j < line_count t → line_fits (line_count t) (byte_at (line_count t) t j) ≡ true
  form-lines = every-at (line_count t) (λ j. line_fits (line_count t) (byte_at (line_count t) t j)) parts.1

  pub form-text : t ≡ strings_text (line_count t) (λ j. row_of (byte_at (line_count t) t j))
  form-text = lines-text t (line_count t) form-size form-lines

pub form-exactly : (t : List ℕ) → (string_form t ≡ true) ↔ HasStringForm t
form-exactly t = (
  λ h. (line_count t, (λ j. row_of (byte_at (line_count t) t j)), form-text t h),
  λ f. ap string_form f.2 ∙ text-form f.0 f.1,
)
