-- The first line of a text that has the form: its letters stand behind the first byte, and the next newline ends it.
use mathlib.Core.Bool.{false, true}
use mathlib.Core.List.{List}
use mathlib.Core.Path.{ap, sym, ◌∙◌, ◌≡◌}
use Prim.Native.Nat.{◌+◌, ◌<◌, suc, ℕ}
use native.Mathlib.Nat.{zero-add, zero-mul}
use lib.Dec.{eqb}
use lib.ListN.{get_or}
use borrow.Author.Tests.{eqb-true}
use Rattle.words.proofs.SearchLaws.{every-at}
use Rattle.text.proofs.StringsFormLaws.{form-lines}
use Rattle.text.proofs.LineLaws.{letter-no-newline, line-parts}
use Rattle.text.specs.Reading.{byte_at, is_letter, line_count, string_form}

module _ (t : List ℕ) (h : string_form t ≡ true) (some : 0 < line_count t) where
  first-column : (c : ℕ) → byte_at (line_count t) t 0 c ≡ get_or t c 0
  first-column c = ap (λ k. get_or t k 0) (ap (λ k. k + c) (zero-mul (line_count t + 2)) ∙ zero-add c)

  pub first-letters : (q : ℕ) → q < line_count t → eqb (get_or t (suc q) 0) 10 ≡ false
  first-letters q l =
      letter-no-newline (get_or t (suc q) 0)
      (sym (ap is_letter (first-column (suc q)))
      ∙ every-at (line_count t) (λ q. is_letter (byte_at (line_count t) t 0 (suc q)))
      (line-parts (line_count t) (byte_at (line_count t) t 0) (form-lines t h 0 some)).1 q l)

  pub first-newline : get_or t (suc (line_count t)) 0 ≡ 10
  first-newline =
      sym (first-column (suc (line_count t)))
      ∙ eqb-true _ 10 (line-parts (line_count t) (byte_at (line_count t) t 0) (form-lines t h 0 some)).2
