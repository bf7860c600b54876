-- The lines of reading and writing texts of Pauli strings, exactly: what it means that none of them holds.
use mathlib.Core.Bool.{false, not, true}
use mathlib.Core.List.{List}
use mathlib.Core.Logic.{◌↔◌}
use mathlib.Core.Path.{ap, refl, subst, sym, ◌∙◌, ◌≡◌}
use Prim.Native.Nat.{ℕ}
use lib.ListN.{length}
use borrow.Author.Tests.{not-false}
use Rattle.buffers.specs.Refusals.{bad_count, first_fitting}
use Rattle.calls.proofs.ListedNumbers.{listed-number}
use Rattle.buffers.proofs.Fitting.{NoneHolds, none-fits-of, none-holds}
use Rattle.stabilizer.proofs.Accepted.{accepted-list}
use Rattle.stabilizer.proofs.SharedTests.{has-length, length-passes}
use Rattle.stabilizer.specs.Lists.{GeneratorList, list_lines, rows}
use Rattle.text.proofs.BackLaws.{list_back, text-back}
use Rattle.text.proofs.StringsFormLaws.{text-form}
use Rattle.text.specs.Reading.{byte_at, judged_lines, line_count, read_lines, row_of, string_form, string_list, write_lines}
use Rattle.text.specs.Strings.{strings_text, text_size}
use Rattle.claims.proofs.LinesExactly.{list-exactly, three-fit}
use Rattle.claims.specs.Arguments.{IsList}
use Rattle.claims.specs.families.Lists.{ReadStringsFits, WriteStringsFits}

pub write-lines : (l : GeneratorList) (text : List ℕ) → (first_fitting (write_lines l text) ≡ 0) ↔ WriteStringsFits l text
write-lines l text = (
  (λ e. let h = (list-exactly l _).0 e in (h.0, has-length (text_size l.n) text h.1)),
  (λ F. (list-exactly l _).1 (F.0, length-passes (text_size l.n) text F.1)),
)

-- a list's text stands for the list
pub text_of : (l : GeneratorList) (t : List ℕ) → IsList l → t ≡ strings_text l.n (rows l) → string_list t ≡ l
text_of l t L e = ap string_list e ∙ list_back l (accepted-list l false ((list-exactly l false).1 (L, refl))).formed

module _ (t s z x : List ℕ) where
  -- the text of a list is read
  text-passes : (l : GeneratorList) → IsList l → t ≡ strings_text l.n (rows l) → length s ≡ l.n → length z ≡ l.n →
      length x ≡ l.n → NoneHolds (read_lines t s z x)
  text-passes l L e ls lz lx = (
    ap not (ap string_form e ∙ text-form l.n (rows l)),
    (
      ap bad_count count ∙ h.0,
      (
        (three-fit (line_count t) (line_count t) (line_count t) s z x).1 (ls ∙ sym count, lz ∙ sym count, lx ∙ sym count),
        subst (λ m. NoneHolds (judged_lines m)) (sym (text_of l t L e)) h.1.1.1.1,
      ),
    ),
  )
    where
      h : NoneHolds (list_lines l false)
      h = none-holds (list_lines l false) refl ((list-exactly l false).1 (L, refl))

      count : line_count t ≡ l.n
      count = ap (λ m. m.n) (text_of l t L e)

  -- a text that is read is that of the list that it stands for, and each buffer has a place for each line
  module _ (e : first_fitting (read_lines t s z x) ≡ 0) where
    h : NoneHolds (read_lines t s z x)
    h = none-holds (read_lines t s z x) refl e

    pub read-form : string_form t ≡ true
    read-form = not-false (string_form t) h.0

    pub read-list : IsList (string_list t)
    read-list =
        ((list-exactly (string_list t) false).0
        (listed-number (line_count t) (λ j. row_of (byte_at (line_count t) t j)) h.1.0
        ∙ none-fits-of (judged_lines (string_list t)) h.1.1.1)).0

    pub read-places : (length s ≡ line_count t) × (length z ≡ line_count t) × (length x ≡ line_count t)
    read-places = (three-fit (line_count t) (line_count t) (line_count t) s z x).0 h.1.1.0

  pub read-lines : (first_fitting (read_lines t s z x) ≡ 0) ↔ ReadStringsFits t s z x
  read-lines = (
    (λ e. let p = read-places e in
        (string_list t, read-list e, sym (text-back t (read-form e)), p.0, p.1, p.2)),
    (λ F. none-fits-of (read_lines t s z x) (text-passes F.0 F.1 F.2 F.3 F.4 F.5)),
  )
