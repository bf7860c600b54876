-- The demand on texts of Pauli strings, from the contracts of the two calls and the laws of the text.
use mathlib.Core.Bool.{not, true, true≢false}
use mathlib.Core.List.{List}
use mathlib.Core.Path.{ap, ap₂, refl, subst, sym, ◌∙◌, ◌≡◌}
use Prim.Native.Nat.{ℕ}
use lib.ListN.{length}
use borrow.Author.Tests.{not-true}
use Rattle.buffers.proofs.Tabulate.{tabulate-length}
use Rattle.calls.specs.Strings.{read_strings_call, write_strings_call}
use Rattle.buffers.proofs.Calling.{written_all}
use Rattle.buffers.proofs.Fitting.{first-is, fits-at, is-first}
use Rattle.buffers.specs.Answers.{here}
use Rattle.buffers.specs.Calls.{Call}
use Rattle.stabilizer.specs.Lists.{GeneratorList, rows}
use Rattle.text.proofs.BackLaws.{buffers, text-back}
use Rattle.text.proofs.StringsFormLaws.{form-exactly, form-size}
use Rattle.text.specs.Reading.{line_count, read_lines, string_form, string_list}
use Rattle.text.specs.Strings.{HasStringForm, strings_text}
use Rattle.words.proofs.Flags.{never_true}
use Rattle.claims.proofs.StringsExactly.{read-form, read-lines, read-list, read-places, text_of, write-lines}
use Rattle.claims.specs.Arguments.{IsList}
use Rattle.claims.specs.StringsDemand.{FormTold, ListComesBack, StringsDemand, TextComesBack, list_left}

-- ---- line 1 comes first, and says that the text is that of no list
form-told : (t s z x s' z' x' : List ℕ) (r : ℕ) → Call (read_strings_call t s z x s' z' x') r → FormTold t r
form-told t s z x s' z' x' r C = (
  λ e f. true≢false (sym ((form-exactly t).1 f) ∙ not-true (string_form t)
      (is-first (fits-at (read_lines t s z x) C.number) refl e)),
  λ h. C.number ∙ sym (first-is (here (no-form h))),
)
  where
    no-form : (HasStringForm t → ⊥) → not (string_form t) ≡ true
    no-form h = ap not (never_true (string_form t) (λ e. h ((form-exactly t).0 e)))

-- equal buffers are equal lists
same : {n m : ℕ} {s s₂ z z₂ x x₂ : List ℕ} → n ≡ m → s ≡ s₂ → z ≡ z₂ → x ≡ x₂ → buffers n s z x ≡ buffers m s₂ z₂ x₂
same {z = z} {x = x} en es ez ex = ap₂ (λ n s. buffers n s z x) en es ∙ ap₂ (buffers _ _) ez ex

-- ---- a written list
module _ (l : GeneratorList) (text text' : List ℕ) (C : Call (write_strings_call l text text') 0) where
  is-list : IsList l
  is-list = ((write-lines l text).0 (sym C.number)).0

  stands-for : string_list text' ≡ l
  stands-for = text_of l text' is-list C.held.0

  comes_back : ListComesBack l text'
  comes_back s z x s' z' x' r ls lz lx D =
      let e : r ≡ 0 = D.number ∙ (read-lines text' s z x).1 (l, is-list, C.held.0, ls, lz, lx) in
      let W = written_all D e in (
        e,
        same ls (W.0 ∙ ap (λ m. m.signs) stands-for) (W.1.0 ∙ ap (λ m. m.z) stands-for)
            (W.1.1.0 ∙ ap (λ m. m.x) stands-for),
      )

-- ---- an accepted text
module _ (t s z x s' z' x' : List ℕ) (C : Call (read_strings_call t s z x s' z' x') 0) where
  form : string_form t ≡ true
  form = read-form t s z x (sym C.number)

  -- the buffers hold the list that it stands for
  left_is : list_left s s' z' x' ≡ string_list t
  left_is = same (read-places t s z x (sym C.number)).0 C.held.0 C.held.1.0 C.held.1.1.0

  rewritten : TextComesBack t (list_left s s' z' x')
  rewritten text text' r e D =
      let E = subst (λ m. Call (write_strings_call m text text') r) left_is D in
      let zero : r ≡ 0 = E.number ∙ (write-lines (string_list t) text).1
      (read-list t s z x (sym C.number), e ∙ form-size t form) in
      (zero, (written_all E zero).0 ∙ text-back t form)

-- ---- one text, one list
one-text : (t u s z x s₂ z₂ x₂ s' z' x' : List ℕ) → Call (read_strings_call t s z x s' z' x') 0 →
    Call (read_strings_call u s₂ z₂ x₂ s' z' x') 0 → t ≡ u
one-text t u s z x s₂ z₂ x₂ s' z' x' C D =
    sym (text-back t (form t s z x s' z' x' C)) ∙ ap (λ m. strings_text m.n (rows m)) one_list
    ∙ text-back u (form u s₂ z₂ x₂ s' z' x' D)
  where
    -- the buffers have a place for each line
    counts : line_count t ≡ line_count u
    counts = sym (tabulate-length (line_count t) _) ∙ ap length (sym C.held.0 ∙ D.held.0)
        ∙ tabulate-length (line_count u) _

    one_list : string_list t ≡ string_list u
    one_list =
        same counts (sym C.held.0 ∙ D.held.0) (sym C.held.1.0 ∙ D.held.1.0)
        (sym C.held.1.1.0 ∙ D.held.1.1.0)

pub strings-demand : StringsDemand
strings-demand =
    record {
      form = form-told;
      list_back = comes_back;
      text-back = rewritten;
      one-text = one-text;
      one_list = λ l m a b t C D. sym (stands-for l a t C) ∙ stands-for m b t D;
    }
