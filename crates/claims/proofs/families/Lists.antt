-- The calls on lists and on texts of Pauli strings: their lines and answers are as demand 1 has them, and which
-- arguments they accept.
use mathlib.Core.Bool.{Bool, false, not, ◌||◌}
use mathlib.Core.List.{List, ◌∷◌}
use mathlib.Core.Logic.Iff
use mathlib.Core.Logic.{◌↔◌}
use mathlib.Core.Path.{ap, ap₂, refl, sym, ◌∙◌, ◌≡◌}
use Prim.Native.Nat.{ℕ}
use lib.Dec.{eqb}
use Rattle.buffers.specs.Refusals.{bad_count, first_fitting, line, Refusal}
use Rattle.calls.proofs.ProductLines.{accepted-rows, word_good}
use Rattle.calls.specs.Products.{product_lines}
use Rattle.buffers.proofs.Fitting.{none-holds}
use Rattle.stabilizer.proofs.SharedTests.{has-length}
use Rattle.stabilizer.specs.Lists.{GeneratorList, list_lines, list_stray, rows}
use Rattle.text.proofs.TextLaws.{length-lines}
use Rattle.text.specs.Reading.{judged_lines, line_count, read_lines, string_form, string_list}
use Rattle.text.specs.Strings.{text_size}
use Rattle.words.proofs.Flags.{neither}
use Rattle.claims.proofs.LinesExactly.{below-exactly, formed-rows, list-exactly, rows_pass, three-fit, two-fit}
use Rattle.claims.proofs.StringsExactly.{read-lines, write-lines}
use Rattle.claims.proofs.families.Shared.{by_lines, of_three, table-fills}
use Rattle.claims.specs.families.Lists.{ListBuffersUnread, ListsAccepted, ListsConform, ProductFits}

-- products
product-lines : (l : GeneratorList) (chosen : ℕ) → (first_fitting (product_lines l chosen) ≡ 0) ↔ ProductFits l chosen
product-lines l chosen = (
  (λ e. (
    formed-rows l (accepted-rows l chosen e),
    (below-exactly _ chosen).0 (neither (list_stray l) _ (none-holds (product_lines l chosen) refl e).1.1.0).1,
  )),
  (λ h. sym (word_good l chosen 0 (sym (rows_pass l h.0)) ((below-exactly _ chosen).1 h.1))),
)

pub lists-conform : ListsConform
lists-conform =
    record {
      check = λ l. record { order = refl; complete = λ z. tt };
      reduce = λ l nb cs used nb' cs' used'. record {
        order = refl;
        complete = λ z. let p = (two-fit l.n l.n nb cs).0 ((list-exactly l _).0 z).1 in
            (tt, (table-fills l.n _ nb p.0, (table-fills l.n _ cs p.1, tt)));
      };
      products = λ l chosen z x phase z' x' phase'. record { order = refl; complete = λ e. (tt, (tt, (tt, tt))) };
      reads = λ t s z x s' z' x'. record {
        order = refl;
        complete = λ e. let n = line_count t in
            let p = (three-fit n n n s z x).0 (none-holds (read_lines t s z x) refl e).1.1.0 in
            (table-fills n _ s p.0, (table-fills n _ z p.1, (table-fills n _ x p.2, tt)));
      };
      writes = λ l text text'. record {
        order = refl;
        complete = λ e. (
          length-lines l.n l.n (rows l) ∙ sym (has-length (text_size l.n) text ((list-exactly l _).0 e).1),
          tt,
        );
      };
    }

pub list-buffers-unread : ListBuffersUnread
list-buffers-unread =
    record {
      reduce = λ l nb cs nb₂ cs₂ e f.
          ap₂ (λ a b. first_fitting (list_lines l (not (eqb a l.n) || not (eqb b l.n)))) e f;
      reads = λ t s z x s₂ z₂ x₂ e f g.
          of_three (line_count t) (text_lines_of t) (line_count t) e f g;
      writes = λ l text text₂ e. ap (λ a. first_fitting (list_lines l (not (eqb a (text_size l.n))))) e;
    }
  where
    -- those of a text that is read, by whether an answer buffer has a wrong length
    text_lines_of : List ℕ → Bool → List Refusal
    text_lines_of t other =
        line 1 (not (string_form t)) ∷ line 2 (bad_count (line_count t)) ∷ line 4 other ∷ judged_lines (string_list t)

pub lists-accepted : ListsAccepted
lists-accepted =
    record {
      check = λ l r C. (
        (λ z. ((list-exactly l false).0 ((by_lines C).0 z)).0),
        (λ L. (by_lines C).1 ((list-exactly l false).1 (L, refl))),
      );
      reduce = λ l nb cs used nb' cs' used' r C. (
        (λ z. let h = (list-exactly l _).0 ((by_lines C).0 z) in
            let f = (two-fit l.n l.n nb cs).0 h.1 in (h.0, f.0, f.1)),
        (λ F. (by_lines C).1 ((list-exactly l _).1 (F.0, (two-fit l.n l.n nb cs).1 (F.1, F.2)))),
      );
      product = λ l chosen z x phase z' x' phase' r C. Iff.trans (by_lines C) (product-lines l chosen);
      read-strings = λ t s z x s' z' x' r C. Iff.trans (by_lines C) (read-lines t s z x);
      write-strings = λ l text text' r C. Iff.trans (by_lines C) (write-lines l text);
    }
