-- The program's answer to a list, from what the reduction and the print promise.
use mathlib.Core.Bool.{Bool, cond, false, or-true, ◌||◌}
use mathlib.Core.List.{List}
use mathlib.Core.Logic.{⊎_elim}
use mathlib.Core.Path.{ap, ap₂, subst, sym, ◌∙◌, ◌≡◌}
use Prim.Native.Nat.{◌<◌, ℕ, ◌≤◌}
use native.Mathlib.Omega.{arith}
use lib.Dec.{eqb}
use lib.ListN.{get_or, length}
use borrow.Author.Tests.{eq-eqb, lt-ltb, ne_eqb}
use Rattle.buffers.proofs.Lines.{fits}
use Rattle.buffers.proofs.Tabulate.{tabulate-at, tabulate-length}
use Rattle.buffers.specs.Refusals.{first_fitting, other_than}
use Rattle.clifford.proofs.CliffordLaws.{code_of-lt}
use Rattle.clifford.specs.Clifford.{code_of}
use Rattle.buffers.proofs.Calling.{written_all}
use Rattle.buffers.specs.Calls.{Call}
use Rattle.record.specs.Lent.{code_numbers, neighbour_words}
use Rattle.record.specs.Reduced.{reduced}
use Rattle.stabilizer.proofs.Accepted.{accepted-list}
use Rattle.stabilizer.proofs.SharedTests.{length-passes}
use Rattle.stabilizer.specs.Lists.{GeneratorList, list_lines, rows}
use Rattle.calls.specs.Lists.{check_lines, reduce_lines}
use Rattle.calls.specs.internal.Reductions.{reduce_call}
use Rattle.text.specs.internal.Text.{Printable}
use Rattle.text.specs.Text.{record_text, refused_text}
use Rattle.words.proofs.Sums.{lt-or-ge}
use Rattle.words.specs.Bits.{word_of}
use Rattle.calls.specs.ListAnswers.{list_answer}
use Rattle.text_replies.specs.internal.Places.{Lent}

-- a list of more than 64 is refused with 2, whatever else it holds
pub too_many : (l : GeneratorList) (others : Bool) → 64 < l.n → first_fitting (list_lines l others) ≡ 2
too_many l others h =
    fits 2 _ (ap (λ b. eqb l.n 0 || b) (lt-ltb 64 l.n h) ∙ or-true (eqb l.n 0))

pub too-many-printed : (l : GeneratorList) → 64 < l.n → list_answer l ≡ refused_text 2
unfolding list_answer
too-many-printed l h =
    ap (λ k. cond (eqb k 0) (record_text l.n (neighbour_words l.n (reduced l.n (rows l)))
    (code_numbers l.n (reduced l.n (rows l))) 0) (refused_text k)) (too_many l false h)

module _ (l : GeneratorList) (nb cs out : List ℕ) (L : Lent l.n nb cs out) where
  -- the buffers lent for the answer make no line hold
  pub same_lines : first_fitting (reduce_lines l nb cs) ≡ first_fitting (check_lines l)
  same_lines = ⊎_elim many few (lt-or-ge 64 l.n)
    where
      many : 64 < l.n → first_fitting (reduce_lines l nb cs) ≡ first_fitting (check_lines l)
      many h = too_many l (other_than l.n nb || other_than l.n cs) h ∙ sym (too_many l false h)

      few : l.n ≤ 64 → first_fitting (reduce_lines l nb cs) ≡ first_fitting (check_lines l)
      few h =
          ap₂ (λ a b. first_fitting (list_lines l (a || b)))
          (length-passes l.n nb (L.words-fit h)) (length-passes l.n cs (L.codes-fit h))

  module _ (number : ℕ) (nb' cs' : List ℕ) (R : Call (reduce_call l nb cs nb' cs') number) where
    abbrev answer_words : List ℕ
    answer_words = neighbour_words l.n (reduced l.n (rows l))

    abbrev answer_codes : List ℕ
    answer_codes = code_numbers l.n (reduced l.n (rows l))

    pub number_is : number ≡ first_fitting (check_lines l)
    number_is = R.number ∙ same_lines

    pub refused-printed : (number ≡ 0 → ⊥) → refused_text number ≡ list_answer l
    unfolding list_answer
    refused-printed h =
        ap refused_text number_is
        ∙ sym (ap (λ b. cond b (record_text l.n answer_words answer_codes 0)
        (refused_text (first_fitting (check_lines l))))
        (ne_eqb (first_fitting (check_lines l)) 0 (λ z. h (number_is ∙ z))))

    module _ (z : number ≡ 0) where
      passes : first_fitting (check_lines l) ≡ 0
      passes = sym number_is ∙ z

      words_are : nb' ≡ answer_words
      words_are = (written_all R z).0

      codes-are : cs' ≡ answer_codes
      codes-are = (written_all R z).1.0

      pub record-printed : record_text l.n nb' cs' 0 ≡ list_answer l
      unfolding list_answer
      record-printed =
          ap₂ (λ words codes. record_text l.n words codes 0) words_are codes-are
          ∙ sym (ap (λ b. cond b (record_text l.n answer_words answer_codes 0)
          (refused_text (first_fitting (check_lines l))))
          (eq-eqb (first_fitting (check_lines l)) 0 passes))

      pub printable : Printable l.n nb' cs' 0 out
      printable =
          record {
            qubits = few;
            neighbours-long = omega (
              arith,
              ap length words_are
                  ∙ tabulate-length l.n (λ j. word_of l.n ((reduced l.n (rows l)).graph j)),
            );
            codes-long = omega (
              arith,
              ap length codes-are
                  ∙ tabulate-length l.n (λ q. code_of ((reduced l.n (rows l)).codes q)),
            );
            codes-small = λ q k. subst (λ v. v < 24)
                (sym (ap (λ v. get_or v q 0) codes-are
                ∙ tabulate-at l.n (λ q. code_of ((reduced l.n (rows l)).codes q)) q k))
                (code_of-lt ((reduced l.n (rows l)).codes q));
            room = omega (arith, few, L.room);
          }
        where
          few : l.n ≤ 64
          few = (accepted-list l false passes).formed.upto
