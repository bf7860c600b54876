-- The answer to the text of a generator list: the record of the text's list, or the one line `refused` and the number.
use Rattle.std.specs.Prelude.{cond, List, map, ◌≡◌, ℕ, eqb, length}
use Rattle.buffers.specs.Refusals.{first_fitting}
use Rattle.calls.specs.Lists.{check_lines}
use Rattle.record.specs.Lent.{code_numbers, neighbour_words}
use Rattle.record.specs.Reduced.{reduced}
use Rattle.stabilizer.specs.Lists.{GeneratorList, rows}
use Rattle.text.specs.Text.{HasForm, ListLine, TextOf, record_text, refused_text}
use Rattle.buffers.specs.Writing.{Printed}

-- "one line per generator, n being their number"
abbrev pub list_read : List ListLine → GeneratorList
list_read ls =
    record { n = length ls; signs = map (λ l. l.sign) ls; z = map (λ l. l.z) ls; x = map (λ l. l.x) ls }

-- "it prints the names `qubit code neighbours` and one line per qubit ..; or the one line `refused` and the number":
-- the list's record, or the number of the first line that holds of the list. "A record made from a list has the word 0"
-- of used qubits
unfoldable pub list_answer : GeneratorList → List ℕ
list_answer l =
    cond (eqb (first_fitting (check_lines l)) 0)
    (record_text l.n (neighbour_words l.n (reduced l.n (rows l)))
    (code_numbers l.n (reduced l.n (rows l))) 0)
    (refused_text (first_fitting (check_lines l)))

-- these bytes answer the text t, where `answer` says what is printed for a list. 1: "The program's text does not have
-- its form"
pub record AnswersList (answer : GeneratorList → List ℕ) (t bytes : List ℕ) : Type 0 where
  pub malformed : (HasForm t → ⊥) → bytes ≡ refused_text 1
  pub formed : (ls : List ListLine) → TextOf ls t → bytes ≡ answer (list_read ls)

-- the answer to the text t was printed
pub record ListResponse (answer : GeneratorList → List ℕ) (t before after : List ℕ) (r : ℕ) : Type 0 where
  pub bytes : List ℕ
  pub answers : AnswersList answer t bytes
  pub out : Printed bytes 0 before after r
