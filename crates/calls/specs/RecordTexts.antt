-- What the calls on texts of records promise, for all arguments. A name with a prime is what the buffer, or the lent
-- number, holds at exit.
use Rattle.std.specs.Prelude.{false, not, ◌||◌, List, [], ◌∷◌, ℕ, length}
use Rattle.buffers.specs.Buffers.{tabulate, written}
use Rattle.buffers.specs.Calls.{Contract, buffer, contract_of, number}
use Rattle.buffers.specs.Refusals.{Refusal, line, other_than}
use Rattle.operations.specs.Used.{used_lines, UsedRecord}
use Rattle.text.specs.RecordTexts.{line_read, qubit_count, record_form}
use Rattle.text.specs.Text.{record_text}
use Rattle.words.specs.Bits.{word_of}

-- the record print of `reduce`
abbrev pub print_of : UsedRecord → List ℕ
print_of u = record_text u.held.n u.held.neighbours u.held.codes u.used

-- "At most 27 + 64 × 25 = 1,627 bytes": the buffer's length
abbrev pub write_record_lines : UsedRecord → List ℕ → List Refusal
write_record_lines u text = used_lines u (other_than 1627 text) false false

-- ---- sukhlent_write_record: "the places past `*length` keep their values"
abbrev pub write_record_call : UsedRecord → List ℕ → ℕ → List ℕ → ℕ → Contract
write_record_call u text size text' size' =
    contract_of (write_record_lines u text)
    (buffer text (written (print_of u) text) text' ∷ number size (length (print_of u)) size' ∷ [])

-- the record that a text stands for: what each of its lines says
abbrev pub record_in_text : List ℕ → UsedRecord
record_in_text t =
    record {
      held = record {
        n = qubit_count t;
        neighbours = tabulate (qubit_count t) (λ q. (line_read t q).word);
        codes = tabulate (qubit_count t) (λ q. (line_read t q).code);
      };
      used = word_of (qubit_count t) (λ q. (line_read t q).used);
    }

-- "judged over the whole text first (1)", "the names alone and more than 64 lines are 2; then 4, 5, 6, 7";
-- "`neighbours` and
-- `codes` have 64 places"
abbrev pub read_record_lines : List ℕ → List ℕ → List ℕ → List Refusal
read_record_lines t nb cs =
    line 1 (not (record_form t)) ∷ used_lines (record_in_text t) (other_than 64 nb || other_than 64 cs) false false

-- ---- sukhlent_read_record: "those from `*n` on keep their values"
abbrev pub read_record_call : (t : List ℕ) (n : ℕ) (nb cs : List ℕ) (used n' : ℕ) (nb' cs' : List ℕ) (used' : ℕ) →
    Contract
read_record_call t n nb cs used n' nb' cs' used' =
    contract_of (read_record_lines t nb cs)
    (number n (record_in_text t).held.n n' ∷ buffer nb (written (record_in_text t).held.neighbours nb) nb'
    ∷ buffer cs (written (record_in_text t).held.codes cs) cs' ∷ number used (record_in_text t).used used' ∷ [])
