-- The calls that work on a lent record in place: the lines of each in checking order, and what it leaves.
use Rattle.std.specs.Prelude.{Bool, false, not, ◌||◌, ◌++◌, List, [], ◌∷◌, ℕ, eqb, leb}
use Rattle.buffers.specs.Buffers.{accepted}
use Rattle.buffers.specs.Refusals.{Refusal, first_fitting, line}
use Rattle.clifford.specs.Clifford.{clifford_of}
use Rattle.record.specs.Lent.{code_numbers, held_record, held_rows, LentRecord, neighbour_words, record_lines}
use Rattle.record.specs.Records.{GraphRecord, complement_all, complement_record, rows_of}
use Rattle.record.specs.Reduced.{reduced}
use Rattle.words.specs.Bits.{is_odd}
use Rattle.operations.specs.Cz.{cz_rows}
use Rattle.operations.specs.Gates.{gated}
use Rattle.operations.specs.Measurement.{measured_outcome, contradicts, measured_rows, pauli_letter}
use Rattle.operations.specs.declared.Outcome.{Outcome}

-- "A pivot on an edge j, k complements j, k, j"
abbrev pub pivot_record : GraphRecord → ℕ → ℕ → GraphRecord
pivot_record r j k = complement_all r (j ∷ k ∷ j ∷ [])

-- ---- lines
-- the lines of a record, with a further test for line 6 and the test for line 8
abbrev pub in_place_lines : LentRecord → Bool → Bool → List Refusal
in_place_lines l six eight = record_lines l false six ++ (line 8 eight ∷ [])

-- 6: ".. a code above 23"; 8: "A qubit number is n or more"
abbrev pub gate_lines : LentRecord → ℕ → ℕ → List Refusal
gate_lines l q k = in_place_lines l (leb 24 k) (leb l.n q)

-- 8: ".. CZ .. names one qubit twice"
abbrev pub cz_lines : LentRecord → ℕ → ℕ → List Refusal
cz_lines l a b = in_place_lines l false (leb l.n a || (leb l.n b || eqb a b))

-- the lines of a measurement before its outcome is looked at.
-- 6: "A sign or outcome is above 1, .. or a Pauli not 1 to 3"
abbrev pub argument_lines : LentRecord → ℕ → ℕ → ℕ → List Refusal
argument_lines l pauli q b = in_place_lines l (leb 2 b || (eqb pauli 0 || leb 4 pauli)) (leb l.n q)

-- 14: "a determined outcome contradicts the supplied bit" (02, §4), after these
abbrev pub measure_lines : LentRecord → ℕ → ℕ → ℕ → List Refusal
measure_lines l pauli q b =
    argument_lines l pauli q b
    ++ (line 14 (contradicts l.n (held_rows l) (pauli_letter pauli) q (is_odd b)) ∷ [])

-- 8: "A qubit number is n or more", for the vertex of a complement
abbrev pub complement_lines : LentRecord → ℕ → List Refusal
complement_lines l a = in_place_lines l false (leb l.n a)

-- 8: ".. or a pivot names one qubit twice, or a pivot's pair has no edge"
abbrev pub pivot_lines : LentRecord → ℕ → ℕ → List Refusal
pivot_lines l j k =
    in_place_lines l false (leb l.n j || (leb l.n k || (eqb j k || not ((held_record l).graph j k))))

-- ---- the operations
pub data Operation : Type 0 where
  gate_with : ℕ → ℕ → Operation
  cz_on : ℕ → ℕ → Operation
  measurement_of : ℕ → ℕ → ℕ → Operation
  complement_of : ℕ → Operation
  pivot_of : ℕ → ℕ → Operation

-- the lines of each
abbrev pub lines_of : LentRecord → Operation → List Refusal
lines_of l (gate_with q k) = gate_lines l q k
lines_of l (cz_on a b) = cz_lines l a b
lines_of l (measurement_of pauli q b) = measure_lines l pauli q b
lines_of l (complement_of a) = complement_lines l a
lines_of l (pivot_of j k) = pivot_lines l j k

-- those of its arguments: they read n, and for a pivot the edges; a measurement has 14 after these
abbrev pub arguments_of : LentRecord → Operation → List Refusal
arguments_of l (gate_with q k) = gate_lines l q k
arguments_of l (cz_on a b) = cz_lines l a b
arguments_of l (measurement_of pauli q b) = argument_lines l pauli q b
arguments_of l (complement_of a) = complement_lines l a
arguments_of l (pivot_of j k) = pivot_lines l j k

-- the new record of an accepted one. "All three answer the reduced record of the new group"; of a complement and a
-- pivot
-- "the answer is the record so rewritten, not reduced"
abbrev pub made : LentRecord → Operation → GraphRecord
made l (gate_with q k) = reduced l.n (rows_of l.n (gated (held_record l) q (clifford_of k)))
made l (cz_on a b) = reduced l.n (cz_rows a b (held_rows l))
made l (measurement_of pauli q b) =
    reduced l.n (measured_rows l.n (held_rows l) (pauli_letter pauli) q (is_odd b))
made l (complement_of a) = complement_record (held_record l) a
made l (pivot_of j k) = pivot_record (held_record l) j k

-- what the buffers hold after it: refused, the record as it was; accepted, the new one
abbrev pub leaves : LentRecord → Operation → LentRecord
leaves l o =
    record {
      n = l.n;
      neighbours = accepted (first_fitting (lines_of l o)) (neighbour_words l.n (made l o)) l.neighbours;
      codes = accepted (first_fitting (lines_of l o)) (code_numbers l.n (made l o)) l.codes;
    }

-- a measurement's further answer
abbrev pub measured_answer : LentRecord → ℕ → ℕ → ℕ → Outcome
measured_answer l pauli q b = measured_outcome l.n (held_rows l) (pauli_letter pauli) q (is_odd b)
