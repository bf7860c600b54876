-- Document 01's example, as §8 changes it, and refusals of used qubits.
use mathlib.Core.List.{◌++◌, List, [], ◌∷◌}
use mathlib.Core.Path.{◌≡◌, refl}
use Prim.Native.Nat.{ℕ}
use Rattle.buffers.specs.Buffers.{tabulate}
use Rattle.buffers.specs.Refusals.{first_fitting, reaching}
use Rattle.clifford.specs.Clifford.{inverse}
use Rattle.clifford.specs.Vectors.{act}
use Rattle.operations.specs.Cz.{cz}
use Rattle.operations.specs.Steps.{Operation, complement_of, cz_on, gate_with, measurement_of, pivot_of}
use Rattle.pauli.specs.Pauli.{anticommute, mul, power}
use Rattle.record.specs.Columns.{is_column_dependent}
use Rattle.record.specs.Lent.{not_simple}
use Rattle.record.specs.Reduced.{graph_of, minuses_of, reduced_row, ys_of}
use Rattle.stabilizer.specs.Lists.{clashing, dependent}
use Rattle.stabilizer.specs.Membership.{member}
use Rattle.words.specs.Bits.{bit, fold, put, word_of}
use Rattle.words.specs.Search.{every, first, some}
use Rattle.operations.specs.Used.{UsedRecord, used_record, used_step, used_wrong}

abbrev two : List ℕ → List ℕ → ℕ → UsedRecord
two nb cs u = used_record 2 nb cs u

abbrev number : UsedRecord → Operation → ℕ
number u o = (used_step u o).number

abbrev left : UsedRecord → Operation → List ℕ
left u o = (used_step u o).number ∷ (used_step u o).after.used
    ∷ ((used_step u o).after.held.neighbours ++ (used_step u o).after.held.codes)

abbrev edge : UsedRecord
edge = two (2 ∷ 1 ∷ []) (0 ∷ 8 ∷ []) 0

abbrev measured : UsedRecord
measured = two (0 ∷ 0 ∷ []) (10 ∷ 10 ∷ []) 1

abbrev given : List (List ℕ)
given =
    left edge (measurement_of 3 0 1)
    ∷ left measured (measurement_of 3 1 1)
    ∷ (number measured (measurement_of 3 1 0) ∷ number measured (measurement_of 3 0 1) ∷ number measured (gate_with 0 24)
    ∷ number measured (gate_with 0 8) ∷ number measured (cz_on 0 0) ∷ number measured (cz_on 0 1) ∷ number measured
    (cz_on 0 2)
    ∷ number measured (pivot_of 0 1) ∷ number measured (complement_of 0) ∷ [])
    ∷ (number (two (0 ∷ 0 ∷ []) (8 ∷ 8 ∷ []) 4) (gate_with 0 8) ∷ number (two (2 ∷ 1 ∷ []) (0 ∷ 0 ∷ []) 1) (gate_with 1 8)
    ∷ number (two (0 ∷ 0 ∷ []) (1 ∷ 0 ∷ []) 1) (gate_with 1 8) ∷ number (two (0 ∷ 0 ∷ []) (24 ∷ 0 ∷ []) 1) (gate_with 1 8)
    ∷ [])
    ∷ []

abbrev expected : List (List ℕ)
expected =
    (0 ∷ 1 ∷ 0 ∷ 0 ∷ 10 ∷ 10 ∷ [])
    ∷ (0 ∷ 3 ∷ 0 ∷ 0 ∷ 10 ∷ 10 ∷ [])
    ∷ (14 ∷ 16 ∷ 6 ∷ 16 ∷ 8 ∷ 16 ∷ 8 ∷ 8 ∷ 16 ∷ [])
    ∷ (5 ∷ 7 ∷ 7 ∷ 6 ∷ [])
    ∷ []

pub used-examples : given ≡ expected
unfolding fold put bit word_of some every first power mul anticommute inverse act tabulate first_fitting
    reaching clashing dependent not_simple is_column_dependent reduced_row graph_of ys_of minuses_of cz member used_wrong
used-examples = refl
