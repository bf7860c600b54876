-- The lines of the measurement of a Pauli row on a record with used qubits.
use Rattle.std.specs.Prelude.{◌&&◌, Bool, false, ◌||◌, ◌++◌, List, [], ◌∷◌, ◌^◌, ℕ, leb}
use Rattle.buffers.specs.Refusals.{Refusal, line}
use Rattle.operations.specs.Used.{UsedRecord, used_lines}
use Rattle.words.specs.Bits.{bit}
use Rattle.words.specs.Search.{some}

-- 16: "a row that acts on a used qubit": it has a letter other than I there
unfoldable pub acts_on_used : UsedRecord → ℕ → ℕ → Bool
acts_on_used u z x = some u.held.n (λ q. bit u.used q && (bit z q || bit x q))

-- the lines before 16. 5: also a z or an x word with a bit at or above n; 6: "A bit above 1 is 6"
abbrev pub row_arguments : UsedRecord → ℕ → ℕ → ℕ → List Refusal
row_arguments u z x b = used_lines u false (leb (2 ^ u.held.n) z || leb (2 ^ u.held.n) x) (leb 2 b)

-- all of them in checking order
abbrev pub measure_row_lines : UsedRecord → ℕ → ℕ → ℕ → List Refusal
measure_row_lines u z x b = row_arguments u z x b ++ (line 16 (acts_on_used u z x) ∷ [])
