-- The lines of a party's gate, cz, measurement and complementation (02, §13), and what each leaves.
use Rattle.std.specs.Prelude.{◌&&◌, Bool, not, ◌||◌, List, ℕ, eqb, ltb}
use Rattle.buffers.specs.Refusals.{Refusal, inserted_before, line, with_test}
use Rattle.operations.specs.Steps.{Operation, complement_of, cz_on, gate_with, measurement_of, pivot_of}
use Rattle.operations.specs.Used.{UsedRecord, used_lines_of, used_step}
use Rattle.words.specs.Bits.{Word}
use Rattle.parties.specs.Masks.{crosses, in_party, masked, merged}

-- a qubit of the record outside s; a number of n or more is no qubit of it
abbrev pub outsider : Word → ℕ → ℕ → Bool
outsider s n q = ltb q n && not (s q)

-- "a group's call names a qubit of the other group"
abbrev pub names_other : Word → ℕ → Operation → Bool
names_other s n (gate_with q k) = outsider s n q
names_other s n (cz_on a b) = outsider s n a || outsider s n b
names_other s n (measurement_of pauli q b) = outsider s n q
names_other s n (complement_of a) = outsider s n a
names_other s n (pivot_of j k) = outsider s n j || outsider s n k

-- lines with the tests of every party call. 2: "another n gives 2"; 6: "a call's group above 1 gives 6"
abbrev pub with_party : ℕ → ℕ → List Refusal → List Refusal
with_party g n lines = with_test 2 (not (eqb n 64)) (with_test 6 (ltb 1 g) lines)

-- those of an operation. 19, "checked directly before 8"
abbrev pub party_lines : ℕ → ℕ → UsedRecord → Operation → List Refusal
party_lines word g u o =
    inserted_before 8 (line 19 (crosses word u || names_other (in_party word g) u.held.n o))
    (with_party g u.held.n (used_lines_of u o))

-- the record after an accepted one: "A group's gate, cz or measure reduces that group's vertices alone"
abbrev pub party_after : ℕ → ℕ → UsedRecord → Operation → UsedRecord
party_after word g u o = merged (in_party word g) (used_step (masked (in_party word g) u) o).after u
