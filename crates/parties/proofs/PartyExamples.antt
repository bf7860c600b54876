-- The request's cases that tell the order of the lines, on 64 qubits (the others stand in claims_examples); and on two
-- qubits, one a party, what two complementations and a gate leave.
use mathlib.Core.List.{◌++◌, [], ◌∷◌}
use mathlib.Core.Path.{◌≡◌, refl}
use Prim.Native.Nat.{◌^◌, ◌-◌, ℕ}
use lib.ListN.{replicate, set}
use Rattle.buffers.specs.Buffers.{tabulate}
use Rattle.buffers.specs.Refusals.{first_fitting, reaching}
use Rattle.clifford.specs.Clifford.{inverse}
use Rattle.clifford.specs.Vectors.{act}
use Rattle.operations.specs.Steps.{Operation, complement_of, cz_on, gate_with}
use Rattle.pauli.specs.Pauli.{anticommute, mul, power}
use Rattle.record.specs.Columns.{is_column_dependent}
use Rattle.record.specs.Lent.{not_simple}
use Rattle.record.specs.Reduced.{graph_of, minuses_of, reduced_row, ys_of}
use Rattle.stabilizer.specs.Lists.{clashing, dependent}
use Rattle.store.specs.Places.{Store}
use Rattle.operations.specs.Used.{UsedRecord, used_record, used_wrong}
use Rattle.words.specs.Bits.{bit, fold, put, word_of}
use Rattle.words.specs.Search.{every, first, some}
use Rattle.parties.specs.PartyLines.{party_after, party_lines}
use Rattle.parties.specs.PartyStores.{party_named_lines, own_lines}
use Rattle.parties.specs.Masks.{crosses, reaches_out}

-- qubits 0 to 31 are of party 0, the others of party 1
abbrev pub halves : ℕ
halves = 2 ^ 64 - 2 ^ 32

abbrev pub plain : UsedRecord
plain = used_record 64 (replicate 64 0) (replicate 64 8) 0

-- with an edge 0-40
abbrev pub joined : UsedRecord
joined =
    used_record 64 (set (set (replicate 64 0) 0 (2 ^ 40)) 40 1) (replicate 64 8) 0

abbrev pub asked : UsedRecord → ℕ → Operation → ℕ
asked u g o = first_fitting (party_lines halves g u o)

abbrev pub empty : Store
empty = record { heads = replicate 24 0; neighbours = replicate 512 0; codes = replicate 512 0 }

-- 19 comes before 8, and before 17
pub party-order :
    asked plain 0 (cz_on 40 64) ∷ asked plain 0 (gate_with 64 0) ∷ first_fitting (party_named_lines halves 0 joined 65 empty)
    ∷ [] ≡ 19 ∷ 8 ∷ 19 ∷ []
unfolding bit some every first first_fitting reaching not_simple used_wrong crosses reaches_out
party-order = refl

-- a party above 1 has no place: words lent beyond the 24 heads are a wrong length, whatever n they hold
pub beyond : first_fitting (own_lines (bit halves) 2
    (record { heads = set (replicate 48 0) 24 5; neighbours = []; codes = [] })) ≡ 4
unfolding some first_fitting
beyond = refl

-- ---- qubit 0 is of party 0, qubit 1 of party 1
abbrev two : UsedRecord
two = used_record 2 (replicate 2 0) (replicate 2 8) 0

abbrev first-complement : UsedRecord
first-complement = party_after 2 0 two (complement_of 0)

abbrev second-complement : UsedRecord
second-complement = party_after 2 1 first-complement (complement_of 1)

-- a complementation reduces nothing, a gate the vertices of its party alone
pub party-leaves :
    second-complement.held.codes ++ (party_after 2 1 second-complement (gate_with 1 0)).held.codes ≡ 20 ∷ 20 ∷ 20 ∷ 8
    ∷ []
unfolding fold put bit word_of some every first power mul anticommute inverse act tabulate first_fitting
    reaching clashing dependent not_simple is_column_dependent reduced_row graph_of ys_of minuses_of used_wrong
party-leaves = refl
