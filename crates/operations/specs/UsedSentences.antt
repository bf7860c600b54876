-- The lines of a record with a word of used qubits, and of the calls that name qubits of it, in the documents' words.
use Rattle.std.specs.Prelude.{not, true, ◌++◌, List, [], ◌∷◌, ◌≢◌, ◌⊎◌, ◌≡◌, ◌*◌, ◌<◌, ◌≤◌, ℕ, get_or}
use Rattle.buffers.specs.Sentences.{Sentence, Stray, sentence}
use Rattle.record.specs.NeighbourWords.{graph_in}
use Rattle.operations.specs.Measurement.{pauli_letter, single}
use Rattle.record.specs.Lent.{held_rows}
use Rattle.record.specs.RecordSentences.{CodeAbove23, NoSimpleGraph, RecordMisfits, StrayNeighbour, five_sentences}
use Rattle.stabilizer.specs.Groups.{InGroup}
use Rattle.words.specs.Bits.{bit, is_odd}
use Rattle.operations.specs.Used.{UsedRecord}

-- ---- records
-- 5: "A word has a bit at or above n"; "a used bit at or above n gives 5" (02, §8)
abbrev pub StrayBit : UsedRecord → Type 0
StrayBit u = StrayNeighbour u.held ⊎ Stray u.held.n u.used

-- "its code is 0, 2, 4, 6, 8 or 10"
abbrev pub OfSix : ℕ → Type 0
OfSix c = (i : ℕ) × (i < 6) × (c ≡ 2 * i)

-- "A used vertex has no neighbour, and its code is 0, 2, 4, 6, 8 or 10": one is otherwise
abbrev pub UsedOtherwise : UsedRecord → Type 0
UsedOtherwise u = (q : ℕ) × (q < u.held.n) × ((bit u.used q ≡ true)
    × ((get_or u.held.neighbours q 0 ≢ 0) ⊎ (OfSix (get_or u.held.codes q 0) → ⊥)))

-- 7: "A graph is not simple", or a used vertex is otherwise (02, §8)
abbrev pub NoRecord : UsedRecord → Type 0
NoRecord u = NoSimpleGraph u.held.n (graph_in u.held.neighbours) ⊎ UsedOtherwise u

-- the lines of a record, with what 4, 5 and 6 say
abbrev pub used_sentences : UsedRecord → Type 0 → Type 0 → Type 0 → List Sentence
used_sentences u Four Five Six = five_sentences u.held.n Four Five Six (NoRecord u)

-- ---- calls in place
-- the lines of a call that names qubits of the record; 16: "the call names a used qubit; checked directly after 8"
abbrev pub in_place_sentences : UsedRecord → Type 0 → Type 0 → Type 0 → List Sentence
in_place_sentences u Six Eight Sixteen =
    used_sentences u (RecordMisfits u.held) (StrayBit u) Six ++ (sentence 8 Eight ∷ sentence 16 Sixteen ∷ [])

-- the qubit is used
abbrev pub IsUsed : UsedRecord → ℕ → Type 0
IsUsed u q = bit u.used q ≡ true

-- 6: "a code above 23"; 8: "A qubit number is n or more"
abbrev pub gate_sentences : UsedRecord → ℕ → ℕ → List Sentence
gate_sentences u q k = in_place_sentences u (CodeAbove23 u.held ⊎ (23 < k)) (u.held.n ≤ q) (IsUsed u q)

-- 8: ".. CZ .. names one qubit twice"
abbrev pub cz_sentences : UsedRecord → ℕ → ℕ → List Sentence
cz_sentences u a b =
    in_place_sentences u (CodeAbove23 u.held) ((u.held.n ≤ a) ⊎ ((u.held.n ≤ b) ⊎ (a ≡ b)))
    (IsUsed u a ⊎ IsUsed u b)

-- a vertex that is complemented at
abbrev pub complement_sentences : UsedRecord → ℕ → List Sentence
complement_sentences u a = in_place_sentences u (CodeAbove23 u.held) (u.held.n ≤ a) (IsUsed u a)

-- 6: "A sign or outcome is above 1, .. or a Pauli not 1 to 3"
abbrev pub MeasureMisfits : ℕ → ℕ → Type 0
MeasureMisfits pauli b = (1 < b) ⊎ ((pauli ≡ 0) ⊎ (3 < pauli))

-- 14: "a determined outcome contradicts the supplied bit" (02, §4): the Pauli with the other sign is in the group
abbrev pub Contradicted : UsedRecord → ℕ → ℕ → ℕ → Type 0
Contradicted u pauli q b =
    InGroup u.held.n u.held.n (held_rows u.held) (single (pauli_letter pauli) q (not (is_odd b)))

-- those of a measurement; 14 is checked last
abbrev pub measure_sentences : UsedRecord → ℕ → ℕ → ℕ → List Sentence
measure_sentences u pauli q b =
    in_place_sentences u (CodeAbove23 u.held ⊎ MeasureMisfits pauli b) (u.held.n ≤ q) (IsUsed u q)
    ++ (sentence 14 (Contradicted u pauli q b) ∷ [])
