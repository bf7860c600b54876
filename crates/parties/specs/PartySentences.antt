-- The lines of a party's calls in the documents' words (02, §13). Bit q of the word is qubit q's party.
use Rattle.std.specs.Prelude.{true, ◌++◌, List, [], ◌∷◌, ◌≢◌, ◌⊎◌, ◌≡◌, ◌<◌, ◌≤◌, ℕ, get_or}
use Rattle.buffers.specs.Sentences.{BadCount, Sentence, sentence}
use Rattle.record.specs.RecordSentences.{CodeAbove23, RecordMisfits}
use Rattle.store.specs.Places.{Store, count_at, is_held}
use Rattle.store.specs.StoreSentences.{
  HeldCodes,
  HeldCount,
  NameHeldTwice,
  UnknownName,
  AllOtherNames,
  SomeHeld,
  StoreMisfits,
}
use Rattle.operations.specs.Used.{UsedRecord}
use Rattle.operations.specs.UsedSentences.{Contradicted, IsUsed, MeasureMisfits, NoRecord, StrayBit}
use Rattle.words.specs.Bits.{bit, digit}
use Rattle.parties.specs.PartyStores.{own_places}

-- ---- 2, 6 and 19
-- 2: "n is 0 or above 64", "another n gives 2"
abbrev pub NotSixtyFour : UsedRecord → Type 0
NotSixtyFour u = BadCount u.held.n ⊎ (u.held.n ≢ 64)

-- q is no qubit of party g
abbrev pub Elsewhere : ℕ → ℕ → ℕ → Type 0
Elsewhere word g q = digit (bit word q) ≢ g

-- 19: "a group's call names a qubit of the other group"
abbrev pub OtherParties : ℕ → ℕ → UsedRecord → ℕ → Type 0
OtherParties word g u q = (q < u.held.n) × Elsewhere word g q

-- 19: "the record has an edge between the groups"
abbrev pub EdgeBetween : ℕ → UsedRecord → Type 0
EdgeBetween word u = (j : ℕ) × (j < u.held.n) × ((k : ℕ) × (k < u.held.n)
    × ((bit (get_or u.held.neighbours j 0) k ≡ true) × (bit word j ≢ bit word k)))

-- ---- a party's gate, cz, measurement and complementation
-- 6: "a call's group above 1 gives 6"; 19 is "checked directly before 8"
abbrev pub party_sentences : ℕ → ℕ → UsedRecord → Type 0 → Type 0 → Type 0 → Type 0 → List Sentence
party_sentences word g u Six Nineteen Eight Sixteen =
    sentence 2 (NotSixtyFour u) ∷ sentence 4 (RecordMisfits u.held) ∷ sentence 5 (StrayBit u)
    ∷ sentence 6 (Six ⊎ (1 < g)) ∷ sentence 7 (NoRecord u) ∷ sentence 19 (EdgeBetween word u ⊎ Nineteen)
    ∷ sentence 8 Eight ∷ sentence 16 Sixteen ∷ []

-- a gate with a code on a qubit
abbrev pub party_gate_sentences : ℕ → ℕ → UsedRecord → ℕ → ℕ → List Sentence
party_gate_sentences word g u q k =
    party_sentences word g u (CodeAbove23 u.held ⊎ (23 < k)) (OtherParties word g u q) (u.held.n ≤ q) (IsUsed u q)

-- a cz on two qubits
abbrev pub party_cz_sentences : ℕ → ℕ → UsedRecord → ℕ → ℕ → List Sentence
party_cz_sentences word g u a b =
    party_sentences word g u (CodeAbove23 u.held) (OtherParties word g u a ⊎ OtherParties word g u b)
    ((u.held.n ≤ a) ⊎ ((u.held.n ≤ b) ⊎ (a ≡ b))) (IsUsed u a ⊎ IsUsed u b)

-- a complementation at a vertex
abbrev pub party_complement_sentences : ℕ → ℕ → UsedRecord → ℕ → List Sentence
party_complement_sentences word g u a =
    party_sentences word g u (CodeAbove23 u.held) (OtherParties word g u a) (u.held.n ≤ a) (IsUsed u a)

-- a measurement, before its outcome is looked at
abbrev pub party_argument_sentences : ℕ → ℕ → UsedRecord → ℕ → ℕ → ℕ → List Sentence
party_argument_sentences word g u pauli q b =
    party_sentences word g u (CodeAbove23 u.held ⊎ MeasureMisfits pauli b) (OtherParties word g u q) (u.held.n ≤ q)
    (IsUsed u q)

-- 14 is about the whole record's party
abbrev pub party_measure_sentences : ℕ → ℕ → UsedRecord → ℕ → ℕ → ℕ → List Sentence
party_measure_sentences word g u pauli q b =
    party_argument_sentences word g u pauli q b ++ (sentence 14 (Contradicted u pauli q b) ∷ [])

-- ---- a party's save, return and forget, of its own four places
-- 2: a state held in them has another n than 64
abbrev pub OwnCount : Store → Type 0
OwnCount own =
    HeldCount 4 own ⊎ ((i : ℕ) × (i < 4) × ((is_held own.heads i ≡ true) × (count_at own.heads i ≢ 64)))

-- a vertex has a neighbour outside party g
abbrev pub NeighbourOutside : ℕ → ℕ → UsedRecord → Type 0
NeighbourOutside word g u = (j : ℕ) × (j < u.held.n) × ((k : ℕ) × (k < u.held.n)
    × ((bit (get_or u.held.neighbours j 0) k ≡ true) × Elsewhere word g k))

-- 7: of the states held there; "a held state with a neighbour outside it gives 7"
abbrev pub OwnWrong : ℕ → ℕ → Store → Type 0
OwnWrong word g own = SomeHeld 4 own NoRecord ⊎ (NameHeldTwice 4 own.heads ⊎ SomeHeld 4 own
    (NeighbourOutside word g))

-- the lines that the three share
abbrev pub shared_sentences : ℕ → ℕ → UsedRecord → Store → List Sentence
shared_sentences word g u st =
    sentence 2 ((BadCount u.held.n ⊎ OwnCount (own_places g st)) ⊎ (u.held.n ≢ 64))
    ∷ sentence 4 (RecordMisfits u.held ⊎ (SomeHeld 4 (own_places g st) (λ v. RecordMisfits v.held) ⊎ StoreMisfits 8
    st))
    ∷ sentence 5 (StrayBit u ⊎ SomeHeld 4 (own_places g st) StrayBit)
    ∷ sentence 6 ((CodeAbove23 u.held ⊎ HeldCodes 4 (own_places g st)) ⊎ (1 < g))
    ∷ sentence 7 (NoRecord u ⊎ OwnWrong word g (own_places g st)) ∷ sentence 19 (EdgeBetween word u) ∷ []

-- 18: "For a group, four names take the place of eight"
abbrev pub party_save_sentences : ℕ → ℕ → UsedRecord → ℕ → Store → List Sentence
party_save_sentences word g u name st =
    shared_sentences word g u st ++ (sentence 18 (AllOtherNames 4 (own_places g st).heads name) ∷ [])

-- 17: the name is not held in the party's own places
abbrev pub party_named_sentences : ℕ → ℕ → UsedRecord → ℕ → Store → List Sentence
party_named_sentences word g u name st =
    shared_sentences word g u st ++ (sentence 17 (UnknownName 4 (own_places g st).heads name) ∷ [])
