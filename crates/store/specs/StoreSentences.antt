-- The lines of a store of k places in the documents' words: "its held records are checked like any other, and a name
-- held twice in it gives 7" (02, §12).
use Rattle.std.specs.Prelude.{true, ◌++◌, List, [], ◌∷◌, ◌≢◌, ◌⊎◌, ◌≡◌, ◌*◌, ◌<◌, ℕ}
use Rattle.buffers.specs.Sentences.{BadCount, OtherLength, Sentence, sentence}
use Rattle.record.specs.RecordSentences.{CodeAbove23, RecordMisfits}
use Rattle.operations.specs.Used.{UsedRecord}
use Rattle.operations.specs.UsedSentences.{NoRecord, StrayBit}
use Rattle.store.specs.Places.{Store, has_name, is_held, name_at, place_at}

-- so it is of some record that one of the first k places holds
abbrev pub SomeHeld : ℕ → Store → (UsedRecord → Type 0) → Type 0
SomeHeld k st P = (i : ℕ) × (i < k) × ((is_held st.heads i ≡ true) × P (place_at st i))

-- 4: a buffer of the store has not three words, 64 neighbour words and 64 codes for each place
abbrev pub StoreMisfits : ℕ → Store → Type 0
StoreMisfits k st = OtherLength (3 * k) st.heads ⊎ (OtherLength (64 * k) st.neighbours ⊎ OtherLength (64 * k)
    st.codes)

-- 7: "a name held twice in it": two places hold a record under one name
abbrev pub NameHeldTwice : ℕ → List ℕ → Type 0
NameHeldTwice k heads =
    (i : ℕ) × (i < k) × ((is_held heads i ≡ true) × ((j : ℕ) × (j < i) × (has_name heads (name_at heads i) j ≡ true)))

-- what lines 2 to 7 say of a store
abbrev pub HeldCount : ℕ → Store → Type 0
HeldCount k st = SomeHeld k st (λ v. BadCount v.held.n)

-- 4: of its held records, and of its own buffers
abbrev pub HeldMisfits : ℕ → Store → Type 0
HeldMisfits k st = SomeHeld k st (λ v. RecordMisfits v.held) ⊎ StoreMisfits k st

-- 6: "a code above 23"
abbrev pub HeldCodes : ℕ → Store → Type 0
HeldCodes k st = SomeHeld k st (λ v. CodeAbove23 v.held)

-- the lines of a store, with what 4 says
abbrev pub store_sentences : ℕ → Store → Type 0 → List Sentence
store_sentences k st Four =
    sentence 2 (HeldCount k st) ∷ sentence 4 Four ∷ sentence 5 (SomeHeld k st StrayBit) ∷ sentence 6 (HeldCodes k st)
    ∷ sentence 7 (SomeHeld k st NoRecord ⊎ NameHeldTwice k st.heads) ∷ []

-- 17: "a name to return to or forget is not held"
abbrev pub UnknownName : ℕ → List ℕ → ℕ → Type 0
UnknownName k heads name = ((i : ℕ) × (i < k) × (has_name heads name i ≡ true)) → ⊥

-- 18: "a save finds eight other names held": each place holds a record under another name
abbrev pub AllOtherNames : ℕ → List ℕ → ℕ → Type 0
AllOtherNames k heads name = (i : ℕ) → i < k → (is_held heads i ≡ true) × (name_at heads i ≢ name)

-- those of a return or a forget, with what 4 says
abbrev pub named_sentences : ℕ → ℕ → Store → Type 0 → List Sentence
named_sentences k name st Four = store_sentences k st Four ++ (sentence 17 (UnknownName k st.heads name) ∷ [])

-- those of a save: a line holds of the record or of the store
abbrev pub save_sentences : ℕ → UsedRecord → ℕ → Store → List Sentence
save_sentences k u name st =
    sentence 2 (BadCount u.held.n ⊎ HeldCount k st) ∷ sentence 4 (RecordMisfits u.held ⊎ HeldMisfits k st)
    ∷ sentence 5 (StrayBit u ⊎ SomeHeld k st StrayBit) ∷ sentence 6 (CodeAbove23 u.held ⊎ HeldCodes k st)
    ∷ sentence 7 (NoRecord u ⊎ (SomeHeld k st NoRecord ⊎ NameHeldTwice k st.heads))
    ∷ sentence 18 (AllOtherNames k st.heads name) ∷ []
