-- The lines of a list in the documents' words.
use Rattle.std.specs.Prelude.{true, ◌++◌, List, [], ◌∷◌, ◌⊎◌, ◌≡◌, ◌<◌, ℕ}
use Rattle.buffers.specs.Sentences.{BadCount, OtherLength, Sentence, SomeAbove, SomeStray, sentence}
use Rattle.pauli.specs.Pauli.{Pauli, anticommute}
use Rattle.stabilizer.specs.Groups.{Independent}
use Rattle.stabilizer.specs.Lists.{GeneratorList, rows}

-- 4: "A lent buffer that holds one number per generator .. has n places": one of the list's has not
abbrev pub ListMisfits : GeneratorList → Type 0
ListMisfits l = OtherLength l.n l.signs ⊎ (OtherLength l.n l.z ⊎ OtherLength l.n l.x)

-- 5: "A word has a bit at or above n"
abbrev pub ListStrays : GeneratorList → Type 0
ListStrays l = SomeStray l.n l.z ⊎ SomeStray l.n l.x

-- 9: "Two generators do not commute"
abbrev pub TwoClash : ℕ → (ℕ → Pauli) → Type 0
TwoClash n R = (i : ℕ) × (j : ℕ) × (i < n) × (j < n) × (anticommute n (R i) (R j) ≡ true)

-- the lines of any list of rows, with what 4 and 5 say
abbrev pub form_sentences : GeneratorList → Type 0 → Type 0 → List Sentence
form_sentences l Four Five =
    sentence 2 (BadCount l.n) ∷ sentence 4 Four ∷ sentence 5 Five ∷ sentence 6 (SomeAbove 1 l.signs) ∷ []

-- the lines of a list, with what 4 says: "Two generators do not commute", "The generators are dependent"
abbrev pub list_sentences : GeneratorList → Type 0 → List Sentence
list_sentences l Four =
    form_sentences l Four (ListStrays l)
    ++ (sentence 9 (TwoClash l.n (rows l)) ∷ sentence 10 (Independent l.n (rows l) → ⊥) ∷ [])
