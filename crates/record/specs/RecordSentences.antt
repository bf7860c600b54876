-- The lines of a record in the documents' words.
use Rattle.std.specs.Prelude.{true, List, [], ◌∷◌, ◌≢◌, ◌⊎◌, ◌≡◌, ◌<◌, ℕ}
use Rattle.buffers.specs.Sentences.{BadCount, OtherLength, Sentence, SomeAbove, SomeStray, sentence}
use Rattle.record.specs.Graph.{Graph}
use Rattle.record.specs.NeighbourWords.{graph_in}
use Rattle.record.specs.Lent.{LentRecord}

-- 4: "A lent buffer that holds one number per .. vertex .. has n places": one of the record's has not
abbrev pub RecordMisfits : LentRecord → Type 0
RecordMisfits l = OtherLength l.n l.neighbours ⊎ OtherLength l.n l.codes

-- 5: "A word has a bit at or above n"
abbrev pub StrayNeighbour : LentRecord → Type 0
StrayNeighbour l = SomeStray l.n l.neighbours

-- 6: "a code above 23"
abbrev pub CodeAbove23 : LentRecord → Type 0
CodeAbove23 l = SomeAbove 23 l.codes

-- 7: "A graph is not simple": a vertex is its own neighbour, or of two vertices one has the other and is not had by it
abbrev pub NoSimpleGraph : ℕ → Graph → Type 0
NoSimpleGraph n θ = (i : ℕ) × (i < n) × ((θ i i ≡ true) ⊎ ((j : ℕ) × (j < n) × (θ i j ≢ θ j i)))

-- the lines of a record, with what 4, 5, 6 and 7 say
abbrev pub five_sentences : ℕ → Type 0 → Type 0 → Type 0 → Type 0 → List Sentence
five_sentences n Four Five Six Seven =
    sentence 2 (BadCount n) ∷ sentence 4 Four ∷ sentence 5 Five ∷ sentence 6 Six ∷ sentence 7 Seven ∷ []

-- a record without a word of used qubits, with what 4 says
abbrev pub record_sentences : LentRecord → Type 0 → List Sentence
record_sentences l Four =
    five_sentences l.n Four (StrayNeighbour l) (CodeAbove23 l) (NoSimpleGraph l.n (graph_in l.neighbours))
