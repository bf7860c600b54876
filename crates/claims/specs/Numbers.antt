-- Every number in words: for each call the lines of the published list that it may return, in checking order, each with
-- what it says of the arguments. `FirstTrue` of such a list is in the record of each exported function: "a number comes
-- back only where its line below is true", and it is the first.
--
-- Of the calls in place: operations/specs/UsedSentences; of a store: store/specs/StoreSentences; of a party:
-- parties/specs/PartySentences.
use Rattle.std.specs.Prelude.{true, ◌++◌, List, [], ◌∷◌, ◌≢◌, ◌⊎◌, ◌≡◌, ◌<◌, ℕ}
use Rattle.buffers.specs.Sentences.{BadCount, OtherLength, Sentence, SomeAbove, SomeStray, Stray, sentence}
use Rattle.clifford.specs.Clifford.{Clifford}
use Rattle.record.specs.NeighbourWords.{graph_in}
use Rattle.image.specs.Image.{image_record}
use Rattle.image.specs.Rule.{follow, image_list, state_of}
use Rattle.pauli.specs.Pauli.{Pauli, letter_at}
use Rattle.pauli.specs.declared.Letter.TheVariants.{Y}
use Rattle.record.specs.Lent.{LentRecord, held_record}
use Rattle.record.specs.RecordSentences.{CodeAbove23, NoSimpleGraph, RecordMisfits, StrayNeighbour, record_sentences}
use Rattle.record.specs.Records.{GraphRecord, rows_of}
use Rattle.stabilizer.specs.Carries.{Carries}
use Rattle.stabilizer.specs.Groups.{Independent}
use Rattle.stabilizer.specs.ListSentences.{ListMisfits, ListStrays, TwoClash, form_sentences, list_sentences}
use Rattle.stabilizer.specs.Lists.{GeneratorList, rows}
use Rattle.store.specs.Places.{Store}
use Rattle.store.specs.StoreSentences.{HeldMisfits, SomeHeld, StoreMisfits, named_sentences}
use Rattle.text.specs.Reading.{line_count, string_list}
use Rattle.text.specs.Strings.{HasStringForm, text_size}
use Rattle.operations.specs.Used.{UsedRecord}
use Rattle.operations.specs.UsedSentences.{StrayBit, used_sentences}
use Rattle.claims.specs.PartsDemand.{LargePart}

-- ---- lists
abbrev pub check_sentences : GeneratorList → List Sentence
check_sentences l = list_sentences l (ListMisfits l)

-- with the two buffers lent for the answer
abbrev pub reduce_sentences : GeneratorList → List ℕ → List ℕ → List Sentence
reduce_sentences l nb cs = list_sentences l (ListMisfits l ⊎ (OtherLength l.n nb ⊎ OtherLength l.n cs))

-- "only 2, 4, 5 and 6 are checked"; 5: also of the word of chosen rows
abbrev pub product_sentences : GeneratorList → ℕ → List Sentence
product_sentences l chosen = form_sentences l (ListMisfits l) (ListStrays l ⊎ Stray l.n chosen)

-- 1: "The .. text does not have its form"; the three buffers have a place for each line
abbrev pub read_sentences : List ℕ → List ℕ → List ℕ → List ℕ → List Sentence
read_sentences t s z x =
    sentence 1 (HasStringForm t → ⊥) ∷ sentence 2 (BadCount (line_count t))
    ∷ sentence 4 (OtherLength (line_count t) s ⊎ (OtherLength (line_count t) z ⊎ OtherLength (line_count t) x))
    ∷ sentence 9 (TwoClash (string_list t).n (rows (string_list t)))
    ∷ sentence 10 (Independent (string_list t).n (rows (string_list t)) → ⊥) ∷ []

-- the buffer has the bytes of the text
abbrev pub write_sentences : GeneratorList → List ℕ → List Sentence
write_sentences l text = list_sentences l (ListMisfits l ⊎ OtherLength (text_size l.n) text)

-- ---- records
-- three buffers for the answer
abbrev pub ThreeMisfit : ℕ → List ℕ → List ℕ → List ℕ → Type 0
ThreeMisfit n a b c = OtherLength n a ⊎ (OtherLength n b ⊎ OtherLength n c)

-- with the three buffers lent for the answer
abbrev pub expand_sentences : UsedRecord → List ℕ → List ℕ → List ℕ → List Sentence
expand_sentences u s z x =
    used_sentences u (RecordMisfits u.held ⊎ ThreeMisfit u.held.n s z x) (StrayBit u) (CodeAbove23 u.held)

-- 5: also of a word that comes with the record: a side, a word y
abbrev pub with_word_sentences : UsedRecord → ℕ → List Sentence
with_word_sentences u word =
    used_sentences u (RecordMisfits u.held) (StrayNeighbour u.held ⊎
    (Stray u.held.n u.used ⊎ Stray u.held.n word))
    (CodeAbove23 u.held)

-- 5: also of the two words of a row
abbrev pub with_row_sentences : UsedRecord → ℕ → ℕ → List Sentence
with_row_sentences u z x =
    used_sentences u (RecordMisfits u.held)
    (StrayNeighbour u.held ⊎ (Stray u.held.n u.used ⊎ (Stray u.held.n z ⊎ Stray u.held.n x)))
    (CodeAbove23 u.held)

-- "The image loop stops with some C = 1"
abbrev pub StopsWithC : ℕ → GraphRecord → Type 0
StopsWithC n r = (j : ℕ) × (j < n) × ((follow (state_of r) (image_list n r)).C j ≡ true)

-- "the image has Y at some vertex's own place"
abbrev pub OwnY : ℕ → GraphRecord → Type 0
OwnY n r = (j : ℕ) × (j < n) × (letter_at (rows_of n (image_record n r) j) j ≡ Y)

-- 11, and 12: "It stops with every C = 0, but .."; "The list buffer is 96 bytes"
abbrev pub image_sentences : LentRecord → List ℕ → List ℕ → List ℕ → List Sentence
image_sentences l image signs list =
    record_sentences l (RecordMisfits l ⊎ (OtherLength l.n image ⊎ (OtherLength l.n signs ⊎ OtherLength 96 list)))
    ++ (sentence 11 (StopsWithC l.n (held_record l))
    ∷ sentence 12 ((StopsWithC l.n (held_record l) → ⊥) × OwnY l.n (held_record l)) ∷ [])

-- 2: n is 0, or "n above 6 gives 2"; 4: "Its lent buffer has 32,768 places"
abbrev pub orbit_sentences : ℕ → List ℕ → List ℕ → List Sentence
orbit_sentences n neighbours list =
    sentence 2 ((n ≡ 0) ⊎ (6 < n)) ∷ sentence 4 (OtherLength n neighbours ⊎ OtherLength 32768 list)
    ∷ sentence 5 (SomeStray n neighbours) ∷ sentence 7 (NoSimpleGraph n (graph_in neighbours)) ∷ []

-- ---- named states: a forget, and a return into two buffers of 64 places
abbrev pub forget_sentences : ℕ → Store → List Sentence
forget_sentences name st = named_sentences 8 name st (HeldMisfits 8 st)

-- with its two buffers
abbrev pub return_sentences : ℕ → Store → List ℕ → List ℕ → List Sentence
return_sentences name st nb cs =
    named_sentences 8 name st
    (SomeHeld 8 st (λ v. RecordMisfits v.held) ⊎ (StoreMisfits 8 st ⊎ (OtherLength 64 nb ⊎ OtherLength 64 cs)))

-- ---- the generator: 15, "more than 4,096 steps"; 6, "a seed, not 0 (0 gives 6)"; "Its lent buffer has 61,463 bytes"
abbrev pub generate_sentences : ℕ → ℕ → ℕ → List ℕ → List Sentence
generate_sentences n count seed text =
    sentence 15 (4096 < count) ∷ sentence 2 (BadCount n) ∷ sentence 4 (OtherLength 61463 text)
    ∷ sentence 6 (seed ≡ 0) ∷ []

-- ---- comparisons: "of the numbers found in either the first in checking order"
-- 2: "n is 0 or above 64, or the two lists' n differ"
abbrev pub CountsWrong : ℕ → ℕ → Type 0
CountsWrong n m = BadCount n ⊎ (BadCount m ⊎ (n ≢ m))

-- 4: of the choice's buffer and the list's, "96 bytes"
abbrev pub AnswersMisfit : ℕ → List ℕ → List ℕ → Type 0
AnswersMisfit n choice list = OtherLength n choice ⊎ OtherLength 96 list

-- lines 2 to 10 of two lists
abbrev pub pair_sentences : GeneratorList → GeneratorList → List ℕ → List ℕ → List Sentence
pair_sentences l m choice list =
    sentence 2 (CountsWrong l.n m.n) ∷ sentence 4 (ListMisfits l ⊎
    (ListMisfits m ⊎ AnswersMisfit l.n choice list))
    ∷ sentence 5 (ListStrays l ⊎ ListStrays m) ∷ sentence 6 (SomeAbove 1 l.signs ⊎ SomeAbove 1 m.signs)
    ∷ sentence 9 (TwoClash l.n (rows l) ⊎ TwoClash m.n (rows m))
    ∷ sentence 10 ((Independent l.n (rows l) → ⊥) ⊎ (Independent m.n (rows m) → ⊥)) ∷ []

-- 13: "No choice of local Cliffords carries one group to the other"
abbrev pub NoneCarries : ℕ → (ℕ → Pauli) → (ℕ → Pauli) → Type 0
NoneCarries n R S = (c : ℕ → Clifford) → Carries n c R S → ⊥

-- 3: "a part exceeds 20", "checked after 10" (02, §9)
abbrev pub compare_sentences : GeneratorList → GeneratorList → List ℕ → List ℕ → List Sentence
compare_sentences l m choice list =
    pair_sentences l m choice list
    ++ (sentence 3 (LargePart l ⊎ LargePart m) ∷ sentence 13 (NoneCarries l.n (rows l) (rows m)) ∷ [])
