-- Records as they are lent, and the lines of the refusals that speak of a record.
use Rattle.std.specs.Prelude.{Bool, not, ◌||◌, List, [], ◌∷◌, ◌^◌, ℕ}
use Rattle.buffers.specs.Buffers.{tabulate}
use Rattle.buffers.specs.Refusals.{Refusal, bad_count, line, other_than, reaching}
use Rattle.clifford.specs.Clifford.{code_of}
use Rattle.clifford.specs.Vectors.{codes_of}
use Rattle.record.specs.Graph.{Graph}
use Rattle.record.specs.NeighbourWords.{graph_in}
use Rattle.pauli.specs.Pauli.{Pauli}
use Rattle.words.specs.Bits.{same_bit, word_of}
use Rattle.words.specs.Search.{some}
use Rattle.record.specs.Records.{GraphRecord, rows_of}

-- "A record holds n, one neighbour word and one code per vertex": two buffers with a place for each vertex
pub record LentRecord : Type 0 where
  pub n : ℕ
  pub neighbours : List ℕ
  pub codes : List ℕ

-- the record that these three arguments of a call are
abbrev pub lent_record : ℕ → List ℕ → List ℕ → LentRecord
lent_record n neighbours codes = record { n = n; neighbours = neighbours; codes = codes }

-- what the buffers hold; no neighbour and code 0 at and above their length
abbrev pub held_record : LentRecord → GraphRecord
held_record l = record { graph = graph_in l.neighbours; codes = codes_of l.codes }

-- its generators
abbrev pub held_rows : LentRecord → ℕ → Pauli
held_rows l = rows_of l.n (held_record l)

-- the buffers that hold a record on n vertices
abbrev pub neighbour_words : ℕ → GraphRecord → List ℕ
neighbour_words n r = tabulate n (λ j. word_of n (r.graph j))

-- and its codes, one number for each vertex
abbrev pub code_numbers : ℕ → GraphRecord → List ℕ
code_numbers n r = tabulate n (λ q. code_of (r.codes q))

-- ---- lines
-- 4: one of the two buffers does not have n places
abbrev pub record_lengths : LentRecord → Bool
record_lengths l = other_than l.n l.neighbours || other_than l.n l.codes

-- 5: "A word has a bit at or above n"
abbrev pub record_stray : LentRecord → Bool
record_stray l = reaching (2 ^ l.n) l.neighbours

-- 6: ".. a code above 23"
abbrev pub record_codes : LentRecord → Bool
record_codes l = reaching 24 l.codes

-- 7: "A graph is not simple": some vertex is its own neighbour, or some edge has one end only
unfoldable pub not_simple : ℕ → Graph → Bool
not_simple n θ = some n (λ i. θ i i || some n (λ j. not (same_bit (θ i j) (θ j i))))

-- the lines of a record in checking order; `others`: a further buffer has a wrong length; `six`: line 6 holds of
-- a further argument
abbrev pub record_lines : LentRecord → Bool → Bool → List Refusal
record_lines l others six =
    line 2 (bad_count l.n) ∷ line 4 (record_lengths l || others) ∷ line 5 (record_stray l)
    ∷ line 6 (record_codes l || six) ∷ line 7 (not_simple l.n (held_record l).graph) ∷ []
