-- What the comparison of one part is given and answers, and how far the parts are compared.
use Rattle.std.specs.Prelude.{Bool, false, true, List, ◌≡◌, ◌<◌, ◌≤◌, ◌^◌, ℕ, get_or}
use Rattle.clifford.specs.Clifford.{Clifford}
use Rattle.clifford.specs.Vectors.{codes_of}
use Rattle.comparison.specs.internal.Searches.{LeastAnswer}
use Rattle.comparison.specs.internal.LeastAt.{LeastAt}
use Rattle.comparison.specs.internal.Setting.{Codes, SoundRecord}
use Rattle.record.specs.NeighbourWords.{graph_in}
use Rattle.comparison.specs.internal.Numbered.{Numbers, part_graph}
use Rattle.comparison.specs.internal.Parts.{Closed}
use Rattle.comparison.specs.Parts.{part_of}
use Rattle.comparison_parts.specs.internal.Spreads.{PartWord}
use Rattle.record.specs.Lent.{held_record, lent_record}
use Rattle.record.specs.Records.{GraphRecord, rows_of}
use Rattle.stabilizer.specs.Carries.{Carries}
use Rattle.words.specs.Bits.{bit}

-- what two buffers hold
abbrev pub record_held : ℕ → List ℕ → List ℕ → GraphRecord
record_held n neighbours codes = held_record (lent_record n neighbours codes)

-- two records on n vertices
pub record SoundPair (n : ℕ) (nb cs nb₂ cs₂ : List ℕ) : Type 0 where
  pub upto : n ≤ 64
  pub first : SoundRecord n nb cs
  pub second : SoundRecord n nb₂ cs₂

-- .. and k vertices, listed, that no edge of either graph leaves, of one part of the first
pub record NumberedPair (n : ℕ) (nb cs nb₂ cs₂ : List ℕ) (component k : ℕ) (at : List ℕ) : Type 0 where
  pub pair : SoundPair n nb cs nb₂ cs₂
  pub few : k ≤ 64
  pub numbers : Numbers n (bit component) k (λ i. get_or at i 0)
  pub closed : Closed n (graph_in nb) (bit component)
  pub closed₂ : Closed n (graph_in nb₂) (bit component)
  pub together : (i j : ℕ) → i < k → j < k → part_of n (graph_in nb) (get_or at i 0) (get_or at j 0) ≡ true

-- a record in the numbers of a part
abbrev pub part_of_record : ℕ → List ℕ → GraphRecord → GraphRecord
part_of_record k at r =
    record {
      graph = part_graph k (λ i. get_or at i 0) r.graph;
      codes = λ i. r.codes (get_or at i 0);
    }

-- the least choice of a part, or that it has none
abbrev pub PartAnswer : ℕ → List ℕ → List ℕ → List ℕ → List ℕ → ℕ → List ℕ → Bool → List ℕ → Type 0
PartAnswer n nb cs nb₂ cs₂ k at =
    LeastAnswer k (rows_of k (part_of_record k at (record_held n nb cs)))
    (rows_of k (part_of_record k at (record_held n nb₂ cs₂)))

-- the word marks the part of some vertex
pub record Component (n : ℕ) (nb : List ℕ) (component : ℕ) : Type 0 where
  pub vertex : ℕ
  pub below : vertex < n
  pub word : PartWord n (graph_in nb) vertex component

-- one part is compared: it has no working choice, and so there is none at all; or the choice is the least at its
-- vertices
pub record ComponentAnswer (n : ℕ) (r t : GraphRecord) (component : ℕ) (old : List ℕ) (found : Bool) (new : List ℕ) :
    Type
    0 where
  pub none : found ≡ false → (d : ℕ → Clifford) → Carries n d (rows_of n r) (rows_of n t) → ⊥
  pub least_at : found ≡ true → (q : ℕ) → q < n → bit component q ≡ true → LeastAt n r t (codes_of new) q
  pub kept : (q : ℕ) → bit component q ≡ false → get_or new q 0 ≡ get_or old q 0
  pub codes : Codes old → Codes new

-- the choice is the least at the vertices outside of `rest`
pub record Progress (n : ℕ) (r t : GraphRecord) (rest : ℕ) (choice : List ℕ) : Type 0 where
  pub below : rest < 2 ^ n
  pub closed : Closed n r.graph (bit rest)
  pub least_at : (q : ℕ) → q < n → bit rest q ≡ false → LeastAt n r t (codes_of choice) q
  pub codes : Codes choice
