-- What the searches are given: the generators of two reduced records, and the codes that undo the second's.
use Rattle.std.specs.Prelude.{false, true, List, map, ◌≡◌, ◌<◌, ℕ, ◌≤◌, get_or, length}
use Rattle.clifford.specs.Clifford.{Clifford, inverse}
use Rattle.clifford.specs.Vectors.{codes_of}
use Rattle.record.specs.Graph.{Graph, Simple}
use Rattle.comparison.specs.internal.Parts.{Closed}
use Rattle.pauli.specs.Pauli.{Pauli, i², scaled}
use Rattle.pauli.specs.internal.Rows.{generator_of}
use Rattle.pauli.specs.declared.Generator.{Generator}
use Rattle.record.specs.Lent.{held_record, held_rows, lent_record}
use Rattle.record.specs.Records.{record_row}
use Rattle.stabilizer.specs.Groups.{InGroup, Proper}
use Rattle.words.specs.Bits.{Word, is_odd}

-- the generators that an array holds; the identity past its end
abbrev pub no_generator : Generator
no_generator = record { minus = false; z = 0; x = 0 }

abbrev pub generators_of : List Generator → ℕ → Pauli
generators_of gs j = generator_of (get_or gs j no_generator)

-- a generator in three words: z, x, and one that is odd for minus
abbrev pub generator_in : List ℕ → Generator
generator_in row = record { minus = is_odd (get_or row 2 0); z = get_or row 0 0; x = get_or row 1 0 }

abbrev pub generators_in : List (List ℕ) → List Generator
generators_in rows = map generator_in rows

-- every number of the array is a code
abbrev pub Codes : List ℕ → Type 0
Codes cs = (q : ℕ) → get_or cs q 0 < 24

-- the class alone, both images positive
abbrev pub without_signs : Clifford → Clifford
without_signs k = record { class = k.class; sx = false; sz = false }

-- an array of codes without signs
abbrev pub NoSigns : List ℕ → Type 0
NoSigns choice = (q : ℕ) → codes_of choice q ≡ without_signs (codes_of choice q)

-- rows of a record with a simple graph, and codes that undo the record's
pub record Framed (n : ℕ) (rows : ℕ → Pauli) (frame : ℕ → Clifford) : Type 0 where
  pub graph : Graph
  pub codes : ℕ → Clifford
  pub simple : Simple n graph
  pub generators : (j : ℕ) → j < n → rows j ≡ record_row n graph codes j
  pub undoes : (q : ℕ) → q < n → frame q ≡ inverse (codes q)

-- no set of vertices that has vertex 0, and that no edge leaves, lacks a vertex
abbrev pub Connected : ℕ → Graph → Type 0
Connected n θ = (s : Word) → Closed n θ s → s 0 ≡ true → (q : ℕ) → q < n → s q ≡ true

-- rows of a record with a simple connected graph
pub record ConnectedRows (n : ℕ) (rows : ℕ → Pauli) : Type 0 where
  pub graph : Graph
  pub codes : ℕ → Clifford
  pub simple : Simple n graph
  pub generators : (j : ℕ) → j < n → rows j ≡ record_row n graph codes j
  pub connected : Connected n graph

-- the generators of a lent record
abbrev pub held_generators : ℕ → List ℕ → List ℕ → ℕ → Pauli
held_generators n neighbours codes = held_rows (lent_record n neighbours codes)

-- lent buffers that hold a record on n vertices
pub record SoundRecord (n : ℕ) (neighbours codes : List ℕ) : Type 0 where
  pub neighbours-long : length neighbours ≡ n
  pub codes-long : length codes ≡ n
  pub simple : Simple n (held_record (lent_record n neighbours codes)).graph
  pub codes-sound : Codes codes

pub record Setting (n : ℕ) (first second : List Generator) (frame : List ℕ) : Type 0 where
  pub few : n ≤ 64
  pub proper : Proper n (generators_of first)
  pub joined : ConnectedRows n (generators_of first)
  pub framed : Framed n (generators_of second) (codes_of frame)
  pub codes : Codes frame

-- an element of the group; it is p where p is one, and its negative where that is one
pub record Guessed (n : ℕ) (rows : ℕ → Pauli) (p h : Pauli) : Type 0 where
  pub element : InGroup n n rows h
  pub right : InGroup n n rows p → h ≡ p
  pub negative : InGroup n n rows (scaled i² p) → h ≡ scaled i² p
