-- The reduced record of a generator list: as a relation, and as a function of the list.
use Rattle.std.specs.Prelude.{◌&&◌, Bool, cond, false, not, true, ◌↔◌, ◌≡◌, ◌<◌, ◌^◌, ℕ, ◌≤◌, eqb, ltb}
use Rattle.clifford.specs.Clifford.{Clifford, XZ, YZ, clifford_of, identity_clifford, then}
use Rattle.clifford.specs.Vectors.{act}
use Rattle.record.specs.Graph.{Graph, Simple}
use Rattle.pauli.specs.Pauli.{Pauli, sign_bit}
use Rattle.stabilizer.specs.Groups.{SameGroup, product}
use Rattle.words.specs.Bits.{Word, bit, same_bit}
use Rattle.words.specs.Search.{every, first}
use Rattle.record.specs.Columns.{ColumnDependent, is_column_dependent}
use Rattle.record.specs.Records.{GraphRecord, rows_of}

-- "The code is 0 for +X, 2 for -X, 4 for +Y, 6 for -Y": y, the letter is Y; s, the sign is minus
abbrev pub plain_code : Bool → Bool → Clifford
plain_code y s = record { class = cond y YZ XZ; sx = s; sz = false }

-- "where the Hadamard was used it is followed by 8"
abbrev pub with_hadamard : Bool → Clifford → Clifford
with_hadamard h k = cond h (then k (clifford_of 8)) k

-- the x bits of the list, generator by generator
abbrev pub x_words : (ℕ → Pauli) → ℕ → Word
x_words rows j = (rows j).x

-- ---- the relation: r has the list's group and the form that document 01 gives the reduced record
pub record ReductionOf (n : ℕ) (rows : ℕ → Pauli) (r : GraphRecord) : Type 0 where
  pub simple : Simple n r.graph
  -- where a Hadamard is used, where the letter is Y, where the sign is minus; nowhere at or above n
  pub hadamards : Word
  pub ys : Word
  pub minuses : Word
  pub code : (q : ℕ) → r.codes q ≡ with_hadamard (hadamards q) (plain_code (ys q) (minuses q))
  -- "A qubit whose x bits over the list are independent of those of earlier qubits is kept; every other one
  -- gets a Hadamard"
  pub rotated : (q : ℕ) → q < n → (hadamards q ≡ true) ↔ ColumnDependent n (x_words rows) q
  pub above : (q : ℕ) → n ≤ q → (hadamards q ≡ false) × (ys q ≡ false) × (minuses q ≡ false)
  pub group : SameGroup n n rows (rows_of n r)

-- ---- the function
-- the qubits that get a Hadamard; none at or above n
abbrev pub needs_hadamard : ℕ → (ℕ → Pauli) → Word
needs_hadamard n rows q = ltb q n && is_column_dependent n (x_words rows) q

-- a Hadamard at each qubit that the word names, the identity elsewhere
abbrev pub hadamard_where : Word → ℕ → Clifford
hadamard_where h q = cond (h q) (clifford_of 8) identity_clifford

-- the list with these Hadamards
abbrev pub rotated_rows : ℕ → (ℕ → Pauli) → ℕ → Pauli
rotated_rows n rows j = act n (hadamard_where (needs_hadamard n rows)) (rows j)

-- "The group then has one generator per qubit j with X or Y at j and only I or Z elsewhere": v names it
abbrev pub x_only_at : ℕ → (ℕ → Pauli) → ℕ → ℕ → Bool
x_only_at n rows j v = every n (λ q. same_bit ((product n n (bit v) rows).x q) (eqb q j))

-- that generator, for qubit j
unfoldable pub reduced_row : ℕ → (ℕ → Pauli) → ℕ → Pauli
reduced_row n rows j =
    product n n (bit (first (2 ^ n) (x_only_at n (rotated_rows n rows) j))) (rotated_rows n rows)

-- "The Z places are j's neighbours"; none at or above n
unfoldable pub graph_of : ℕ → (ℕ → Pauli) → Graph
graph_of n rows j q = (ltb j n && ltb q n) && ((rows j).z q && not (eqb q j))

-- Y at the own place, and the sign; false at and above n
unfoldable pub ys_of : ℕ → (ℕ → Pauli) → Word
ys_of n rows q = ltb q n && (rows q).z q

-- whether the sign is minus; false at and above n
unfoldable pub minuses_of : ℕ → (ℕ → Pauli) → Word
minuses_of n rows q = ltb q n && sign_bit (rows q).phase

-- the record of rows with X or Y at the own place and I or Z elsewhere, Hadamards on h still to be undone
abbrev pub record_of : ℕ → Word → (ℕ → Pauli) → GraphRecord
record_of n h rows =
    record {
      graph = graph_of n rows;
      codes = λ q. with_hadamard (h q) (plain_code (ys_of n rows q) (minuses_of n rows q));
    }

-- the reduced record
abbrev pub reduced : ℕ → (ℕ → Pauli) → GraphRecord
reduced n rows = record_of n (needs_hadamard n rows) (reduced_row n rows)

-- "A reduced graph is the neighbour words of a list's reduced record"
abbrev pub reduced_graph : ℕ → (ℕ → Pauli) → Graph
reduced_graph n rows = (reduced n rows).graph

-- the codes of that record
abbrev pub reduced_code : ℕ → (ℕ → Pauli) → ℕ → Clifford
reduced_code n rows = (reduced n rows).codes
