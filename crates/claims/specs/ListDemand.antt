-- Document 01's own sentences on lists, groups and reduced records, of the public calls.
use Rattle.std.specs.Prelude.{◌&&◌, Bool, true, List, ◌↔◌, ◌≡◌, ◌<◌, ℕ, eqb}
use Rattle.clifford.specs.Vectors.{act}
use Rattle.buffers.specs.Calls.{Call}
use Rattle.record.specs.Graph.{Graph, Simple}
use Rattle.calls.specs.Expansions.{expand_call}
use Rattle.calls.specs.Lists.{check_call, reduce_unused_call}
use Rattle.jobs.specs.Standing.{StillRecord}
use Rattle.pauli.specs.Pauli.{Pauli, minus}
use Rattle.record.specs.Columns.{ColumnDependent}
use Rattle.record.specs.Lent.{held_record, held_rows, LentRecord, lent_record}
use Rattle.record.specs.Records.{GraphRecord}
use Rattle.record.specs.Reduced.{ReductionOf, hadamard_where, plain_code, with_hadamard, x_words}
use Rattle.stabilizer.specs.ListSentences.{TwoClash}
use Rattle.stabilizer.specs.Groups.{Generated, InGroup, Independent, SameGroup}
use Rattle.stabilizer.specs.Lists.{GeneratorList, rows}
use Rattle.operations.specs.Used.{UsedRecord, UsedUnrefused}
use Rattle.words.specs.Bits.{Word, ◌⊕◌}
use Rattle.claims.specs.families.Records.{TakenByAll}
use Rattle.claims.specs.SecondDemand.{record_left}

-- ---- lists
-- "its group is all products, signs included"
abbrev pub AllProducts : ℕ → (ℕ → Pauli) → Type 0
AllProducts n R = (p : Pauli) → InGroup n n R p ↔ Generated n n R p

-- what a check tells of the list besides
pub record Checked (l : GeneratorList) (r : ℕ) : Type 0 where
  pub products : r ≡ 0 → AllProducts l.n (rows l)
  pub clash : r ≡ 9 → TwoClash l.n (rows l)
  pub dependence : r ≡ 10 → Independent l.n (rows l) → ⊥

-- of every call
abbrev pub ChecksTell : Type 0
ChecksTell = (l : GeneratorList) (r : ℕ) → Call (check_call l) r → Checked l r

-- the group of a record likewise
abbrev pub RecordGroups : Type 0
RecordGroups = (l : LentRecord) → StillRecord l → AllProducts l.n (held_rows l)

-- a record that a call leaves is taken by every call on records
abbrev pub RecordsTaken : Type 0
RecordsTaken = (u : UsedRecord) → UsedUnrefused u → TakenByAll u

-- ---- reduced records
-- X at j, or Y, with a sign, and Z at the neighbours of j
abbrev pub own_row : Graph → ℕ → Bool → Bool → Pauli
own_row θ j y s = record { phase = minus s; z = λ q. θ j q ⊕ (eqb q j && y); x = λ q. eqb q j }

-- "Reduction: go through qubits from 0 ..", word for word
pub record ReducedInWords (n : ℕ) (R : ℕ → Pauli) (r : GraphRecord) : Type 0 where
  -- "A qubit whose x bits over the list are independent of those of earlier qubits is kept; every other one gets a
  -- Hadamard"
  pub hadamards : Word
  pub rotated : (q : ℕ) → q < n → (hadamards q ≡ true) ↔ ColumnDependent n (x_words R) q
  -- "The group then has one generator per qubit j with X or Y at j and only I or Z elsewhere. The Z places are j's
  -- neighbours"
  pub simple : Simple n r.graph
  pub ys : Word
  pub minuses : Word
  pub generator : (j : ℕ) → j < n →
      InGroup n n (λ i. act n (hadamard_where hadamards) (R i)) (own_row r.graph j (ys j) (minuses j))
  pub only : (j : ℕ) → j < n → (p : Pauli) → InGroup n n (λ i. act n (hadamard_where hadamards) (R i)) p →
      ((q : ℕ) → q < n → p.x q ≡ eqb q j) → p ≡ own_row r.graph j (ys j) (minuses j)
  -- "The code is 0 for +X, 2 for -X, 4 for +Y, 6 for -Y; where the Hadamard was used it is followed by 8"
  pub code : (j : ℕ) → j < n → r.codes j ≡ with_hadamard (hadamards j) (plain_code (ys j) (minuses j))

-- the record that a reduction leaves: every call on a record takes it, with the used word 0, and it is document 01's
pub record ReducedTo (l : GeneratorList) (r : LentRecord) : Type 0 where
  pub taken : TakenByAll (record { held = r; used = 0 })
  pub form : ReductionOf l.n (rows l) (held_record r)
  pub words : ReducedInWords l.n (rows l) (held_record r)

-- of every accepted call
abbrev pub ReductionAnswers : Type 0
ReductionAnswers = (l : GeneratorList) (nb cs : List ℕ) (used : ℕ) (nb' cs' : List ℕ) (used' : ℕ) →
    Call (reduce_unused_call l nb cs used nb' cs' used') 0 → ReducedTo l (lent_record l.n nb' cs')

-- "expansion brings that group back": the group of the list that was reduced
abbrev pub ListBroughtBack : Type 0
ListBroughtBack = (l : GeneratorList) (nb cs nb' cs' s z x s' z' x' : List ℕ) (used used' : ℕ) →
    Call (reduce_unused_call l nb cs used nb' cs' used') 0 →
    Call (expand_call (record_left l.n nb' cs' used') s z x s' z' x') 0 →
    SameGroup l.n l.n (rows l) (rows (record { n = l.n; signs = s'; z = z'; x = x' }))
