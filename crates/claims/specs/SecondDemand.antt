-- Demand 2, of the public calls: "a generator list and its reduced record stand for the same group, expansion
-- brings that group back, and two accepted lists reduce to equal records exactly if their groups are equal".
use Rattle.std.specs.Prelude.{List, ◌↔◌, ◌≡◌, ◌*◌, ◌<◌, ℕ, get_or}
use Rattle.buffers.specs.Refusals.{first_fitting}
use Rattle.buffers.specs.Calls.{Call}
use Rattle.record.specs.Lent.{held_rows, LentRecord, lent_record}
use Rattle.stabilizer.specs.Groups.{SameGroup}
use Rattle.stabilizer.specs.Lists.{GeneratorList, rows}
use Rattle.calls.specs.Expansions.{expand_call}
use Rattle.calls.specs.Lists.{check_lines, reduce_unused_call}
use Rattle.operations.specs.Used.{UsedRecord, used_record}

-- "a generator list and its reduced record stand for the same group"
abbrev pub ReductionKeepsGroup : Type 0
ReductionKeepsGroup =
    (l : GeneratorList) (nb cs : List ℕ) (used : ℕ) (nb' cs' : List ℕ) (used' : ℕ) →
    Call (reduce_unused_call l nb cs used nb' cs' used') 0 →
    SameGroup l.n l.n (rows l) (held_rows (lent_record l.n nb' cs'))

-- "expansion brings that group back": the list written is accepted, and has the record's group; "Expansion writes
-- these n generators in order j"
pub record BroughtBack (l : LentRecord) (back : GeneratorList) : Type 0 where
  pub accepted : first_fitting (check_lines back) ≡ 0
  pub generators : (j : ℕ) → j < l.n → rows back j ≡ held_rows l j
  pub group : SameGroup l.n l.n (held_rows l) (rows back)

-- of every accepted call
abbrev pub ExpansionBringsBack : Type 0
ExpansionBringsBack =
    (u : UsedRecord) (s z x s' z' x' : List ℕ) → Call (expand_call u s z x s' z' x') 0 →
    BroughtBack u.held (record { n = u.held.n; signs = s'; z = z'; x = x' })

-- the record that a reduction leaves, with its word of used qubits
abbrev pub record_left : ℕ → List ℕ → List ℕ → ℕ → UsedRecord
record_left n nb cs used = used_record n nb cs used

-- "two accepted lists reduce to equal records exactly if their groups are equal"
abbrev pub EqualExactly : Type 0
EqualExactly =
    (n : ℕ) (s z x s₂ z₂ x₂ nb cs nb₂ cs₂ nb' cs' nb₂' cs₂' : List ℕ) (used used₂ used' used₂' : ℕ) →
    Call (reduce_unused_call (record { n = n; signs = s; z = z; x = x }) nb cs used nb' cs' used') 0 →
    Call (reduce_unused_call (record { n = n; signs = s₂; z = z₂; x = x₂ }) nb₂ cs₂ used₂ nb₂' cs₂' used₂') 0 →
    ((nb' ≡ nb₂') × (cs' ≡ cs₂'))
    ↔ SameGroup n n (rows (record { n = n; signs = s; z = z; x = x }))
    (rows (record { n = n; signs = s₂; z = z₂; x = x₂ }))

-- the same of lists with any two numbers of qubits: equal records are of lists with one n
abbrev pub EqualForAll : Type 0
EqualForAll =
    (l m : GeneratorList) (nb cs nb₂ cs₂ nb' cs' nb₂' cs₂' : List ℕ) (used used₂ used' used₂' : ℕ) →
    Call (reduce_unused_call l nb cs used nb' cs' used') 0 → Call (reduce_unused_call m nb₂ cs₂ used₂ nb₂' cs₂' used₂') 0 →
    ((nb' ≡ nb₂') × (cs' ≡ cs₂')) ↔ ((l.n ≡ m.n) × SameGroup l.n l.n (rows l) (rows m))

-- a reduced record, expanded and reduced again, is that record
abbrev pub ReducesToItself : Type 0
ReducesToItself =
    (l : GeneratorList) (nb cs nb' cs' s z x s' z' x' nb₂ cs₂ nb₂' cs₂' : List ℕ) (used used₂ used' used₂' : ℕ) →
    Call (reduce_unused_call l nb cs used nb' cs' used') 0 →
    Call (expand_call (record_left l.n nb' cs' used') s z x s' z' x') 0 →
    Call (reduce_unused_call (record { n = l.n; signs = s'; z = z'; x = x' }) nb₂ cs₂ used₂ nb₂' cs₂' used₂') 0 →
    (nb₂' ≡ nb') × (cs₂' ≡ cs')

-- reduced codes are among 0, 2, 4, 6, 8 and 10
abbrev pub ReducedCodes : Type 0
ReducedCodes =
    (l : GeneratorList) (nb cs : List ℕ) (used : ℕ) (nb' cs' : List ℕ) (used' : ℕ) →
    Call (reduce_unused_call l nb cs used nb' cs' used') 0 → (q : ℕ) → q < l.n →
    (i : ℕ) × (i < 6) × (get_or cs' q 0 ≡ 2 * i)
