-- Demand 2 of lists and records: each statement from the calls' contracts and the laws below.
use mathlib.Core.Bool.{false}
use mathlib.Core.List.{List}
use mathlib.Core.Logic.{◌↔◌}
use mathlib.Core.Path.{ap, subst, sym, ◌∙◌, ◌≡◌}
use Prim.Native.Nat.{ℕ}
use lib.ListN.{get_or, length}
use Rattle.buffers.proofs.Tabulate.{tabulate-length, tabulate-at}
use Rattle.pauli.specs.Pauli.{Pauli}
use Rattle.record.proofs.AcceptedRecords.{accepted-record}
use Rattle.record.proofs.ExpansionBack.{expanded, expansion-back, reduced-expands-back}
use Rattle.record.proofs.ReducedCodes.{reduced-codes-among}
use Rattle.record.proofs.ReducedRecords.{equal-exactly}
use Rattle.record.proofs.Unique.{record-path}
use Rattle.record.proofs.WrittenRecords.{reduced-back, reduced-held-same, written_record}
use Rattle.record.specs.Accepted.{AcceptedRecord}
use Rattle.record.specs.Lent.{code_numbers, held_record, held_rows, LentRecord, lent_record, neighbour_words}
use Rattle.record.specs.Records.{SameRecord}
use Rattle.record.specs.Reduced.{reduced}
use Rattle.stabilizer.proofs.Accepted.{AcceptedList, accepted-list}
use Rattle.stabilizer.specs.Groups.{Proper, SameGroup}
use Rattle.stabilizer.specs.Lists.{GeneratorList, rows}
use Rattle.buffers.specs.Calls.{Call}
use Rattle.calls.specs.Expansions.{expand_call}
use Rattle.calls.specs.Lists.{reduce_unused_call}
use Rattle.operations.proofs.UsedPassing.{lines-pass}
use Rattle.operations.specs.Used.{UsedRecord}
use Rattle.claims.specs.SecondDemand.{
  BroughtBack,
  EqualExactly,
  EqualForAll,
  ExpansionBringsBack,
  ReducedCodes,
  ReducesToItself,
  ReductionKeepsGroup,
  record_left,
}

-- records and lists as they are lent, by their buffers
lent : {n : ℕ} {nb nb₂ cs cs₂ : List ℕ} → nb ≡ nb₂ → cs ≡ cs₂ →
    ◌≡◌ {A = LentRecord} (lent_record n nb cs)
    (lent_record n nb₂ cs₂)
lent {n} p q = λ i. lent_record n (p i) (q i)

listed : {n : ℕ} {s s₂ z z₂ x x₂ : List ℕ} → s ≡ s₂ → z ≡ z₂ → x ≡ x₂ →
    ◌≡◌ {A = GeneratorList} (record { n = n; signs = s; z = z; x = x })
    (record { n = n; signs = s₂; z = z₂; x = x₂ })
listed {n} p q r = λ i. record { n = n; signs = p i; z = q i; x = r i }

-- ---- an accepted reduction
module _ (l : GeneratorList) (nb cs : List ℕ) (used : ℕ) (nb' cs' : List ℕ) (used' : ℕ)
    (C : Call (reduce_unused_call l nb cs used nb' cs' used') 0) where
  reduced-list : AcceptedList l
  reduced-list = accepted-list l _ (sym C.number)

  -- the buffers hold the reduced record
  pub holds-reduced : ◌≡◌ {A = LentRecord} (lent_record l.n nb' cs')
      (written_record l.n (reduced l.n (rows l)))
  holds-reduced = lent C.held.1.0 C.held.1.1.0

pub reduction-keeps-group : ReductionKeepsGroup
reduction-keeps-group l nb cs used nb' cs' used' C =
    subst (λ r. SameGroup l.n l.n (rows l) (held_rows r)) (sym (holds-reduced l nb cs used nb' cs' used' C))
    (reduced-held-same l.n (rows l) (reduced-list l nb cs used nb' cs' used' C).proper)

-- ---- an accepted expansion
module _ (u : UsedRecord) (s z x s' z' x' : List ℕ) (C : Call (expand_call u s z x s' z' x') 0) where
  expanded-record : AcceptedRecord u.held
  expanded-record = accepted-record u.held _ false ((lines-pass u _ false false).0 (sym C.number)).0

  -- the buffers hold the record's generators
  pub holds-expanded : ◌≡◌ {A = GeneratorList} (record { n = u.held.n; signs = s'; z = z'; x = x' })
      (expanded u.held)
  holds-expanded = listed C.held.0 C.held.1.0 C.held.1.1.0

pub expansion-brings-back : ExpansionBringsBack
expansion-brings-back u s z x s' z' x' C =
    let B = expansion-back u.held (expanded-record u s z x s' z' x' C) in
    subst (BroughtBack u.held) (sym (holds-expanded u s z x s' z' x' C))
    (record { accepted = B.passes; generators = B.generators; group = B.group })

-- ---- equal records exactly if equal groups
pub equal-records-exactly : EqualExactly
equal-records-exactly n s z x s₂ z₂ x₂ nb cs nb₂ cs₂ nb' cs' nb₂' cs₂' used used₂ used' used₂' C D = (
  λ e. (equal-exactly n R S P Q).0 (same (lent e.0 e.1)),
  λ g. let e = record-path _ _ ((equal-exactly n R S P Q).1 g) in (
    C.held.1.0 ∙ ap (neighbour_words n) e ∙ sym D.held.1.0,
    C.held.1.1.0 ∙ ap (code_numbers n) e
        ∙ sym D.held.1.1.0,
  ),
)
  where
    l : GeneratorList
    l = record { n = n; signs = s; z = z; x = x }

    m : GeneratorList
    m = record { n = n; signs = s₂; z = z₂; x = x₂ }

    R : ℕ → Pauli
    R = rows l

    S : ℕ → Pauli
    S = rows m

    P : Proper n R
    P = (reduced-list l nb cs used nb' cs' used' C).proper

    Q : Proper n S
    Q = (reduced-list m nb₂ cs₂ used₂ nb₂' cs₂' used₂' D).proper

    same : ◌≡◌ {A = LentRecord} (lent_record n nb' cs')
        (lent_record n nb₂' cs₂') → SameRecord (reduced n R) (reduced n S)
    same e =
        let p = sym (record-path _ _ (reduced-back n R P))
        ∙ ap held_record (sym (holds-reduced l nb cs used nb' cs' used' C) ∙ e
        ∙ holds-reduced m nb₂ cs₂ used₂ nb₂' cs₂' used₂' D) ∙ record-path _ _ (reduced-back n S Q) in
        record { neighbours = λ i j. ap (λ r. r.graph i j) p; code = λ q. ap (λ r. r.codes q) p }

-- ---- the reduced record of a reduced record's expansion
pub reduces-to-itself : ReducesToItself
reduces-to-itself l nb cs nb' cs' s z x s' z' x' nb₂ cs₂ nb₂' cs₂' used used₂ used' used₂' C E D = (
  D.held.1.0 ∙ ap (λ r. neighbour_words l.n r) again ∙ sym C.held.1.0,
  D.held.1.1.0 ∙ ap (λ r. code_numbers l.n r) again ∙ sym C.held.1.1.0,
)
  where
    R : ℕ → Pauli
    R = rows l

    P : AcceptedList l
    P = reduced-list l nb cs used nb' cs' used' C

    again : reduced l.n (rows (record { n = l.n; signs = s'; z = z'; x = x' })) ≡ reduced l.n (rows l)
    again =
        ap (λ m. reduced l.n (rows m))
        (holds-expanded (record_left l.n nb' cs' used') s z x s' z' x' E ∙ ap expanded
        (holds-reduced l nb cs used nb' cs' used' C))
        ∙ record-path _ _ (reduced-expands-back l.n (rows l) P.proper P.formed.positive
        P.formed.upto)

pub reduced-codes : ReducedCodes
reduced-codes l nb cs used nb' cs' used' C q k =
    let A = reduced-codes-among l.n (rows l) (reduced-list l nb cs used nb' cs' used' C).proper q in
    (A.0, A.1, ap (λ v. get_or v q 0) C.held.1.1.0 ∙ tabulate-at l.n _ q k ∙ A.2)

-- ---- lists with any two numbers of qubits
-- the words that a reduction leaves are n
words_left : (l : GeneratorList) (nb cs : List ℕ) (used : ℕ) (nb' cs' : List ℕ) (used' : ℕ) →
    Call (reduce_unused_call l nb cs used nb' cs' used') 0 → length nb' ≡ l.n
words_left l nb cs used nb' cs' used' C = ap length C.held.1.0 ∙ tabulate-length l.n _

pub equal-for-all : EqualForAll
equal-for-all l m nb cs nb₂ cs₂ nb' cs' nb₂' cs₂' used used₂ used' used₂' C D = (
  λ e. let same_count = sym (words_left l nb cs used nb' cs' used' C) ∙ ap length e.0 ∙ words_left m nb₂ cs₂ used₂ nb₂' cs₂' used₂' D in
      (same_count, (at m.n same_count D).0 e),
  λ h. (at m.n h.0 D).1 h.1,
)
  where
    -- the second list as one on k qubits
    on : ℕ → GeneratorList
    on k = record { n = k; signs = m.signs; z = m.z; x = m.x }

    at : (k : ℕ) → l.n ≡ k → Call (reduce_unused_call (on k) nb₂ cs₂ used₂ nb₂' cs₂' used₂') 0 →
        ((nb' ≡ nb₂') × (cs' ≡ cs₂')) ↔ SameGroup l.n l.n (rows l) (rows (on k))
    at k e = subst (λ k. Call (reduce_unused_call (on k) nb₂ cs₂ used₂ nb₂' cs₂' used₂') 0 →
        ((nb' ≡ nb₂') × (cs' ≡ cs₂')) ↔ SameGroup l.n l.n (rows l) (rows (on k))) e
        (λ D. equal-records-exactly l.n l.signs l.z l.x m.signs m.z m.x nb cs nb₂ cs₂ nb' cs' nb₂'
        cs₂' used used₂ used' used₂' C D)
