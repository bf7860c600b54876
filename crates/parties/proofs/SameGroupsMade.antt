-- What an accepted operation makes is what its buffers hold; and what a gate, a cz, a measurement and a complementation
-- on qubits of s make of the vertices of s alone, put together with the others, stands for the group that they make of
-- the whole record.
use mathlib.Core.Bool.{◌&&◌, false, not, true}
use mathlib.Core.Logic.{◌≢◌}
use mathlib.Core.Path.{◌≡◌, ap, subst, sym, ◌∙◌}
use Prim.Native.Nat.{ℕ, ◌<◌, ◌≤◌}
use native.Mathlib.Nat.{pos_of_ne-zero}
use lib.ListN.{get_or-eq_default}
use borrow.Author.Tests.{lt-ltb, not-false}
use Rattle.buffers.specs.Refusals.{first_fitting}
use Rattle.clifford.specs.Clifford.{clifford_of}
use Rattle.record.proofs.Complement.{complement-simple}
use Rattle.record.specs.Graph.{Simple}
use Rattle.operations.proofs.CzGroups.{cz-proper}
use Rattle.operations.proofs.Determined.{measured-proper}
use Rattle.operations.proofs.MeasuredRecords.{pauli-acts}
use Rattle.operations.proofs.UnrefusedRecords.{complement-above}
use Rattle.operations.specs.Gates.{gated}
use Rattle.operations.specs.Measurement.{pauli_letter}
use Rattle.operations.specs.Steps.{Operation, complement_of, cz_on, gate_with, leaves, lines_of, made, measurement_of}
use Rattle.record.proofs.ReducedRecords.{record-proper}
use Rattle.record.proofs.Unique.{record-path}
use Rattle.record.proofs.WrittenRecords.{record-back, reduced-back, written_record}
use Rattle.record.specs.Lent.{LentRecord, held_record}
use Rattle.record.specs.Records.{GraphRecord, SameRecord, complement_record, rows_of}
use Rattle.stabilizer.proofs.EqualRows.{same-group-equal}
use Rattle.stabilizer.specs.Groups.{Proper, SameGroup}
use Rattle.operations.proofs.AcceptedSteps.{
  accepted-step,
  after-made,
  complement-arguments,
  cz-arguments,
  cz-list,
  gate-arguments,
  gate-proper,
  measure-arguments,
  measured-list,
}
use Rattle.operations.specs.Used.{UsedRecord}
use Rattle.words.proofs.Flags.{neither}
use Rattle.words.specs.Bits.{Word, is_odd}
use Rattle.parties.proofs.SameGroupsFollowed.{followed_same}
use Rattle.parties.proofs.SameGroupsMeasured.{measured-followed}
use Rattle.parties.proofs.SameGroupsRewritten.{rewritten-row}
use Rattle.parties.proofs.SameGroupsSteps.{cz-followed, gate-followed}
use Rattle.parties.specs.PartyLines.{names_other, outsider}
use Rattle.parties.specs.Masks.{masked}
use Rattle.parties.specs.internal.Apart.{PartyOp, complement-op, cz-op, gate-op, measure-op}
use Rattle.parties.specs.internal.Sides.{MaskOf, PutTogether, Split}

-- a qubit below n that is not outside s
own-qubit : (s : Word) (n q : ℕ) → q < n → outsider s n q ≡ false → s q ≡ true
own-qubit s n q l e = not-false (s q) (ap (λ b. b && not (s q)) (sym (lt-ltb q n l)) ∙ e)

-- ---- what the buffers hold
pub made_held : (l : LentRecord) (o : Operation) → PartyOp o → first_fitting (lines_of l o) ≡ 0
    → held_record (leaves l o) ≡ made l o
made_held l o g e = ap held_record (after-made l o e) ∙ record-path _ (made l o) (back g e)
  where
    back : {o : Operation} → PartyOp o → first_fitting (lines_of l o) ≡ 0
        → SameRecord (held_record (written_record l.n (made l o))) (made l o)
    back (gate-op q k) e = reduced-back l.n _ (gate-proper l q k (accepted-step l (gate_with q k) e))
    back (cz-op a b) e = reduced-back l.n _ (cz-list l a b e)
    back (measure-op pauli q b) e = reduced-back l.n _ (measured-list l pauli q b e)
    back (complement-op a) e =
        let A = accepted-step l (complement_of a) e in
        record-back l.n (complement_record (held_record l) a) (complement-simple l.n _ A.simple a)
        (complement-above l.n (held_record l) A.simple a (complement-arguments l a e)
        (λ q k. ap clifford_of (get_or-eq_default l.codes 0 (subst (λ m. m ≤ q) (sym A.codes-length) k))))

-- ---- operations on qubits of s
module _ (s : Word) (u : UsedRecord)
    (K : MaskOf u.held.n s (held_record u.held) (held_record (masked s u).held)) where
  abbrev n : ℕ
  n = u.held.n

  abbrev r : GraphRecord
  r = held_record u.held

  abbrev m : GraphRecord
  m = held_record (masked s u).held

  whole : Proper n (rows_of n r)
  whole = record-proper n r K.simple

  alone : Proper n (rows_of n m)
  alone = record-proper n m K.own-simple

  -- what o makes of the vertices of s, without an edge that leaves s, and put together with the others
  abbrev Same : Operation → Type 0
  Same o = Split s (made (masked s u).held o).graph → (t : GraphRecord) → Simple n t.graph
      → PutTogether n s (made (masked s u).held o) r t → SameGroup n n (rows_of n t) (rows_of n (made u.held o))

  pub gate_same : (q k : ℕ) → q < n → s q ≡ true → Same (gate_with q k)
  gate_same q k l e =
      followed_same n s r K.simple K.split _ _
      (record-proper n (gated r q (clifford_of k)) K.simple)
      (record-proper n (gated m q (clifford_of k)) K.own-simple) (gate-followed n s r m K q l e (clifford_of k))

  pub cz-same : (a b : ℕ) → a < n → b < n → a ≢ b → s a ≡ true → s b ≡ true → Same (cz_on a b)
  cz-same a b ha hb ab ea eb =
      followed_same n s r K.simple K.split _ _ (cz-proper n a b ha hb ab (rows_of n r) whole)
      (cz-proper n a b ha hb ab (rows_of n m) alone) (cz-followed n s r m K a b ha hb ab ea eb)

  pub measure-same : (pauli q b : ℕ) → pauli ≢ 0 → q < n → s q ≡ true → Same (measurement_of pauli q b)
  measure-same pauli q b acting l e =
      followed_same n s r K.simple K.split _ _
      (measured-proper n (rows_of n r) whole (pauli_letter pauli) q l (is_odd b))
      (measured-proper n (rows_of n m) alone (pauli_letter pauli) q l (is_odd b))
      (measured-followed n s r m K (pauli_letter pauli) (pauli-acts pauli (pos_of_ne-zero acting)) q l e (is_odd b))

  pub rewritten-same : (a : ℕ) → a < n → s a ≡ true → Same (complement_of a)
  rewritten-same a l e Y t S T = same-group-equal n (rows_of n t) (rows_of n (complement_record r a))
      (λ j k. sym (rewritten-row n s r m K a l e t T j k))

  pub made-same : (o : Operation) → PartyOp o → first_fitting (lines_of u.held o) ≡ 0 → names_other s n o ≡ false
      → Same o
  made-same o g = go g
    where
      go : {o : Operation} → PartyOp o → first_fitting (lines_of u.held o) ≡ 0 → names_other s n o ≡ false → Same o
      go (gate-op q k) e f =
          let l = gate-arguments u.held q k e in gate_same q k l (own-qubit s n q l f)
      go (cz-op a b) e f =
          let c = cz-arguments u.held a b e in
          let h = neither (outsider s n a) (outsider s n b) f in
          cz-same a b c.0 c.1 c.2 (own-qubit s n a c.0 h.0) (own-qubit s n b c.1 h.1)
      go (measure-op pauli q b) e f =
          let a = measure-arguments u.held pauli q b e in
          measure-same pauli q b a.not_none a.below (own-qubit s n q a.below f)
      go (complement-op a) e f =
          let l = complement-arguments u.held a e in rewritten-same a l (own-qubit s n a l f)
