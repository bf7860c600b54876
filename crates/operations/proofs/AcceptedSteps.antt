-- An accepted operation: the record and the arguments are good, and the record that it leaves is refused by no line.
use mathlib.Core.Bool.{Bool, false, true, ◌||◌}
use mathlib.Core.List.{◌++◌, List}
use mathlib.Core.Logic.{◌≢◌}
use mathlib.Core.Path.{ap, subst, sym, ◌≡◌}
use Prim.Native.Nat.{◌<◌, ℕ, ◌≤◌}
use lib.Dec.{eqb, leb}
use lib.ListN.{get_or-eq_default}
use borrow.Author.Tests.{eqb-false, leb-false, not-false}
use Rattle.buffers.proofs.Lines.{none-of-all, not-held}
use Rattle.buffers.specs.Buffers.{accepted}
use Rattle.buffers.specs.Refusals.{Refusal, first_fitting}
use Rattle.clifford.specs.Clifford.{clifford_of, identity_clifford}
use Rattle.record.proofs.Complement.{complement-simple}
use Rattle.record.specs.Graph.{Simple}
use Rattle.operations.proofs.CzGroups.{cz-proper}
use Rattle.operations.proofs.Determined.{measured-proper}
use Rattle.operations.proofs.UnrefusedRecords.{complement-above}
use Rattle.operations.specs.Cz.{cz_rows}
use Rattle.operations.specs.Gates.{gated}
use Rattle.operations.specs.Measurement.{contradicts, measured_rows, pauli_letter}
use Rattle.operations.specs.Steps.{
  Operation,
  complement_of,
  cz_on,
  gate_with,
  leaves,
  lines_of,
  made,
  measurement_of,
  pivot_of,
}
use Rattle.pauli.specs.Pauli.{Pauli}
use Rattle.record.proofs.AcceptedRecords.{accepted-record}
use Rattle.record.proofs.RecordLines.{record-numbered}
use Rattle.record.proofs.ReducedRecords.{record-proper, reduced-is}
use Rattle.record.proofs.WrittenRecords.{record-passes, reduced-identity-above, written_record}
use Rattle.record.specs.Accepted.{AcceptedRecord}
use Rattle.record.specs.Lent.{
  code_numbers,
  held_record,
  held_rows,
  LentRecord,
  neighbour_words,
  record_codes,
  record_lines,
}
use Rattle.record.specs.Records.{GraphRecord, complement_record, rows_of}
use Rattle.record.specs.Reduced.{reduced}
use Rattle.stabilizer.specs.Groups.{Proper}
use Rattle.words.proofs.Flags.{neither}
use Rattle.words.specs.Bits.{is_odd}

module _ (l : LentRecord) where
  -- the lines of the record, the further test of line 6, and the lines after them
  parted : (six : Bool) (rest : List Refusal) → first_fitting (record_lines l false six ++ rest) ≡ 0
      → AcceptedRecord l × (six ≡ false) × (first_fitting rest ≡ 0)
  parted six rest e =
      let h = none-of-all (record_lines l false six) rest (record-numbered l false six) e in
      let h4 = not-held 3 _ _ (not-held 1 _ _ h.0).1 in
      let h6 = not-held 5 _ _ (not-held 4 _ _ h4.1).1 in
      (accepted-record l false six h.0, (neither (record_codes l) six h6.0).1, h.1)

  -- no line holds of the record
  pub accepted-step : (o : Operation) → first_fitting (lines_of l o) ≡ 0 → AcceptedRecord l
  accepted-step (gate_with q k) e = (parted (leb 24 k) _ e).0
  accepted-step (cz_on a b) e = (parted false _ e).0
  accepted-step (measurement_of pauli q b) e = (parted (leb 2 b || (eqb pauli 0 || leb 4 pauli)) _ e).0
  accepted-step (complement_of a) e = (parted false _ e).0
  accepted-step (pivot_of j k) e = (parted false _ e).0

  -- nor of the arguments
  pub gate-arguments : (q k : ℕ) → first_fitting (lines_of l (gate_with q k)) ≡ 0 → q < l.n
  gate-arguments q k e = leb-false l.n q (not-held 7 _ _ (parted (leb 24 k) _ e).2).0

  pub cz-arguments : (a b : ℕ) → first_fitting (lines_of l (cz_on a b)) ≡ 0 → (a < l.n) × (b < l.n) × (a ≢ b)
  cz-arguments a b e =
      let h = neither (leb l.n a) _ (not-held 7 _ _ (parted false _ e).2).0 in
      let k = neither (leb l.n b) _ h.1 in
      (leb-false l.n a h.0, leb-false l.n b k.0, eqb-false a b k.1)

  pub complement-arguments : (a : ℕ) → first_fitting (lines_of l (complement_of a)) ≡ 0 → a < l.n
  complement-arguments a e = leb-false l.n a (not-held 7 _ _ (parted false _ e).2).0

  pivot-arguments : (j k : ℕ) → first_fitting (lines_of l (pivot_of j k)) ≡ 0 → (j < l.n) × (k < l.n)
  pivot-arguments j k e =
      let h = neither (leb l.n j) _ (not-held 7 _ _ (parted false _ e).2).0 in
      (leb-false l.n j h.0, leb-false l.n k (neither (leb l.n k) _ h.1).0)

  pub pivot-edge : (j k : ℕ) → first_fitting (lines_of l (pivot_of j k)) ≡ 0 → (held_record l).graph j k ≡ true
  pivot-edge j k e =
      let h = neither (leb l.n j) _ (not-held 7 _ _ (parted false _ e).2).0 in
      let t = neither (eqb j k) _ (neither (leb l.n k) _ h.1).1 in
      not-false ((held_record l).graph j k) t.1

  pub record MeasureArguments (pauli q b : ℕ) : Type 0 where
    pub below : q < l.n
    pub bit_below : b < 2
    pub not_none : pauli ≢ 0
    pub pauli-below : pauli < 4
    pub agrees : contradicts l.n (held_rows l) (pauli_letter pauli) q (is_odd b) ≡ false

  pub measure-arguments : (pauli q b : ℕ) → first_fitting (lines_of l (measurement_of pauli q b)) ≡ 0
      → MeasureArguments pauli q b
  measure-arguments pauli q b e =
      let h = parted (leb 2 b || (eqb pauli 0 || leb 4 pauli)) _ e in
      let six = neither (leb 2 b) _ h.1 in
      let paulis = neither (eqb pauli 0) _ six.1 in
      let h8 = not-held 7 _ _ h.2 in
      record {
        below = leb-false l.n q h8.0;
        bit_below = leb-false 2 b six.0;
        not_none = eqb-false pauli 0 paulis.0;
        pauli-below = leb-false 4 pauli paulis.1;
        agrees = (not-held 13 _ _ h8.1).0;
      }

  -- ---- the list that is reduced
  pub gate-proper : (q k : ℕ) → AcceptedRecord l → Proper l.n (rows_of l.n (gated (held_record l) q (clifford_of k)))
  gate-proper q k A = record-proper l.n (gated (held_record l) q (clifford_of k)) A.simple

  pub cz-list : (a b : ℕ) → first_fitting (lines_of l (cz_on a b)) ≡ 0 → Proper l.n (cz_rows a b (held_rows l))
  cz-list a b e = let c = cz-arguments a b e in
      cz-proper l.n a b c.0 c.1 c.2 (held_rows l) (accepted-step (cz_on a b) e).proper

  pub measured-list : (pauli q b : ℕ) → first_fitting (lines_of l (measurement_of pauli q b)) ≡ 0
      → Proper l.n (measured_rows l.n (held_rows l) (pauli_letter pauli) q (is_odd b))
  measured-list pauli q b e = measured-proper l.n (held_rows l) (accepted-step (measurement_of pauli q b) e).proper
      (pauli_letter pauli) q (measure-arguments pauli q b e).below (is_odd b)

  -- ---- the record left: a simple graph, and code 0 at and above n
  abbrev Sound : GraphRecord → Type 0
  Sound r = Simple l.n r.graph × ((q : ℕ) → l.n ≤ q → r.codes q ≡ identity_clifford)

  reduced-sound : (rows : ℕ → Pauli) → Proper l.n rows → Sound (reduced l.n rows)
  reduced-sound rows P = ((reduced-is l.n rows P).simple, reduced-identity-above l.n rows P)

  held-sound : AcceptedRecord l → Sound (held_record l)
  held-sound A = (
    A.simple,
    λ q k. ap clifford_of
        (get_or-eq_default l.codes 0 (subst (λ m. m ≤ q) (sym A.codes-length) k)),
  )

  complement-sound : (r : GraphRecord) → Sound r → (a : ℕ) → a < l.n → Sound (complement_record r a)
  complement-sound r S a ha =
      (complement-simple l.n r.graph S.0 a, complement-above l.n r S.0 a ha S.1)

  made-sound : (o : Operation) → first_fitting (lines_of l o) ≡ 0 → Sound (made l o)
  made-sound (gate_with q k) e = reduced-sound _ (gate-proper q k (accepted-step (gate_with q k) e))
  made-sound (cz_on a b) e = reduced-sound _ (cz-list a b e)
  made-sound (measurement_of pauli q b) e = reduced-sound _ (measured-list pauli q b e)
  made-sound (complement_of a) e =
      complement-sound _ (held-sound (accepted-step (complement_of a) e)) a (complement-arguments a e)
  made-sound (pivot_of j k) e =
      let c = pivot-arguments j k e in
      complement-sound _ (complement-sound _
      (complement-sound _ (held-sound (accepted-step (pivot_of j k) e)) j c.0) k c.1) j c.0

  module _ (o : Operation) (e : first_fitting (lines_of l o) ≡ 0) where
    -- the buffers hold what the operation makes
    pub after-made : leaves l o ≡ written_record l.n (made l o)
    after-made =
        ap (λ k. record {
          n = l.n;
          neighbours = accepted k (neighbour_words l.n (made l o)) l.neighbours;
          codes = accepted k (code_numbers l.n (made l o)) l.codes;
        }) e

    pub made-passes : first_fitting (record_lines (written_record l.n (made l o)) false false) ≡ 0
    made-passes =
        let A = accepted-step o e in
        let S = made-sound o e in
        record-passes l.n (made l o) S.0 S.1 A.positive A.upto
