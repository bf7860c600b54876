-- The lines of the calls on a record lent in place, without the used word: what it means that none of them holds.
use mathlib.Core.Bool.{Bool, false, not, true, ◌||◌}
use mathlib.Core.List.{List, [], ◌∷◌}
use mathlib.Core.Logic.{◌≢◌}
use mathlib.Core.Path.{ap, ap₂, subst, sym, ◌∙◌, ◌≡◌}
use Prim.Native.Nat.{◌<◌, ℕ, ◌≤◌}
use native.Mathlib.Nat.{pos_of_ne-zero}
use native.Mathlib.Omega.{arith}
use lib.Dec.{eqb, leb}
use lib.ListN.{length}
use borrow.Author.Tests.{eqb-false, leb-false}
use Rattle.buffers.proofs.Lines.{more-accepted, none-fits, none-of-all, not-held, passed}
use Rattle.buffers.specs.Refusals.{Refusal, first_fitting, line}
use Rattle.operations.specs.internal.InPlace.{Unrefused, record_in}
use Rattle.operations.specs.Steps.{argument_lines, complement_lines, cz_lines, gate_lines, in_place_lines, pivot_lines}
use Rattle.record.proofs.AcceptedRecords.{accepted-record}
use Rattle.record.proofs.RecordLines.{record-numbered}
use Rattle.record.specs.Accepted.{AcceptedRecord}
use Rattle.record.specs.Lent.{held_record, LentRecord, lent_record, record_codes, record_lines}
use Rattle.words.proofs.Flags.{neither}

-- ---- no line holds
no_line : (l : LentRecord) (six eight : Bool) → first_fitting (in_place_lines l six eight) ≡ 0 →
    (first_fitting (record_lines l false six) ≡ 0) × ((six ≡ false) × (eight ≡ false))
no_line l six eight e =
    let p = none-of-all (record_lines l false six) (line 8 eight ∷ []) (record-numbered l false six) e in
    let h4 = not-held 3 _ _ (not-held 1 _ _ p.0).1 in
    let h6 = not-held 5 _ _ (not-held 4 _ _ h4.1).1 in
    (p.0, ((neither (record_codes l) six h6.0).1, (not-held 7 eight [] p.1).0))

module _ (l : LentRecord) (six eight : Bool) (e : first_fitting (in_place_lines l six eight) ≡ 0) where
  pub held-accepted : AcceptedRecord l
  held-accepted = accepted-record l false six (no_line l six eight e).0

  pub six-passes : six ≡ false
  six-passes = (no_line l six eight e).1.0

  pub eight-passes : eight ≡ false
  eight-passes = (no_line l six eight e).1.1

  -- as the operations on two buffers need it
  held-unrefused : Unrefused (record_in l.neighbours l.codes)
  held-unrefused = record {
    no_line = ap (λ m. first_fitting (record_lines
        (lent_record m l.neighbours l.codes) false false))
        held-accepted.neighbours-length
        ∙ ap (λ s. first_fitting (record_lines l false s)) (sym six-passes) ∙ (no_line l six eight e).0;
  }

  -- a qubit's number that is not n or more
  has-qubit : (q : ℕ) → leb l.n q ≡ false → q < length l.neighbours
  has-qubit q t = subst (λ m. q < m) (sym held-accepted.neighbours-length) (leb-false l.n q t)

-- ---- what each call needs
abbrev Ready : LentRecord → Type 0
Ready l = Unrefused (record_in l.neighbours l.codes)

module _ (l : LentRecord) where
  pub gate-ready : (q k : ℕ) → first_fitting (gate_lines l q k) ≡ 0 →
      Ready l × ((q < length l.neighbours) × (k < 24))
  gate-ready q k e = (
    held-unrefused l _ _ e,
    (has-qubit l _ _ e q (eight-passes l _ _ e), leb-false 24 k (six-passes l _ _ e)),
  )

  pub cz-ready : (a b : ℕ) → first_fitting (cz_lines l a b) ≡ 0 →
      Ready l × ((a < length l.neighbours) × (b < length l.neighbours) × (a ≢ b))
  cz-ready a b e =
      let t = neither (leb l.n a) _ (eight-passes l _ _ e) in
      let u = neither (leb l.n b) _ t.1 in (
        held-unrefused l _ _ e,
        (has-qubit l _ _ e a t.0, has-qubit l _ _ e b u.0, eqb-false a b u.1),
      )

  pub measure-ready : (pauli q b : ℕ) → first_fitting (argument_lines l pauli q b) ≡ 0 →
      (Ready l × (q < length l.neighbours)) × ((1 ≤ pauli) × (pauli ≤ 3))
  measure-ready pauli q b e =
      let t = neither (leb 2 b) _ (six-passes l _ _ e) in
      let u = neither (eqb pauli 0) _ t.1 in
      let positive = eqb-false pauli 0 u.0 in
      let below = leb-false 4 pauli u.1 in (
        (held-unrefused l _ _ e, has-qubit l _ _ e q (eight-passes l _ _ e)),
        (pos_of_ne-zero positive, omega (arith, below)),
      )

  pub complement-ready : (a : ℕ) → first_fitting (complement_lines l a) ≡ 0 →
      Ready l × (a < length l.neighbours)
  complement-ready a e = (held-unrefused l _ _ e, has-qubit l _ _ e a (eight-passes l _ _ e))

  -- a pivot's pair, before its edge is looked for
  abbrev pub pair_lines : ℕ → ℕ → List Refusal
  pair_lines j k = in_place_lines l false (leb l.n j || (leb l.n k || eqb j k))

  pub pair-ready : (j k : ℕ) → first_fitting (pair_lines j k) ≡ 0 →
      Ready l × ((j < length l.neighbours) × (k < length l.neighbours))
  pair-ready j k e =
      let t = neither (leb l.n j) _ (eight-passes l _ _ e) in
      let u = neither (leb l.n k) _ t.1 in
      (held-unrefused l _ _ e, (has-qubit l _ _ e j t.0, has-qubit l _ _ e k u.0))

  pub pair-below : (j k : ℕ) → first_fitting (pair_lines j k) ≡ 0 → (j < 64) × (k < 64)
  pair-below j k e =
      let t = neither (leb l.n j) _ (eight-passes l _ _ e) in
      let u = neither (leb l.n k) _ t.1 in
      let upto = (held-accepted l _ _ e).upto in
      (omega (arith, leb-false l.n j t.0, upto), omega (arith, leb-false l.n k u.0, upto))

  -- with an edge no line of the pivot holds
  pub edge-passes : (j k : ℕ) → first_fitting (pair_lines j k) ≡ 0 → (held_record l).graph j k ≡ true
      → first_fitting (pivot_lines l j k) ≡ 0
  edge-passes j k e edge =
      let p = no_line l _ _ e in
      let t = neither (leb l.n j) _ p.1.1 in
      let u = neither (leb l.n k) _ t.1 in
      more-accepted (record_lines l false false) _ (record-numbered l false false) p.0
      ∙ passed 8 [] (ap₂ (λ a b. a || b) t.0 (ap₂ (λ a b. a || b) u.0 (ap₂ (λ a b. a || not b) u.1 edge)))
      ∙ none-fits
