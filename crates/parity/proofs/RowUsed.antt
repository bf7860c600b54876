-- A used qubit on which the row does not act stays as it is: its Pauli commutes with the row, and so in the new record
-- it has no neighbour and the code that it had.
use mathlib.Core.Bool.{Bool, false, or-false, true}
use mathlib.Core.Path.{ap, ap₂, refl, subst, sym, ◌∙◌, ◌≡◌}
use Prim.Native.Nat.{◌<◌, ◌^◌, ℕ}
use lib.Dec.{eqb}
use lib.ListN.{get_or}
use Rattle.buffers.specs.Refusals.{first_fitting}
use Rattle.clifford.specs.Clifford.{Clifford, clifford_of, code_of, image}
use Rattle.operations.proofs.AloneVertices.{Low}
use Rattle.operations.proofs.LeftRecords.{all-good}
use Rattle.operations.proofs.MeasuredRecords.{alone-row, single-clash}
use Rattle.operations.proofs.StayingAlone.{kept-code, kept-graph}
use Rattle.operations.proofs.UsedPassing.{lines-pass}
use Rattle.operations.proofs.UsedStaying.{code-written, used-below, used-code, used_low, used-word, word-alone}
use Rattle.operations.specs.Measurement.{kept, single}
use Rattle.operations.specs.Used.{UsedRecord, used_code, used_lines}
use Rattle.operations.specs.UsedLaws.{UsedStay}
use Rattle.pauli.proofs.PauliLaws.{anticommute-swap}
use Rattle.pauli.specs.Pauli.{Pauli, clash, letter, signed_row}
use Rattle.pauli.specs.declared.Letter.{Letter}
use Rattle.pauli.specs.declared.Letter.TheVariants.{X}
use Rattle.record.proofs.WrittenRecords.{reduced-passes, written_record}
use Rattle.record.specs.Lent.{held_record, held_rows}
use Rattle.record.specs.Reduced.{reduced}
use Rattle.stabilizer.proofs.GroupLaws.{in_row}
use Rattle.stabilizer.specs.Groups.{InGroup, Proper}
use Rattle.words.proofs.BitLaws.{zero_bit}
use Rattle.words.specs.Bits.{bit}
use Rattle.parity.proofs.RowGroups.{row-group, row_kept, row-proper}
use Rattle.parity.proofs.RowPassing.{IdleOnUsed, RowReady}
use Rattle.parity.specs.RowMeasurement.{row_measured, row_value}

-- a Pauli at a qubit where the row has I stays in the group
pub row-single : (n : ℕ) (rows : ℕ → Pauli) → Proper n rows → (z x : ℕ) → z < 2 ^ n → x < 2 ^ n → (b : Bool)
    (q : ℕ) (l : Letter) (s : Bool) → q < n → bit z q ≡ false → bit x q ≡ false → InGroup n n rows (single l q s)
    → InGroup n n (row_measured n rows z x b) (single l q s)
row-single n rows L z x hz hx b q l s hq ez ex h = go (eqb (row_value n rows z x) 2) refl
  where
    go : (d : Bool) → eqb (row_value n rows z x) 2 ≡ d → InGroup n n (row_measured n rows z x b) (single l q s)
    go true e = (row-group n rows L z x hz hx e b (single l q s)).1
        (kept h (anticommute-swap n (single l q s) (signed_row b z x) ∙ single-clash n (signed_row b z x) l q s hq
        ∙ ap₂ (λ a c. clash (letter a c) l) ez ex))
    go false e = subst (λ R. InGroup n n R (single l q s)) (sym (row_kept n rows L z x hz hx e b)) h

module _ (u : UsedRecord) (z x b : ℕ) (F : RowReady u z x b) (idle : IdleOnUsed u z x) (s : Bool) where
  abbrev n : ℕ
  n = u.held.n

  abbrev R : ℕ → Pauli
  R = row_measured n (held_rows u.held) z x s

  P : Proper n R
  P = row-proper n (held_rows u.held) F.held.proper z x F.z-below F.x_below s

  module _ (q : ℕ) (marked : bit u.used q ≡ true) where
    below : q < n
    below = used-below u F.none-wrong F.no_stray q marked

    abbrev k : Clifford
    k = clifford_of (get_or u.held.codes q 0)

    low : Low k × (code_of k ≡ get_or u.held.codes q 0)
    low = used_low (get_or u.held.codes q 0) (used-code u F.none-wrong F.no_stray q marked)

    out : (j : ℕ) → (held_record u.held).graph q j ≡ false
    out j = ap (λ w. bit w j) (used-word u F.none-wrong F.no_stray q marked) ∙ zero_bit j

    -- its Pauli is a generator, and in the new group
    still-in : InGroup n n R (single (image k X) q k.sx)
    still-in = row-single n (held_rows u.held) F.held.proper z x F.z-below F.x_below s q (image k X) k.sx
        below
        (idle q marked).0 (idle q marked).1
        (subst (InGroup n n (held_rows u.held)) (alone-row n (held_record u.held) F.held.simple q below out)
        (in_row n n (held_rows u.held) q below))

  pub row_stays : UsedStay u (written_record u.held.n
      (reduced u.held.n (row_measured u.held.n (held_rows u.held) z x s)))
  row_stays =
      record {
        word = λ q m. word-alone n (reduced n R) q (below q m) (kept-graph n R P q (below q m) (k q m) (still-in q m));
        code = λ q m. code-written n (reduced n R) q (below q m)
            ∙ kept-code n R P q (below q m) (k q m) (still-in q m) (low q m).0 ∙ (low q m).1;
      }

  -- the record left passes every line
  pub row-left-passes : first_fitting (used_lines (record {
    held = written_record u.held.n (reduced u.held.n (row_measured u.held.n (held_rows u.held) z x s));
    used = u.used;
  }) false false false) ≡ 0
  row-left-passes = (lines-pass after false false false).1 (
    reduced-passes n R P F.held.positive F.held.upto,
    or-false _ ∙ F.no_stray,
    all-good after (λ t h. (
      row_stays.word t h,
      ap used_code (row_stays.code t h) ∙ used-code u F.none-wrong F.no_stray t h,
    )),
  )
    where
      after : UsedRecord
      after = record { held = written_record n (reduced n R); used = u.used }
