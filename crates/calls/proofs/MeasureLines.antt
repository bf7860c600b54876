-- The lines of a measurement: those of its arguments, and then 14.
use mathlib.Core.Bool.{Bool, false, or-false, true, ◌||◌}
use mathlib.Core.Logic.{◌↔◌}
use mathlib.Core.Path.{ap, refl, sym, ◌∙◌, ◌≡◌}
use Prim.Native.Nat.{ℕ}
use lib.Dec.{eqb, leb}
use lib.ListN.{length}
use Rattle.buffers.specs.Refusals.{first_fitting}
use Rattle.buffers.proofs.Fitting.{decides, fits-at, is-first, none-fits-of, none-holds, skips, stays}
use Rattle.buffers.specs.Answers.{here, later, none}
use Rattle.operations.specs.internal.InPlace.{record_in}
use Rattle.operations.specs.Measurement.{contradicts, pauli_letter}
use Rattle.operations.specs.Steps.{argument_lines, measure_lines, measurement_of}
use Rattle.record.specs.Lent.{LentRecord, held_record, held_rows}
use Rattle.record.specs.Records.{rows_of}
use Rattle.operations.specs.Used.{UsedRecord, names_used, used_arguments_of, used_lines_of}
use Rattle.words.specs.Bits.{is_odd}
use Rattle.calls.proofs.InPlaceLines.{held-accepted}
use Rattle.calls.proofs.UsedInPlace.{in-place-before, plain}

-- ---- without the used word: no line holds
module _ (l : LentRecord) (pauli q b : ℕ) where
  -- line 14
  abbrev against : Bool
  against = contradicts l.n (held_rows l) (pauli_letter pauli) q (is_odd b)

  pub measure-passes : first_fitting (measure_lines l pauli q b) ≡ 0 →
      (first_fitting (argument_lines l pauli q b) ≡ 0) × (against ≡ false)
  measure-passes e =
      let h = none-holds (measure_lines l pauli q b) refl e in (
        none-fits-of (argument_lines l pauli q b)
            (h.0, (h.1.0, (h.1.1.0, (h.1.1.1.0, (h.1.1.1.1.0, (h.1.1.1.1.1.0, tt)))))),
        h.1.1.1.1.1.1.0,
      )

-- ---- with it
module _ (u : UsedRecord) (pauli q b : ℕ) where
  -- the lines of the arguments pass without the used word too
  pub arguments-before : first_fitting (used_arguments_of u (measurement_of pauli q b)) ≡ 0
      → first_fitting (argument_lines u.held pauli q b) ≡ 0
  arguments-before e = in-place-before u (leb 2 b || (eqb pauli 0 || leb 4 pauli)) (leb u.held.n q)
      (names_used u (measurement_of pauli q b)) e

  module _ {k : ℕ} (e : k ≡ first_fitting (used_arguments_of u (measurement_of pauli q b))) where
    pub arguments-refuse : (k ≡ 0 → ⊥) → k ≡ first_fitting (used_lines_of u (measurement_of pauli q b))
    arguments-refuse h = stays (used_arguments_of u (measurement_of pauli q b)) _ e h

    -- line 14 as it is found for the buffers
    module _ (z : k ≡ 0) {d : Bool} (f : d ≡ contradicts (length u.held.neighbours)
        (held_rows (record_in u.held.neighbours u.held.codes)) (pauli_letter pauli) q (is_odd b)) where
      found : {t : Bool} → d ≡ t → against u.held pauli q b ≡ t
      found h = sym (f ∙ ap (λ m. contradicts m (rows_of m (held_record u.held)) (pauli_letter pauli) q (is_odd b))
          (held-accepted u.held _ _ (arguments-before (sym e ∙ z))).neighbours-length) ∙ h

      pub then-14 : d ≡ true → 14 ≡ first_fitting (used_lines_of u (measurement_of pauli q b))
      then-14 h = decides (used_arguments_of u (measurement_of pauli q b)) refl e z (here (plain (found h)))

      pub then-none : d ≡ false → 0 ≡ first_fitting (used_lines_of u (measurement_of pauli q b))
      then-none h = decides (used_arguments_of u (measurement_of pauli q b)) refl e z (later (plain (found h)) none)

  -- ---- 14 comes back
  pub fourteen-exactly : (first_fitting (used_lines_of u (measurement_of pauli q b)) ≡ 14)
      ↔ ((first_fitting (used_arguments_of u (measurement_of pauli q b)) ≡ 0) × (against u.held pauli q b ≡ true))
  fourteen-exactly = (
    (λ e. let p = skips (used_arguments_of u (measurement_of pauli q b)) 14 refl refl
        (fits-at (used_lines_of u (measurement_of pauli q b)) (sym e)) in
        (none-fits-of (used_arguments_of u (measurement_of pauli q b)) p.0, plainly (is-first p.1 refl refl))),
    (λ h. sym (decides (used_arguments_of u (measurement_of pauli q b)) refl (sym h.0) refl (here (plain h.1)))),
  )
    where
      plainly : {h t : Bool} → ((h || false) || false) ≡ t → h ≡ t
      plainly {h} e = sym (or-false (h || false) ∙ or-false h) ∙ e
