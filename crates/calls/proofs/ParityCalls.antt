-- The measurement of a row, from what the functions below it answer.
use mathlib.Core.Bool.{false, not, true}
use mathlib.Core.List.{List}
use mathlib.Core.Path.{ap, refl, sym, ◌∙◌, ◌≡◌}
use Prim.Native.Nat.{◌^◌, ℕ}
use lib.Bits.{bit_and, bit_or}
use lib.Dec.{eqb, leb}
use lib.ListN.{length}
use Rattle.buffers.proofs.Calling.{done}
use Rattle.buffers.proofs.Fitting.{stays}
use Rattle.buffers.proofs.Reaching.{or-reaches}
use Rattle.buffers.specs.Calls.{Call}
use Rattle.buffers.specs.Refusals.{first_fitting}
use Rattle.operations.specs.Measurement.{determined_number, outcome_number}
use Rattle.operations.specs.Used.{UsedRecord, used_lines}
use Rattle.operations.specs.declared.Outcome.{Outcome}
use Rattle.parity.proofs.RowPassing.{RowReady, acts-by-word, row-accepted, row-early, row-ready}
use Rattle.parity.specs.RowLines.{measure_row_lines, row_arguments}
use Rattle.parity.specs.internal.InPlace.{RowInPlace}
use Rattle.record.specs.Lent.{code_numbers, LentRecord, lent_record, neighbour_words}
use Rattle.words.specs.Bits.{is_odd}
use Rattle.calls.specs.Parities.{measure_row_call, row_answer, row_record}

module _ (u : UsedRecord) (z x b : ℕ) {k : ℕ}
    (e : k ≡ first_fitting (used_lines u false (leb (2 ^ u.held.n) (bit_or z x)) (leb 2 b))) where
  -- a bit of one of the two words is a bit of both joined
  arguments : k ≡ first_fitting (row_arguments u z x b)
  arguments = e ∙ ap (λ s. first_fitting (used_lines u false s (leb 2 b))) (or-reaches u.held.n z x)

  pub row-refused : (k ≡ 0 → ⊥) → k ≡ first_fitting (measure_row_lines u z x b)
  row-refused h = stays (row_arguments u z x b) _ arguments h

  module _ (h : k ≡ 0) where
    pub row_fits : RowReady u z x b
    row_fits = row-ready u z x b (sym arguments ∙ h)

    pub row-16 : not (eqb (bit_and u.used (bit_or z x)) 0) ≡ true → 16 ≡ first_fitting (measure_row_lines u z x b)
    row-16 t = row-early u z x b arguments h
        (sym (acts-by-word u z x row_fits.z-below row_fits.x_below) ∙ t)

    module _ (t : not (eqb (bit_and u.used (bit_or z x)) 0) ≡ false) where
      row-0 : 0 ≡ first_fitting (measure_row_lines u z x b)
      row-0 = row-accepted u z x b arguments h
          (sym (acts-by-word u z x row_fits.z-below row_fits.x_below) ∙ t)

      pub row_done : (answer determined : ℕ) (r : Outcome) (nb' cs' : List ℕ)
          → RowInPlace u.held.neighbours u.held.codes z x (is_odd b) r nb' cs' → (answer' determined' : ℕ)
          → answer' ≡ outcome_number r → determined' ≡ determined_number r
          → Call (measure_row_call u z x b answer determined nb' cs' answer' determined') 0
      row_done answer determined r nb' cs' M answer' determined' ea ed =
          done _ row-0 refl (
            ea ∙ ap outcome_number answers,
            (
              ed ∙ ap determined_number answers,
              (
                M.after.neighbours ∙ ap (λ m. neighbour_words m (row_record (at m) z x b)) long,
                (M.after.numbers ∙ ap (λ m. code_numbers m (row_record (at m) z x b)) long, tt),
              ),
            ),
          )
        where
          at : ℕ → LentRecord
          at m = lent_record m u.held.neighbours u.held.codes

          long : length u.held.neighbours ≡ u.held.n
          long = row_fits.held.neighbours-length

          answers : r ≡ row_answer u.held z x b
          answers = M.answer ∙ ap (λ m. row_answer (at m) z x b) long
