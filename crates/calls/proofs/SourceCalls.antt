-- A measurement with a bit by lot and a new photon, from what the functions below them answer.
use mathlib.Core.Bool.{false, not, true}
use mathlib.Core.List.{List}
use mathlib.Core.Path.{ap, refl, sym, ◌∙◌, ◌≡◌}
use Prim.Native.Nat.{◌^◌, ℕ}
use lib.Bits.{bit_or, bit_xor}
use lib.Dec.{leb}
use lib.ListN.{length, set}
use Rattle.buffers.specs.Refusals.{Refusal, first_fitting}
use Rattle.buffers.proofs.Calling.{done}
use Rattle.buffers.proofs.Fitting.{decides, stays}
use Rattle.buffers.specs.Answers.{here, later, none}
use Rattle.buffers.specs.Calls.{Call}
use Rattle.operations.specs.internal.InPlace.{MeasuredInPlace}
use Rattle.operations.specs.Measurement.{determined_number, outcome_number}
use Rattle.operations.specs.Steps.{made, measured_answer, measurement_of}
use Rattle.operations.specs.declared.Outcome.{Outcome}
use Rattle.record.specs.Lent.{code_numbers, LentRecord, lent_record, neighbour_words}
use Rattle.source.proofs.Observed.{answered, observed-accepted, observed-answer, observed-made, observed-passes}
use Rattle.source.proofs.RenewedRecords.{renew-passes, unmarked-word}
use Rattle.source.specs.Renewal.{renew_lines}
use Rattle.operations.proofs.MeasuringMarks.{marked-word}
use Rattle.operations.specs.Used.{UsedRecord, used_arguments_of, used_code, used_lines}
use Rattle.words.specs.Bits.{bit, is_odd}
use Rattle.calls.proofs.InPlaceLines.{held-accepted}
use Rattle.calls.proofs.MeasureLines.{arguments-before}
use Rattle.calls.specs.InPlace.{used_measure_call}
use Rattle.calls.specs.Sources.{observe_call, renew_call}

pub observe-done : (u : UsedRecord) (pauli q b answer determined : ℕ) {k : ℕ}
    → k ≡ first_fitting (used_arguments_of u (measurement_of pauli q b)) → k ≡ 0 → (r : Outcome) (nb' cs' : List ℕ)
    → MeasuredInPlace u.held.neighbours u.held.codes pauli q (is_odd b) r nb' cs'
    → (used' answer' determined' : ℕ) → used' ≡ bit_or u.used (2 ^ q) → answer' ≡ outcome_number r
    → determined' ≡ determined_number r
    → Call (observe_call u pauli q b answer determined nb' cs' used' answer' determined') 0
observe-done u pauli q b answer determined e z r nb' cs' M used' answer' determined' eu ea ed =
    done _ e z (
      eu ∙ sym (marked-word u pauli q (answered u pauli q b) (observed-passes u pauli q b (sym e ∙ z))),
      (
        ea ∙ ap outcome_number answers,
        (
          ed ∙ ap determined_number answers,
          (
            M.after.neighbours ∙ ap (λ m. neighbour_words m (made (at m) (measurement_of pauli q b))) long,
            (M.after.numbers ∙ ap (λ m. code_numbers m (made (at m) (measurement_of pauli q b))) long, tt),
          ),
        ),
      ),
    )
  where
    at : ℕ → LentRecord
    at m = lent_record m u.held.neighbours u.held.codes

    long : length u.held.neighbours ≡ u.held.n
    long = (held-accepted u.held _ _ (arguments-before u pauli q b (sym e ∙ z))).neighbours-length

    answers : r ≡ measured_answer u.held pauli q b
    answers = M.answer ∙ ap (λ m. measured_answer (at m) pauli q b) long

-- accepted, it is the measurement with the outcome that it answers
pub observe-as-measured : (u : UsedRecord) (pauli q b : ℕ) {answer determined : ℕ} {nb' cs' : List ℕ}
    {used' answer' determined' : ℕ}
    → Call (observe_call u pauli q b answer determined nb' cs' used' answer' determined') 0
    → Call (used_measure_call u pauli q (answered u pauli q b) answer determined nb' cs' used' answer' determined') 0
observe-as-measured u pauli q b C =
    record {
      number = sym (observed-accepted u pauli q b (sym C.number));
      held = (
        C.held.0,
        (
          C.held.1.0 ∙ sym (ap outcome_number (observed-answer u pauli q b)),
          (
            C.held.1.1.0 ∙ sym (ap determined_number (observed-answer u pauli q b)),
            (
              C.held.1.1.1.0 ∙ sym (ap (neighbour_words u.held.n) (observed-made u pauli q b)),
              (C.held.1.1.1.1.0 ∙ sym (ap (code_numbers u.held.n) (observed-made u pauli q b)), tt),
            ),
          ),
        ),
      );
    }

-- ---- a renewal: the lines of the record and the code, then 8, then 20
module _ (u : UsedRecord) (q k : ℕ) {r : ℕ} (e : r ≡ first_fitting (used_lines u false false (not (used_code k)))) where
  abbrev held : List Refusal
  held = used_lines u false false (not (used_code k))

  pub renew-early : (r ≡ 0 → ⊥) → r ≡ first_fitting (renew_lines u q k)
  renew-early h = stays held _ e h

  module _ (z : r ≡ 0) where
    pub renew-8 : leb u.held.n q ≡ true → 8 ≡ first_fitting (renew_lines u q k)
    renew-8 h = decides held refl e z (here h)

    module _ (h : leb u.held.n q ≡ false) where
      pub renew-20 : not (bit u.used q) ≡ true → 20 ≡ first_fitting (renew_lines u q k)
      renew-20 t = decides held refl e z (later h (here t))

      pub renew-0 : not (bit u.used q) ≡ false → 0 ≡ first_fitting (renew_lines u q k)
      renew-0 t = decides held refl e z (later h (later t none))

pub renew-done : (u : UsedRecord) (q k : ℕ) → 0 ≡ first_fitting (renew_lines u q k) → (nb' cs' : List ℕ) (used' : ℕ)
    → nb' ≡ u.held.neighbours → cs' ≡ set u.held.codes q k → used' ≡ bit_xor u.used (2 ^ q)
    → Call (renew_call u q k nb' cs' used') 0
renew-done u q k e nb' cs' used' en ec eu =
    done _ e refl (eu ∙ sym (unmarked-word u q k (renew-passes u q k (sym e))), (en, (ec, tt)))
