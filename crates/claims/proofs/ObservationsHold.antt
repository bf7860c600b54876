-- A measurement with a bit by lot: what is claimed of it holds, by its contract and the measurement with the outcome
-- that it answers.
use mathlib.Core.Bool.{Bool, cond, false, true}
use mathlib.Core.List.{List, []}
use mathlib.Core.Logic.Iff
use mathlib.Core.Logic.{◌↔◌}
use mathlib.Core.Path.{◌∙◌, ◌≡◌, refl, subst, sym}
use Prim.Native.Nat.{ℕ}
use native.Mathlib.Nat.{mod-eq_of_lt}
use native.Mathlib.Omega.{arith}
use Rattle.buffers.specs.Refusals.{first_fitting}
use Rattle.calls.proofs.InPlaceLines.{held-accepted}
use Rattle.calls.proofs.MeasureLines.{arguments-before}
use Rattle.calls.proofs.SourceCalls.{observe-as-measured}
use Rattle.calls.specs.InPlace.{used_measure_call}
use Rattle.calls.specs.Sources.{observe_call}
use Rattle.claims.proofs.InPlaceExactly.{argument-lines}
use Rattle.claims.proofs.MeasurementsFollow.{measurements-follow}
use Rattle.claims.proofs.NumbersHold.{in_words}
use Rattle.claims.proofs.UsedDemandHolds.{accepted-measured-without, measurements-mark}
use Rattle.claims.proofs.UsedExactly.{no_stray, none-wrong, record_of, used-measure}
use Rattle.claims.proofs.families.Shared.{answered, at_zero, by_lines, table-fills}
use Rattle.claims.specs.Conforming.{Conforms}
use Rattle.claims.specs.OperationsDemand.{signed_pauli}
use Rattle.claims.specs.UsedDemand.{SixteenExactly, UsedMarked}
use Rattle.claims.specs.families.Records.{MeasureFits}
use Rattle.buffers.proofs.Fitting.{decides, fits-at, is-first, none-fits-of, skips}
use Rattle.buffers.specs.Answers.{FirstFits, here, none}
use Rattle.buffers.specs.Calls.{Call}
use Rattle.jobs.specs.Standing.{left}
use Rattle.operations.specs.Measurement.{Measured, determined_number, is_determined, outcome_number, pauli_letter}
use Rattle.operations.specs.Steps.{argument_lines, measurement_of}
use Rattle.operations.specs.declared.Outcome.TheVariants.{Chosen, Determined}
use Rattle.record.specs.Lent.{held_rows}
use Rattle.stabilizer.specs.Groups.{InGroup}
use Rattle.operations.proofs.UsedInWords.{arguments-in-words}
use Rattle.operations.proofs.UsedPassing.{in-place-counted, with-used-passes}
use Rattle.operations.specs.Used.{UsedRecord, used_arguments_of, used_stray, used_wrong}
use Rattle.operations.specs.UsedLaws.{earlier_lines}
use Rattle.words.proofs.BitLaws.{digit-odd}
use Rattle.words.specs.Bits.{bit, digit, is_odd}
use Rattle.claims.specs.Sources.{ObservationStands, ObserveFits, ObserveSays, observe_sentences}

-- a list that has been passed to its end has number 0
pub passed-all : {k : ℕ} → FirstFits [] k → k ≡ 0
passed-all none = refl

-- an outcome that is not determined is the bit
bit-chosen : (d m b : Bool) → determined_number (cond d (Determined (cond d m b)) (Chosen (cond d m b))) ≡ 0
    → outcome_number (cond d (Determined (cond d m b)) (Chosen (cond d m b))) ≡ digit b
bit-chosen true m b e = absurd (omega (arith, e))
bit-chosen false m b e = refl

-- ---- observations
module _ (u : UsedRecord) (pauli q b : ℕ) where
  pub observe-lines : (first_fitting (used_arguments_of u (measurement_of pauli q b)) ≡ 0) ↔ ObserveFits u pauli q b
  observe-lines = (
    (λ e. let W = passes.0 e in
        let h = (argument-lines u.held pauli q b).0 W.0 in
        record {
          held = record_of u h.0 W.1 W.2;
          positive = h.1;
          upto = h.2;
          qubit = (h.3, W.3);
          bit = h.4;
        }),
    (λ F. passes.1 (
      (argument-lines u.held pauli q b).1 (F.held.held, F.positive, F.upto, F.qubit.0, F.bit),
      no_stray u F.held,
      none-wrong u F.held,
      F.qubit.1,
    )),
  )
    where
      passes : (first_fitting (used_arguments_of u (measurement_of pauli q b)) ≡ 0)
          ↔ ((first_fitting (argument_lines u.held pauli q b) ≡ 0) × (used_stray u ≡ false) × (used_wrong u ≡ false)
          × (bit u.used q ≡ false))
      passes = with-used-passes u (argument_lines u.held pauli q b) (in-place-counted u.held _ _) (bit u.used q)

  module _ (answer determined : ℕ) (nb' cs' : List ℕ) (used' answer' determined' : ℕ) where
    observe-conforms : Conforms (observe_call u pauli q b answer determined nb' cs' used' answer' determined')
    observe-conforms =
        record {
          order = refl;
          complete = λ z. let A = held-accepted u.held _ _ (arguments-before u pauli q b z) in (
            tt,
            (
              tt,
              (
                tt,
                (
                  table-fills u.held.n _ u.held.neighbours A.neighbours-length,
                  (table-fills u.held.n _ u.held.codes A.codes-length, tt),
                ),
              ),
            ),
          );
        }

    -- ---- an accepted one
    module _ (C : Call (observe_call u pauli q b answer determined nb' cs' used' answer' determined') 0) where
      as-measured : Call (used_measure_call u pauli q answer' answer determined nb' cs' used' answer' determined') 0
      as-measured = subst (λ v. Call (used_measure_call u pauli q v answer determined nb' cs' used' answer' determined')
          0)
          (sym C.held.1.0) (observe-as-measured u pauli q b C)

      is-bit : determined' ≡ 0 → answer' ≡ b
      is-bit e = C.held.1.0
          ∙ bit-chosen (is_determined u.held.n (held_rows u.held) (pauli_letter pauli) q) _ (is_odd b)
          (sym C.held.1.1.0 ∙ e)
          ∙ digit-odd b ∙ mod-eq_of_lt (observe-lines.0 (sym C.number)).bit

      stands : ObservationStands u.held pauli q b (left u.held nb' cs') answer' determined'
      stands =
          let M = measurements-follow u.held pauli q answer' answer determined nb' cs' answer' determined'
          (accepted-measured-without u pauli q answer' answer determined nb' cs' used' answer' determined' as-measured)
          in
          record {
            still = M.still;
            answers = M.answers;
            either = M.either;
            outcome = M.outcome;
            exactly = M.exactly;
            sign = M.sign;
            kept = M.kept;
            bit = is-bit;
            joined = λ e p. subst (λ v. InGroup u.held.n u.held.n (held_rows (left u.held nb' cs')) p
                ↔ Measured u.held.n (held_rows u.held) (signed_pauli pauli q (is_odd v)) p) (is-bit e)
                (M.joined e p);
          }

      marks : UsedMarked u pauli q b nb' cs' used' answer'
      marks =
          let M = measurements-mark u pauli q answer' answer determined nb' cs' used' answer' determined' as-measured in
          record {
            within = M.within;
            marked = M.marked;
            word = M.word;
            code = M.code;
            stay = M.stay;
            passes = M.passes;
          }

    module _ (r : ℕ) (C : Call (observe_call u pauli q b answer determined nb' cs' used' answer' determined') r) where
      -- where the measurement is accepted
      same : MeasureFits u pauli q b → Call (used_measure_call u pauli q b answer determined nb' cs' used' answer'
          determined') r
      same F =
          record {
            number = C.number ∙ observe-lines.1 (record {
              held = F.held;
              positive = F.positive;
              upto = F.upto;
              qubit = F.qubit;
              bit = F.bit;
            }) ∙ sym ((used-measure u pauli q b).1 F);
            held = C.held;
          }

      never-14 : r ≡ 14 → ⊥
      never-14 e =
          let p = skips (used_arguments_of u (measurement_of pauli q b)) {ms = []} 14 refl e
          (fits-at (used_arguments_of u (measurement_of pauli q b)) C.number) in
          absurd (omega (arith, e, passed-all p.1))

      sixteen : SixteenExactly u (measurement_of pauli q b) r
      sixteen = (
        (λ e. let p = skips (earlier_lines u (measurement_of pauli q b)) 16 refl e
            (fits-at (used_arguments_of u (measurement_of pauli q b)) C.number) in
            (none-fits-of (earlier_lines u (measurement_of pauli q b)) p.0, is-first p.1 refl e)),
        (λ h. C.number ∙ sym (decides (earlier_lines u (measurement_of pauli q b)) refl (sym h.0) refl
            (here h.1))),
      )

      pub observe-says : ObserveSays u pauli q b answer determined nb' cs' used' answer' determined' r
      observe-says =
          record {
            answered = answered observe-conforms C;
            accepted = Iff.trans (by_lines C) observe-lines;
            numbers = in_words (observe_sentences u pauli q b) (arguments-in-words u pauli q b) C;
            group = λ z. stands (at_zero C z);
            same = same;
            as-measured = λ z. as-measured (at_zero C z);
            never-14 = never-14;
            marked = λ z. marks (at_zero C z);
            refused = sixteen;
          }
