-- A party's observation is its measurement with the outcome that it answers, as contracts.
use mathlib.Core.List.{List}
use mathlib.Core.Path.{ap, sym, ◌∙◌, ◌≡◌}
use Prim.Native.Nat.{ℕ}
use Rattle.buffers.specs.Refusals.{first_fitting}
use Rattle.buffers.specs.Calls.{Call}
use Rattle.source.proofs.ObservedParties.{party-observed}
use Rattle.source.specs.PartySources.{party_observe_lines}
use Rattle.operations.specs.Measurement.{determined_number, outcome_number}
use Rattle.source.proofs.Observed.{answered, observed-answer}
use Rattle.operations.specs.Used.{UsedRecord}
use Rattle.calls.specs.Parties.{party_measure_call}
use Rattle.calls.specs.Sources.{party_observe_call}

module _ (word g : ℕ) (u : UsedRecord) (pauli q b answer determined : ℕ) (nb' cs' : List ℕ)
    (used' answer' determined' : ℕ) where
  pub observed-as-measured : Call (party_observe_call word g u pauli q b answer determined nb' cs' used' answer'
      determined') 0
      → Call (party_measure_call word g u pauli q (answered u pauli q b) answer determined nb' cs' used' answer'
      determined') 0
  observed-as-measured C =
      record {
        number = sym (party-observed word g u pauli q b (sym C.number));
        held = (
          C.held.0,
          (
            C.held.1.0 ∙ sym (ap outcome_number (observed-answer u pauli q b)),
            (C.held.1.1.0 ∙ sym (ap determined_number (observed-answer u pauli q b)), C.held.1.1.1),
          ),
        );
      }

  pub measured-as-observed : first_fitting (party_observe_lines word g u pauli q b) ≡ 0
      → Call (party_measure_call word g u pauli q (answered u pauli q b) answer determined nb' cs' used' answer'
      determined') 0
      → Call (party_observe_call word g u pauli q b answer determined nb' cs' used' answer' determined') 0
  measured-as-observed z C =
      record {
        number = sym z;
        held = (
          C.held.0,
          (
            C.held.1.0 ∙ ap outcome_number (observed-answer u pauli q b),
            (C.held.1.1.0 ∙ ap determined_number (observed-answer u pauli q b), C.held.1.1.1),
          ),
        );
      }
