-- A party's observation from what is done to the copy of its vertices, and its renewal from what is done to the record.
use mathlib.Core.Bool.{Bool, cond, false, not, true}
use mathlib.Core.List.{List}
use mathlib.Core.Path.{ap, refl, subst, sym, ◌∙◌, ◌≡◌}
use Prim.Native.Nat.{ℕ}
use lib.Dec.{leb}
use Rattle.buffers.specs.Refusals.{first_fitting}
use Rattle.call_parties.proofs.PartyCalls.{copy-number, measure-done}
use Rattle.calls.proofs.PartySourceCalls.{measured-as-observed}
use Rattle.calls.proofs.SourceCalls.{observe-as-measured}
use Rattle.calls.specs.InPlace.{used_measure_call}
use Rattle.calls.specs.Sources.{party_observe_call, party_renew_call, observe_call, renew_call}
use Rattle.buffers.proofs.Calling.{kept-all, refused}
use Rattle.buffers.proofs.Fitting.{stays}
use Rattle.buffers.specs.Calls.{Call}
use Rattle.parties_impl.proofs.EarlyNumbers.{early-admitted, early-refused}
use Rattle.parties_impl.specs.internal.BeforeEight.{Admitted, PutBack, before_eight}
use Rattle.source.proofs.ObservedParties.{
  like,
  like-a-gate,
  like-six,
  like_code,
  lines-number,
  observed-alone,
  observed_six,
}
use Rattle.source.specs.PartySources.{party_observe_lines, party_renew_lines}
use Rattle.parties.specs.PartyLines.{outsider}
use Rattle.parties.specs.Masks.{in_party, masked}
use Rattle.parties.specs.internal.Apart.{gate-op}
use Rattle.operations.specs.Measurement.{outcome_number}
use Rattle.operations.specs.Steps.{gate_with, in_place_lines, measurement_of}
use Rattle.source.proofs.Observed.{answered}
use Rattle.source.specs.Renewal.{renew_lines}
use Rattle.operations.specs.Used.{UsedRecord, used_arguments_of, used_code, used_lines_of, with_used}
use Rattle.words.specs.Bits.{bit, word_of}

module _ (word g : ℕ) (u : UsedRecord) (pauli q b : ℕ) where
  -- ---- the lines before 8
  module _ {k : ℕ}
      (e : k ≡ first_fitting (before_eight word g u (observed_six pauli b) (outsider (in_party word g) u.held.n q)))
    where
      early : k ≡ first_fitting (before_eight word g u (leb 24 (like_code pauli b))
          (outsider (in_party word g) u.held.n q))
      early = e ∙ ap (λ s. first_fitting (before_eight word g u s (outsider (in_party word g) u.held.n q)))
          (like-six pauli b)

      pub observe-early : (k ≡ 0 → ⊥) → k ≡ first_fitting (party_observe_lines word g u pauli q b)
      observe-early h = early-refused word g u (like word g u pauli q b) (gate-op q (like_code pauli b)) early h
          ∙ sym (ap first_fitting (like-a-gate word g u pauli q b))

      pub observe-admitted : k ≡ 0 → Admitted word g u (measurement_of pauli q b)
      observe-admitted z = let A = early-admitted word g u (like word g u pauli q b) early z in
          record { apart = A.apart; low = A.low; own = A.own }

  -- ---- the call on the copy
  module _ (A : Admitted word g u (measurement_of pauli q b)) {v : UsedRecord} (copied : v ≡ masked (in_party word g) u)
      {answer determined r : ℕ} {nb cs : List ℕ} {own answer' determined' : ℕ}
      (C : Call (observe_call v pauli q b answer determined nb cs own answer' determined') r) where
    arguments-like : (w : UsedRecord) → used_arguments_of w (measurement_of pauli q b) ≡ used_lines_of w
        (like word g u pauli q b)
    arguments-like w = ap (λ s. with_used w (bit w.used q) (in_place_lines w.held s (leb w.held.n q)))
        (like-six pauli b)

    number : r ≡ first_fitting (party_observe_lines word g u pauli q b)
    number = C.number ∙ ap (λ w. first_fitting (used_arguments_of w (measurement_of pauli q b))) copied
        ∙ ap first_fitting (arguments-like (masked (in_party word g) u))
        ∙ copy-number word g u (like word g u pauli q b) (record { apart = A.apart; low = A.low; own = A.own })
        (gate-op q (like_code pauli b))
        ∙ sym (ap first_fitting (like-a-gate word g u pauli q b))

    pub observe-refused : (r ≡ 0 → ⊥) → Call (party_observe_call word g u pauli q b answer determined
        u.held.neighbours u.held.codes u.used answer' determined') r
    observe-refused h =
        let K = kept-all C h in
        refused _ number h (refl, (K.1.0, (K.1.1.0, (refl, (refl, tt)))))

    pub observe-done : r ≡ 0 → {nb' cs' : List ℕ} {used' : ℕ}
        → PutBack (in_party word g) nb cs u.held.neighbours u.held.codes nb' cs'
        → used' ≡ word_of 64 (λ t. cond (in_party word g t) (bit own t) (bit u.used t))
        → Call (party_observe_call word g u pauli q b answer determined nb' cs' used' answer' determined') 0
    observe-done z P eu =
        measured-as-observed word g u pauli q b answer determined _ _ _ answer' determined' passes
        (measure-done word g u pauli q (answered u pauli q b) (record { apart = A.apart; low = A.low; own = A.own })
        refl on-copy refl P eu)
      where
        passes : first_fitting (party_observe_lines word g u pauli q b) ≡ 0
        passes = sym number ∙ z

        observed : Call (observe_call (masked (in_party word g) u) pauli q b answer determined nb cs own answer'
            determined') 0
        observed = subst (λ k. Call (observe_call (masked (in_party word g) u) pauli q b answer determined nb cs own
            answer' determined') k) z
            (subst (λ w. Call (observe_call w pauli q b answer determined nb cs own answer' determined') r) copied C)

        on-copy : Call (used_measure_call (masked (in_party word g) u) pauli q (answered u pauli q b) answer determined
            nb cs own answer' determined') 0
        on-copy = subst (λ k. Call (used_measure_call (masked (in_party word g) u) pauli q k answer determined nb cs own
            answer'
            determined') 0) (sym (ap outcome_number (observed-alone word g u pauli q b passes A.apart)))
            (observe-as-measured (masked (in_party word g) u) pauli q b observed)

-- ---- a renewal
module _ (word g : ℕ) (u : UsedRecord) (q k : ℕ) {r : ℕ}
    (e : r ≡ first_fitting (before_eight word g u (not (used_code k)) (outsider (in_party word g) u.held.n q))) where
  pub renew-early-party : (r ≡ 0 → ⊥) → r ≡ first_fitting (party_renew_lines word g u q k)
  renew-early-party h =
      stays (before_eight word g u (not (used_code k)) (outsider (in_party word g) u.held.n q)) _ e h

  pub renew-admitted : r ≡ 0 → Admitted word g u (gate_with q (cond (not (used_code k)) 24 0))
  renew-admitted z = early-admitted word g u (gate_with q (cond (not (used_code k)) 24 0))
      (e ∙ ap (λ s. first_fitting (before_eight word g u s (outsider (in_party word g) u.held.n q)))
      (again (not (used_code k)))) z
    where
      again : (s : Bool) → s ≡ leb 24 (cond s 24 0)
      again true = refl
      again false = refl

  pub renew-whole : r ≡ 0 → {nb' cs' : List ℕ} {used' m : ℕ} → Call (renew_call u q k nb' cs' used') m
      → Call (party_renew_call word g u q k nb' cs' used') m
  renew-whole z C =
      let A = renew-admitted z in
      record {
        number = C.number ∙ sym (lines-number word g u q (renew_lines u q k) A.apart.count A.low
            A.apart.no-crossing A.own);
        held = C.held;
      }
