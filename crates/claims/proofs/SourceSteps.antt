-- An accepted observation or renewal on a record that has a group: what it answers, and the group of the record left.
use mathlib.Core.Bool.{Bool, cond, false, true}
use mathlib.Core.Logic.{◌↔◌}
use mathlib.Core.Path.{◌∙◌, ◌≡◌, ap, refl, subst, sym}
use Prim.Native.Nat.{ℕ}
use native.Mathlib.Nat.{mod-eq_of_lt}
use Rattle.buffers.specs.Refusals.{first_fitting}
use Rattle.claims.proofs.JobSteps.{HasGroup, answer-stands, operation-stands}
use Rattle.claims.proofs.ObservationsHold.{observe-lines}
use Rattle.claims.proofs.RenewalsHold.{group-renewed}
use Rattle.jobs.specs.GroupsAfter.AfterMeasurement.{joined, kept, same}
use Rattle.jobs.specs.GroupsAfter.{AfterMeasurement, Group, GroupDetermines}
use Rattle.operations.proofs.LeftRecords.{used-left}
use Rattle.operations.proofs.UsedPassing.{used_step_lem}
use Rattle.operations.specs.Measurement.{determined_number, is_determined, outcome_number, pauli_letter, single}
use Rattle.operations.specs.Steps.{measure_lines, measured_answer, measurement_of}
use Rattle.operations.specs.Used.{UsedRecord, used_arguments_of, used_step}
use Rattle.operations.specs.declared.Outcome.TheVariants.{Chosen, Determined}
use Rattle.pauli.specs.Pauli.{Pauli, anticommute, mul}
use Rattle.pauli.specs.declared.Letter.{Letter}
use Rattle.record.specs.Lent.{held_rows}
use Rattle.stabilizer.specs.Groups.{InGroup}
use Rattle.source.proofs.Observed.{answered, observed-accepted, observed-answer}
use Rattle.source.proofs.RenewedRecords.{renew-passes}
use Rattle.source.specs.Renewal.{Renewed, photon, renew_lines, renewed}
use Rattle.source.specs.Renewal.Renewed.{joined as photon-joined, kept as photon-kept}
use Rattle.words.proofs.BitLaws.{digit-odd, is_odd-digit}
use Rattle.words.specs.Bits.{digit, is_odd}

-- an outcome that is not determined is the bit
chosen-bit : (d m s : Bool) → (determined_number (cond d (Determined (cond d m s)) (Chosen (cond d m s))) ≡ 1 → ⊥)
    → outcome_number (cond d (Determined (cond d m s)) (Chosen (cond d m s))) ≡ digit s
chosen-bit true m s h = absurd (h refl)
chosen-bit false m s h = refl

-- the sign plays no part where the group determines the outcome
other_sign : (n : ℕ) (G : Group) (l : Letter) (q : ℕ) (b c : Bool) → ((GroupDetermines G l q → ⊥) → b ≡ c) → {p : Pauli}
    → AfterMeasurement n G l q b p → AfterMeasurement n G l q c p
other_sign n G l q b c h (same d g) = same d g
other_sign n G l q b c h {p} (kept u g e) = kept u g (subst (λ s. anticommute n p (single l q s) ≡ false) (h u) e)
other_sign n G l q b c h (joined {p} u g e) =
    subst (λ s. AfterMeasurement n G l q c (mul n p (single l q s))) (sym (h u))
    (joined u g (subst (λ s. anticommute n p (single l q s) ≡ false) (h u) e))

module _ (u : UsedRecord) (G : Group) (S : HasGroup u.held G) where
  -- ---- an observation
  module _ (pauli q b : ℕ) (z : first_fitting (used_arguments_of u (measurement_of pauli q b)) ≡ 0) where
    abbrev found : ℕ
    found = answered u pauli q b

    before : first_fitting (measure_lines u.held pauli q (answered u pauli q b)) ≡ 0
    before = used_step_lem u (measurement_of pauli q found) (observed-accepted u pauli q b z)

    -- it answers what the measurement with that outcome does
    same_answer : determined_number (measured_answer u.held pauli q found) ≡ determined_number
        (measured_answer u.held pauli q b)
    same_answer = ap determined_number (observed-answer u pauli q b)

    pub lot-determined : (determined_number (measured_answer u.held pauli q b) ≡ 1) ↔ GroupDetermines G
        (pauli_letter pauli) q
    lot-determined =
        let A = answer-stands u.held G S pauli q found before in
        ((λ e. A.0.0 (same_answer ∙ e)), (λ d. sym same_answer ∙ A.0.1 d))

    undetermined : (GroupDetermines G (pauli_letter pauli) q → ⊥) → answered u pauli q b ≡ digit (is_odd b)
    undetermined h = chosen-bit (is_determined u.held.n (held_rows u.held) (pauli_letter pauli) q) _ (is_odd b)
        (λ e. h (lot-determined.0 e))

    pub lot-outcome : (GroupDetermines G (pauli_letter pauli) q → G (single (pauli_letter pauli) q
        (is_odd (outcome_number (measured_answer u.held pauli q b)))))
        × ((GroupDetermines G (pauli_letter pauli) q → ⊥) → outcome_number (measured_answer u.held pauli q b) ≡ b)
    lot-outcome =
        let A = answer-stands u.held G S pauli q found before in (
          (λ d. subst (λ o. G (single (pauli_letter pauli) q (is_odd o))) A.1 (A.2 d)),
          (λ h. undetermined h ∙ digit-odd b ∙ mod-eq_of_lt ((observe-lines u pauli q b).0 z).bit),
        )

    pub observation-stands : HasGroup (used_step u (measurement_of pauli q (answered u pauli q b))).after.held
        (AfterMeasurement u.held.n G (pauli_letter pauli) q (is_odd b))
    observation-stands =
        let L = used-left u (measurement_of pauli q found) (observed-accepted u pauli q b z) in
        let O = operation-stands u.held G S (measurement_of pauli q found) before in
        subst (λ l. HasGroup l (AfterMeasurement u.held.n G (pauli_letter pauli) q (is_odd b))) (sym L.held)
        (record {
          elements = λ p. (
            (λ h. other_sign u.held.n G (pauli_letter pauli) q (is_odd found) (is_odd b) sign ((O.elements p).0 h)),
            (λ h. (O.elements p).1 (other_sign u.held.n G (pauli_letter pauli) q (is_odd b) (is_odd found)
                (λ t. sym (sign t)) h)),
          );
        })
      where
        sign : (GroupDetermines G (pauli_letter pauli) q → ⊥) → is_odd (answered u pauli q b) ≡ is_odd b
        sign t = ap is_odd (undetermined t) ∙ is_odd-digit (is_odd b)

  -- ---- a renewal
  pub renewal-stands : (q k : ℕ) → first_fitting (renew_lines u q k) ≡ 0
      → HasGroup (renewed u q k).held (Renewed u.held.n G q (photon q k))
  renewal-stands q k z = record { elements = λ p. ((λ h. there ((R p).0 h)), (λ h. (R p).1 (back h))) }
    where
      Old : Pauli → Type 0
      Old = InGroup u.held.n u.held.n (held_rows u.held)

      R : (p : Pauli) → InGroup u.held.n u.held.n (held_rows (renewed u q k).held) p
          ↔ Renewed u.held.n Old q (photon q k) p
      R p = group-renewed u q k (renew-passes u q k z) p

      there : {p : Pauli} → Renewed u.held.n Old q (photon q k) p → Renewed u.held.n G q (photon q k) p
      there {p} (photon-kept g i) = photon-kept ((S.elements p).0 g) i
      there (photon-joined {p} g i) = photon-joined ((S.elements p).0 g) i

      back : {p : Pauli} → Renewed u.held.n G q (photon q k) p → Renewed u.held.n Old q (photon q k) p
      back {p} (photon-kept g i) = photon-kept ((S.elements p).1 g) i
      back (photon-joined {p} g i) = photon-joined ((S.elements p).1 g) i
