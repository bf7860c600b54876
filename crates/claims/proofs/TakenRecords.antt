-- A record that no line refuses is taken by every call on records.
use mathlib.Core.Bool.{Bool, false, true}
use mathlib.Core.Logic.{inl, inr, ◌⊎◌}
use mathlib.Core.Path.{◌≡◌, ◌∙◌, refl, sym}
use Prim.Native.Nat.{◌<◌, ℕ, ◌≤◌}
use native.Mathlib.Decide.{ℕ_discrete}
use Rattle.buffers.specs.Refusals.{first_fitting}
use Rattle.calls.proofs.MeasureLines.{fourteen-exactly}
use Rattle.calls.proofs.UsedInPlace.{plain}
use Rattle.buffers.proofs.Fitting.{decides}
use Rattle.buffers.specs.Answers.{later, none}
use Rattle.operations.specs.Steps.{argument_lines, measurement_of}
use Rattle.operations.proofs.UsedPassing.{in-place-counted, with-used-passes}
use Rattle.operations.specs.Used.{UsedRecord, names_used, used_arguments_of, used_lines_of}
use Rattle.claims.proofs.families.Amplitudes.{amplitudes-accepted}
use Rattle.claims.proofs.families.Expectations.{expectations-accepted}
use Rattle.claims.proofs.families.Records.{records-accepted}
use Rattle.claims.proofs.families.Stores.{stores-accepted}
use Rattle.claims.proofs.ImageDemandHolds.{images-follow}
use Rattle.claims.proofs.InPlaceExactly.{against, argument-lines}
use Rattle.claims.proofs.LinesExactly.{record-exactly, three-fit}
use Rattle.claims.proofs.UsedExactly.{no_stray, none-wrong}
use Rattle.claims.specs.Arguments.{Free, IsRecord}
use Rattle.claims.specs.families.Records.{TakenByAll}

-- a measurement with arguments in order: 0, or 14
accepted-or-14 : (u : UsedRecord) (pauli q b : ℕ) → first_fitting (used_arguments_of u (measurement_of pauli q b)) ≡ 0 →
    {r : ℕ} → r ≡ first_fitting (used_lines_of u (measurement_of pauli q b)) → (r ≡ 0) ⊎ (r ≡ 14)
accepted-or-14 u pauli q b e {r} n = go (against u.held pauli q b) refl
  where
    go : (t : Bool) → against u.held pauli q b ≡ t → (r ≡ 0) ⊎ (r ≡ 14)
    go true h = inr (n ∙ (fourteen-exactly u pauli q b).1 (e, h))
    go false h = inl (n ∙ sym (decides (used_arguments_of u (measurement_of pauli q b)) refl (sym e) refl
        (later (plain h) none)))

-- its arguments are in order
in_order : (u : UsedRecord) → IsRecord u → (pauli q b : ℕ) → 1 ≤ pauli → pauli ≤ 3 → Free u q → b < 2 →
    first_fitting (used_arguments_of u (measurement_of pauli q b)) ≡ 0
in_order u R pauli q b positive upto free bit =
    (with-used-passes u (argument_lines u.held pauli q b) (in-place-counted u.held _ _)
    (names_used u (measurement_of pauli q b))).1 (
      (argument-lines u.held pauli q b).1 (R.held, positive, upto, free.0, bit),
      no_stray u R,
      none-wrong u R,
      free.1,
    )

pub taken-by-all : (u : UsedRecord) → IsRecord u → TakenByAll u
taken-by-all u R =
    record {
      expand = λ s z x s' z' x' r C e f g. (records-accepted.expand u s z x s' z' x' r C).1 (R, e, f, g);
      gate = λ q k nb' cs' r C e f. (records-accepted.gate u q k nb' cs' r C).1 (R, e, f);
      cz = λ a b nb' cs' r C e f g. (records-accepted.cz u a b nb' cs' r C).1 (R, e, f, g);
      measure = λ pauli q b answer determined nb' cs' used' answer' determined' r C positive upto free bit.
          accepted-or-14 u pauli q b (in_order u R pauli q b positive upto free bit) C.number;
      complement = λ a nb' cs' r C e. (records-accepted.complement u a nb' cs' r C).1 (R, e);
      image = λ image signs list count image' signs' list' count' r C e f g.
          one_of r (images-follow u.held image signs list count r image' signs' list' count' C
          ((record-exactly u.held _ false).1
          (R.held, (three-fit u.held.n u.held.n 96 image signs list).1 (e, f, g), refl))).otherwise;
      cut = λ side rank rank' r C e. (records-accepted.cut u side rank rank' r C).1 (R, e);
      amplitude = λ y re im p re' im' p' r C e. (amplitudes-accepted.amplitude u y re im p re' im' p' r C).1 (R, e);
      expectation = λ z x value value' r C e f. (expectations-accepted.expectation u z x value value' r C).1 (R, e, f);
      save = λ name st heads' nb' cs' r C e f. (stores-accepted.save u name st heads' nb' cs' r C).1 (R, e, f);
    }
  where
    one_of : (r : ℕ) {B : Type 0} → ((r ≡ 11 → ⊥) → (r ≡ 12 → ⊥) → (r ≡ 0) × B) →
        (r ≡ 0) ⊎ ((r ≡ 11) ⊎ (r ≡ 12))
    one_of r {B} h = go (ℕ_discrete r 11) (ℕ_discrete r 12)
      where
        go : Dec (r ≡ 11) → Dec (r ≡ 12) → (r ≡ 0) ⊎ ((r ≡ 11) ⊎ (r ≡ 12))
        go (yes e) d = inr (inl e)
        go (no e) (yes f) = inr (inr f)
        go (no e) (no f) = inl (h e f).0
