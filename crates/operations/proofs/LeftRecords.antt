-- The record that an accepted call leaves passes every line, and all that is promised of a call on used qubits.
use mathlib.Core.Bool.{◌&&◌, Bool, cond, false, not, or-false, true, ◌||◌}
use mathlib.Core.Logic.{inl, inr, ◌⊎◌}
use mathlib.Core.Path.{ap, ap₂, refl, subst, sym, ◌∙◌, ◌≡◌}
use Prim.Native.Nat.{◌*◌, ◌+◌, ◌-◌, ◌<◌, ◌^◌, ℕ}
use lib.Dec.{eqb}
use lib.ListN.{get_or}
use borrow.Author.Tests.{eq-eqb, eqb-true, leb-false, lt-leb}
use Rattle.buffers.specs.Refusals.{first_fitting}
use Rattle.operations.specs.Steps.{Operation, complement_of, cz_on, gate_with, leaves, measurement_of, pivot_of}
use Rattle.record.specs.Lent.{record_lines}
use Rattle.words.proofs.BitLaws.{word_of-lt}
use Rattle.words.proofs.Flags.{either}
use Rattle.words.proofs.SearchLaws.{some-none}
use Rattle.words.specs.Bits.{bit}
use Rattle.operations.specs.Used.{UsedRecord, used_after, used_code, used_lines, used_step, used_stray, used_wrong}
use Rattle.operations.specs.internal.UsedLaws.{MeasuredMarks, UsedLeft, UsedPasses}
use Rattle.operations.proofs.AcceptedSteps.{after-made, made-passes}
use Rattle.operations.proofs.UsedPassing.{lines-pass, used-passes}
use Rattle.operations.proofs.UsedStaying.{stays_after, used-code}
use Rattle.operations.proofs.MeasuringMarks.{
  arguments,
  measured-bit,
  measured-code,
  measured-marks,
  measured-word,
  pauli-code,
}

-- the test of line 7 by its vertices
unfolded : (v : UsedRecord) → ((t : ℕ) → (bit v.used t && (not (eqb (get_or v.held.neighbours t 0) 0)
    || not (used_code (get_or v.held.codes t 0)))) ≡ false) → used_wrong v ≡ false
unfolding used_wrong
unfolded v h = some-none v.held.n _ (λ t l. h t)

-- each used vertex is alone and has one of the six codes
pub all-good : (v : UsedRecord) → ((t : ℕ) → bit v.used t ≡ true
    → (get_or v.held.neighbours t 0 ≡ 0) × (used_code (get_or v.held.codes t 0) ≡ true)) → used_wrong v ≡ false
all-good v good = unfolded v (λ t. at t (bit v.used t) refl)
  where
    at : (t : ℕ) (b : Bool) → bit v.used t ≡ b
        → (b && (not (eqb (get_or v.held.neighbours t 0) 0) || not (used_code (get_or v.held.codes t 0)))) ≡ false
    at t false h = refl
    at t true h = ap₂ (λ a b. not a || not b) (eq-eqb (get_or v.held.neighbours t 0) 0 (good t h).0) (good t h).1

-- with a used word below 2 ^ n it passes
good-passes : (v : UsedRecord) → first_fitting (record_lines v.held false false) ≡ 0 → v.used < 2 ^ v.held.n
    → ((t : ℕ) → bit v.used t ≡ true
    → (get_or v.held.neighbours t 0 ≡ 0) × (used_code (get_or v.held.codes t 0) ≡ true))
    → first_fitting (used_lines v false false false) ≡ 0
good-passes v e below good =
    (lines-pass v false false false).1
    (e, or-false (used_stray v) ∙ lt-leb (2 ^ v.held.n) v.used below, all-good v good)

module _ (u : UsedRecord) (o : Operation) (P : UsedPasses u o) where
  abbrev left : UsedRecord
  left = record { held = leaves u.held o; used = used_after u o }

  held-passes : first_fitting (record_lines left.held false false) ≡ 0
  held-passes = subst (λ t. first_fitting (record_lines t false false) ≡ 0) (sym (after-made u.held o P.as_before))
      (made-passes u.held o P.as_before)

  qubits : left.held.n ≡ u.held.n
  qubits = ap (λ t. t.n) (after-made u.held o P.as_before)

  -- the vertex has word 0 and one of the six codes
  abbrev Good : ℕ → Type 0
  Good t = (get_or left.held.neighbours t 0 ≡ 0) × (used_code (get_or left.held.codes t 0) ≡ true)

  -- one that was used is still good
  still-good : (t : ℕ) → bit u.used t ≡ true → Good t
  still-good t h =
      let S = stays_after u o P in
      (S.word t h, ap used_code (S.code t h) ∙ used-code u P.none-wrong P.no_stray t h)

  by_word : used_after u o < 2 ^ u.held.n → ((t : ℕ) → bit (used_after u o) t ≡ true → Good t)
      → first_fitting (used_lines left false false false) ≡ 0
  by_word below good = good-passes left held-passes (subst (λ m. used_after u o < 2 ^ m) (sym qubits) below) good

  -- "gates, cz and rewritings copy it"
  copied : used_after u o ≡ u.used → first_fitting (used_lines left false false false) ≡ 0
  copied e = by_word (subst (λ w. w < 2 ^ u.held.n) (sym e) (leb-false (2 ^ u.held.n) u.used P.no_stray))
      (λ t h. still-good t (ap (λ w. bit w t) (sym e) ∙ h))

-- every accepted call leaves a record that passes
left-passes : (u : UsedRecord) (o : Operation) (P : UsedPasses u o)
    → first_fitting (used_lines (left u o P) false false false) ≡ 0
left-passes u (gate_with q k) P = copied u (gate_with q k) P refl
left-passes u (cz_on a b) P = copied u (cz_on a b) P refl
left-passes u (complement_of a) P = copied u (complement_of a) P refl
left-passes u (pivot_of j k) P = copied u (pivot_of j k) P refl
left-passes u (measurement_of pauli q b) P =
    by_word u (measurement_of pauli q b) P (word_of-lt u.held.n _)
    (λ t h. split t (either (bit u.used t) (eqb t q) (sym (measured-marks u pauli q b P t) ∙ h)))
  where
    own : Good u (measurement_of pauli q b) P q
    own = (
      measured-word u pauli q b P,
      ap used_code (measured-code u pauli q b P)
          ∙ (pauli-code pauli b (arguments u pauli q b P).not_none (arguments u pauli q b P).pauli-below
          (arguments u pauli q b P).bit_below).1,
    )

    split : (t : ℕ) → (bit u.used t ≡ true) ⊎ (eqb t q ≡ true) → Good u (measurement_of pauli q b) P t
    split t (inl e) = still-good u (measurement_of pauli q b) P t e
    split t (inr e) = subst (Good u (measurement_of pauli q b) P) (sym (eqb-true t q e)) own

-- an accepted call leaves what the call without the used word leaves, and the used word
is-left : (u : UsedRecord) (o : Operation) (e : (used_step u o).number ≡ 0)
    → (used_step u o).after ≡ left u o ((used-passes u o).0 e)
is-left u o e = ap (λ k. cond (eqb k 0) (left u o ((used-passes u o).0 e)) u) e

pub used-left : (u : UsedRecord) (o : Operation) → (used_step u o).number ≡ 0 → UsedLeft u o (used_step u o).after
used-left u o e =
    let P = (used-passes u o).0 e in
    subst (UsedLeft u o) (sym (is-left u o e))
    (record { held = refl; used = refl; stay = stays_after u o P; passes = left-passes u o P })

pub marks-measured : (u : UsedRecord) (pauli q b : ℕ) → (used_step u (measurement_of pauli q b)).number ≡ 0
    → MeasuredMarks u pauli q b (used_step u (measurement_of pauli q b)).after
marks-measured u pauli q b e =
    let P = (used-passes u (measurement_of pauli q b)).0 e in
    subst (MeasuredMarks u pauli q b) (sym (is-left u (measurement_of pauli q b) e))
    (record {
      within = (arguments u pauli q b P).below;
      marked = measured-marks u pauli q b P;
      word = measured-word u pauli q b P;
      code = measured-code u pauli q b P ∙ ap (λ s. 4 * (pauli - 1) + 2 * s) (sym (measured-bit u pauli q b P));
      outcome = measured-bit u pauli q b P;
    })
