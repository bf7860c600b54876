-- The lines of records with used qubits, and of the calls on them, exactly: what it means that none of them holds.
use mathlib.Core.Bool.{Bool, false, true}
use mathlib.Core.Logic.{◌↔◌}
use mathlib.Core.Path.{◌≡◌, ◌∙◌, ap, refl, sym}
use Prim.Native.Nat.{◌*◌, ◌<◌, ◌^◌, suc, zero, ℕ}
use native.Mathlib.Omega.{arith}
use borrow.Author.Tests.{leb-false, lt-leb}
use Rattle.buffers.specs.Refusals.{first_fitting}
use Rattle.operations.specs.Steps.{complement_of, cz_on, gate_with, measurement_of, pivot_of}
use Rattle.record.specs.Accepted.{AcceptedRecord}
use Rattle.operations.proofs.LeftRecords.{all-good}
use Rattle.operations.proofs.UsedPassing.{lines-pass, used-passes}
use Rattle.operations.proofs.UsedRefusing.{edge-unused}
use Rattle.operations.proofs.UsedStaying.{used-code, used_low, used-word}
use Rattle.operations.specs.Used.{UsedRecord, used_code, used_lines, used_lines_of, used_stray, used_wrong}
use Rattle.words.proofs.Flags.{neither}
use Rattle.words.specs.Bits.{bit}
use Rattle.claims.proofs.InPlaceExactly.{
  argument-lines,
  complement-lines,
  cz-lines,
  gate-lines,
  measure-lines,
  pivot-lines,
}
use Rattle.claims.proofs.LinesExactly.{both-pass, record-exactly}
use Rattle.claims.specs.Arguments.{IsRecord}
use Rattle.claims.specs.families.Records.{ComplementFits, CzFits, GateFits, MeasureFits}
use Rattle.claims.specs.PivotSteps.{PivotFits}

-- one of the six codes
pub six-codes : (c i : ℕ) → i < 6 → c ≡ 2 * i → used_code c ≡ true
six-codes c i h e = ap used_code e ∙ go i h
  where
    go : (i : ℕ) → i < 6 → used_code (2 * i) ≡ true
    go zero h = refl
    go (suc zero) h = refl
    go (suc (suc zero)) h = refl
    go (suc (suc (suc zero))) h = refl
    go (suc (suc (suc (suc zero)))) h = refl
    go (suc (suc (suc (suc (suc zero))))) h = refl
    go (suc (suc (suc (suc (suc (suc i)))))) h = absurd (omega (arith, h))

module _ (u : UsedRecord) where
  -- the two tests of the used word
  pub record_of : AcceptedRecord u.held → used_stray u ≡ false → used_wrong u ≡ false → IsRecord u
  record_of A s w =
      record {
        held = A;
        below = leb-false (2 ^ u.held.n) u.used s;
        alone = λ q m. used-word u w s q m;
        codes = λ q m. let h = used_low _ (used-code u w s q m) in (h.0.0, h.0.1, sym h.1 ∙ h.0.2);
      }

  pub no_stray : IsRecord u → used_stray u ≡ false
  no_stray R = lt-leb (2 ^ u.held.n) u.used R.below

  pub none-wrong : IsRecord u → used_wrong u ≡ false
  none-wrong R = all-good u (λ q m. let c = R.codes q m in (R.alone q m, six-codes _ c.0 c.1 c.2))

  pub used-exactly : (others five six : Bool) → (first_fitting (used_lines u others five six) ≡ 0)
      ↔ (IsRecord u × (others ≡ false) × (five ≡ false) × (six ≡ false))
  used-exactly others five six = (
    (λ e. let h = (lines-pass u others five six).0 e in
        let k = (record-exactly u.held others six).0 h.0 in
        let f = neither (used_stray u) five h.1 in (record_of k.0 f.0 h.2, k.1, f.1, k.2)),
    (λ h. (lines-pass u others five six).1 (
      (record-exactly u.held others six).1 (h.0.held, h.1, h.3),
      both-pass (no_stray h.0) h.2,
      none-wrong h.0,
    )),
  )

  -- ---- calls in place
  pub used-gate : (q k : ℕ) → (first_fitting (used_lines_of u (gate_with q k)) ≡ 0) ↔ GateFits u q k
  used-gate q k = (
    (λ e. let P = (used-passes u (gate_with q k)).0 e in
        let h = (gate-lines u.held q k).0 P.as_before in
        (record_of h.0 P.no_stray P.none-wrong, (h.1, P.none_named), h.2)),
    (λ F. (used-passes u (gate_with q k)).1 (record {
      as_before = (gate-lines u.held q k).1 (F.0.held, F.1.0, F.2);
      no_stray = no_stray F.0;
      none-wrong = none-wrong F.0;
      none_named = F.1.1;
    })),
  )

  pub used-cz : (a b : ℕ) → (first_fitting (used_lines_of u (cz_on a b)) ≡ 0) ↔ CzFits u a b
  used-cz a b = (
    (λ e. let P = (used-passes u (cz_on a b)).0 e in
        let h = (cz-lines u.held a b).0 P.as_before in
        let f = neither (bit u.used a) (bit u.used b) P.none_named in
        (record_of h.0 P.no_stray P.none-wrong, (h.1, f.0), (h.2, f.1), h.3)),
    (λ F. (used-passes u (cz_on a b)).1 (record {
      as_before = (cz-lines u.held a b).1 (F.0.held, F.1.0, F.2.0, F.3);
      no_stray = no_stray F.0;
      none-wrong = none-wrong F.0;
      none_named = both-pass F.1.1 F.2.1;
    })),
  )

  pub used-complement : (a : ℕ) → (first_fitting (used_lines_of u (complement_of a)) ≡ 0) ↔ ComplementFits u a
  used-complement a = (
    (λ e. let P = (used-passes u (complement_of a)).0 e in
        let h = (complement-lines u.held a).0 P.as_before in
        (record_of h.0 P.no_stray P.none-wrong, (h.1, P.none_named))),
    (λ F. (used-passes u (complement_of a)).1 (record {
      as_before = (complement-lines u.held a).1 (F.0.held, F.1.0);
      no_stray = no_stray F.0;
      none-wrong = none-wrong F.0;
      none_named = F.1.1;
    })),
  )

  pub used-pivot : (j k : ℕ) → (first_fitting (used_lines_of u (pivot_of j k)) ≡ 0) ↔ PivotFits u j k
  used-pivot j k = (
    (λ e. let P = (used-passes u (pivot_of j k)).0 e in
        let h = (pivot-lines u.held j k).0 P.as_before in
        (record_of h.0 P.no_stray P.none-wrong, h.1, h.2, h.3)),
    (λ F. (used-passes u (pivot_of j k)).1 (record {
      as_before = (pivot-lines u.held j k).1 (F.0.held, F.1, F.2, F.3);
      no_stray = no_stray F.0;
      none-wrong = none-wrong F.0;
      none_named = edge-unused u F.0.held (no_stray F.0) (none-wrong F.0) j k F.3;
    })),
  )

  pub used-measure : (pauli q b : ℕ) → (first_fitting (used_lines_of u (measurement_of pauli q b)) ≡ 0)
      ↔ MeasureFits u pauli q b
  used-measure pauli q b = (
    (λ e. let P = (used-passes u (measurement_of pauli q b)).0 e in
        let m = (measure-lines u.held pauli q b).0 P.as_before in
        let h = (argument-lines u.held pauli q b).0 m.0 in
        record {
          held = record_of h.0 P.no_stray P.none-wrong;
          positive = h.1;
          upto = h.2;
          qubit = (h.3, P.none_named);
          bit = h.4;
          possible = m.1;
        }),
    (λ F. (used-passes u (measurement_of pauli q b)).1 (record {
      as_before = (measure-lines u.held pauli q b).1 (
        (argument-lines u.held pauli q b).1 (F.held.held, F.positive, F.upto, F.qubit.0, F.bit),
        F.possible,
      );
      no_stray = no_stray F.held;
      none-wrong = none-wrong F.held;
      none_named = F.qubit.1;
    })),
  )
