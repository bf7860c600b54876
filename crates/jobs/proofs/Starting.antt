-- The record that a job starts from: no line refuses it, its generators are Z at each qubit, and so it stands for the
-- group in which all qubits are in +Z.
use mathlib.Core.Bool.{Bool, cond, false, true}
use mathlib.Core.Path.{◌∙◌, ◌≡◌, ap, ap₂, refl, subst, sym}
use Prim.Native.Nat.{◌*◌, ◌+◌, ◌<◌, ◌≤◌, suc, zero, ℕ}
use lib.Dec.{eqb, ltb}
use lib.ListN.{get_or-replicate, length-replicate, replicate}
use borrow.Author.Tests.{eqb-true, le-ltb, lt-ltb}
use Rattle.buffers.proofs.Tabulate.{tabulate-is}
use Rattle.buffers.specs.Refusals.{first_fitting}
use Rattle.clifford.specs.Clifford.{clifford_of, code_of, identity_clifford, image, image_phase}
use Rattle.clifford.specs.Vectors.{act}
use Rattle.record.specs.Graph.{Simple}
use Rattle.operations.specs.Cz.{z_at}
use Rattle.pauli.proofs.PhaseLaws.{phase_monoid}
use Rattle.pauli.specs.Pauli.{◌+ᵖ◌, i⁰, letter, x_bit, z_bit}
use Rattle.record.proofs.WrittenRecords.{record-passes, record-rows-back, written_record}
use Rattle.record.specs.Lent.{held_rows, lent_record, record_lines}
use Rattle.record.specs.Records.{GraphRecord, rows_of}
use Rattle.stabilizer.proofs.EqualRows.{same-group-equal}
use Rattle.operations.proofs.UsedPassing.{unused-passes}
use Rattle.operations.specs.Used.{used_lines}
use Rattle.words.proofs.Sums.{fold-unit}
use Rattle.words.specs.Bits.{word_of}
use Rattle.jobs.specs.GroupsAfter.{StartGroup}
use Rattle.jobs.specs.Runs.{started}
use Rattle.jobs.specs.Standing.{StandsFor}

module _ (n : ℕ) where
  -- code 8 below n, and no edge
  abbrev plus_z : GraphRecord
  plus_z = record { graph = λ i j. false; codes = λ q. cond (ltb q n) (clifford_of 8) identity_clifford }

  no_bits : (m : ℕ) → word_of m (λ q. false) ≡ 0
  unfolding word_of
  no_bits zero = refl
  no_bits (suc m) = ap (λ w. w * 2 + 0) (no_bits m)

  eights : (q : ℕ) → q < n → code_of (cond (ltb q n) (clifford_of 8) identity_clifford) ≡ 8
  eights q l = ap (λ b. code_of (cond b (clifford_of 8) identity_clifford)) (lt-ltb q n l)

  simple : Simple n (λ i j. false)
  simple = record { symmetric = λ i j. refl; loopless = λ i. refl; below = λ i q l. refl }

  above : (q : ℕ) → n ≤ q → cond (ltb q n) (clifford_of 8) identity_clifford ≡ identity_clifford
  above q l = ap (λ b. cond b (clifford_of 8) identity_clifford) (le-ltb q n l)

  is-written : (started n).held ≡ written_record n plus_z
  is-written = ap₂ (λ nb cs. lent_record n nb cs)
      (tabulate-is n _ (replicate n 0) (length-replicate n 0)
      (λ i l. get_or-replicate n i 0 0 l ∙ sym (no_bits n)))
      (tabulate-is n _ (replicate n 8) (length-replicate n 8)
      (λ i l. get_or-replicate n i 8 0 l ∙ sym (eights i l)))

  started-passes : 1 ≤ n → n ≤ 64 → first_fitting (used_lines (started n) false false false) ≡ 0
  started-passes positive upto = unused-passes (started n).held false false
      (ap (λ l. first_fitting (record_lines l false false)) is-written
      ∙ record-passes n plus_z simple above positive upto)

  -- ---- generators
  -- a place of X at j alone, by whether it lies below n and is j
  no-phase : (b e : Bool) → image_phase (cond b (clifford_of 8) identity_clifford) (letter false e) ≡ i⁰
  no-phase true true = refl
  no-phase true false = refl
  no-phase false true = refl
  no-phase false false = refl

  a_z : (b e : Bool) → (e ≡ true → b ≡ true)
      → z_bit (image (cond b (clifford_of 8) identity_clifford) (letter false e)) ≡ e
  a_z true true h = refl
  a_z true false h = refl
  a_z false true h = h refl
  a_z false false h = refl

  no-x : (b e : Bool) → (e ≡ true → b ≡ true)
      → x_bit (image (cond b (clifford_of 8) identity_clifford) (letter false e)) ≡ false
  no-x true true h = refl
  no-x true false h = refl
  no-x false true h = sym (h refl)
  no-x false false h = refl

  plus-z : (j : ℕ) → j < n → rows_of n plus_z j ≡ z_at j
  unfolding act
  plus-z j l = λ i. record {
    phase = fold-unit i⁰ ◌+ᵖ◌ phase_monoid n {f = λ q. image_phase (cond (ltb q n) (clifford_of 8) identity_clifford)
        (letter false (eqb q j))} (λ q k. no-phase (ltb q n) (eqb q j)) i;
    z = λ q. a_z (ltb q n) (eqb q j) (inside q) i;
    x = λ q. no-x (ltb q n) (eqb q j) (inside q) i;
  }
    where
      inside : (q : ℕ) → eqb q j ≡ true → ltb q n ≡ true
      inside q e = lt-ltb q n (subst (λ k. k < n) (sym (eqb-true q j e)) l)

  started-rows : (j : ℕ) → j < n → held_rows (started n).held j ≡ z_at j
  started-rows j l = ap (λ r. held_rows r j) is-written ∙ record-rows-back n plus_z simple above j ∙ plus-z j l

  -- "All qubits start in +Z"
  pub started-stands : 1 ≤ n → n ≤ 64 → StandsFor (started n) (StartGroup n)
  started-stands positive upto =
      record {
        still = started-passes positive upto;
        elements = λ p. (
          (λ h. (same-group-equal n (held_rows (started n).held) z_at started-rows).there p h),
          (λ h. (same-group-equal n (held_rows (started n).held) z_at started-rows).back p h),
        );
      }
