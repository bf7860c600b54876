-- A sign moved in the buffers of a record: the group stays, and the record is nearer to the reduced form.
use mathlib.Core.Bool.{cond, false}
use mathlib.Core.List.{List}
use mathlib.Core.Path.{ap, ap₂, subst, sym, ◌∙◌, ◌≡◌}
use Prim.Native.Nat.{◌<◌, ℕ, ◌≤◌}
use native.Mathlib.Decide.{ℕ_discrete}
use native.Mathlib.Omega.{arith}
use lib.Dec.{eqb}
use lib.ListN.{get_or, length}
use Rattle.buffers.proofs.Tabulate.{tabulate-cong}
use Rattle.buffers.specs.Buffers.{tabulate}
use Rattle.clifford.proofs.CliffordLaws.{cliffords}
use Rattle.clifford.specs.Clifford.{clifford_of, code_of, identity_clifford, then}
use Rattle.clifford.specs.Vectors.{codes_of}
use Rattle.record.specs.Graph.{Simple}
use Rattle.operations.proofs.Keeping.{held-words, rewritten-nearer}
use Rattle.operations.proofs.Places.{z-before}
use Rattle.operations.proofs.SignsMoved.{sign-moved-row}
use Rattle.operations.specs.internal.KeptGroups.{Nearer}
use Rattle.operations.specs.internal.Settling.{distance}
use Rattle.operations.specs.internal.GraphSteps.{pauli_code, sign_moved}
use Rattle.operations.proofs.UnrefusedRecords.{unrefused-above, unrefused-simple}
use Rattle.operations.specs.internal.InPlace.{Rewritten, Unrefused, record_in}
use Rattle.record.specs.Lent.{held_record}
use Rattle.record.specs.Records.{GraphRecord, rows_of}
use Rattle.stabilizer.proofs.EqualRows.{same-group-equal}
use Rattle.words.proofs.Places.{other_place, same_place}
use Rattle.words.specs.Bits.{bit}

module _ (words codes : List ℕ) (U : Unrefused (record_in words codes)) (a : ℕ) (ha : a < length words) where
  abbrev n : ℕ
  n = length words

  abbrev r : GraphRecord
  r = held_record (record_in words codes)

  simple : Simple (length words) (held_record (record_in words codes)).graph
  simple = unrefused-simple words codes U

  pub sign-written : (codes' : List ℕ) → codes' ≡ tabulate (length words) (λ q. code_of (cond (eqb q a)
      (then (clifford_of 1) (codes_of codes q)) (cond (bit (get_or words a 0) q) (then (clifford_of 2) (codes_of codes q))
      (codes_of codes q)))) → Rewritten words codes (λ g. sign_moved g a) words codes'
  sign-written codes' e =
      record {
        neighbours = held-words words codes U;
        numbers = e ∙ tabulate-cong n _ _ (λ q l. ap code_of (place q (ℕ_discrete q a)));
      }
    where
      place : (q : ℕ) → Dec (q ≡ a) → cond (eqb q a) (then (clifford_of 1) (codes_of codes q))
          (cond (bit (get_or words a 0) q) (then (clifford_of 2) (codes_of codes q)) (codes_of codes q))
          ≡ then (pauli_code (eqb q a) (r.graph a q)) (codes_of codes q)
      place q (no d) =
          ap (λ b. cond b (then (clifford_of 1) (codes_of codes q))
          (cond (r.graph a q) (then (clifford_of 2) (codes_of codes q)) (codes_of codes q))) (other_place d)
          ∙ z-before (r.graph a q) (codes_of codes q)
          ∙ ap (λ b. then (pauli_code b (r.graph a q)) (codes_of codes q)) (sym (other_place d))
      place q (yes d) =
          subst (λ m. cond (eqb m a) (then (clifford_of 1) (codes_of codes m))
          (cond (r.graph a m) (then (clifford_of 2) (codes_of codes m)) (codes_of codes m))
          ≡ then (pauli_code (eqb m a) (r.graph a m)) (codes_of codes m)) (sym d)
          (ap (λ b. cond b (then (clifford_of 1) (codes_of codes a))
          (cond (r.graph a a) (then (clifford_of 2) (codes_of codes a)) (codes_of codes a))) (same_place a)
          ∙ ap₂ (λ b v. then (pauli_code b v) (codes_of codes a)) (sym (same_place a)) (sym (simple.loopless a)))

  moved-above : (q : ℕ) → n ≤ q → (sign_moved r a).codes q ≡ identity_clifford
  moved-above q l =
      ap₂ (λ u v. then (pauli_code u v) (r.codes q)) (other_place {i = q} {j = a} (λ e. absurd (omega (arith, e))))
      (simple.below a q l)
      ∙ ap (then (pauli_code false false)) (unrefused-above words codes U q l)
      ∙ cliffords 0 (then (pauli_code false false) identity_clifford) identity_clifford tt

  pub sign-nearer : (codes' : List ℕ) → Rewritten words codes (λ g. sign_moved g a) words codes'
      → distance (length words) (sign_moved (held_record (record_in words codes)) a)
      < distance (length words) (held_record (record_in words codes)) → Nearer words codes words codes'
  sign-nearer codes' R = rewritten-nearer words codes U (λ g. sign_moved g a) words codes' R simple moved-above
      (same-group-equal n (rows_of n r) (rows_of n (sign_moved r a))
      (λ j l. sym (sign-moved-row n r simple a ha j l)))
