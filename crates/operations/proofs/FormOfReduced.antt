-- The reduced record of a list is of reduced form: low even codes, and a vertex with a Hadamard has smaller neighbours
-- only.
use mathlib.Core.Bool.{◌&&◌, Bool, and-false, cond, false, true, true≢false}
use mathlib.Core.Logic.{◌⊎◌, inl, inr}
use mathlib.Core.Path.{◌∙◌, ◌≡◌, ap, refl, subst, sym}
use Prim.Native.Nat.{◌<◌, suc, zero, ℕ}
use native.Mathlib.Decide.{ℕ_discrete}
use native.Mathlib.Nat.{not-suc-le-zero}
use native.Mathlib.Omega.{arith}
use lib.Dec.{eqb}
use Rattle.clifford.specs.Clifford.{bit_c, image}
use Rattle.clifford.specs.Vectors.{act}
use Rattle.pauli.specs.Pauli.{Pauli, letter, x_bit}
use Rattle.record.proofs.ColumnLaws.{element-dependent}
use Rattle.record.proofs.ReducedCodes.{code-x, reduced-codes-among}
use Rattle.record.proofs.ReducedRecords.{reduced-is}
use Rattle.record.proofs.Unique.{record-path}
use Rattle.record.proofs.WrittenRecords.{reduced-back, reduced-identity-above, written_record}
use Rattle.record.specs.Columns.{ColumnDependent}
use Rattle.record.specs.Lent.{held_record}
use Rattle.record.specs.Records.{GraphRecord, rows_of}
use Rattle.record.specs.Reduced.{ReductionOf, plain_code, reduced, with_hadamard, x_words}
use Rattle.stabilizer.proofs.GroupLaws.{in_row}
use Rattle.stabilizer.specs.Groups.{Proper}
use Rattle.words.proofs.Finite.{bits, ⊕-zero}
use Rattle.words.proofs.Places.{other_place}
use Rattle.words.proofs.Sums.{bit_monoid, fold-unit, last_or, lt-or-ge}
use Rattle.words.specs.Bits.{◌⊕◌}
use Rattle.operations.specs.internal.ReducedForms.{ReducedForm}

-- codes of a reduced record: the sign of Z, and C
code-even : (h y s : Bool) → (with_hadamard h (plain_code y s)).sz ≡ false
code-even = bits 3 (λ h y s. (with_hadamard h (plain_code y s)).sz) (λ h y s. false) tt

code-c : (h y s : Bool) → bit_c (with_hadamard h (plain_code y s)) ≡ h
code-c = bits 3 (λ h y s. bit_c (with_hadamard h (plain_code y s))) (λ h y s. h) tt

-- C is 1 where a Hadamard is used
pub code-c-of : (n : ℕ) (rows : ℕ → Pauli) (r : GraphRecord) (D : ReductionOf n rows r) (q : ℕ)
    → bit_c (r.codes q) ≡ D.hadamards q
code-c-of n rows r D q = ap bit_c (D.code q) ∙ code-c (D.hadamards q) (D.ys q) (D.minuses q)

module _ (n : ℕ) (rows : ℕ → Pauli) (P : Proper n rows) where
  abbrev r : GraphRecord
  r = reduced n rows

  D : ReductionOf n rows r
  D = reduced-is n rows P

  rotated-x : (j q : ℕ) → D.hadamards q ≡ true → (j ≡ q → ⊥) → (rows_of n r j).x q ≡ r.graph j q
  unfolding act
  rotated-x j q h d =
      ap (λ k. x_bit (image k (letter (r.graph j q) (eqb q j)))) (D.code q)
      ∙ code-x (D.hadamards q) (D.ys q) (D.minuses q) (r.graph j q) (eqb q j)
      ∙ ap (λ v. cond v (r.graph j q ⊕ (eqb q j && D.ys q)) (eqb q j)) h
      ∙ ap (λ e. r.graph j q ⊕ (e && D.ys q)) (other_place (λ e. d (sym e))) ∙ ⊕-zero (r.graph j q)

  kept-x : (j q : ℕ) → D.hadamards q ≡ false → (rows_of n r j).x q ≡ eqb q j
  unfolding act
  kept-x j q h =
      ap (λ k. x_bit (image k (letter (r.graph j q) (eqb q j)))) (D.code q)
      ∙ code-x (D.hadamards q) (D.ys q) (D.minuses q) (r.graph j q) (eqb q j)
      ∙ ap (λ v. cond v (r.graph j q ⊕ (eqb q j && D.ys q)) (eqb q j)) h

  -- a vertex with a Hadamard has no larger neighbour: its column is a sum of earlier ones, and these do not have the
  -- bit
  no-larger : (b q : ℕ) → q < b → q < n → D.hadamards q ≡ true → (j : ℕ) → q < j → j < n → r.graph q j ≡ false
  no-larger zero q k m h j l jn = absurd (not-suc-le-zero k)
  no-larger (suc b) q k m h j l jn = go (no-larger b) (last_or k)
    where
      sum : ColumnDependent n (x_words rows) q
      sum = (D.rotated q m).0 h

      go : ((t : ℕ) → t < b → t < n → D.hadamards t ≡ true → (j : ℕ) → t < j → j < n → r.graph t j ≡ false)
          → (q ≡ b) ⊎ (q < b) → r.graph q j ≡ false
      go ih (inr o) = ih q o m h j l jn
      go ih (inl p) =
          D.simple.symmetric q j ∙ sym (rotated-x j q h (λ e. absurd (omega (arith, e))))
          ∙ element-dependent n rows q sum (rows_of n r j)
          (D.group.back (rows_of n r j) (in_row n n (rows_of n r) j jn))
          ∙ fold-unit false ◌⊕◌ bit_monoid q
          (λ t o. ap (λ v. sum.0 t && v) (earlier t o (D.hadamards t) refl) ∙ and-false (sum.0 t))
        where
          earlier : (t : ℕ) → t < q → (v : Bool) → D.hadamards t ≡ v → (rows_of n r j).x t ≡ false
          earlier t o false e = kept-x j t e ∙ other_place {i = t} {j = j} (λ e. absurd (omega (arith, e)))
          earlier t o true e = rotated-x j t e (λ e. absurd (omega (arith, e))) ∙ D.simple.symmetric j t
              ∙ ih t (omega (arith, p)) (omega arith) e j (omega arith) jn

  pub form-of-reduced : ReducedForm n (reduced n rows)
  form-of-reduced =
      record {
        low = λ q l. let a = reduced-codes-among n rows P q in omega (arith, a.1, a.2);
        even = λ q l. ap (λ k. k.sz) (D.code q) ∙ code-even (D.hadamards q) (D.ys q) (D.minuses q);
        smaller = λ q j l c e. smaller q j l
            (sym (code-c-of n rows r D q) ∙ c) e;
        above = reduced-identity-above n rows P;
      }
    where
      smaller : (q j : ℕ) → q < n → D.hadamards q ≡ true → r.graph q j ≡ true → j < q
      smaller q j l h e = elim (lt-or-ge j q) [
        | inl k ↦ k
        | inr k ↦ elim (lt-or-ge j n) [
          | inr m ↦ absurd (true≢false (sym e ∙ D.simple.below q j m))
          | inl m ↦ elim (ℕ_discrete j q) [
            | yes d ↦ absurd (true≢false (sym e ∙ ap (r.graph q) d ∙ D.simple.loopless q))
            | no d ↦ absurd (true≢false (sym e ∙ no-larger n q l l h j (omega (arith, d)) m))
          ]
        ]
      ]

  -- so is what the buffers hold where it is written
  pub written-form : ReducedForm n (held_record (written_record n (reduced n rows)))
  written-form = subst (ReducedForm n)
      (sym (record-path (held_record (written_record n r)) r (reduced-back n rows P))) form-of-reduced
