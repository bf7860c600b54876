-- The codes of a reduced record are 0, 2, 4, 6, 8 and 10: Y never comes with a Hadamard. And no edge
-- joins two vertices with a Hadamard.
use mathlib.Core.Bool.{◌&&◌, Bool, and-false, cond, false, true, true≢false}
use mathlib.Core.Logic.{inl, inr, ◌⊎◌}
use mathlib.Core.Path.{ap, ap₂, refl, subst, sym, ◌∙◌, ◌≡◌}
use Prim.Native.Nat.{◌*◌, ◌<◌, suc, zero, ℕ, ◌≤◌}
use native.Mathlib.Nat.{not-suc-le-zero}
use native.Mathlib.Omega.{arith}
use lib.Dec.{eqb, lit<}
use borrow.Author.Tests.{le-ltb}
use Rattle.clifford.specs.Clifford.{code_of, image}
use Rattle.clifford.specs.Vectors.{act}
use Rattle.pauli.specs.Pauli.{Pauli, letter, sign_bit, x_bit}
use Rattle.stabilizer.proofs.GroupLaws.{in_row}
use Rattle.stabilizer.specs.Groups.{Proper}
use Rattle.words.proofs.Finite.{bits}
use Rattle.words.proofs.Places.{other_place, same_place}
use Rattle.words.proofs.Sums.{bit_monoid, fold-unit, last_or, lt-or-ge}
use Rattle.words.specs.Bits.{◌⊕◌}
use Rattle.record.proofs.ColumnLaws.{element-dependent}
use Rattle.record.proofs.ReducedRecords.{reduced-is}
use Rattle.record.specs.Columns.{ColumnDependent, is_column_dependent}
use Rattle.record.specs.Records.{GraphRecord, rows_of}
use Rattle.record.specs.Reduced.{
  ReductionOf,
  minuses_of,
  plain_code,
  reduced,
  reduced_code,
  reduced_row,
  with_hadamard,
  x_words,
  ys_of,
}

-- the x bit after a code: that of the plain code, or, after a Hadamard, its z bit
pub code-x : (h y s z x : Bool)
    → x_bit (image (with_hadamard h (plain_code y s)) (letter z x)) ≡ cond h (z ⊕ (x && y)) x
code-x = bits 5 (λ h y s z x. x_bit (image (with_hadamard h (plain_code y s)) (letter z x)))
    (λ h y s z x. cond h (z ⊕ (x && y)) x) tt

-- its number
code-number : (h y s : Bool) → (h && y) ≡ false → (i : ℕ) × (i < 6)
    × (code_of (with_hadamard h (plain_code y s)) ≡ 2 * i)
code-number false false false e = (0, lit< tt, refl)
code-number false false true e = (1, lit< tt, refl)
code-number false true false e = (2, lit< tt, refl)
code-number false true true e = (3, lit< tt, refl)
code-number true false false e = (4, lit< tt, refl)
code-number true false true e = (5, lit< tt, refl)
code-number true true s e = absurd (true≢false e)

module _ (n : ℕ) (rows : ℕ → Pauli) (r : GraphRecord) (R : ReductionOf n rows r) where
  -- ---- the generator of a vertex with a Hadamard
  module _ (j : ℕ) (l : j < n) (h : R.hadamards j ≡ true) where
    generator-x : (q : ℕ)
        → (rows_of n r j).x q ≡ cond (R.hadamards q) (r.graph j q ⊕ (eqb q j && R.ys q)) (eqb q j)
    unfolding act
    generator-x q = ap (λ k. x_bit (image k (letter (r.graph j q) (eqb q j)))) (R.code q)
        ∙ code-x (R.hadamards q) (R.ys q) (R.minuses q) (r.graph j q) (eqb q j)

    -- it has no x bit at a kept qubit, and x bits elsewhere are sums of earlier ones: it has none
    no-x : (b q : ℕ) → q < b → q < n → (rows_of n r j).x q ≡ false
    no-x zero q k m = absurd (not-suc-le-zero k)
    no-x (suc b) q k m = go (no-x b) (last_or k) (R.hadamards q) refl
      where
        go : ((t : ℕ) → t < b → t < n → (rows_of n r j).x t ≡ false) → (q ≡ b) ⊎ (q < b) → (v : Bool)
            → R.hadamards q ≡ v → (rows_of n r j).x q ≡ false
        go ih (inr o) v e = ih q o m
        go ih (inl p) false e = generator-x q
            ∙ ap (λ v. cond v (r.graph j q ⊕ (eqb q j && R.ys q)) (eqb q j)) e
            ∙ other_place (λ w. true≢false (sym h ∙ ap R.hadamards (sym w) ∙ e))
        go ih (inl p) true e =
            element-dependent n rows q D (rows_of n r j)
            (R.group.back (rows_of n r j) (in_row n n (rows_of n r) j l))
            ∙ fold-unit false ◌⊕◌ bit_monoid q
            (λ t o. ap (λ v. D.0 t && v) (ih t (omega (arith, p)) (omega arith)) ∙ and-false (D.0 t))
          where
            D : ColumnDependent n (x_words rows) q
            D = (R.rotated q m).0 e

    place-x : (q : ℕ) → q < n → R.hadamards q ≡ true → r.graph j q ⊕ (eqb q j && R.ys q) ≡ false
    place-x q m e = sym (generator-x q ∙ ap (λ v. cond v (r.graph j q ⊕ (eqb q j && R.ys q)) (eqb q j)) e)
        ∙ no-x n q m m

    pub hadamard-no-y : R.ys j ≡ false
    hadamard-no-y = sym (ap₂ (λ a b. a ⊕ (b && R.ys j)) (R.simple.loopless j) (same_place j))
        ∙ place-x j l h

  -- ---- the codes
  pub codes-among : (q : ℕ) → (i : ℕ) × (i < 6) × (code_of (r.codes q) ≡ 2 * i)
  codes-among q = subst (λ k. (i : ℕ) × (i < 6) × (code_of k ≡ 2 * i)) (sym (R.code q))
      (code-number (R.hadamards q) (R.ys q) (R.minuses q) (go (lt-or-ge q n) (R.hadamards q) refl))
    where
      go : (q < n) ⊎ (n ≤ q) → (v : Bool) → R.hadamards q ≡ v → (v && R.ys q) ≡ false
      go c false e = refl
      go (inl l) true e = hadamard-no-y q l e
      go (inr l) true e = (R.above q l).1

-- ---- the reduced record's: 2 · i with i below 6; and 0 at and above n
pub reduced-codes-among : (n : ℕ) (rows : ℕ → Pauli) → Proper n rows → (q : ℕ)
    → (i : ℕ) × (i < 6) × (code_of (reduced_code n rows q) ≡ 2 * i)
reduced-codes-among n rows P = codes-among n rows (reduced n rows) (reduced-is n rows P)

pub reduced-code-above : (n : ℕ) (rows : ℕ → Pauli) (q : ℕ) → n ≤ q → code_of (reduced_code n rows q) ≡ 0
unfolding ys_of minuses_of
reduced-code-above n rows q l =
    ap (λ b. code_of (with_hadamard (b && is_column_dependent n (x_words rows) q)
    (plain_code (b && (reduced_row n rows q).z q) (b && sign_bit (reduced_row n rows q).phase))))
    (le-ltb q n l)
