-- The array of a choice with the class, or the signs, of one qubit put in.
use mathlib.Core.Bool.{false}
use mathlib.Core.List.{List}
use mathlib.Core.Logic.{◌≢◌}
use mathlib.Core.Path.{ap, refl, subst, sym, ◌∙◌, ◌≡◌}
use Prim.Native.Nat.{◌%◌, ◌*◌, ◌+◌, ◌/◌, ◌<◌, ℕ}
use native.Mathlib.Decide.{ℕ_discrete}
use native.Mathlib.Nat.{add-zero, ne_of_lt}
use native.Mathlib.Omega.{arith}
use lib.Dec.{eqb, lit<}
use lib.ListN.{get_or, length, replicate, set}
use lib.Seq.{get_or-set_other, get_or-set_same}
use Rattle.buffers.proofs.Mapping.{zeros, zeros-at}
use Rattle.clifford.specs.Clifford.{class_number, class_of, clifford_of}
use Rattle.clifford.specs.Vectors.{codes_of}
use Rattle.words.specs.Bits.{is_odd}
use Rattle.comparison.proofs.NumberOrder.{class-of-code, class_key-of-code, sign_key-of-code}
use Rattle.comparison.specs.Choices.{class_key, sign_key}
use Rattle.comparison.specs.internal.Searches.{with_class, with_signs}
use Rattle.comparison.specs.internal.Setting.{NoSigns, Codes, without_signs}

module _ (choice : List ℕ) (q k : ℕ) (long : q < length choice) where
  pub code_here : codes_of (set choice q k) q ≡ clifford_of k
  code_here = ap clifford_of (get_or-set_same choice q k 0 long)

  pub code_other : (i : ℕ) → i ≢ q → codes_of (set choice q k) i ≡ codes_of choice i
  code_other i o = ap clifford_of (get_or-set_other choice q i k 0 o)

  -- what holds of every code before, and of the new one
  pub at_set : (P : ℕ → Type 0) → ((i : ℕ) → P (get_or choice i 0)) → P k → (i : ℕ)
      → P (get_or (set choice q k) i 0)
  at_set P h p i = go (ℕ_discrete i q)
    where
      go : Dec (i ≡ q) → P (get_or (set choice q k) i 0)
      go (yes e) = subst P (sym (ap (λ j. get_or (set choice q k) j 0) e ∙ get_or-set_same choice q k 0 long)) p
      go (no o) = subst P (sym (get_or-set_other choice q i k 0 o)) (h i)

module _ (choice : List ℕ) (C : Codes choice) (q v : ℕ) (long : q < length choice) where
  -- ---- a class put in
  pub class-codes : v < 6 → Codes (with_class choice q v)
  class-codes l = at_set choice q (4 * v) long (λ k. k < 24) C (omega (arith, l))

  pub class-here : v < 6 → class_key (codes_of (with_class choice q v) q) ≡ v
  class-here l =
      ap class_key (code_here choice q (4 * v) long ∙ ap clifford_of (sym (add-zero (4 * v))))
      ∙ class_key-of-code v 0 (lit< tt) l

  pub class-front : (i : ℕ) → i < q
      → class_key (codes_of (with_class choice q v) i) ≡ class_key (codes_of choice i)
  class-front i l = ap class_key (code_other choice q (4 * v) long i (ne_of_lt l))

  pub class-bare : NoSigns choice → NoSigns (with_class choice q v)
  class-bare b =
      at_set choice q (4 * v) long (λ k. clifford_of k ≡ without_signs (clifford_of k)) b
      (λ i. record { class = class_of (4 * v / 4); sx = even-half i; sz = even i })
    where
      half : (k : ℕ) → 4 * k / 2 % 2 ≡ 0
      half k = omega arith

      whole : (k : ℕ) → 4 * k % 2 ≡ 0
      whole k = omega arith

      even-half : is_odd (4 * v / 2) ≡ false
      even-half = ap (λ r. eqb r 1) (half v)

      even : is_odd (4 * v) ≡ false
      even = ap (λ r. eqb r 1) (whole v)

  -- ---- signs put in
  pub sign-codes : v < 4 → Codes (with_signs choice q v)
  sign-codes l = at_set choice q (4 * (get_or choice q 0 / 4) + v) long (λ k. k < 24) C (omega (arith, l, C q))

  pub sign-here : v < 4 → sign_key (codes_of (with_signs choice q v) q) ≡ v
  sign-here l =
      ap sign_key (code_here choice q (4 * (get_or choice q 0 / 4) + v) long)
      ∙ sign_key-of-code (get_or choice q 0 / 4) v l

  pub sign-front : (i : ℕ) → i < q → sign_key (codes_of (with_signs choice q v) i) ≡ sign_key (codes_of choice i)
  sign-front i l = ap sign_key (code_other choice q (4 * (get_or choice q 0 / 4) + v) long i (ne_of_lt l))

  pub sign-class : v < 4 → (i : ℕ) → class_key (codes_of (with_signs choice q v) i) ≡ class_key (codes_of choice i)
  sign-class l i = go (ℕ_discrete i q)
    where
      go : Dec (i ≡ q) → class_key (codes_of (with_signs choice q v) i) ≡ class_key (codes_of choice i)
      go (yes e) =
          ap (λ j. class_key (codes_of (with_signs choice q v) j)) e
          ∙ ap class_key (code_here choice q (4 * (get_or choice q 0 / 4) + v) long)
          ∙ ap class_number (class-of-code (get_or choice q 0 / 4) v l)
          ∙ ap (λ j. class_key (codes_of choice j)) (sym e)
      go (no o) = ap class_key (code_other choice q (4 * (get_or choice q 0 / 4) + v) long i o)

-- ---- the array of codes 0
pub zeros-codes : (k : ℕ) → Codes (replicate k 0)
unfolding zeros
zeros-codes k q = subst (λ c. c < 24) (sym (zeros-at k q)) (lit< tt)

pub zeros-bare : (k : ℕ) → NoSigns (replicate k 0)
unfolding zeros
zeros-bare k q = subst (λ c. clifford_of c ≡ without_signs (clifford_of c)) (sym (zeros-at k q)) refl
