-- What the two loops choose is the least choice that works; and where the first finds no class there is none.
use mathlib.Core.Bool.{Bool, false, false≢true, true}
use mathlib.Core.List.{List}
use mathlib.Core.Logic.{inl, inr, ◌⊎◌}
use mathlib.Core.Path.{ap, refl, subst, sym, ◌∙◌, ◌≡◌}
use Prim.Native.Nat.{◌+◌, ◌<◌, ◌≤◌, suc, zero, zero-le, ℕ}
use native.Mathlib.Nat.{le_antisymm, lt_of_lt_of_le, not-suc-le-zero}
use native.Mathlib.Numerals.{add-one}
use native.Mathlib.Omega.{arith}
use lib.ListN.{get_or, length, length-set, replicate}
use Rattle.clifford.specs.Clifford.{Clifford}
use Rattle.clifford.specs.Vectors.{codes_of}
use Rattle.pauli.specs.declared.Generator.{Generator}
use Rattle.stabilizer.specs.Carries.{Carries}
use Rattle.stabilizer.specs.Groups.{Proper}
use Rattle.comparison.proofs.ClassEquations.{class-equation, same-classes, same-signs}
use Rattle.comparison.proofs.FirstChoices.{none-chosen, one-chosen, one-fit}
use Rattle.comparison.proofs.KeyOrder.{keys-least}
use Rattle.comparison.proofs.Members.{carries-is}
use Rattle.comparison.proofs.NextChoice.{
  class-bare,
  class-codes,
  class-front,
  class-here,
  sign-class,
  sign-codes,
  sign-front,
  sign-here,
  zeros-bare,
  zeros-codes,
}
use Rattle.comparison.proofs.NumberOrder.{class_key-lt, sign_key-lt}
use Rattle.comparison.proofs.RecordElements.{carried-all, framed-proper}
use Rattle.comparison.proofs.SignExtension.{signs-kept, signs-send}
use Rattle.comparison.specs.Choices.{class_key, sign_key}
use Rattle.comparison.specs.internal.Equations.{
  Equation,
  Solves,
  Triangular,
  class_assignment,
  class_equation,
  fails,
  sign_assignment,
}
use Rattle.comparison.specs.internal.Searches.{
  SearchAnswered,
  ClassTable,
  ClassesAnswered,
  ClassesChosen,
  Extendable,
  FirstFit,
  SignTable,
  SignsChosen,
  with_class,
  with_signs,
}
use Rattle.comparison.specs.internal.Setting.{Codes, Setting, generators_of, no_generator}

-- ---- the loop over the classes
pub classes-begin : (n : ℕ) (table : List Equation) → ClassesChosen n table 0 (replicate 64 0)
classes-begin n table =
    record {
      upto = zero-le;
      long = refl;
      codes = zeros-codes 64;
      bare-codes = zeros-bare 64;
      chosen = none-chosen (class_assignment n) class_key table (codes_of (replicate 64 0));
    }

module _ (n : ℕ) (few : n ≤ 64) (table : List Equation) (T : Triangular table)
    (E : Extendable (class_assignment n) class_key 1 n table) (q : ℕ) (choice : List ℕ)
    (C : ClassesChosen n table q choice)
    (inside : q < n) (v : ℕ) (F : FirstFit (class_assignment n) table q (λ u. codes_of (with_class choice q u)) 6 v) where
  fits : q < length choice
  fits = subst (λ m. q < m) (sym C.long) (lt_of_lt_of_le inside few)

  pub classes-more : v < 6 → ClassesChosen n table (q + 1) (with_class choice q v)
  classes-more small =
      record {
        upto = rw add-one inside;
        long = length-set choice q _ ∙ C.long;
        codes = class-codes choice C.codes q v fits small;
        bare-codes = class-bare choice C.codes q v fits C.bare-codes;
        chosen = one-chosen (class_assignment n) class_key table T (same-classes n) q (codes_of choice)
            (λ u. codes_of (with_class choice q u)) 6 (λ u l. class-front choice C.codes q u fits)
            (λ u l. class-here choice C.codes q u fits l) v F small C.chosen;
      }

  abbrev Again : Type 0
  Again = (d : ℕ → Clifford) × ((u : ℕ) → u < q → class_key (d u) ≡ class_key (codes_of choice u))
      × Solves table (class_assignment n d)

  -- no class fits: there is no solution at all, for after the first qubit one would extend
  pub classes-none : 6 ≤ v → (found : Bool) → found ≡ false → ClassesAnswered n table found choice
  classes-none l found e =
      record {
        none = λ _ d s. missed (again q refl d s);
        some = λ p. absurd (false≢true (sym e ∙ p));
        codes = C.codes;
      }
    where
      again : (k : ℕ) → q ≡ k → (d : ℕ → Clifford) → Solves table (class_assignment n d) → Again
      again zero p d s = (d, (λ u m. absurd (not-suc-le-zero (subst (λ k. u < k) p m))), s)
      again (suc k) p d s =
          E (codes_of choice) q (omega (arith, p)) C.upto C.chosen.hold

      clash : v < 6 → ⊥
      clash m = omega (arith, l, m)

      missed : Again → ⊥
      missed a =
          clash (one-fit (class_assignment n) class_key table T (same-classes n) q (codes_of choice)
          (λ u. codes_of (with_class choice q u)) 6 (λ u l. class-front choice C.codes q u fits)
          (λ u l. class-here choice C.codes q u fits l) v F a.0 a.2 a.1 (class_key-lt (a.0 q)))

pub classes-end : (n : ℕ) (table : List Equation) (q : ℕ) (choice : List ℕ) → ClassesChosen n table q choice → n ≤ q
    → (found : Bool) → found ≡ true → ClassesAnswered n table found choice
classes-end n table q choice C l found e =
    record {
      none = λ p. absurd (false≢true (sym p ∙ e));
      some = λ _. subst (λ k. ClassesChosen n table k choice) (le_antisymm C.upto l) C;
      codes = C.codes;
    }

-- ---- the loop over the signs
pub signs-begin : (n : ℕ) (table : List Equation) (choice : List ℕ) → length choice ≡ 64 → Codes choice
    → SignsChosen n table choice 0 choice
signs-begin n table choice long codes =
    record {
      upto = zero-le;
      long = long;
      codes = codes;
      classes = λ i. refl;
      chosen = none-chosen (sign_assignment n) sign_key table (codes_of choice);
    }

module _ (n : ℕ) (few : n ≤ 64) (table : List Equation) (T : Triangular table)
    (E : Extendable (sign_assignment n) sign_key 0 n table) (start : List ℕ) (q : ℕ) (choice : List ℕ)
    (C : SignsChosen n table start q choice) (inside : q < n) (v : ℕ)
    (F : FirstFit (sign_assignment n) table q (λ u. codes_of (with_signs choice q u)) 4 v) where
  fits' : q < length choice
  fits' = subst (λ m. q < m) (sym C.long) (lt_of_lt_of_le inside few)

  -- there are signs that fit
  pub signs-fit : v < 4
  signs-fit =
      let X = E (codes_of choice) q zero-le C.upto C.chosen.hold in
      one-fit (sign_assignment n) sign_key table T (same-signs n) q (codes_of choice)
      (λ u. codes_of (with_signs choice q u)) 4 (λ u l. sign-front choice C.codes q u fits')
      (λ u l. sign-here choice C.codes q u fits' l) v F X.0 X.2 X.1 (sign_key-lt (X.0 q))

  pub signs-more : SignsChosen n table start (q + 1) (with_signs choice q v)
  signs-more =
      record {
        upto = rw add-one inside;
        long = length-set choice q _ ∙ C.long;
        codes = sign-codes choice C.codes q v fits' signs-fit;
        classes = λ i. sign-class choice C.codes q v fits' signs-fit i ∙ C.classes i;
        chosen = one-chosen (sign_assignment n) sign_key table T (same-signs n) q (codes_of choice)
            (λ u. codes_of (with_signs choice q u)) 4 (λ u l. sign-front choice C.codes q u fits')
            (λ u l. sign-here choice C.codes q u fits' l) v F signs-fit C.chosen;
      }

pub signs-end : (n : ℕ) (table : List Equation) (start : List ℕ) (q : ℕ) (choice : List ℕ)
    → SignsChosen n table start q choice → n ≤ q → SignsChosen n table start n choice
signs-end n table start q choice C l = subst (λ k. SignsChosen n table start k choice) (le_antisymm C.upto l) C

-- ---- the answer
module _ (n : ℕ) (first second : List Generator) (frame : List ℕ) (S : Setting n first second frame)
    (table : List Equation) (T : ClassTable n first second n 0 table) where
  proper : Proper n (generators_of second)
  proper = framed-proper n (generators_of second) _ S.framed

  abbrev Works : (ℕ → Clifford) → Type 0
  Works d = Carries n d (generators_of first) (generators_of second)

  classes-kept : (d : ℕ → Clifford) → Works d → Solves table (class_assignment n d)
  classes-kept d K = T.kept (class_assignment n d) (λ e a. go e a.0 a.1 a.2 a.3 a.4)
    where
      go : (e : Equation) (i j : ℕ) → j < n → (i < n) ⊎ ((i ≡ n) × (j < 0))
          → e ≡ class_equation (get_or first i no_generator) (get_or second j no_generator)
          → fails e (class_assignment n d) ≡ false
      go e i j l (inl k) p =
          ap (λ e. fails e (class_assignment n d)) p
          ∙ class-equation n (generators_of first) (generators_of second) S.proper proper d K i j k l
          (get_or first i no_generator) (get_or second j no_generator) refl refl
      go e i j l (inr k) p = absurd (not-suc-le-zero k.1)

  pub none-works : (found : Bool) (choice : List ℕ) → ClassesAnswered n table found choice → found ≡ false
      → SearchAnswered n Works false choice
  none-works found choice A e = record { search = λ d K. A.none e d (classes-kept d K); codes = A.codes }

  pub chosen-works : (classes : List ℕ) → ClassesChosen n table n classes → (signs : List Equation)
      → SignTable n first second (codes_of classes) n signs → (choice : List ℕ) → SignsChosen n signs classes n choice
      → SearchAnswered n Works true choice
  chosen-works classes A signs T' choice B =
      record {
        search = record {
          among = (carries-is n c (generators_of first) (generators_of second) S.proper.within proper.within).0
              (carried-all n (generators_of first) (generators_of second) S.proper proper c
              (signs-send n first second frame S (codes_of classes) signs T' c (λ q l. B.classes q) B.chosen.hold));
          least = λ d K. keys-least n c d
              (λ q l h. subst (λ m. m ≤ class_key (d q)) (sym (B.classes q))
              (A.chosen.least q l d (classes-kept d K) (λ u k. sym (h u k) ∙ B.classes u)))
              (λ e q l h. B.chosen.least q l d
              (signs-kept n first second frame S (codes_of classes) signs T' d K (λ u k. sym (e u k) ∙ B.classes u))
              (λ u k. sym (h u k)));
        };
        codes = B.codes;
      }
    where
      c : ℕ → Clifford
      c = codes_of choice
