-- Reduction, the first pass: pivots over the columns of x bits in rising order. A column without a pivot
-- is a sum of earlier ones; the others are kept.
use mathlib.Core.Bool.{◌&&◌, Bool, and-false, false, false≢true, not, true, true≢false}
use mathlib.Core.Logic.Iff
use mathlib.Core.Logic.{inl, inr, ◌↔◌, ◌≢◌, ◌⊎◌}
use mathlib.Core.Path.{ap, refl, subst, sym, ◌∙◌, ◌≡◌}
use Prim.Native.Nat.{◌<◌, suc, zero, ℕ, ◌≤◌}
use native.Mathlib.Decide.{ℕ_discrete}
use native.Mathlib.Nat.{le_of_suc-le-suc, not-suc-le-zero}
use native.Mathlib.Omega.{arith}
use lib.Arith.{lt_of_le-ne}
use lib.Dec.{eqb}
use Rattle.pauli.specs.Pauli.{Pauli}
use Rattle.stabilizer.proofs.GroupLaws.{same_refl, same-trans}
use Rattle.stabilizer.proofs.Independence.{independent-pivot}
use Rattle.stabilizer.proofs.Products.{x-linear}
use Rattle.stabilizer.proofs.RowOperations.{pivot-column, pivot-commuting, pivot-keeps, pivot-same}
use Rattle.stabilizer.proofs.Within.{pivot-within}
use Rattle.stabilizer.specs.internal.Elimination.{pivot_on}
use Rattle.stabilizer.specs.Groups.{Commuting, Independent, SameGroup, Within}
use Rattle.words.proofs.Places.{other_place, parity-at, place-comm, put_other, put_same}
use Rattle.words.proofs.SearchLaws.{first-is}
use Rattle.words.proofs.Sums.{bit_monoid, fold-ext, fold-unit, last_or, lt-or-ge}
use Rattle.words.specs.Bits.{Word, parity, put, ◌⊕◌}
use Rattle.words.specs.Search.{first}
use Rattle.record.proofs.ColumnLaws.{dependent-same}
use Rattle.record.specs.Columns.{ColumnDependent}
use Rattle.record.specs.Reduced.{x_words}

-- ---- before column q: which columns are kept so far; row t is the pivot of kept column t
pub record FirstPass (n : ℕ) (input R : ℕ → Pauli) (kept : Word) (q : ℕ) : Type 0 where
  pub commuting : Commuting n n R
  pub within : (i : ℕ) → i < n → Within n (R i)
  pub same : SameGroup n n input R
  pub independent : Independent n input ↔ Independent n R
  -- a kept column has its one bit in its pivot
  pub pivots : (t : ℕ) → kept t ≡ true → (i : ℕ) → (R i).x t ≡ eqb i t
  -- a row that is no pivot has no x bit before q
  pub unused : (i : ℕ) → i < n → kept i ≡ false → (t : ℕ) → t < q → (R i).x t ≡ false
  pub ahead : (t : ℕ) → q ≤ t → kept t ≡ false
  pub kept-independent : (t : ℕ) → t < q → kept t ≡ true → ColumnDependent n (x_words input) t → ⊥
  pub others-dependent : (t : ℕ) → t < q → kept t ≡ false → ColumnDependent n (x_words input) t

-- ---- an unused row with the bit: not b && x
pub unused-not : (b x : Bool) → (not b && x) ≡ true → b ≡ false
unused-not false x e = refl
unused-not true x e = absurd (false≢true e)

pub unused-bit : (b x : Bool) → (not b && x) ≡ true → x ≡ true
unused-bit false x e = e
unused-bit true x e = absurd (false≢true e)

pub unused-none : (b x : Bool) → (not b && x) ≡ false → b ≡ false → x ≡ false
unused-none false x e h = e
unused-none true x e h = absurd (true≢false h)

pub not-both : {b : Bool} → b ≡ true → b ≡ false → ⊥
not-both p q = true≢false (sym p ∙ q)

pub first-start : (n : ℕ) (input : ℕ → Pauli) → Commuting n n input → ((i : ℕ) → i < n → Within n (input i))
    → FirstPass n input input (λ t. false) 0
first-start n input G W =
    record {
      commuting = G;
      within = W;
      same = same_refl;
      independent = (λ h. h, λ h. h);
      pivots = λ t e. absurd (false≢true e);
      unused = λ i k e t a. absurd (not-suc-le-zero a);
      ahead = λ t a. refl;
      kept-independent = λ t a. absurd (not-suc-le-zero a);
      others-dependent = λ t a. absurd (not-suc-le-zero a);
    }

module _ (n : ℕ) (input R : ℕ → Pauli) (kept : Word) (q : ℕ) (hq : q < n)
    (inv : FirstPass n input R kept q) where
  -- ---- no unused row has the bit: the column is a sum of earlier ones
  module _ (none : (i : ℕ) → i < n → (not (kept i) && (R i).x q) ≡ false) where
    coefficient : Word
    coefficient t = kept t && (R t).x q

    summed : (i : ℕ) → i < n → (R i).x q ≡ parity q (λ t. coefficient t && (R i).x t)
    unfolding coefficient
    summed i l = go (kept i) refl
      where
        term : (t : ℕ) (b : Bool) → kept t ≡ b
            → ((b && (R t).x q) && (R i).x t) ≡ ((b && (R t).x q) && eqb t i)
        term t false e = refl
        term t true e = ap (λ b. (R t).x q && b) (inv.pivots t e i ∙ place-comm i t)

        go : (b : Bool) → kept i ≡ b → (R i).x q ≡ parity q (λ t. coefficient t && (R i).x t)
        go false e = unused-none (kept i) ((R i).x q) (none i l) e
            ∙ sym (fold-unit false ◌⊕◌ bit_monoid q
            (λ t k. ap (λ b. coefficient t && b) (inv.unused i l e t k) ∙ and-false (coefficient t)))
        go true e = sym (fold-ext false ◌⊕◌ q (λ t k. term t (kept t) refl)
            ∙ parity-at q coefficient i (before (lt-or-ge i q)) ∙ ap (λ b. b && (R i).x q) e)
          where
            before : (i < q) ⊎ (q ≤ i) → i < q
            before (inl a) = a
            before (inr a) = absurd (not-both e (inv.ahead i a))

    pub first-pass-skip : FirstPass n input R kept (suc q)
    first-pass-skip =
        record {
          commuting = inv.commuting;
          within = inv.within;
          same = inv.same;
          independent = inv.independent;
          pivots = inv.pivots;
          unused = λ i l e t k. elim (last_or k) [
            | inl p ↦ ap (R i).x p
                ∙ unused-none (kept i) ((R i).x q) (none i l) e
            | inr a ↦ inv.unused i l e t a
          ];
          ahead = λ t a. inv.ahead t (omega arith);
          kept-independent = λ t k e D. elim (last_or k) [
            | inl p ↦ absurd (not-both e (inv.ahead t (omega (arith, p))))
            | inr a ↦ inv.kept-independent
                t a e D
          ];
          others-dependent = λ t k e. elim (last_or k) [
            | inl p ↦ subst (ColumnDependent n (x_words input)) (sym p)
                (dependent-same n R input inv.same.there q (coefficient, summed))
            | inr a ↦
                inv.others-dependent t a e
          ];
        }

  -- ---- an unused row i has it: a pivot
  module _ (i : ℕ) (hi : i < n) (e : (not (kept i) && (R i).x q) ≡ true) where
    i-unused : kept i ≡ false
    i-unused = unused-not (kept i) ((R i).x q) e

    has-x : (R i).x q ≡ true
    has-x = unused-bit (kept i) ((R i).x q) e

    q-unused : kept q ≡ false
    q-unused = inv.ahead q (omega arith)

    no-bit : (t : ℕ) → kept t ≡ true → (v : ℕ) → kept v ≡ false → (R v).x t ≡ false
    no-bit t a v b = inv.pivots t a v ∙ other_place (λ p. not-both a (ap kept (sym p) ∙ b))

    -- at column q, and at another
    at-or : (P : ℕ → Type 0) (t : ℕ) → P q → (t ≢ q → P t) → P t
    at-or P t a f = elim (ℕ_discrete t q) [ yes p ↦ subst P (sym p) a | no d ↦ f d ]

    keeps-x : (t : ℕ) → (R q).x t ≡ false → (R i).x t ≡ false → (j : ℕ)
        → (pivot_on n R q i j).x t ≡ (R j).x t
    keeps-x t = pivot-keeps n R q i hq hi has-x (λ p. p.x t) (x-linear n t)

    q-independent : ColumnDependent n (x_words input) q → ⊥
    q-independent D = not-both has-x (D'.1 i hi
        ∙ fold-unit false ◌⊕◌ bit_monoid q (λ u o. ap (λ b. D'.0 u && b) (inv.unused i hi i-unused u o)
        ∙ and-false (D'.0 u)))
      where
        D' : ColumnDependent n (x_words R) q
        D' = dependent-same n input R inv.same.back q D

    pub first-pass-pivot : FirstPass n input (pivot_on n R q i) (put kept q true) (suc q)
    first-pass-pivot =
        record {
          commuting = pivot-commuting n R q i hq hi has-x inv.commuting;
          within = pivot-within n R inv.within q i hq hi;
          same = same-trans inv.same (pivot-same n R q i hq hi has-x inv.commuting);
          independent = Iff.trans inv.independent (independent-pivot n R q i hq hi has-x inv.commuting);
          pivots = λ t. at-or (λ t. put kept q true t ≡ true → (j : ℕ) → (pivot_on n R q i j).x t ≡ eqb j t) t
              (λ a j. pivot-column n R q i hq hi has-x j)
              (λ d a j. let a' = sym (put_other kept q true t d) ∙ a in
              keeps-x t (no-bit t a' q q-unused) (no-bit t a' i i-unused) j ∙ inv.pivots t a' j);
          unused = λ j l a t k.
              let d : j ≢ q = λ p. not-both (put_same kept q true) (ap (put kept q true) (sym p) ∙ a) in
              let b : kept j ≡ false = sym (put_other kept q true j d) ∙ a in
              elim (last_or k) [
                | inl p ↦ ap (pivot_on n R q i j).x p ∙ pivot-column n R q i hq hi has-x j ∙ other_place d
                | inr o ↦ keeps-x t (inv.unused q hq q-unused t o) (inv.unused i hi i-unused t o) j
                    ∙ inv.unused j l b t o
              ];
          ahead = λ t a. put_other kept q true t (λ p. absurd (omega (arith, p)))
              ∙ inv.ahead t (omega arith);
          kept-independent = λ t. at-or (λ t. t < suc q → put kept q true t ≡ true
              → ColumnDependent n (x_words input) t → ⊥) t
              (λ k a. q-independent)
              (λ d k a. inv.kept-independent t (lt_of_le-ne (le_of_suc-le-suc k) d)
              (sym (put_other kept q true t d) ∙ a));
          others-dependent = λ t. at-or (λ t. t < suc q → put kept q true t ≡ false
              → ColumnDependent n (x_words input) t) t
              (λ k a. absurd (not-both (put_same kept q true) a))
              (λ d k a. inv.others-dependent t (lt_of_le-ne (le_of_suc-le-suc k) d)
              (sym (put_other kept q true t d) ∙ a));
        }

-- ---- the pass as a whole, up to column q
pub record AfterFirst (n : ℕ) (input : ℕ → Pauli) (q : ℕ) : Type 0 where
  pub rows : ℕ → Pauli
  pub kept : Word
  pub state : FirstPass n input rows kept q

pub first-pass : (n : ℕ) (input : ℕ → Pauli) → Commuting n n input → ((i : ℕ) → i < n → Within n (input i))
    → (q : ℕ)
    → q ≤ n → AfterFirst n input q
first-pass n input G W zero l = record { rows = input; kept = λ t. false; state = first-start n input G W }
first-pass n input G W (suc q) l = step (first-pass n input G W q (omega arith))
  where
    step : AfterFirst n input q → AfterFirst n input (suc q)
    step A = elim (first-is n (λ i. not (A.kept i) && (A.rows i).x q)) [
      | inl F ↦ record {
        rows = pivot_on n A.rows q found;
        kept = put A.kept q true;
        state = first-pass-pivot n input A.rows A.kept q l A.state found F.below F.passes;
      }
      | inr none ↦ record {
        rows = A.rows;
        kept = A.kept;
        state = first-pass-skip n input A.rows A.kept q l A.state none;
      }
    ]
      where
        found : ℕ
        found = first n (λ i. not (A.kept i) && (A.rows i).x q)
