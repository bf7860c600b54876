-- Reduction, the second pass: Hadamards on the columns that were not kept, and pivots there too. A row
-- that is no pivot after it has lost all its letters.
use mathlib.Core.Bool.{◌&&◌, Bool, and-false, cond, false, not, true}
use mathlib.Core.Logic.Iff
use mathlib.Core.Logic.{inl, inr, ◌↔◌, ◌≢◌}
use mathlib.Core.Path.{ap, ap₂, refl, sym, ◌∙◌, ◌≡◌}
use Prim.Native.Nat.{◌<◌, suc, zero, ℕ, ◌≤◌}
use native.Mathlib.Decide.{ℕ_discrete}
use native.Mathlib.Nat.{not-suc-le-zero}
use native.Mathlib.Omega.{arith}
use lib.Dec.{eqb, ltb}
use borrow.Author.Tests.{lt-ltb}
use Rattle.clifford.specs.Clifford.{Clifford, clifford_of, identity_clifford, image}
use Rattle.clifford.specs.Vectors.{act}
use Rattle.pauli.specs.Pauli.{Pauli, letter, x_bit, z_bit}
use Rattle.stabilizer.proofs.Carried.{act-commuting}
use Rattle.stabilizer.proofs.GroupLaws.{same_refl, same-trans}
use Rattle.stabilizer.proofs.Independence.{independent-pivot}
use Rattle.stabilizer.proofs.Products.{Linear, anticommute-form, x-linear, z-linear}
use Rattle.stabilizer.proofs.RowOperations.{pivot-column, pivot-commuting, pivot-keeps, pivot-same}
use Rattle.stabilizer.proofs.Within.{act-within, pivot-within}
use Rattle.stabilizer.specs.internal.Elimination.{pivot_on}
use Rattle.stabilizer.specs.Groups.{Commuting, Independent, SameGroup, Trivial, Within}
use Rattle.words.proofs.Finite.{bits, ⊕-zero}
use Rattle.words.proofs.Places.{other_place, parity-at, place-comm, put_other, put_same}
use Rattle.words.proofs.SearchLaws.{first-is}
use Rattle.words.proofs.Sums.{bit_monoid, fold-ext, fold-unit, last_or}
use Rattle.words.specs.Bits.{Word, parity, put, ◌⊕◌}
use Rattle.words.specs.Search.{first}
use Rattle.record.proofs.FirstPass.{FirstPass, not-both, unused-bit, unused-none, unused-not}
use Rattle.record.specs.Reduced.{hadamard_where}

-- the columns below n without a pivot
abbrev pub failed : ℕ → Word → Word
failed n kept q = ltb q n && not (kept q)

-- ---- before column q: row t is the pivot of each column t that has one; the kept columns have theirs
pub record SecondPass (n : ℕ) (rotated R : ℕ → Pauli) (kept pivoted : Word) (q : ℕ) : Type 0 where
  pub commuting : Commuting n n R
  pub within : (i : ℕ) → i < n → Within n (R i)
  pub same : SameGroup n n rotated R
  pub independent : Independent n rotated ↔ Independent n R
  pub pivots : (t : ℕ) → pivoted t ≡ true → (i : ℕ) → (R i).x t ≡ eqb i t
  -- a row that is no pivot has no x bit before q, and no z bit where the first pass failed
  pub unused : (i : ℕ) → i < n → pivoted i ≡ false → (t : ℕ) → t < q → (R i).x t ≡ false
  pub no-z : (i : ℕ) → i < n → pivoted i ≡ false → (t : ℕ) → t < n → kept t ≡ false → (R i).z t ≡ false
  pub holds : (t : ℕ) → kept t ≡ true → pivoted t ≡ true

module _ (n : ℕ) (rotated R : ℕ → Pauli) (kept pivoted : Word) (q : ℕ) (hq : q < n)
    (inv : SecondPass n rotated R kept pivoted q) where
  no-bit : (t : ℕ) → pivoted t ≡ true → (v : ℕ) → pivoted v ≡ false → (R v).x t ≡ false
  no-bit t a v b = inv.pivots t a v ∙ other_place (λ p. not-both a (ap pivoted (sym p) ∙ b))

  -- no unused row has the bit
  pub second-pass-skip : ((i : ℕ) → i < n → (not (pivoted i) && (R i).x q) ≡ false)
      → SecondPass n rotated R kept pivoted (suc q)
  second-pass-skip none =
      record {
        commuting = inv.commuting;
        within = inv.within;
        same = inv.same;
        independent = inv.independent;
        pivots = inv.pivots;
        unused = λ i l e t k. elim (last_or k) [
          | inl p ↦ ap (R i).x p
              ∙ unused-none (pivoted i) ((R i).x q) (none i l) e
          | inr a ↦ inv.unused i l e t a
        ];
        no-z = inv.no-z;
        holds = inv.holds;
      }

  -- the column has its pivot already
  pub second-pass-pivoted : pivoted q ≡ true → SecondPass n rotated R kept pivoted (suc q)
  second-pass-pivoted e = second-pass-skip (λ i l. go i (pivoted i) refl)
    where
      go : (i : ℕ) (b : Bool) → pivoted i ≡ b → (not b && (R i).x q) ≡ false
      go i true a = refl
      go i false a = no-bit q e i a

  -- an unused row i has the bit: a pivot
  module _ (i : ℕ) (hi : i < n) (e : (not (pivoted i) && (R i).x q) ≡ true) where
    i-unused : pivoted i ≡ false
    i-unused = unused-not (pivoted i) ((R i).x q) e

    has-x : (R i).x q ≡ true
    has-x = unused-bit (pivoted i) ((R i).x q) e

    q-unused : pivoted q ≡ false
    q-unused = go (pivoted q) refl
      where
        go : (b : Bool) → pivoted q ≡ b → pivoted q ≡ false
        go false a = a
        go true a = absurd (not-both has-x (no-bit q a i i-unused))

    keeps : (f : Pauli → Bool) → Linear n f → f (R q) ≡ false → f (R i) ≡ false → (j : ℕ)
        → f (pivot_on n R q i j) ≡ f (R j)
    keeps = pivot-keeps n R q i hq hi has-x

    other : (j : ℕ) → put pivoted q true j ≡ false → (j ≢ q) × (pivoted j ≡ false)
    other j a = let d : j ≢ q =
        λ p. not-both (put_same pivoted q true) (ap (put pivoted q true) (sym p) ∙ a) in
        (d, sym (put_other pivoted q true j d) ∙ a)

    pub second-pass-pivot : SecondPass n rotated (pivot_on n R q i) kept (put pivoted q true) (suc q)
    second-pass-pivot =
        record {
          commuting = pivot-commuting n R q i hq hi has-x inv.commuting;
          within = pivot-within n R inv.within q i hq hi;
          same = same-trans inv.same (pivot-same n R q i hq hi has-x inv.commuting);
          independent = Iff.trans inv.independent (independent-pivot n R q i hq hi has-x inv.commuting);
          pivots = λ t a j. elim (ℕ_discrete t q) [
            | yes p ↦ ap (pivot_on n R q i j).x p ∙ pivot-column n R q i hq hi has-x j ∙ ap (eqb j) (sym p)
            | no d ↦ (let a' = sym (put_other pivoted q true t d) ∙ a in
                keeps (λ p. p.x t) (x-linear n t) (no-bit t a' q q-unused) (no-bit t a' i i-unused) j
                ∙ inv.pivots t a' j)
          ];
          unused = λ j l a t k. elim (last_or k) [
            | inl p ↦ ap (pivot_on n R q i j).x p ∙ pivot-column n R q i hq hi has-x j
                ∙ other_place (other j a).0
            | inr o ↦ keeps (λ p. p.x t) (x-linear n t) (inv.unused q hq q-unused t o)
                (inv.unused i hi i-unused t o) j ∙ inv.unused j l (other j a).1 t o
          ];
          no-z = λ j l a t k b. keeps (λ p. p.z t) (z-linear n t) (inv.no-z q hq q-unused t k b)
              (inv.no-z i hi i-unused t k b) j ∙ inv.no-z j l (other j a).1 t k b;
          holds = λ t a. elim (ℕ_discrete t q) [
            | yes p ↦ ap (put pivoted q true) p
                ∙ put_same pivoted q true
            | no d ↦ put_other pivoted q true t d ∙ inv.holds t a
          ];
        }

-- ---- the start: what the first pass left, after the Hadamards
module _ (n : ℕ) (input R : ℕ → Pauli) (kept : Word) (inv : FirstPass n input R kept n) where
  abbrev hadamards : ℕ → Clifford
  hadamards = hadamard_where (failed n kept)

  -- a kept column keeps its x bits, a failed one has them as z bits now
  kept-x : (p : Pauli) (t : ℕ) → kept t ≡ true → (act n hadamards p).x t ≡ p.x t
  unfolding act
  kept-x p t e =
      ap (λ b. x_bit (image (cond b (clifford_of 8) identity_clifford) (letter (p.z t) (p.x t))))
      (ap (λ b. ltb t n && not b) e ∙ and-false (ltb t n))
      ∙ bits 2 (λ z x. x_bit (image identity_clifford (letter z x))) (λ z x. x) tt (p.z t) (p.x t)

  failed-z : (p : Pauli) (t : ℕ) → t < n → kept t ≡ false → (act n hadamards p).z t ≡ p.x t
  unfolding act
  failed-z p t l e =
      ap (λ b. z_bit (image (cond b (clifford_of 8) identity_clifford) (letter (p.z t) (p.x t))))
      (ap₂ (λ a b. a && not b) (lt-ltb t n l) e)
      ∙ bits 2 (λ z x. z_bit (image (clifford_of 8) (letter z x))) (λ z x. x) tt (p.z t) (p.x t)

  pub second-start : SecondPass n (λ j. act n (hadamard_where (failed n kept)) (R j))
      (λ j. act n (hadamard_where (failed n kept)) (R j)) kept kept 0
  second-start =
      record {
        commuting = act-commuting n n R hadamards inv.commuting;
        within = λ i l. act-within n n hadamards (inv.within i l);
        same = same_refl;
        independent = (λ h. h, λ h. h);
        pivots = λ t e i. kept-x (R i) t e ∙ inv.pivots t e i;
        unused = λ i l e t k. absurd (not-suc-le-zero k);
        no-z = λ i l e t k b. failed-z (R i) t k b ∙ inv.unused i l e t k;
        holds = λ t e. e;
      }

-- ---- the pass as a whole, up to column q
pub record AfterSecond (n : ℕ) (rotated : ℕ → Pauli) (kept : Word) (q : ℕ) : Type 0 where
  pub rows : ℕ → Pauli
  pub pivoted : Word
  pub state : SecondPass n rotated rows kept pivoted q

pub second-pass : (n : ℕ) (rotated : ℕ → Pauli) (kept : Word) → SecondPass n rotated rotated kept kept 0
    → (q : ℕ) → q ≤ n
    → AfterSecond n rotated kept q
second-pass n rotated kept inv zero l = record { rows = rotated; pivoted = kept; state = inv }
second-pass n rotated kept inv (suc q) l = step (second-pass n rotated kept inv q (omega arith))
  where
    step : AfterSecond n rotated kept q → AfterSecond n rotated kept (suc q)
    step A = elim (first-is n (λ i. not (A.pivoted i) && (A.rows i).x q)) [
      | inl F ↦ record {
        rows = pivot_on n A.rows q found;
        pivoted = put A.pivoted q true;
        state = second-pass-pivot n rotated A.rows kept A.pivoted q l A.state found F.below
            F.passes;
      }
      | inr none ↦ record {
        rows = A.rows;
        pivoted = A.pivoted;
        state = second-pass-skip n rotated A.rows kept A.pivoted q l A.state none;
      }
    ]
      where
        found : ℕ
        found = first n (λ i. not (A.pivoted i) && (A.rows i).x q)

-- ---- at the end, a row that is no pivot is the identity, but for its sign
pub unused-trivial : (n : ℕ) (rotated R : ℕ → Pauli) (kept pivoted : Word)
    → SecondPass n rotated R kept pivoted n → (f : ℕ)
    → f < n → pivoted f ≡ false → Trivial n (R f)
unused-trivial n rotated R kept pivoted inv f hf e = record { no-x = unused-x; no-z = unused-z }
  where
    unused-x : (t : ℕ) → t < n → (R f).x t ≡ false
    unused-x t l = inv.unused f hf e t l

    -- the pivot of column q has the x bit that a z bit of row f at q would clash with
    term : (t q : ℕ) → q < n → (b : Bool) → pivoted q ≡ b
        → ((R f).z q && (R t).x q) ≡ ((R f).z q && eqb q t)
    term t q l true a = ap (λ b. (R f).z q && b) (inv.pivots q a t ∙ place-comm t q)
    term t q l false a = ap (λ b. b && (R t).x q) gone ∙ ap (λ b. b && eqb q t) (sym gone)
      where
        not-kept : (b : Bool) → kept q ≡ b → kept q ≡ false
        not-kept false k = k
        not-kept true k = absurd (not-both (inv.holds q k) a)

        gone : (R f).z q ≡ false
        gone = inv.no-z f hf e q l (not-kept (kept q) refl)

    unused-z : (t : ℕ) → t < n → (R f).z t ≡ false
    unused-z t l =
        sym (parity-at n (R f).z t l)
        ∙ sym (fold-ext false ◌⊕◌ n (λ q k. term t q k (pivoted q) refl))
        ∙ sym (⊕-zero _)
        ∙ ap (λ b. parity n (λ q. (R f).z q && (R t).x q) ⊕ b)
        (sym (fold-unit false ◌⊕◌ bit_monoid n (λ q k. ap (λ b. b && (R t).z q) (unused-x q k))))
        ∙ sym (anticommute-form n (R f) (R t)) ∙ inv.commuting.commute f t hf l
