-- The group after a measurement that is not determined: generator g does not commute with P, goes into the others
-- that do not, and P takes its place. The rows are a list, and its group is the elements that commute with P,
-- joined by P.
use mathlib.Core.Bool.{◌&&◌, Bool, and-false, false, not, true}
use mathlib.Core.Logic.{◌↔◌}
use mathlib.Core.Path.{ap, ap₂, fun_ext, refl, subst, sym, ◌∙◌, ◌≡◌}
use Prim.Native.Nat.{◌<◌, ℕ}
use native.Mathlib.Decide.{ℕ_discrete}
use lib.Dec.{eqb}
use Rattle.pauli.proofs.PauliLaws.{anticommute-self, anticommute-swap, mul-identity, pauli_monoid}
use Rattle.pauli.specs.Pauli.{Pauli, anticommute, identity, imaginary, mul}
use Rattle.stabilizer.proofs.GroupLaws.{elements-commute, in-mul, in_row}
use Rattle.stabilizer.proofs.Independence.{independent-shear}
use Rattle.stabilizer.proofs.Products.{anticommute-form, anticommute-linear, product-bit, product-mul}
use Rattle.stabilizer.proofs.RowOperations.{shear-bit, shear-commuting, shear-same}
use Rattle.stabilizer.proofs.Within.{shear-within}
use Rattle.stabilizer.specs.Elimination.{shear}
use Rattle.stabilizer.specs.Groups.{Commuting, InGroup, Proper, SameGroup, Trivial, Within, chosen, product}
use Rattle.words.proofs.Finite.{⊕-zero}
use Rattle.words.proofs.Places.{other_place, parity-at, put_all, put_other, put_same, same_place}
use Rattle.words.proofs.Sums.{bit_monoid, fold-ext, fold-one, fold-unit}
use Rattle.words.specs.Bits.{Word, put, ◌⊕◌}
use Rattle.operations.specs.Measurement.{Measured, against, joined, kept, projected}

anticommute-trivial : (n : ℕ) (p r : Pauli) → Trivial n p → anticommute n p r ≡ false
anticommute-trivial n p r t =
    anticommute-form n p r
    ∙ ap₂ ◌⊕◌ (fold-unit false ◌⊕◌ bit_monoid n (λ q l. ap (λ b. b && r.x q) (t.no-z q l)))
    (fold-unit false ◌⊕◌ bit_monoid n (λ q l. ap (λ b. b && r.z q) (t.no-x q l)))

module _ (n : ℕ) (rows : ℕ → Pauli) (L : Proper n rows) (P : Pauli) (signed : imaginary P.phase ≡ false)
    (W : Within n P) (g : ℕ) (hg : g < n) (clashes : anticommute n (rows g) P ≡ true) where
  abbrev s : Word
  s = against n rows P g

  -- the rows after g went into the others, and the new list
  abbrev R : ℕ → Pauli
  R = shear n rows g s

  abbrev N : ℕ → Pauli
  N = projected n rows P g

  not_itself : s g ≡ false
  not_itself = ap (λ b. anticommute n (rows g) P && not b) (same_place g)
      ∙ and-false (anticommute n (rows g) P)

  R-commuting : Commuting n n R
  R-commuting = shear-commuting n n rows L.commuting g hg s not_itself

  R-same : SameGroup n n rows R
  R-same = shear-same n n rows L.commuting g hg s not_itself

  -- only row g is left that does not commute
  R-clashes : (j : ℕ) → anticommute n (R j) P ≡ eqb j g
  R-clashes j = shear-bit n _ (anticommute-linear n P) rows g s j
      ∙ ap (λ b. anticommute n (rows j) P ⊕ (s j && b)) clashes ∙ go (ℕ_discrete j g)
    where
      tidy : (b : Bool) → b ⊕ ((b && true) && true) ≡ false
      tidy false = refl
      tidy true = refl

      go : Dec (j ≡ g) → anticommute n (rows j) P ⊕ (s j && true) ≡ eqb j g
      go (yes e) = subst (λ v. anticommute n (rows v) P ⊕ (s v && true) ≡ eqb v g) (sym e)
          (ap₂ (λ a b. a ⊕ (b && true)) clashes not_itself ∙ sym (same_place g))
      go (no d) = ap (λ b. anticommute n (rows j) P ⊕ ((anticommute n (rows j) P && not b) && true))
          (other_place d) ∙ tidy (anticommute n (rows j) P) ∙ sym (other_place d)

  N-commuting : Commuting n n N
  N-commuting =
      record {
        signed = λ j l. put_all (λ j r. imaginary r.phase ≡ false) R g P signed j
            (λ d. R-commuting.signed j l);
        commute = λ i j a b.
            put_all (λ i r. anticommute n r (N j) ≡ false) R g P
            (put_all (λ j r. anticommute n P r ≡ false) R g P (anticommute-self n P) j
            (λ d. anticommute-swap n P (R j) ∙ R-clashes j ∙ other_place d)) i
            (λ c. put_all (λ j r. anticommute n (R i) r ≡ false) R g P (R-clashes i ∙ other_place c) j
            (λ d. R-commuting.commute i j a b));
      }

  -- a word that leaves row g out gives the same product of either list
  same-product : (w : Word) → w g ≡ false → product n n w N ≡ product n n w R
  same-product w e = fold-ext identity (mul n) n (λ j l. go j (ℕ_discrete j g))
    where
      go : (j : ℕ) → Dec (j ≡ g) → chosen (w j) (N j) ≡ chosen (w j) (R j)
      go j (yes p) = ap (λ b. chosen b (N j)) (ap w p ∙ e) ∙ sym (ap (λ b. chosen b (R j)) (ap w p ∙ e))
      go j (no d) = ap (chosen (w j)) (put_other R g P j d)

  -- an element commutes with P where row g is not in it
  word-at-g : (w : Word) → anticommute n (product n n w R) P ≡ w g
  word-at-g w = product-bit n n _ (anticommute-linear n P) w R
      ∙ fold-ext false ◌⊕◌ n (λ j l. ap (λ b. w j && b) (R-clashes j)) ∙ parity-at n w g hg

  -- ---- the new rows are a list: of them, P alone does not commute with the row that it replaced
  N-clashes : (j : ℕ) → j < n → anticommute n (N j) (rows g) ≡ eqb j g
  N-clashes j l = put_all (λ j r. anticommute n r (rows g) ≡ eqb j g) R g P
      (anticommute-swap n P (rows g) ∙ clashes ∙ sym (same_place g)) j
      (λ d. elements-commute n n rows L.commuting (R-same.back (R j) (in_row n n R j l))
      (in_row n n rows g hg)
      ∙ sym (other_place d))

  pub projected-proper : Proper n (projected n rows P g)
  projected-proper =
      record {
        commuting = N-commuting;
        independent = λ w t. independent-shear n rows g hg s not_itself L.independent w
            (subst (Trivial n) (same-product w (left_out w t)) t);
        within = λ j l. put_all (λ j r. Within n r) R g P W j
            (λ d. shear-within n rows L.within g hg s j l);
      }
    where
      left_out : (w : Word) → Trivial n (product n n w N) → w g ≡ false
      left_out w t =
          sym (product-bit n n _ (anticommute-linear n (rows g)) w N
          ∙ fold-ext false ◌⊕◌ n (λ j l. ap (λ b. w j && b) (N-clashes j l)) ∙ parity-at n w g hg)
          ∙ anticommute-trivial n (product n n w N) (rows g) t

  -- ---- its group
  commuting-in : (r : Pauli) → InGroup n n rows r → anticommute n r P ≡ false → InGroup n n N r
  commuting-in r a c =
      let b = R-same.there r a in (
        b.0,
        b.1 ∙ sym (same-product b.0
            (sym (word-at-g b.0) ∙ ap (λ q. anticommute n q P) (sym b.1) ∙ c)),
      )

  P-in : InGroup n n N P
  P-in = subst (InGroup n n N) (put_same R g P) (in_row n n N g hg)

  measured-in : (p : Pauli) → Measured n rows P p → InGroup n n N p
  measured-in p (kept a c) = commuting-in p a c
  measured-in p (joined a c) = in-mul n n N N-commuting (commuting-in _ a c) P-in

  module _ (w : Word) where
    -- the word without g, and the element it names
    without : Word
    without = put w g false

    element : Pauli
    element = product n n without N

    off : without g ≡ false
    unfolding without
    off = put_same w g false

    element-in : InGroup n n rows element
    unfolding element
    element-in = R-same.back element (without, same-product without off)

    element-commutes : anticommute n element P ≡ false
    unfolding element
    element-commutes = ap (λ q. anticommute n q P) (same-product without off) ∙ word-at-g without ∙ off

    -- the word is that word, and g where it has g
    parted : (j : ℕ) → Dec (j ≡ g) → w j ≡ without j ⊕ (eqb j g && w g)
    unfolding without
    parted j (yes q) = subst (λ v. w v ≡ without v ⊕ (eqb v g && w g)) (sym q)
        (sym (ap₂ (λ a b. a ⊕ (b && w g)) off (same_place g)))
    parted j (no d) = sym (ap₂ (λ a b. a ⊕ (b && w g)) (put_other w g false j d) (other_place d)
        ∙ ⊕-zero (w j))

    at_g : product n n (λ j. eqb j g && w g) N ≡ chosen (w g) P
    at_g = fold-one identity (mul n) (pauli_monoid n) n g hg
        (λ j l d. ap (λ b. chosen (b && w g) (N j)) (other_place d))
        ∙ ap₂ (λ b q. chosen (b && w g) q) (same_place g) (put_same R g P)

    whole : product n n w N ≡ mul n element (chosen (w g) P)
    unfolding element
    whole = ap (λ v. product n n v N) (fun_ext λ j. parted j (ℕ_discrete j g))
        ∙ sym (product-mul n n N N-commuting without (λ j. eqb j g && w g)) ∙ ap (mul n element) at_g

  measured-out : (p : Pauli) → InGroup n n N p → Measured n rows P p
  measured-out p (w, e) = subst (Measured n rows P) (sym (e ∙ whole w)) (go (w g))
    where
      go : (b : Bool) → Measured n rows P (mul n (element w) (chosen b P))
      go false = subst (Measured n rows P) (sym (mul-identity n (element w)))
          (kept (element-in w) (element-commutes w))
      go true = joined (element-in w) (element-commutes w)

  pub projected-group : (p : Pauli) → InGroup n n (projected n rows P g) p ↔ Measured n rows P p
  projected-group p = (measured-out p, measured-in p)
