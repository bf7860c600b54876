-- The group of a list: closed under products, and held by every group that has its generators.
use mathlib.Core.Bool.{Bool, false, true}
use mathlib.Core.Path.{ap, ap₂, refl, subst, sym, ◌∙◌, ◌≡◌}
use Prim.Native.Nat.{◌<◌, suc, zero, ℕ}
use native.Mathlib.Omega.{arith}
use lib.Dec.{eqb}
use Rattle.pauli.proofs.PauliLaws.{anticommute-swap, pauli_monoid}
use Rattle.pauli.specs.Pauli.{Pauli, anticommute, identity, imaginary, mul}
use Rattle.words.proofs.Places.{other_place, same_place}
use Rattle.words.proofs.Sums.{fold-one, fold-unit}
use Rattle.words.specs.Bits.{fold, ◌⊕◌}
use Rattle.stabilizer.proofs.Products.{anticommute-product, product-mul, product-signed}
use Rattle.stabilizer.specs.Groups.{Commuting, InGroup, SameGroup, chosen, product}

module _ (n m : ℕ) (rows : ℕ → Pauli) where
  pub in-identity : InGroup n m rows identity
  in-identity = ((λ j. false), sym (fold-unit identity (mul n) (pauli_monoid n) m (λ j l. refl)))

  -- a generator is the product that chooses it alone
  pub row-product : (i : ℕ) → i < m → rows i ≡ product n m (λ j. eqb j i) rows
  row-product i l = sym
      (fold-one identity (mul n) (pauli_monoid n) m i l (λ j k h. ap (λ b. chosen b (rows j)) (other_place h))
      ∙ ap (λ b. chosen b (rows i)) (same_place i))

  pub in_row : (i : ℕ) → i < m → InGroup n m rows (rows i)
  in_row i l = ((λ j. eqb j i), row-product i l)

  module _ (G : Commuting n m rows) where
    -- closed under products
    pub in-mul : {p r : Pauli} → InGroup n m rows p → InGroup n m rows r → InGroup n m rows (mul n p r)
    in-mul a b = ((λ j. a.0 j ⊕ b.0 j), ap₂ (mul n) a.1 b.1 ∙ product-mul n m rows G a.0 b.0)

    -- a group that has another's generators has all of it
    pub generators-suffice : (k : ℕ) (others : ℕ → Pauli) → ((j : ℕ) → j < k → InGroup n m rows (others j))
        → (p : Pauli) → InGroup n k others p → InGroup n m rows p
    unfolding fold
    generators-suffice k others h p a = subst (InGroup n m rows) (sym a.1) (go k h)
      where
        go : (k : ℕ) → ((j : ℕ) → j < k → InGroup n m rows (others j))
            → InGroup n m rows (product n k a.0 others)
        go zero h = in-identity
        go (suc k) h = in-mul (go k (λ j l. h j (omega arith))) (last (a.0 k))
          where
            last : (b : Bool) → InGroup n m rows (chosen b (others k))
            last false = in-identity
            last true = h k (omega arith)

module _ (n m : ℕ) (rows : ℕ → Pauli) (G : Commuting n m rows) where
  pub elements-signed : {p : Pauli} → InGroup n m rows p → imaginary p.phase ≡ false
  elements-signed a = ap (λ p. imaginary p.phase) a.1 ∙ product-signed n m rows G a.0

  pub elements-commute : {p r : Pauli} → InGroup n m rows p → InGroup n m rows r → anticommute n p r ≡ false
  elements-commute a b =
      ap₂ (anticommute n) a.1 b.1
      ∙ anticommute-product n m a.0 rows _ (λ i k. anticommute-swap n (rows i) _
      ∙ anticommute-product n m b.0 rows (rows i) (λ j l. G.commute j i l k))

  -- elements of the group, in any number, commute again
  pub commuting-of : (k : ℕ) (others : ℕ → Pauli) → ((j : ℕ) → j < k → InGroup n m rows (others j))
      → Commuting n k others
  commuting-of k others h =
      record {
        signed = λ j l. elements-signed (h j l);
        commute = λ i j a b. elements-commute (h i a) (h j b);
      }

pub same_refl : {n m : ℕ} {rows : ℕ → Pauli} → SameGroup n m rows rows
same_refl = record { there = λ p a. a; back = λ p a. a }

pub same-sym : {n m : ℕ} {rows others : ℕ → Pauli} → SameGroup n m rows others → SameGroup n m others rows
same-sym S = record { there = S.back; back = S.there }

pub same-trans : {n m : ℕ} {a b c : ℕ → Pauli} → SameGroup n m a b → SameGroup n m b c → SameGroup n m a c
same-trans S R = record { there = λ p h. R.there p (S.there p h); back = λ p h. S.back p (R.back p h) }

-- lists that have one another's generators have one group
module _ (n m : ℕ) (rows others : ℕ → Pauli) (G : Commuting n m rows)
    (forth : (j : ℕ) → j < m → InGroup n m rows (others j))
    (back : (j : ℕ) → j < m → InGroup n m others (rows j)) where
  pub same-by-generators : SameGroup n m rows others
  same-by-generators =
      record {
        there = generators-suffice n m others (commuting-of n m rows G m others forth) m rows back;
        back = generators-suffice n m rows G m others forth;
      }
