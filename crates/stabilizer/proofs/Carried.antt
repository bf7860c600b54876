-- One code for each qubit carries groups to groups.
use mathlib.Core.Bool.{Bool, false, true}
use mathlib.Core.Logic.{◌↔◌}
use mathlib.Core.Path.{ap, refl, subst, sym, ◌∙◌, ◌≡◌}
use Prim.Native.Nat.{◌<◌, ℕ}
use Rattle.clifford.proofs.VectorLaws.{act-anticommute, act-identity, act-imaginary, act-mul}
use Rattle.clifford.specs.Clifford.{Clifford}
use Rattle.clifford.specs.Vectors.{act}
use Rattle.pauli.specs.Pauli.{Pauli, identity, mul}
use Rattle.words.proofs.Sums.{fold-ext, fold-hom}
use Rattle.words.specs.Bits.{Word}
use Rattle.stabilizer.proofs.GroupLaws.{same-sym, same-trans}
use Rattle.stabilizer.specs.Carries.{Carries}
use Rattle.stabilizer.specs.Groups.{Commuting, InGroup, SameGroup, chosen, product}

pub act-chosen : (n : ℕ) (c : ℕ → Clifford) (b : Bool) (r : Pauli) → act n c (chosen b r) ≡ chosen b (act n c r)
act-chosen n c false r = act-identity n c
act-chosen n c true r = refl

module _ (n m : ℕ) (rows : ℕ → Pauli) (c : ℕ → Clifford) where
  pub act-product : (w : Word) → act n c (product n m w rows) ≡ product n m w (λ j. act n c (rows j))
  act-product w = fold-hom identity (mul n) identity (mul n) (act n c) (act-identity n c) (act-mul n c) m _
      ∙ fold-ext identity (mul n) m (λ j l. act-chosen n c (w j) (rows j))

  pub act-in : {p : Pauli} → InGroup n m rows p → InGroup n m (λ j. act n c (rows j)) (act n c p)
  act-in a = (a.0, ap (act n c) a.1 ∙ act-product a.0)

  pub act-commuting : Commuting n m rows → Commuting n m (λ j. act n c (rows j))
  act-commuting G =
      record {
        signed = λ j l. act-imaginary n c (rows j) ∙ G.signed j l;
        commute = λ i j k l. act-anticommute n c (rows i) (rows j) ∙ G.commute i j k l;
      }

module _ (n m : ℕ) where
  pub act-same : (c : ℕ → Clifford) (rows others : ℕ → Pauli) → SameGroup n m rows others
      → SameGroup n m (λ j. act n c (rows j)) (λ j. act n c (others j))
  act-same c rows others S = record { there = go rows others S.there; back = go others rows S.back }
    where
      go : (r o : ℕ → Pauli) → ((p : Pauli) → InGroup n m r p → InGroup n m o p) → (p : Pauli)
          → InGroup n m (λ j. act n c (r j)) p → InGroup n m (λ j. act n c (o j)) p
      go r o h p a = subst (InGroup n m (λ j. act n c (o j))) (act-product n m r c a.0 ∙ sym a.1)
          (act-in n m o c (h (product n m a.0 r) (a.0, refl)))

  -- a list with the same rows below m has the same group
  pub same_rows : (rows others others' : ℕ → Pauli) → ((j : ℕ) → j < m → others j ≡ others' j)
      → SameGroup n m rows others → SameGroup n m rows others'
  same_rows rows others others' h S =
      record {
        there = λ p a. let b = S.there p a in (b.0, b.1 ∙ eq b.0);
        back = λ p a. S.back p (a.0, a.1 ∙ sym (eq a.0));
      }
    where
      eq : (w : Word) → product n m w others ≡ product n m w others'
      eq w = fold-ext identity (mul n) m (λ j l. ap (chosen (w j)) (h j l))

-- a choice of codes carries one group onto another exactly if it sends the generators to ones of the other
pub carries_same : (n : ℕ) (c : ℕ → Clifford) (rows others : ℕ → Pauli) →
    Carries n c rows others ↔ SameGroup n n (λ j. act n c (rows j)) others
carries_same n c rows others = (
  (λ C. record {
    there = λ p a. subst (InGroup n n others) (act-product n n rows c a.0 ∙ sym a.1)
        (C.into _ (a.0, refl));
    back = λ p a. let b = C.onto p a in
        subst (InGroup n n (λ j. act n c (rows j))) (sym b.2) (act-in n n rows c b.1);
  }),
  (λ S. record {
    into = λ p a. S.there (act n c p) (act-in n n rows c a);
    onto = λ p a. let b = S.back p a in
        (product n n b.0 rows, (b.0, refl), b.1 ∙ sym (act-product n n rows c b.0));
  }),
)

-- the groups alone matter
pub carries-moved : (n : ℕ) (a b a' b' : ℕ → Pauli) → SameGroup n n a a' → SameGroup n n b b' → (c : ℕ → Clifford)
    → Carries n c a b → Carries n c a' b'
carries-moved n a b a' b' s t c C =
    (carries_same n c a' b').1
    (same-trans (act-same n n c a' a (same-sym s)) (same-trans ((carries_same n c a b).0 C) t))
