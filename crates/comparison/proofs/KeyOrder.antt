-- A choice whose classes are least qubit by qubit, and then its signs, is the least.
use mathlib.Core.Bool.{Bool, false, not, true, true≢false}
use mathlib.Core.Logic.{inl, inr, ◌⊎◌}
use mathlib.Core.Path.{ap₂, sym, ◌∙◌, ◌≡◌}
use Prim.Native.Nat.{◌*◌, ◌+◌, ◌<◌, ◌≤◌, ℕ}
use lib.Arith.{lt_of_le-ne}
use lib.Dec.{eqb}
use borrow.Author.Tests.{eq-eqb, eqb-true, not-false, not-true}
use Rattle.clifford.specs.Clifford.{Clifford, clifford_of}
use Rattle.words.proofs.SearchLaws.{first-is}
use Rattle.words.specs.Search.{IsFirst, first}
use Rattle.comparison.proofs.NumberOrder.{class-injective, code-of-keys}
use Rattle.comparison.specs.Choices.{Agree, Before, class_key, sign_key}

-- ---- the first place where two functions differ, or none
abbrev Equal : ℕ → (ℕ → ℕ) → (ℕ → ℕ) → Type 0
Equal n f g = (q : ℕ) → q < n → f q ≡ g q

record Differs (n : ℕ) (f g : ℕ → ℕ) : Type 0 where
  place : ℕ
  below : place < n
  unequal : f place ≡ g place → ⊥
  before : (t : ℕ) → t < place → f t ≡ g t

module _ (n : ℕ) (f g : ℕ → ℕ) where
  abbrev differ : ℕ → Bool
  differ q = not (eqb (f q) (g q))

  same : (q : ℕ) → differ q ≡ false → f q ≡ g q
  same q e = eqb-true (f q) (g q) (not-false (eqb (f q) (g q)) e)

  unlike : (q : ℕ) → differ q ≡ true → f q ≡ g q → ⊥
  unlike q e h = true≢false (sym (eq-eqb (f q) (g q) h) ∙ not-true (eqb (f q) (g q)) e)

  differ-or-not : Differs n f g ⊎ Equal n f g
  differ-or-not = go (first-is n differ)
    where
      go : IsFirst n differ (first n differ) ⊎ ((i : ℕ) → i < n → differ i ≡ false) → Differs n f g ⊎ Equal n f g
      go (inl F) = inl (record {
        place = first n differ;
        below = F.below;
        unequal = unlike (first n differ) F.passes;
        before = λ t l. same t (F.least t l);
      })
      go (inr h) = inr (λ q l. same q (h q l))

equal-codes : (c d : Clifford) → class_key c ≡ class_key d → sign_key c ≡ sign_key d → c ≡ d
equal-codes c d e f = sym (code-of-keys c) ∙ ap₂ (λ a b. clifford_of (4 * a + b)) e f ∙ code-of-keys d

pub keys-least : (n : ℕ) (c d : ℕ → Clifford)
    → ((q : ℕ) → q < n → ((u : ℕ) → u < q → class_key (c u) ≡ class_key (d u)) → class_key (c q) ≤ class_key (d q))
    → (((u : ℕ) → u < n → class_key (c u) ≡ class_key (d u)) → (q : ℕ) → q < n
    → ((u : ℕ) → u < q → sign_key (c u) ≡ sign_key (d u)) → sign_key (c q) ≤ sign_key (d q))
    → Agree n c d ⊎ Before n c d
keys-least n c d class-least sign-least = classes (differ-or-not n (λ q. class_key (c q)) (λ q. class_key (d q)))
  where
    signs : Equal n (λ q. class_key (c q)) (λ q. class_key (d q))
        → Differs n (λ q. sign_key (c q)) (λ q. sign_key (d q)) ⊎ Equal n (λ q. sign_key (c q)) (λ q. sign_key (d q))
        → Agree n c d ⊎ Before n c d
    signs h (inr e) = inl (λ q l. equal-codes (c q) (d q) (h q l) (e q l))
    signs h (inl D) = inr (inr (
      (λ q l. class-injective _ _ (h q l)),
      (
        D.place,
        D.below,
        D.before,
        lt_of_le-ne (sign-least h D.place D.below D.before) D.unequal,
      ),
    ))

    classes : Differs n (λ q. class_key (c q)) (λ q. class_key (d q)) ⊎ Equal n (λ q. class_key (c q))
        (λ q. class_key (d q))
        → Agree n c d ⊎ Before n c d
    classes (inl D) = inr (inl (
      D.place,
      D.below,
      D.before,
      lt_of_le-ne (class-least D.place D.below D.before) D.unequal,
    ))
    classes (inr h) = signs h (differ-or-not n (λ q. sign_key (c q)) (λ q. sign_key (d q)))
