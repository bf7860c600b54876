-- The equation of the least choice: it is the least in document 01's order, the only one, and missing exactly if no
-- choice carries the group.
use mathlib.Core.Bool.{Bool, false, false≢true, not, true, true≢false}
use mathlib.Core.List.{List}
use mathlib.Core.Logic.{inl, inr, ◌↔◌, ◌⊎◌}
use mathlib.Core.Path.{ap, ap₂, subst, sym, ◌∙◌, ◌≡◌}
use Prim.Native.Nat.{◌<◌, ◌^◌, ℕ, ◌≤◌}
use native.Mathlib.Decide.{dec_lt}
use native.Mathlib.Nat.{lt_trans, ne_of_lt}
use native.Mathlib.Omega.{arith}
use lib.ListN.{get_or}
use borrow.Author.Tests.{not-false, not-true}
use Rattle.clifford.proofs.CliffordLaws.{code_of-clifford_of}
use Rattle.clifford.proofs.VectorLaws.{act-agree}
use Rattle.clifford.specs.Clifford.{Clifford, class_number, clifford_of, code_of}
use Rattle.clifford.specs.Vectors.{act, codes_of}
use Rattle.pauli.specs.Pauli.{Pauli, letter, letter_at}
use Rattle.pauli.specs.declared.Letter.TheVariants.{I}
use Rattle.stabilizer.proofs.Within.{element-within}
use Rattle.stabilizer.specs.Carries.{Carries}
use Rattle.stabilizer.specs.Groups.{InGroup, Within}
use Rattle.words.proofs.Flags.{never_true}
use Rattle.words.proofs.SearchLaws.{some_in, some-none, some-true}
use Rattle.words.proofs.Sums.{lt-or-ge}
use Rattle.words.specs.Search.{IsFirst, first, some}
use Rattle.comparison.proofs.Members.{carries-is}
use Rattle.comparison.proofs.NumberOrder.{choice-lt, number-order, numbered}
use Rattle.comparison.specs.Choices.{
  Agree,
  Before,
  FirstDiffers,
  LeastChoice,
  is_carrying,
  choice_at,
  class_key,
  least_code,
  least_number,
  no_choice,
  sign_key,
}
use Rattle.comparison.specs.internal.Searches.{SearchAnswered, LeastAnswer}

-- ---- the order is one way only
meet : (u v : ℕ) → (u < v → ⊥) → (v < u → ⊥) → u ≡ v
meet u v x y = omega (arith, x, y)

differs-once : (n : ℕ) (f g : ℕ → ℕ) → FirstDiffers n f g → FirstDiffers n g f → ⊥
differs-once n f g d e = go (dec_lt d.0 e.0) (dec_lt e.0 d.0)
  where
    twice : {a b : ℕ} → a < b → b < a → ⊥
    twice l m = omega (arith, l, m)

    go : Dec (d.0 < e.0) → Dec (e.0 < d.0) → ⊥
    go (yes l) k = ne_of_lt d.3 (sym (e.2 d.0 l))
    go (no l) (yes k) = ne_of_lt e.3 (sym (d.2 e.0 k))
    go (no l) (no k) = twice d.3 (subst (λ q. g q < f q) (sym (meet d.0 e.0 l k)) e.3)

differs-not-equal : (n : ℕ) (f g : ℕ → ℕ) → FirstDiffers n f g → ((q : ℕ) → q < n → f q ≡ g q) → ⊥
differs-not-equal n f g d e = ne_of_lt d.3 (e d.0 d.1)

before-once : (n : ℕ) (c d : ℕ → Clifford) → Before n c d → Before n d c → ⊥
before-once n c d (inl a) (inl b) = differs-once n (λ q. class_key (c q)) (λ q. class_key (d q)) a b
before-once n c d (inl a) (inr b) =
    differs-not-equal n (λ q. class_key (c q)) (λ q. class_key (d q)) a (λ q l. ap class_number (sym (b.0 q l)))
before-once n c d (inr a) (inl b) =
    differs-not-equal n (λ q. class_key (d q)) (λ q. class_key (c q)) b (λ q l. ap class_number (sym (a.0 q l)))
before-once n c d (inr a) (inr b) = differs-once n (λ q. sign_key (c q)) (λ q. sign_key (d q)) a.1 b.1

-- the later choice may be replaced by one that agrees with it
before-agree : (n : ℕ) (c d e : ℕ → Clifford) → Agree n d e → Before n c d → Before n c e
before-agree n c d e h = go
  where
    move : (key : Clifford → ℕ) → FirstDiffers n (λ q. key (c q)) (λ q. key (d q))
        → FirstDiffers n (λ q. key (c q)) (λ q. key (e q))
    move key a = (
      a.0,
      a.1,
      (λ t l. a.2 t l ∙ ap key (h t (lt_trans l a.1))),
      subst (λ k. key (c a.0) < k) (ap key (h a.0 a.1)) a.3,
    )

    go : Before n c d → Before n c e
    go (inl a) = inl (move class_key a)
    go (inr a) = inr ((λ q l. a.0 q l ∙ ap (λ k. k.class) (h q l)), move sign_key a.1)

-- .. and so may the earlier one
agree-before : (n : ℕ) (c d e : ℕ → Clifford) → Agree n c d → Before n c e → Before n d e
agree-before n c d e h = go
  where
    move : (key : Clifford → ℕ) → FirstDiffers n (λ q. key (c q)) (λ q. key (e q))
        → FirstDiffers n (λ q. key (d q)) (λ q. key (e q))
    move key a = (
      a.0,
      a.1,
      (λ t l. ap key (sym (h t (lt_trans l a.1))) ∙ a.2 t l),
      subst (λ k. k < key (e a.0)) (ap key (h a.0 a.1)) a.3,
    )

    go : Before n c e → Before n d e
    go (inl a) = inl (move class_key a)
    go (inr a) = inr ((λ q l. ap (λ k. k.class) (sym (h q l)) ∙ a.0 q l), move sign_key a.1)

-- ---- what lies at and above n does not matter
pub act-within : (n : ℕ) (c d : ℕ → Clifford) → Agree n c d → (p : Pauli) → Within n p → act n c p ≡ act n d p
act-within n c d h p P = act-agree n c d p (λ q. place q (lt-or-ge q n))
  where
    place : (q : ℕ) → (q < n) ⊎ (n ≤ q) → (c q ≡ d q) ⊎ (letter_at p q ≡ I)
    place q (inl l) = inl (h q l)
    place q (inr l) = inr (ap₂ letter (P.no-z q l) (P.no-x q l))

module _ (n : ℕ) (rows others : ℕ → Pauli) (W : (j : ℕ) → j < n → Within n (rows j))
    (W' : (j : ℕ) → j < n → Within n (others j)) where
  pub carries-agree : (c d : ℕ → Clifford) → Agree n c d → Carries n c rows others → Carries n d rows others
  carries-agree c d h C =
      record {
        into = λ p a. subst (InGroup n n others) (act-within n c d h p (element-within n n rows W a)) (C.into p a);
        onto = λ p a. let b = C.onto p a in
            (b.0, b.1, b.2 ∙ act-within n c d h b.0 (element-within n n rows W b.1));
      }

  pub least-agree : (c d : ℕ → Clifford) → Agree n c d → LeastChoice n rows others c → LeastChoice n rows others d
  least-agree c d h L =
      record { among = carries-agree c d h L.among; least = λ e K. go e (L.least e K) }
    where
      go : (e : ℕ → Clifford) → Agree n c e ⊎ Before n c e → Agree n d e ⊎ Before n d e
      go e (inl a) = inl (λ q l. sym (h q l) ∙ a q l)
      go e (inr b) = inr (agree-before n c d e h b)

  -- ---- the search by numbers
  works : ℕ → Bool
  works k = is_carrying n (choice_at n k) rows others

  works-is : (k : ℕ) → (works k ≡ true) ↔ Carries n (choice_at n k) rows others
  unfolding works
  works-is k = carries-is n (choice_at n k) rows others W W'

  found : (d : ℕ → Clifford) → Carries n d rows others → works (numbered n d).0 ≡ true
  found d C =
      (works-is (numbered n d).0).1
      (carries-agree d (choice_at n (numbered n d).0) (λ q l. sym ((numbered n d).2 q l)) C)

  least_first : (k : ℕ) → IsFirst (24 ^ n) works k → LeastChoice n rows others (choice_at n k)
  least_first k F =
      record {
        among = (works-is k).0 F.passes;
        least =
            λ d C. go d C (dec_lt k (numbered n d).0) (dec_lt (numbered n d).0 k);
      }
    where
      go : (d : ℕ → Clifford) → Carries n d rows others → Dec (k < (numbered n d).0)
          → Dec ((numbered n d).0 < k)
          → Agree n (choice_at n k) d ⊎ Before n (choice_at n k) d
      go d C (yes l) e = inr (before-agree n (choice_at n k) (choice_at n (numbered n d).0) d (numbered n d).2
          (number-order n k (numbered n d).0 (numbered n d).1 l))
      go d C (no a) (yes l) = absurd (true≢false (sym (found d C) ∙ F.least (numbered n d).0 l))
      go d C (no a) (no b) =
          inl (λ q l. ap (λ e. choice_at n e q) (meet k (numbered n d).0 a b) ∙ (numbered n d).2 q l)

  -- 13 exactly if no choice carries the group
  pub none-carries : (no_choice n rows others ≡ true) ↔ ((d : ℕ → Clifford) → Carries n d rows others → ⊥)
  unfolding works
  none-carries = (
    (λ e d C. true≢false (sym (some_in (24 ^ n) works (numbered n d).0 (numbered n d).1 (found d C))
        ∙ not-true (some (24 ^ n) works) e)),
    (λ h. ap not (some-none (24 ^ n) works
        (λ k l. never_true (works k) (λ e. h (choice_at n k) ((works-is k).0 e))))),
  )

  -- where some choice does, the equation gives the least
  pub least-is : no_choice n rows others ≡ false
      → LeastChoice n rows others (λ q. clifford_of (least_code n rows others q))
  unfolding works least_number
  least-is e = least_first (first (24 ^ n) works)
      (some-true (24 ^ n) works (not-false (some (24 ^ n) works) e))

  pub least-unique : (c d : ℕ → Clifford) → LeastChoice n rows others c → LeastChoice n rows others d
      → Agree n c d
  least-unique c d L M = go (L.least d M.among) (M.least c L.among)
    where
      go : Agree n c d ⊎ Before n c d → Agree n d c ⊎ Before n d c → Agree n c d
      go (inl a) b = a
      go (inr a) (inl b) = λ q l. sym (b q l)
      go (inr a) (inr b) = absurd (before-once n c d a b)

  -- .. and it is the only least choice
  pub least-equation : (c : ℕ → Clifford) → LeastChoice n rows others c
      → (no_choice n rows others ≡ false) × ((q : ℕ) → q < n → c q ≡ clifford_of (least_code n rows others q))
  least-equation c L = (some-choice, least-unique c _ L (least-is some-choice))
    where
      some-choice : no_choice n rows others ≡ false
      some-choice = never_true (no_choice n rows others) (λ e. none-carries.0 e c L.among)

  -- the least choice found, or none, as an equation on codes
  pub least-answer : (b : Bool) (out : List ℕ) → SearchAnswered n (λ d. Carries n d rows others) b out
      → LeastAnswer n rows others b out
  least-answer true out A =
      record {
        whether = sym (ap not (least-equation (codes_of out) A.search).0);
        which = λ e q l. sym (code_of-clifford_of (get_or out q 0) (A.codes q))
            ∙ ap code_of ((least-equation (codes_of out) A.search).1 q l)
            ∙ code_of-clifford_of (least_code n rows others q) (choice-lt n (least_number n rows others) q);
      }
  least-answer false out A =
      record {
        whether = sym (ap not (none-carries.1 A.search));
        which = λ e. absurd (false≢true e);
      }
