-- Supported words: elements lead from one to another, and elements that lead to the same word give the same power of i.
use mathlib.Core.Bool.{Bool, ◌||◌, false, true}
use mathlib.Core.Logic.{◌↔◌}
use mathlib.Core.Path.{◌∙◌, ◌≡◌, ap, refl, subst, sym}
use Prim.Native.Nat.{◌<◌, ◌^◌, ℕ}
use Rattle.pauli.proofs.PauliLaws.{mul_assoc, mul_comm, mul-identity, mul-x, square}
use Rattle.pauli.proofs.PhaseLaws.{+ᵖ-assoc, +ᵖ-zero, phase_monoid, same_phase→≡}
use Rattle.pauli.specs.Pauli.{◌+ᵖ◌, Pauli, Phase, identity, i¹, i², i³, i⁰, letter_at, mul, same_phase}
use Rattle.stabilizer.proofs.GroupLaws.{elements-commute, elements-signed, in-mul}
use Rattle.stabilizer.specs.Groups.{Commuting, InGroup, SameGroup, chosen, product}
use Rattle.words.proofs.BitLaws.{bit-word_of, word_of-lt}
use Rattle.words.proofs.Finite.{⊕-self, ⊕-zero}
use Rattle.words.proofs.SearchLaws.{every-at, every_in, some-false, some-none}
use Rattle.words.proofs.Sums.{fold-ext, fold-unit}
use Rattle.words.specs.Bits.{Word, ◌⊕◌, bit, word_of}
use Rattle.words.specs.Search.{some}
use lib.Dec.{T}
use Rattle.amplitude.proofs.TurnLaws.{turns-mul}
use Rattle.amplitude.specs.internal.Ratios.{Supported}
use Rattle.amplitude.specs.Ratios.{chosen_by, is_supported}
use Rattle.amplitude.specs.Turns.{letter_turns, turns_at}

-- only the bits below n count
pub turns-ext : (n : ℕ) (p : Pauli) (y u : Word) → ((q : ℕ) → q < n → y q ≡ u q) → turns_at n p y ≡ turns_at n p u
unfolding turns_at
turns-ext n p y u h =
    ap (λ t. p.phase +ᵖ t) (fold-ext i⁰ ◌+ᵖ◌ n (λ q l. ap (letter_turns (letter_at p q)) (h q l)))

pub turns-identity : (n : ℕ) (y : Word) → turns_at n identity y ≡ i⁰
unfolding turns_at
turns-identity n y = fold-unit i⁰ ◌+ᵖ◌ phase_monoid n (λ q l. refl)

-- powers of i cancel
fourth : (a : Phase) → (a +ᵖ (a +ᵖ a)) +ᵖ a ≡ i⁰
fourth i⁰ = refl
fourth i¹ = refl
fourth i² = refl
fourth i³ = refl

pub phase-cancel : (a b c : Phase) → a +ᵖ b ≡ a +ᵖ c → b ≡ c
phase-cancel a b c e = sym (undo b) ∙ ap (λ t. (a +ᵖ (a +ᵖ a)) +ᵖ t) e ∙ undo c
  where
    undo : (b : Phase) → (a +ᵖ (a +ᵖ a)) +ᵖ (a +ᵖ b) ≡ b
    undo b = sym (+ᵖ-assoc (a +ᵖ (a +ᵖ a)) a b) ∙ ap (λ t. t +ᵖ b) (fourth a)

-- ---- the laws, for any list of commuting rows with signs
module _ (n : ℕ) (R : ℕ → Pauli) (G : Commuting n n R) where
  -- a group element leads from a supported word to a supported word
  pub supported-moved : (y : Word) → Supported n R y → (p : Pauli) → InGroup n n R p
      → Supported n R (λ q. y q ⊕ p.x q)
  supported-moved y S p a d b diagonal =
      phase-cancel (turns_at n p y) (turns_at n d (λ q. y q ⊕ p.x q)) i⁰
      (sym (turns-mul n d p y) ∙ ap (λ r. turns_at n r y) (mul_comm n d p (elements-commute n n R G b a))
      ∙ turns-mul n p d y ∙ ap (λ t. t +ᵖ turns_at n p (λ q. y q ⊕ d.x q)) (S d b diagonal)
      ∙ turns-ext n p (λ q. y q ⊕ d.x q) y (λ q l. ap (λ c. y q ⊕ c) (diagonal q l) ∙ ⊕-zero (y q))
      ∙ sym (+ᵖ-zero (turns_at n p y)))

  -- elements with the same x bits give a supported word the same power of i
  pub turns-agree : (y : Word) → Supported n R y → (p r : Pauli) → InGroup n n R p → InGroup n n R r
      → ((q : ℕ) → q < n → p.x q ≡ r.x q) → turns_at n p y ≡ turns_at n r y
  turns-agree y S p r a b same =
      ap (λ s. turns_at n s y) (sym (mul-identity n p) ∙ ap (mul n p) (sym (square n r (elements-signed n n R G b)))
      ∙ sym (mul_assoc n p r r))
      ∙ turns-mul n (mul n p r) r y
      ∙ ap (λ t. turns_at n r y +ᵖ t) (supported-moved y S r b (mul n p r) (in-mul n n R G a b)
      (λ q l. mul-x n p r q ∙ ap (λ c. c ⊕ r.x q) (same q l) ∙ ⊕-self (r.x q)))
      ∙ +ᵖ-zero (turns_at n r y)

-- ---- the group alone counts
pub supported-of-group : (n : ℕ) (R S : ℕ → Pauli) → SameGroup n n R S → (y : Word) → Supported n R y
    → Supported n S y
supported-of-group n R S E y H p a d = H p (E.back p a) d

pub supported-ext : (n : ℕ) (R : ℕ → Pauli) (y u : Word) → ((q : ℕ) → q < n → y q ≡ u q) → Supported n R y
    → Supported n R u
supported-ext n R y u h H p a d = sym (turns-ext n p y u h) ∙ H p a d

-- ---- the test
-- the product that a word chooses is the one that its number names
pub named : (n : ℕ) (R : ℕ → Pauli) (w : Word) → chosen_by n R (word_of n w) ≡ product n n w R
named n R w = fold-ext identity (mul n) n (λ j l. ap (λ b. chosen b (R j)) (bit-word_of n w j l))

same-phase : (a : Phase) → same_phase a i⁰ ≡ true → a ≡ i⁰
same-phase a e = same_phase→≡ a i⁰ (subst T (sym e) tt)

module _ (n : ℕ) (R : ℕ → Pauli) (y : ℕ) where
  test_in : Supported n R (bit y) → is_supported n R y ≡ true
  unfolding is_supported
  test_in S = every_in (2 ^ n) _ (λ v l. go v (some n (λ q. (chosen_by n R v).x q)) refl)
    where
      go : (v : ℕ) (b : Bool) → some n (λ q. (chosen_by n R v).x q) ≡ b
          → (b || same_phase (turns_at n (chosen_by n R v) (bit y)) i⁰) ≡ true
      go v true e = refl
      go v false e = ap (λ t. same_phase t i⁰) (S (chosen_by n R v) (bit v, refl) (some-false n _ e))

  test-out : is_supported n R y ≡ true → Supported n R (bit y)
  unfolding is_supported
  test-out e p a d = subst (λ r. turns_at n r (bit y) ≡ i⁰) (named n R a.0 ∙ sym a.1) (same-phase _
      (ap (λ b. b || same_phase (turns_at n (chosen_by n R v) (bit y)) i⁰) (sym none)
      ∙ every-at (2 ^ n) _ e v (word_of-lt n a.0)))
    where
      v : ℕ
      v = word_of n a.0

      none : some n (λ q. (chosen_by n R v).x q) ≡ false
      none = some-none n _ (λ q l. ap (λ r. r.x q) (named n R a.0 ∙ sym a.1) ∙ d q l)

  pub supported-exactly : (is_supported n R y ≡ true) ↔ Supported n R (bit y)
  supported-exactly = (test-out, test_in)
