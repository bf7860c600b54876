-- The answers, as a vector of Gaussian integers, are fixed by every element of the group; and every vector that is so
-- is a multiple of it, also one of other numbers.
use mathlib.Core.Bool.{Bool, cond, false, not, true, true≢false}
use mathlib.Core.Logic.{inl, inr}
use mathlib.Core.Path.{◌∙◌, ◌≡◌, ap, ap₂, refl, sym}
use Prim.Native.Nat.{◌<◌, ◌^◌, ℕ}
use borrow.Author.Tests.{not-false, not-true}
use Rattle.pauli.proofs.PauliLaws.{mul-x}
use Rattle.pauli.proofs.PhaseLaws.{+ᵖ-comm}
use Rattle.pauli.specs.Pauli.{◌+ᵖ◌, Pauli, Phase, identity, i¹, i², i³, i⁰, mul, same_phase}
use Rattle.stabilizer.proofs.GroupLaws.{in-identity, in-mul}
use Rattle.stabilizer.specs.Groups.{InGroup, Proper}
use Rattle.words.proofs.BitLaws.{bit-ext, bit-word_of, word_of-lt}
use Rattle.words.proofs.Finite.{bits, ⊕-back, ⊕-self, ⊕-twice, ⊕-zero}
use Rattle.words.proofs.Flags.{neither, same-by-both}
use Rattle.words.proofs.SearchLaws.{every_in, first-is, some-false}
use Rattle.words.specs.Bits.{◌⊕◌, bit}
use Rattle.words.specs.Search.{every, some}
use Rattle.amplitude.proofs.Existence.{any-element, leading-leads, lowest-is, some-leads}
use Rattle.amplitude.proofs.Support.{
  supported-exactly,
  supported-ext,
  supported-moved,
  turns-ext,
  turns-identity,
}
use Rattle.amplitude.proofs.TurnLaws.{turns-mul}
use Rattle.amplitude.proofs.Turning.{negated-none, none-turned, turn-add, turn-none, turned-one-some}
use Rattle.amplitude.specs.internal.Ratios.{Diagonal}
use Rattle.amplitude.specs.Ratios.{Leads, chosen_by, leading, lowest, ratio, is_supported}
use Rattle.amplitude.specs.Turns.{turns_at}
use Rattle.amplitude.specs.Vectors.{
  AnyElementFixes,
  Gaussian,
  LowestLeast,
  Numbers,
  OnlyVector,
  OnlyVectorOver,
  Stabilized,
  ZeroExactly,
  amplitudes,
  moved_to,
  none,
  one,
  turn_by,
}

-- where not every number passes, one does not
fails : (b : ℕ) (f : ℕ → Bool) → every b f ≡ false → (i : ℕ) × (f i ≡ false)
fails b f e = elim (first-is b (λ i. not (f i))) [
  | inl F ↦ (_, not-true _ F.passes)
  | inr all ↦ absurd (true≢false (sym (every_in b f (λ i l. not-false (f i) (all i l))) ∙ e))
]

-- a number that a turn other than by 1 keeps is 0: turned twice it is its own negative
turned_zero : (N : Numbers) (t : Phase) (a : N.Number) → same_phase t i⁰ ≡ false → a ≡ N.turn t a → a ≡ N.zero
turned_zero N i⁰ a h e = absurd (true≢false h)
turned_zero N i¹ a h e = N.own-negative a (N.turns i¹ i¹ a ∙ sym (e ∙ ap (N.turn i¹) e))
turned_zero N i² a h e = N.own-negative a (sym e)
turned_zero N i³ a h e = N.own-negative a (N.turns i³ i³ a ∙ sym (e ∙ ap (N.turn i³) e))

-- the Gaussian integers are such numbers
abbrev gaussians : Numbers
gaussians = record { Number = Gaussian; zero = none; turn = turn_by; turns = turn-add; own-negative = negated-none }

-- the bits of the word to which an element sends another, and the way back
moved-bit : (n : ℕ) (p : Pauli) (y q : ℕ) → q < n → bit (moved_to n p y) q ≡ bit y q ⊕ p.x q
moved-bit n p y q l = bit-word_of n (λ q. bit y q ⊕ p.x q) q l

moved-is : (n : ℕ) (p : Pauli) (y u : ℕ) → u < 2 ^ n → ((q : ℕ) → q < n → bit y q ⊕ p.x q ≡ bit u q)
    → moved_to n p y ≡ u
moved-is n p y u l h = bit-ext n (moved_to n p y) u (word_of-lt n _) l (λ q k. moved-bit n p y q k ∙ h q k)

moved_back : (n : ℕ) (p : Pauli) (y : ℕ) → y < 2 ^ n → moved_to n p (moved_to n p y) ≡ y
moved_back n p y l = moved-is n p (moved_to n p y) y l
    (λ q k. ap (λ b. b ⊕ p.x q) (moved-bit n p y q k) ∙ ⊕-twice (bit y q) (p.x q))

module _ (n : ℕ) (R : ℕ → Pauli) (P : Proper n R) where
  moved-supported : (p : Pauli) → InGroup n n R p → (y : ℕ) → is_supported n R y ≡ true
      → is_supported n R (moved_to n p y) ≡ true
  moved-supported p a y H = (supported-exactly n R (moved_to n p y)).1
      (supported-ext n R (λ q. bit y q ⊕ p.x q) (bit (moved_to n p y)) (λ q l. sym (moved-bit n p y q l))
      (supported-moved n R P.commuting (bit y) ((supported-exactly n R y).0 H) p a))

  -- support is closed under the group's elements, and so is the rest
  pub moved_same : (p : Pauli) → InGroup n n R p → (y : ℕ) → y < 2 ^ n
      → is_supported n R (moved_to n p y) ≡ is_supported n R y
  moved_same p a y l = same-by-both _ _
      (λ e. ap (is_supported n R) (sym (moved_back n p y l)) ∙ moved-supported p a (moved_to n p y) e)
      (moved-supported p a y)

  -- an element adds its turns to the ratio
  ratio-moved : (p : Pauli) → InGroup n n R p → (y : ℕ) → is_supported n R y ≡ true
      → ratio n R (moved_to n p y) ≡ turns_at n p (bit y) +ᵖ ratio n R y
  ratio-moved p a y H =
      sym (any-element n R P (moved_to n p y) (moved-supported p a y H) (mul n p first)
      (in-mul n n R P.commuting a (bit v, refl))
      (λ q l. mul-x n p first q ∙ ap (λ c. p.x q ⊕ c) (lead q l)
      ∙ around (p.x q) (bit low q) (bit y q) ∙ ap (λ c. bit low q ⊕ c) (sym (moved-bit n p y q l))))
      ∙ turns-mul n p first (bit low)
      ∙ ap₂ ◌+ᵖ◌ (any-element n R P y H first (bit v, refl) lead)
      (turns-ext n p _ (bit y) (λ q l. ap (λ c. bit low q ⊕ c) (lead q l) ∙ ⊕-back (bit low q) (bit y q)))
      ∙ +ᵖ-comm (ratio n R y) (turns_at n p (bit y))
    where
      low : ℕ
      low = lowest n R

      v : ℕ
      v = leading n R (lowest n R) y

      first : Pauli
      first = chosen_by n R (leading n R (lowest n R) y)

      lead : Leads n (chosen_by n R (leading n R (lowest n R) y)) (bit (lowest n R)) (bit y)
      lead = leading-leads n R P (lowest n R) y (lowest-is n R P).passes H

      around : (x l y : Bool) → x ⊕ (l ⊕ y) ≡ l ⊕ (y ⊕ x)
      around = bits 3 (λ x l y. x ⊕ (l ⊕ y)) (λ x l y. l ⊕ (y ⊕ x)) tt

  -- p v = v
  pub amplitudes-stabilized : Stabilized n R (amplitudes n R)
  amplitudes-stabilized p a y l =
      ap (λ b. cond b (turn_by (ratio n R (moved_to n p y)) one) none) (moved_same p a y l) ∙ go (is_supported n R y) refl
    where
      go : (b : Bool) → is_supported n R y ≡ b → cond b (turn_by (ratio n R (moved_to n p y)) one) none
          ≡ turn_by (turns_at n p (bit y)) (cond b (turn_by (ratio n R y) one) none)
      go true e = ap (λ t. turn_by t one) (ratio-moved p a y e) ∙ turn-add (turns_at n p (bit y)) (ratio n R y) one
      go false e = sym (turn-none (turns_at n p (bit y)))

  -- ---- uniqueness
  -- where a word is not supported, a diagonal element turns it
  turned-word : (y : ℕ) → is_supported n R y ≡ false
      → (p : Pauli) × InGroup n n R p × Diagonal n p × (same_phase (turns_at n p (bit y)) i⁰ ≡ false)
  unfolding is_supported
  turned-word y e =
      let f = fails (2 ^ n) _ e in
      let g = neither (some n (λ q. (chosen_by n R f.0).x q)) _ f.1 in
      (chosen_by n R f.0, (bit f.0, refl), some-false n _ g.0, g.1)

  pub only-vector-over : OnlyVectorOver n R
  only-vector-over N w W y l = go (is_supported n R y) refl
    where
      go : (b : Bool) → is_supported n R y ≡ b → w y ≡ cond b (N.turn (ratio n R y) (w (lowest n R))) N.zero
      go false e =
          let t = turned-word y e in
          turned_zero N (turns_at n t.0 (bit y)) (w y) t.3
          (ap w (sym (moved-is n t.0 y y l (λ q k. ap (λ b. bit y q ⊕ b) (t.2 q k) ∙ ⊕-zero (bit y q))))
          ∙ W t.0 t.1 y l)
      go true e =
          let low = lowest n R in
          let s = some-leads n R P (bit low) (bit y) ((supported-exactly n R low).0 (lowest-is n R P).passes)
          ((supported-exactly n R y).0 e) in
          ap w (sym (moved-is n s.0 low y l (λ q k. ap (λ b. bit low q ⊕ b) (s.2 q k)
          ∙ ⊕-back (bit low q) (bit y q))))
          ∙ W s.0 s.1 low (lowest-is n R P).below
          ∙ ap (λ t. N.turn t (w low)) (any-element n R P y e s.0 s.1 s.2)

  pub only-vector : OnlyVector n R
  only-vector = only-vector-over gaussians

  pub zero-exactly : ZeroExactly n R
  zero-exactly w W z k some y l = (
    (λ e. zero (is_supported n R y) (sym (only-vector w W y l) ∙ e)),
    (λ e. only-vector w W y l ∙ nothing (is_supported n R y) e),
  )
    where
      -- it is not 0 at the smallest word
      at-lowest : w (lowest n R) ≡ none → ⊥
      at-lowest e = some (only-vector w W z k ∙ both (is_supported n R z))
        where
          both : (b : Bool) → cond b (turn_by (ratio n R z) (w (lowest n R))) none ≡ none
          both true = ap (turn_by (ratio n R z)) e ∙ turn-none (ratio n R z)
          both false = refl

      zero : (b : Bool) → cond b (turn_by (ratio n R y) (w (lowest n R))) none ≡ none
          → cond b (turn_by (ratio n R y) one) none ≡ none
      zero true e = absurd (at-lowest (none-turned (ratio n R y) _ e))
      zero false e = refl

      nothing : (b : Bool) → cond b (turn_by (ratio n R y) one) none ≡ none
          → cond b (turn_by (ratio n R y) (w (lowest n R))) none ≡ none
      nothing true e = absurd (turned-one-some (ratio n R y) e)
      nothing false e = refl

  -- ---- the smallest word, and the elements that lead from it
  pub lowest-least : LowestLeast n R
  lowest-least =
      record {
        least = lowest-is n R P;
        unit = ap (λ b. cond b (turn_by (ratio n R (lowest n R)) one) none) (lowest-is n R P).passes
            ∙ ap (λ t. turn_by t one) (sym (any-element n R P (lowest n R) (lowest-is n R P).passes identity
            (in-identity n n R) (λ q l. sym (⊕-self (bit (lowest n R) q)))) ∙ turns-identity n (bit (lowest n R)));
      }

  pub any-element-fixes : AnyElementFixes n R
  any-element-fixes =
      record {
        some-leads = λ y H. some-leads n R P (bit (lowest n R)) (bit y)
            ((supported-exactly n R (lowest n R)).0 (lowest-is n R P).passes) ((supported-exactly n R y).0 H);
        all-agree = any-element n R P;
      }
