-- Powers of i: laws by one test over their two bits, and sums of phases.
use mathlib.Core.Bool.{Bool, cond, false, true, true≢false}
use mathlib.Core.Path.{ap, refl, sym, ◌∙◌, ◌≡◌}
use Prim.Native.Nat.{◌<◌, ℕ}
use lib.Dec.{T, eqb, eqb→eq, lit<}
use Rattle.words.proofs.Finite.{Law, Of, bits, law, test}
use Rattle.words.proofs.Places.{other_place, same_place}
use Rattle.words.proofs.Sums.{Monoid, fold-ext, fold-hom, fold-mul, fold-one}
use Rattle.words.specs.Bits.{Word, parity, ◌⊕◌}
use Rattle.pauli.specs.Pauli.{
  ◌+ᵖ◌,
  Phase,
  exponent,
  imaginary,
  i²,
  i³,
  i¹,
  i⁰,
  minus,
  power,
  same_phase,
  sign_bit,
  sum_phase,
}

pub power-exponent : (a : Phase) → power (exponent a) ≡ a
unfolding power
power-exponent i⁰ = refl
power-exponent i¹ = refl
power-exponent i² = refl
power-exponent i³ = refl

pub exponent_lt : (a : Phase) → exponent a < 4
exponent_lt i⁰ = lit< tt
exponent_lt i¹ = lit< tt
exponent_lt i² = lit< tt
exponent_lt i³ = lit< tt

pub exponent-two : (a : Phase) → eqb (exponent a) 2 ≡ sign_bit a
exponent-two i⁰ = refl
exponent-two i¹ = refl
exponent-two i² = refl
exponent-two i³ = refl

pub same_phase→≡ : (a b : Phase) → T (same_phase a b) → a ≡ b
same_phase→≡ a b t =
    sym (power-exponent a) ∙ ap power (eqb→eq (exponent a) (exponent b) t) ∙ power-exponent b

-- a law of phases over k bits, by one test
pub phases : (k : ℕ) (f g : Of k Phase) → T (test same_phase k f g) → Law Phase k f g
phases = law same_phase same_phase→≡

-- two bits name a power of i
abbrev two : Bool → Bool → Phase
two false false = i⁰
two false true = i¹
two true false = i²
two true true = i³

on_turns : (P : Phase → Type 0) → ((a b : Bool) → P (two a b)) → (t : Phase) → P t
on_turns P h i⁰ = h false false
on_turns P h i¹ = h false true
on_turns P h i² = h true false
on_turns P h i³ = h true true

pub +ᵖ-assoc : (a b c : Phase) → (a +ᵖ b) +ᵖ c ≡ a +ᵖ (b +ᵖ c)
+ᵖ-assoc = on_turns _ λ a a'. on_turns _ λ b b'. on_turns _ λ c c'. phases 6
    (λ a a' b b' c c'. (two a a' +ᵖ two b b') +ᵖ two c c') (λ a a' b b' c c'. two a a'
    +ᵖ (two b b' +ᵖ two c c')) tt a a' b b' c c'

pub +ᵖ-comm : (a b : Phase) → a +ᵖ b ≡ b +ᵖ a
+ᵖ-comm = on_turns _ λ a a'. on_turns _ λ b b'. phases 4 (λ a a' b b'. two a a'
    +ᵖ two b b') (λ a a' b b'. two b b' +ᵖ two a a') tt a a' b b'

pub +ᵖ-zero : (a : Phase) → a +ᵖ i⁰ ≡ a
+ᵖ-zero = on_turns _ (phases 2 (λ a a'. two a a' +ᵖ i⁰) two tt)

-- a power of i four times is 1, so it cancels
pub four-times : (a : Phase) → a +ᵖ (a +ᵖ (a +ᵖ a)) ≡ i⁰
four-times i⁰ = refl
four-times i¹ = refl
four-times i² = refl
four-times i³ = refl

pub cancel-phase : (a b t : Phase) → a +ᵖ t ≡ b +ᵖ t → a ≡ b
cancel-phase a b t e = sym (undo a) ∙ ap (λ u. u +ᵖ (t +ᵖ (t +ᵖ t))) e ∙ undo b
  where
    undo : (s : Phase) → (s +ᵖ t) +ᵖ (t +ᵖ (t +ᵖ t)) ≡ s
    undo s = +ᵖ-assoc s t (t +ᵖ (t +ᵖ t)) ∙ ap (λ u. s +ᵖ u) (four-times t) ∙ +ᵖ-zero s

pub imaginary-+ᵖ : (a b : Phase) → imaginary (a +ᵖ b) ≡ imaginary a ⊕ imaginary b
imaginary-+ᵖ = on_turns _ λ a a'. on_turns _ λ b b'. bits 4 (λ a a' b b'. imaginary (two a a' +ᵖ two b b'))
    (λ a a' b b'. imaginary (two a a') ⊕ imaginary (two b b')) tt a a' b b'

pub phase_monoid : Monoid Phase i⁰ ◌+ᵖ◌
phase_monoid = record { assoc = +ᵖ-assoc; unit-l = λ a. refl; unit-r = +ᵖ-zero }

-- a sum of which one place alone counts
pub sum_phase-one : (n a : ℕ) → a < n → (f : ℕ → Phase) → sum_phase n (λ q. cond (eqb q a) (f q) i⁰) ≡ f a
sum_phase-one n a l f =
    fold-one i⁰ ◌+ᵖ◌ phase_monoid n a l (λ q k d. ap (λ b. cond b (f q) i⁰) (other_place d))
    ∙ ap (λ b. cond b (f a) i⁰) (same_place a)

pub sum_phase-add : (n : ℕ) (f g : ℕ → Phase) → sum_phase n (λ q. f q +ᵖ g q) ≡ sum_phase n f +ᵖ sum_phase n g
sum_phase-add = fold-mul i⁰ ◌+ᵖ◌ phase_monoid +ᵖ-comm

pub +ᵖ-left : (a b c : Phase) → a +ᵖ (b +ᵖ c) ≡ b +ᵖ (a +ᵖ c)
+ᵖ-left a b c = sym (+ᵖ-assoc a b c) ∙ ap (λ x. x +ᵖ c) (+ᵖ-comm a b) ∙ +ᵖ-assoc b a c

-- sums of phases agree where the phases do, place by place
pub sum_phase-pair : (n : ℕ) (f g f' g' : ℕ → Phase) → ((q : ℕ) → f q +ᵖ g q ≡ f' q +ᵖ g' q) → sum_phase n f
    +ᵖ sum_phase n g ≡ sum_phase n f' +ᵖ sum_phase n g'
sum_phase-pair n f g f' g' h = sym (sum_phase-add n f g) ∙ fold-ext i⁰ ◌+ᵖ◌ n (λ q l. h q)
    ∙ sum_phase-add n f' g'

pub minus-⊕ : (a b : Bool) → minus (a ⊕ b) ≡ minus a +ᵖ minus b
minus-⊕ = phases 2 (λ a b. minus (a ⊕ b)) (λ a b. minus a +ᵖ minus b) tt

pub twice : (t : Phase) → imaginary t ≡ false → t +ᵖ t ≡ i⁰
twice i⁰ h = refl
twice i¹ h = absurd (true≢false h)
twice i² h = refl
twice i³ h = absurd (true≢false h)

pub minus-real : (b : Bool) → imaginary (minus b) ≡ false
minus-real = bits 1 (λ b. imaginary (minus b)) (λ b. false) tt

pub sign-minus : (b : Bool) → sign_bit (minus b) ≡ b
sign-minus = bits 1 (λ b. sign_bit (minus b)) (λ b. b) tt

pub minus-injective : (a b : Bool) → minus a ≡ minus b → a ≡ b
minus-injective a b e = sym (sign-minus a) ∙ ap sign_bit e ∙ sign-minus b

-- a phase that is a sign
pub sign-of-phase : (t : Phase) → imaginary t ≡ false → t ≡ minus (sign_bit t)
sign-of-phase i⁰ e = refl
sign-of-phase i¹ e = absurd (true≢false e)
sign-of-phase i² e = refl
sign-of-phase i³ e = absurd (true≢false e)

-- the sign of a sum of signs
pub minus-parity : (n : ℕ) (f : Word) → sum_phase n (λ q. minus (f q)) ≡ minus (parity n f)
minus-parity n f = sym (fold-hom false ◌⊕◌ i⁰ ◌+ᵖ◌ minus refl minus-⊕ n f)
