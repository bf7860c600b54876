-- The laws of rows: each is a law of letters, tested, and summed over the places.
use mathlib.Core.Bool.{◌&&◌, Bool, false}
use mathlib.Core.Path.{ap, ap₂, refl, sym, ◌∙◌, ◌≡◌}
use Prim.Native.Nat.{ℕ}
use Rattle.words.proofs.Finite.{bits, ⊕-assoc, ⊕-comm, ⊕-self, ⊕-zero}
use Rattle.words.proofs.Sums.{Monoid, bit_monoid, fold-ext, fold-hom, fold-unit, parity-add}
use Rattle.words.specs.Bits.{◌⊕◌}
use Rattle.pauli.proofs.PhaseLaws.{
  +ᵖ-assoc,
  +ᵖ-comm,
  +ᵖ-left,
  +ᵖ-zero,
  imaginary-+ᵖ,
  minus-⊕,
  phase_monoid,
  phases,
  sum_phase-add,
  sum_phase-pair,
  twice,
}
use Rattle.pauli.specs.Pauli.{
  ◌+ᵖ◌,
  Pauli,
  Phase,
  anticommute,
  clash,
  identity,
  imaginary,
  i⁰,
  letter,
  letter_at,
  letter_phase,
  minus,
  mul,
  scaled,
  sum_phase,
  x_bit,
  z_bit,
}
use Rattle.pauli.specs.declared.Letter.{Letter}
use Rattle.pauli.specs.declared.Letter.TheVariants.{I, X, Y, Z}

-- ---- the group laws. Each is a law of letters, tested, and summed over the places.

pub Pauli-path : {p r : Pauli} → p.phase ≡ r.phase → ((q : ℕ) → p.z q ≡ r.z q)
    → ((q : ℕ) → p.x q ≡ r.x q) → p ≡ r
Pauli-path {p} {r} ht hz hx = λ i. record { phase = ht i; z = λ q. hz q i; x = λ q. hx q i }

-- a letter is spelled by its two bits
pub letter-bits : (l : Letter) → letter (z_bit l) (x_bit l) ≡ l
letter-bits I = refl
letter-bits X = refl
letter-bits Y = refl
letter-bits Z = refl

abbrev phase_b : Bool → Bool → Bool → Bool → Phase
phase_b z x z' x' = letter_phase (letter z x) (letter z' x')

phase-assoc : (a b c d e f : Bool) → phase_b a b c d +ᵖ phase_b (a ⊕ c) (b ⊕ d) e f ≡ phase_b c d e f
    +ᵖ phase_b a b (c ⊕ e) (d ⊕ f)
phase-assoc = phases 6 (λ a b c d e f. phase_b a b c d
    +ᵖ phase_b (a ⊕ c) (b ⊕ d) e f) (λ a b c d e f. phase_b c d e f +ᵖ phase_b a b (c ⊕ e) (d ⊕ f)) tt

regroup : (a b m s : Phase) → (a +ᵖ b) +ᵖ (m +ᵖ s) ≡ m +ᵖ ((b +ᵖ a) +ᵖ s)
regroup a b m s = simp (+ᵖ-assoc, +ᵖ-comm, +ᵖ-left)

abbrev clash_b : Bool → Bool → Bool → Bool → Bool
clash_b z x z' x' = clash (letter z x) (letter z' x')

phase-I : (a b : Bool) → phase_b a b false false ≡ i⁰
phase-I = phases 2 (λ a b. phase_b a b false false) (λ a b. i⁰) tt

phase-self : (a b : Bool) → phase_b a b a b ≡ i⁰
phase-self = phases 2 (λ a b. phase_b a b a b) (λ a b. i⁰) tt

phase-swap : (a b c d : Bool) → phase_b a b c d ≡ minus (clash_b a b c d) +ᵖ phase_b c d a b
phase-swap = phases 4 phase_b (λ a b c d. minus (clash_b a b c d) +ᵖ phase_b c d a b) tt

phase-imaginary : (a b c d : Bool) → imaginary (phase_b a b c d) ≡ clash_b a b c d
phase-imaginary = bits 4 (λ a b c d. imaginary (phase_b a b c d)) clash_b tt

clash-sum : (a b c d e f : Bool) → clash_b (a ⊕ c) (b ⊕ d) e f ≡ clash_b a b e f ⊕ clash_b c d e f
clash-sum = bits 6 (λ a b c d e f. clash_b (a ⊕ c) (b ⊕ d) e f) (λ a b c d e f. clash_b a b e f
    ⊕ clash_b c d e f) tt

clash-self : (a b : Bool) → clash_b a b a b ≡ false
clash-self = bits 2 (λ a b. clash_b a b a b) (λ a b. false) tt

clash-swap : (a b c d : Bool) → clash_b a b c d ≡ clash_b c d a b
clash-swap = bits 4 clash_b (λ a b c d. clash_b c d a b) tt

-- the document's rule is the symplectic form
pub clash-form : (a b c d : Bool) → clash_b a b c d ≡ (a && d) ⊕ (b && c)
clash-form = bits 4 clash_b (λ a b c d. (a && d) ⊕ (b && c)) tt

module _ (n : ℕ) where
  pub mul_assoc : (p r s : Pauli) → mul n (mul n p r) s ≡ mul n p (mul n r s)
  unfolding mul anticommute
  mul_assoc p r s =
      Pauli-path
      (simp (+ᵖ-assoc, +ᵖ-comm)
      (ap (λ w. p.phase +ᵖ (r.phase +ᵖ (s.phase +ᵖ w)))
      (sum_phase-pair n _ _ _ _ (λ q. phase-assoc (p.z q) (p.x q) (r.z q) (r.x q) (s.z q) (s.x q)))))
      (λ q. ⊕-assoc (p.z q) (r.z q) (s.z q)) (λ q. ⊕-assoc (p.x q) (r.x q) (s.x q))

  pub identity-mul : (p : Pauli) → mul n identity p ≡ p
  unfolding mul anticommute
  identity-mul p = Pauli-path (ap (λ w. p.phase +ᵖ w) (fold-unit i⁰ ◌+ᵖ◌ phase_monoid n (λ q l. refl))
      ∙ +ᵖ-zero p.phase) (λ q. refl) (λ q. refl)

  pub mul-identity : (p : Pauli) → mul n p identity ≡ p
  unfolding mul anticommute
  mul-identity p =
      Pauli-path (ap₂ ◌+ᵖ◌ (+ᵖ-zero p.phase)
      (fold-unit i⁰ ◌+ᵖ◌ phase_monoid n (λ q l. phase-I (p.z q) (p.x q)))
      ∙ +ᵖ-zero p.phase) (λ q. ⊕-zero (p.z q)) (λ q. ⊕-zero (p.x q))

  pub pauli_monoid : Monoid Pauli identity (mul n)
  pauli_monoid = record { assoc = mul_assoc; unit-l = identity-mul; unit-r = mul-identity }

  -- p r = r p, or - r p where the places where both act and differ are odd in number
  pub mul-swap : (p r : Pauli) → mul n p r ≡ scaled (minus (anticommute n p r)) (mul n r p)
  unfolding mul anticommute
  mul-swap p r =
      Pauli-path
      (ap (λ w. (p.phase +ᵖ r.phase) +ᵖ w)
      (fold-ext i⁰ ◌+ᵖ◌ n (λ q l. phase-swap (p.z q) (p.x q) (r.z q) (r.x q))
      ∙ sum_phase-add n (λ q. minus (clash (letter_at p q) (letter_at r q)))
      (λ q. letter_phase (letter_at r q) (letter_at p q))
      ∙ ap (λ w. w +ᵖ sum_phase n (λ q. letter_phase (letter_at r q) (letter_at p q)))
      (sym (fold-hom false ◌⊕◌ i⁰ ◌+ᵖ◌ minus refl minus-⊕ n (λ q. clash (letter_at p q) (letter_at r q)))))
      ∙ regroup p.phase r.phase (minus (anticommute n p r)) _)
      (λ q. ⊕-comm (p.z q) (r.z q)) (λ q. ⊕-comm (p.x q) (r.x q))

  pub imaginary-mul : (p r : Pauli)
      → imaginary (mul n p r).phase ≡ (imaginary p.phase ⊕ imaginary r.phase) ⊕ anticommute n p r
  unfolding mul anticommute
  imaginary-mul p r =
      imaginary-+ᵖ (p.phase +ᵖ r.phase) _
      ∙ ap₂ ◌⊕◌ (imaginary-+ᵖ p.phase r.phase)
      (fold-hom i⁰ ◌+ᵖ◌ false ◌⊕◌ imaginary refl imaginary-+ᵖ n _
      ∙ fold-ext false ◌⊕◌ n (λ q l. phase-imaginary (p.z q) (p.x q) (r.z q) (r.x q)))

  pub square : (p : Pauli) → imaginary p.phase ≡ false → mul n p p ≡ identity
  unfolding mul anticommute
  square p h =
      Pauli-path (ap₂ ◌+ᵖ◌ (twice p.phase h)
      (fold-unit i⁰ ◌+ᵖ◌ phase_monoid n (λ q l. phase-self (p.z q) (p.x q)))) (λ q. ⊕-self (p.z q))
      (λ q. ⊕-self (p.x q))

  pub anticommute-mul : (p r s : Pauli) → anticommute n (mul n p r) s ≡ anticommute n p s ⊕ anticommute n r s
  unfolding mul anticommute
  anticommute-mul p r s =
      fold-ext false ◌⊕◌ n (λ q l. clash-sum (p.z q) (p.x q) (r.z q) (r.x q) (s.z q) (s.x q))
      ∙ parity-add n _ _

  pub anticommute-swap : (p r : Pauli) → anticommute n p r ≡ anticommute n r p
  unfolding mul anticommute
  anticommute-swap p r = fold-ext false ◌⊕◌ n (λ q l. clash-swap (p.z q) (p.x q) (r.z q) (r.x q))

  pub anticommute-self : (p : Pauli) → anticommute n p p ≡ false
  unfolding anticommute
  anticommute-self p = fold-unit false ◌⊕◌ bit_monoid n (λ q l. clash-self (p.z q) (p.x q))

  -- commuting operators with signs: the product has a sign, and the order does not matter
  pub signed_product : (p r : Pauli) → imaginary p.phase ≡ false → imaginary r.phase ≡ false
      → anticommute n p r ≡ false → imaginary (mul n p r).phase ≡ false
  signed_product p r hp hr h = imaginary-mul p r ∙ simp (hp, hr, h)

  pub mul_comm : (p r : Pauli) → anticommute n p r ≡ false → mul n p r ≡ mul n r p
  mul_comm p r h = mul-swap p r ∙ ap (λ b. scaled (minus b) (mul n r p)) h

  pub scaled-mul : (t : Phase) (p r : Pauli) → mul n (scaled t p) r ≡ scaled t (mul n p r)
  unfolding mul anticommute
  scaled-mul t p r = Pauli-path (simp +ᵖ-assoc) (λ q. refl) (λ q. refl)

  pub mul-scaled : (t : Phase) (p r : Pauli) → mul n p (scaled t r) ≡ scaled t (mul n p r)
  unfolding mul anticommute
  mul-scaled t p r = Pauli-path (simp (+ᵖ-assoc, +ᵖ-left)) (λ q. refl) (λ q. refl)

  pub mul-z : (p r : Pauli) (q : ℕ) → (mul n p r).z q ≡ p.z q ⊕ r.z q
  unfolding mul
  mul-z p r q = refl

  pub mul-x : (p r : Pauli) (q : ℕ) → (mul n p r).x q ≡ p.x q ⊕ r.x q
  unfolding mul
  mul-x p r q = refl

  -- commutation is a matter of the letters alone
  pub anticommute-letters : (p r : Pauli) (s t : Phase) →
      anticommute n (record { phase = s; z = p.z; x = p.x }) (record { phase = t; z = r.z; x = r.x })
      ≡ anticommute n p r
  unfolding anticommute
  anticommute-letters p r s t = refl
