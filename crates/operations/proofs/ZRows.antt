-- Rows of I and Z, and products with them.
use mathlib.Core.Bool.{◌&&◌, Bool, and-false, and-true, cond, false, true}
use mathlib.Core.Logic.{◌≢◌}
use mathlib.Core.Path.{ap, ap₂, refl, sym, ◌∙◌, ◌≡◌}
use Prim.Native.Nat.{◌<◌, ℕ}
use native.Mathlib.Decide.{ℕ_discrete}
use lib.Dec.{eqb}
use Rattle.clifford.specs.Clifford.{Clifford, image, image_phase}
use Rattle.clifford.specs.Vectors.{act}
use Rattle.record.specs.Graph.{Graph, graph_generator}
use Rattle.operations.specs.Cz.{cz, cz_sign, z_at}
use Rattle.pauli.proofs.PauliLaws.{Pauli-path, mul_comm}
use Rattle.pauli.proofs.PhaseLaws.{+ᵖ-assoc, +ᵖ-left, +ᵖ-zero, phase_monoid, phases, sum_phase-add}
use Rattle.pauli.specs.Pauli.{
  ◌+ᵖ◌,
  Pauli,
  Phase,
  i⁰,
  letter,
  letter_at,
  letter_phase,
  minus,
  mul,
  scaled,
  sum_phase,
  x_bit,
  z_bit,
}
use Rattle.pauli.specs.declared.Letter.TheVariants.{I, Z}
use Rattle.stabilizer.proofs.Products.{anticommute-form}
use Rattle.stabilizer.specs.Groups.{chosen}
use Rattle.words.proofs.Finite.{bits, ⊕-assoc, ⊕-zero}
use Rattle.words.proofs.Places.{other_place, same_place}
use Rattle.words.proofs.Sums.{bit_monoid, fold-one, fold-unit}
use Rattle.words.specs.Bits.{Word, ◌⊕◌}

-- Z at the places of a word
abbrev pub zs : Word → Pauli
zs w = record { phase = i⁰; z = w; x = λ q. false }

pub chosen-zs : (v : Bool) (w : Word) → chosen v (zs w) ≡ zs (λ q. v && w q)
chosen-zs false w = refl
chosen-zs true w = refl

-- codes that keep Z at every place of the word keep the row
pub zs-kept : (n : ℕ) (c : ℕ → Clifford) (w : Word)
    → ((q : ℕ) → w q ≡ true → (image (c q) Z ≡ Z) × (image_phase (c q) Z ≡ i⁰)) → act n c (zs w) ≡ zs w
unfolding act
zs-kept n c w h =
    Pauli-path (fold-unit i⁰ ◌+ᵖ◌ phase_monoid n (λ q l. at-phase q (w q) refl))
    (λ q. at-z q (w q) refl) (λ q. at_x q (w q) refl)
  where
    at-phase : (q : ℕ) (b : Bool) → w q ≡ b → image_phase (c q) (letter b false) ≡ i⁰
    at-phase q false e = refl
    at-phase q true e = (h q e).1

    at-z : (q : ℕ) (b : Bool) → w q ≡ b → z_bit (image (c q) (letter b false)) ≡ b
    at-z q false e = refl
    at-z q true e = ap z_bit (h q e).0

    at_x : (q : ℕ) (b : Bool) → w q ≡ b → x_bit (image (c q) (letter b false)) ≡ false
    at_x q false e = refl
    at_x q true e = ap x_bit (h q e).0

-- rows without x bits commute
pub zs-commute : (n : ℕ) (p r : Pauli) → ((q : ℕ) → q < n → p.x q ≡ false) → ((q : ℕ) → q < n → r.x q ≡ false)
    → mul n p r ≡ mul n r p
zs-commute n p r h k =
    mul_comm n p r (anticommute-form n p r
    ∙ ap₂ ◌⊕◌ (fold-unit false ◌⊕◌ bit_monoid n (λ q l. ap (λ b. p.z q && b) (k q l) ∙ and-false (p.z q)))
    (fold-unit false ◌⊕◌ bit_monoid n (λ q l. ap (λ b. b && r.z q) (h q l))))

-- a row without an x bit there commutes with Z at a place
pub at-commute : (n b : ℕ) (p : Pauli) → p.x b ≡ false → mul n p (z_at b) ≡ mul n (z_at b) p
at-commute n b p h =
    mul_comm n p (z_at b) (anticommute-form n p (z_at b)
    ∙ ap₂ ◌⊕◌ (fold-unit false ◌⊕◌ bit_monoid n (λ q l. and-false (p.z q)))
    (fold-unit false ◌⊕◌ bit_monoid n (λ q l. none q (ℕ_discrete q b))))
  where
    none : (q : ℕ) → Dec (q ≡ b) → (p.x q && eqb q b) ≡ false
    none q (yes d) = ap (λ t. p.x t && eqb q b) d ∙ ap (λ v. v && eqb q b) h
    none q (no d) = ap (λ v. p.x q && v) (other_place d) ∙ and-false (p.x q)

-- ---- a generator with other neighbours
-- two words of Z that agree at j itself
joined-phase : (z x u v : Bool) → (x && (u ⊕ v)) ≡ false
    → letter_phase (letter z x) (letter u false) +ᵖ letter_phase (letter (z ⊕ u) (x ⊕ false)) (letter v false) ≡ i⁰
joined-phase z x u v e =
    ap (λ b. cond b i⁰ (gains z x u v)) (sym e)
    ∙ phases 4 (λ z x u v. cond (x && (u ⊕ v)) i⁰ (gains z x u v)) (λ z x u v. i⁰) tt z x u v
  where
    gains : Bool → Bool → Bool → Bool → Phase
    gains z x u v =
        letter_phase (letter z x) (letter u false) +ᵖ letter_phase (letter (z ⊕ u) (x ⊕ false)) (letter v false)

pub joined-generator : (n : ℕ) (θ : Graph) (j : ℕ) (u v : Word) → u j ≡ v j
    → graph_generator (λ i q. θ i q ⊕ (u q ⊕ v q)) j ≡ mul n (mul n (graph_generator θ j) (zs u)) (zs v)
unfolding mul
joined-generator n θ j u v e =
    Pauli-path
    (sym (ap (λ t. t +ᵖ second) (+ᵖ-zero first)
    ∙ sym (sum_phase-add n (λ q. letter_phase (letter (θ j q) (eqb q j)) (letter (u q) false))
    (λ q. letter_phase (letter (θ j q ⊕ u q) (eqb q j ⊕ false)) (letter (v q) false)))
    ∙ fold-unit i⁰ ◌+ᵖ◌ phase_monoid n (λ q l. joined-phase (θ j q) (eqb q j) (u q) (v q) (agree q (ℕ_discrete q j)))))
    (λ q. sym (⊕-assoc (θ j q) (u q) (v q)))
    (λ q. sym (⊕-zero (eqb q j ⊕ false) ∙ ⊕-zero (eqb q j)))
  where
    first : Phase
    first = sum_phase n (λ q. letter_phase (letter (θ j q) (eqb q j)) (letter (u q) false))

    second : Phase
    second = sum_phase n (λ q. letter_phase (letter (θ j q ⊕ u q) (eqb q j ⊕ false)) (letter (v q) false))

    same : (a b : Bool) → a ≡ b → a ⊕ b ≡ false
    same false b h = sym h
    same true false h = h
    same true true h = refl

    agree : (q : ℕ) → Dec (q ≡ j) → (eqb q j && (u q ⊕ v q)) ≡ false
    agree q (yes d) = ap (λ b. eqb q j && b) (ap (λ t. u t ⊕ v t) d ∙ same (u j) (v j) e) ∙ and-false (eqb q j)
    agree q (no d) = ap (λ b. b && (u q ⊕ v q)) (other_place d)

-- ---- CZ as a product
cz-signs : (za xa zb xb : Bool)
    → minus (xa && xb) +ᵖ (letter_phase (letter zb xb) (letter xa false) +ᵖ letter_phase (letter za xa) (letter xb false))
    ≡ minus (cz_sign za xa zb xb)
cz-signs = phases 4
    (λ za xa zb xb. minus (xa && xb) +ᵖ
    (letter_phase (letter zb xb) (letter xa false) +ᵖ letter_phase (letter za xa) (letter xb false)))
    (λ za xa zb xb. minus (cz_sign za xa zb xb)) tt

none-there : (z x : Bool) → letter_phase (letter z x) I ≡ i⁰
none-there = phases 2 (λ z x. letter_phase (letter z x) I) (λ z x. i⁰) tt

module _ (n a b : ℕ) (ha : a < n) (hb : b < n) (ab : a ≢ b) (p : Pauli) where
  abbrev xa : Bool
  xa = p.x a

  abbrev xb : Bool
  xb = p.x b

  -- a Z at one place alone
  one-z : (f g : Word) (v : Bool) (c : ℕ) → c < n
      → sum_phase n (λ q. letter_phase (letter (f q) (g q)) (letter (v && eqb q c) false))
      ≡ letter_phase (letter (f c) (g c)) (letter v false)
  one-z f g v c h =
      fold-one i⁰ ◌+ᵖ◌ phase_monoid n c h
      (λ q k d. ap (λ t. letter_phase (letter (f q) (g q)) (letter t false))
      (ap (λ t. v && t) (other_place d) ∙ and-false v)
      ∙ none-there (f q) (g q))
      ∙ ap (λ t. letter_phase (letter (f c) (g c)) (letter t false)) (ap (λ t. v && t) (same_place c) ∙ and-true v)

  cz-z : (z A B u v : Bool) → z ⊕ ((A && v) ⊕ (B && u)) ≡ (z ⊕ (u && B)) ⊕ (v && A)
  cz-z = bits 5 (λ z A B u v. z ⊕ ((A && v) ⊕ (B && u))) (λ z A B u v. (z ⊕ (u && B)) ⊕ (v && A)) tt

  pub cz-product : cz a b p
      ≡ scaled (minus (p.x a && p.x b)) (mul n (mul n p (chosen (p.x a) (z_at b))) (chosen (p.x b) (z_at a)))
  unfolding cz mul
  cz-product =
      Pauli-path {r = scaled (minus (xa && xb)) (mul n (mul n p (zs (λ q. xa && eqb q b))) (zs (λ q. xb && eqb q a)))}
      (sym (ap (λ t. minus (xa && xb) +ᵖ t)
      (ap₂ (λ s t. (((p.phase +ᵖ i⁰) +ᵖ s) +ᵖ i⁰) +ᵖ t) (one-z p.z p.x xa b hb)
      (one-z (λ q. p.z q ⊕ (xa && eqb q b)) (λ q. p.x q ⊕ false) xb a ha
      ∙ ap₂ (λ z x. letter_phase (letter z x) (letter xb false))
      (ap (λ t. p.z a ⊕ t) (ap (λ t. xa && t) (other_place ab) ∙ and-false xa) ∙ ⊕-zero (p.z a)) (⊕-zero (p.x a))))
      ∙ regroup p.phase (minus (xa && xb)) _ (letter_phase (letter_at p b) (letter xa false))
      (letter_phase (letter_at p a) (letter xb false)) (cz-signs (p.z a) xa (p.z b) xb)))
      (λ q. cz-z (p.z q) (eqb q a) (eqb q b) xa xb)
      (λ q. sym (⊕-zero (p.x q ⊕ false) ∙ ⊕-zero (p.x q)))
      ∙ ap₂ (λ u v. scaled (minus (xa && xb)) (mul n (mul n p u) v)) (sym (chosen-zs xa (λ q. eqb q b)))
      (sym (chosen-zs xb (λ q. eqb q a)))
    where
      regroup : (t m s u v : Phase) → m +ᵖ (u +ᵖ v) ≡ s → m +ᵖ ((((t +ᵖ i⁰) +ᵖ u) +ᵖ i⁰) +ᵖ v) ≡ t +ᵖ s
      regroup t m s u v e =
          ap (λ a. m +ᵖ (a +ᵖ v)) (+ᵖ-zero ((t +ᵖ i⁰) +ᵖ u) ∙ ap (λ a. a +ᵖ u) (+ᵖ-zero t))
          ∙ ap (λ a. m +ᵖ a) (+ᵖ-assoc t u v) ∙ +ᵖ-left m t (u +ᵖ v) ∙ ap (λ a. t +ᵖ a) e
