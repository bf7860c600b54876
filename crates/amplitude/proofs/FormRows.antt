-- Records of reduced form: the generator of a vertex with a Hadamard has no x bit, z bits at itself and its neighbours,
-- and the sign of its code.
use mathlib.Core.Bool.{◌&&◌, Bool, and-false, cond, false, not, true, true≢false}
use mathlib.Core.Path.{◌∙◌, ◌≡◌, ap, refl, sym}
use Prim.Native.Nat.{◌<◌, ℕ}
use native.Mathlib.Decide.{ℕ_discrete}
use native.Mathlib.Omega.{arith}
use lib.Dec.{eqb}
use Rattle.clifford.specs.Clifford.{Class, XY, XZ, YX, YZ, ZX, ZY, bit_c, code_of, image, image_phase}
use Rattle.clifford.specs.Vectors.{act}
use Rattle.record.specs.Graph.{Simple}
use Rattle.operations.proofs.ReducedForms.{apart, form-x}
use Rattle.operations.specs.internal.ReducedForms.{ReducedForm}
use Rattle.pauli.proofs.PhaseLaws.{minus-⊕, phase_monoid, phases}
use Rattle.pauli.specs.Pauli.{◌+ᵖ◌, Pauli, i⁰, letter, minus, z_bit}
use Rattle.record.specs.Records.{GraphRecord, rows_of}
use Rattle.words.proofs.Places.{other_place, same_place}
use Rattle.words.proofs.Sums.{fold-ext, fold-hom, fold-one}
use Rattle.words.specs.Bits.{Word, ◌⊕◌, parity}
use Rattle.amplitude.specs.internal.Ratios.{Diagonal}
use Rattle.amplitude.specs.Turns.{letter_turns, turns_at}

-- ---- a diagonal row gives each word a sign: that of the z bits that both have
pub diagonal-turns : (n : ℕ) (p : Pauli) → Diagonal n p → (y : Word)
    → turns_at n p y ≡ p.phase +ᵖ minus (parity n (λ q. p.z q && y q))
unfolding turns_at
diagonal-turns n p d y = ap (λ t. p.phase +ᵖ t)
    (fold-ext i⁰ ◌+ᵖ◌ n (λ q l. ap (λ x. letter_turns (letter (p.z q) x) (y q)) (d q l) ∙ place (p.z q) (y q))
    ∙ sym (fold-hom false ◌⊕◌ i⁰ ◌+ᵖ◌ minus refl minus-⊕ n (λ q. p.z q && y q)))
  where
    place : (z b : Bool) → letter_turns (letter z false) b ≡ minus (z && b)
    place = phases 2 (λ z b. letter_turns (letter z false) b) (λ z b. minus (z && b)) tt

-- ---- a place of a generator: g, an edge; e, the own place. Where C is 1 there is no edge, where it is 0 not the own
-- place
z-place : (c : Class) (s t g e : Bool) → code_of (record { class = c; sx = s; sz = t }) < 12
    → (bit_c (record { class = c; sx = s; sz = t }) && g) ≡ false
    → (not (bit_c (record { class = c; sx = s; sz = t })) && e) ≡ false
    → z_bit (image (record { class = c; sx = s; sz = t }) (letter g e)) ≡ e ⊕ g
z-place XZ s t g true l a b = absurd (true≢false b)
z-place XZ s t false false l a b = refl
z-place XZ s t true false l a b = refl
z-place YZ s t g true l a b = absurd (true≢false b)
z-place YZ s t false false l a b = refl
z-place YZ s t true false l a b = refl
z-place ZX s t true e l a b = absurd (true≢false a)
z-place ZX s t false false l a b = refl
z-place ZX s t false true l a b = refl
z-place XY s t g e l a b = absurd (omega (arith, l))
z-place YX s t g e l a b = absurd (omega (arith, l))
z-place ZY s t g e l a b = absurd (omega (arith, l))

phase-place : (c : Class) (s t g e : Bool) → code_of (record { class = c; sx = s; sz = t }) < 12 → t ≡ false
    → (bit_c (record { class = c; sx = s; sz = t }) && g) ≡ false
    → (not (bit_c (record { class = c; sx = s; sz = t })) && e) ≡ false
    → image_phase (record { class = c; sx = s; sz = t }) (letter g e) ≡ cond e (minus s) i⁰
phase-place XZ s t g true l z a b = absurd (true≢false b)
phase-place XZ s t false false l z a b = refl
phase-place XZ s t true false l z a b = ap minus z
phase-place YZ s t g true l z a b = absurd (true≢false b)
phase-place YZ s t false false l z a b = refl
phase-place YZ s t true false l z a b = ap minus z
phase-place ZX s t true e l z a b = absurd (true≢false a)
phase-place ZX s t false false l z a b = refl
phase-place ZX s t false true l z a b = refl
phase-place XY s t g e l z a b = absurd (omega (arith, l))
phase-place YX s t g e l z a b = absurd (omega (arith, l))
phase-place ZY s t g e l z a b = absurd (omega (arith, l))

module _ (n : ℕ) (r : GraphRecord) (S : Simple n r.graph) (F : ReducedForm n r) where
  -- C of a vertex
  abbrev rotated : ℕ → Bool
  rotated q = bit_c (r.codes q)

  module _ (j : ℕ) (hj : j < n) (c : bit_c (r.codes j) ≡ true) where
    no_edge : (q : ℕ) → q < n → (bit_c (r.codes q) && r.graph j q) ≡ false
    no_edge q l = go (rotated q) refl
      where
        go : (b : Bool) → rotated q ≡ b → (b && r.graph j q) ≡ false
        go false e = refl
        go true e = apart n r S F j q hj l c e

    own-rotated : (q : ℕ) → (not (bit_c (r.codes q)) && eqb q j) ≡ false
    own-rotated q = elim (ℕ_discrete q j) [
      | yes e ↦ ap (λ b. not b && eqb q j) (ap rotated e ∙ c)
      | no d ↦ ap (λ b. not (rotated q) && b) (other_place d) ∙ and-false (not (rotated q))
    ]

    pub rotated-diagonal : Diagonal n (rows_of n r j)
    rotated-diagonal q l = form-x n r S F j q l ∙ go (rotated q) (no_edge q l) (own-rotated q)
      where
        go : (b : Bool) → (b && r.graph j q) ≡ false → (not b && eqb q j) ≡ false
            → cond b (r.graph j q) (eqb q j) ≡ false
        go true e f = e
        go false e f = f

    pub rotated-z : (q : ℕ) → q < n → (rows_of n r j).z q ≡ eqb q j ⊕ r.graph j q
    unfolding act
    rotated-z q l = z-place (r.codes q).class (r.codes q).sx (r.codes q).sz (r.graph j q) (eqb q j)
        (F.low q l) (no_edge q l) (own-rotated q)

    pub rotated-phase : (rows_of n r j).phase ≡ minus (r.codes j).sx
    unfolding act
    rotated-phase =
        fold-ext i⁰ ◌+ᵖ◌ n (λ q l. phase-place (r.codes q).class (r.codes q).sx (r.codes q).sz
        (r.graph j q) (eqb q j) (F.low q l) (F.even q l) (no_edge q l) (own-rotated q))
        ∙ fold-one i⁰ ◌+ᵖ◌ phase_monoid n j hj (λ q l d. ap (λ e. cond e (minus (r.codes q).sx) i⁰) (other_place d))
        ∙ ap (λ e. cond e (minus (r.codes j).sx) i⁰) (same_place j)
