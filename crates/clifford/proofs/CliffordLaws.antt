-- Laws of the 24 Cliffords, each by one computed test over all of them.
use mathlib.Core.Bool.{◌&&◌, Bool, false, true}
use mathlib.Core.Path.{ap, refl, sym, ◌∙◌, ◌≡◌}
use Prim.Native.Nat.{◌<◌, ℕ}
use native.Mathlib.Omega.{arith}
use lib.Dec.{T, eqb, eqb→eq, lit<}
use borrow.Author.Tests.{eqb-true}
use Rattle.pauli.proofs.PhaseLaws.{+ᵖ-assoc, minus-⊕, phases}
use Rattle.pauli.specs.Pauli.{
  ◌+ᵖ◌,
  Phase,
  clash,
  imaginary,
  i⁰,
  letter,
  letter_phase,
  minus,
  sign_bit,
  x_bit,
  z_bit,
}
use Rattle.words.proofs.BitLaws.{digit_lt}
use Rattle.words.proofs.Finite.{Law, Of, and_l, and_r, bits, law, same_bit→≡, test}
use Rattle.words.proofs.SearchLaws.{every-at}
use Rattle.words.specs.Bits.{same_bit, ◌⊕◌}
use Rattle.words.specs.Search.{every, first, some}
use Rattle.clifford.specs.Clifford.{
  Class,
  Clifford,
  XY,
  XZ,
  YX,
  YZ,
  ZX,
  ZY,
  class_number,
  class_of,
  clifford_of,
  code_of,
  identity_clifford,
  image,
  image_phase,
  image_x,
  image_z,
  inverse,
  then,
}

-- ---- a law over cliffords is a law over from_five bits
abbrev pub from_bits : Bool → Bool → Bool → Class
from_bits false false false = XZ
from_bits false false true = YZ
from_bits false true false = ZX
from_bits false true true = XY
from_bits true false false = YX
from_bits true false true = ZY
from_bits true true false = ZY
from_bits true true true = ZY

on_class : (P : Class → Type 0) → ((a b c : Bool) → P (from_bits a b c)) → (k : Class) → P k
on_class P h XZ = h false false false
on_class P h YZ = h false false true
on_class P h ZX = h false true false
on_class P h XY = h false true true
on_class P h YX = h true false false
on_class P h ZY = h true false true

abbrev pub from_five : Bool → Bool → Bool → Bool → Bool → Clifford
from_five a b c d e = record { class = from_bits a b c; sx = d; sz = e }

pub on_clifford : (P : Clifford → Type 0) → ((a b c d e : Bool) → P (from_five a b c d e)) → (k : Clifford)
    → P k
on_clifford P h k = on_class (λ m. P (record { class = m; sx = k.sx; sz = k.sz }))
    (λ a b c. h a b c k.sx k.sz) k.class

abbrev pub z_after : Clifford → Bool → Bool → Bool
z_after c z x = z_bit (image c (letter z x))

abbrev pub x_after : Clifford → Bool → Bool → Bool
x_after c z x = x_bit (image c (letter z x))

abbrev pub phase_after : Clifford → Bool → Bool → Phase
phase_after c z x = image_phase c (letter z x)

pub z_after-sum : (k : Clifford) (z x z' x' : Bool) → z_after k (z ⊕ z') (x ⊕ x') ≡ z_after k z x
    ⊕ z_after k z' x'
z_after-sum = on_clifford _
    (bits 9 (λ a b c d e z x z' x'. z_after (from_five a b c d e) (z ⊕ z') (x ⊕ x'))
    (λ a b c d e z x z' x'. z_after (from_five a b c d e) z x ⊕ z_after (from_five a b c d e) z' x') tt)

pub x_after-sum : (k : Clifford) (z x z' x' : Bool) → x_after k (z ⊕ z') (x ⊕ x') ≡ x_after k z x
    ⊕ x_after k z' x'
x_after-sum = on_clifford _
    (bits 9 (λ a b c d e z x z' x'. x_after (from_five a b c d e) (z ⊕ z') (x ⊕ x'))
    (λ a b c d e z x z' x'. x_after (from_five a b c d e) z x ⊕ x_after (from_five a b c d e) z' x') tt)

abbrev pub product_first : Clifford → Bool → Bool → Bool → Bool → Phase
product_first k z x z' x' = letter_phase (letter z x) (letter z' x') +ᵖ phase_after k (z ⊕ z') (x ⊕ x')

abbrev pub images_first : Clifford → Bool → Bool → Bool → Bool → Phase
images_first k z x z' x' = (phase_after k z x +ᵖ phase_after k z' x')
    +ᵖ letter_phase (letter (z_after k z x) (x_after k z x)) (letter (z_after k z' x') (x_after k z' x'))

pub phase_after-sum : (k : Clifford) (z x z' x' : Bool) → product_first k z x z' x' ≡ images_first k z x z' x'
phase_after-sum = on_clifford _
    (phases 9 (λ a b c d e. product_first (from_five a b c d e)) (λ a b c d e. images_first (from_five a b c d e))
    tt)

-- ---- the images under a composite are those of the images
-- the letters, by one test over 6 · 6 classes: it looks at no sign
pub z_after-then : (k m : Clifford) (z x : Bool)
    → z_after (then k m) z x ≡ z_after m (z_after k z x) (x_after k z x)
z_after-then = on_clifford _ λ a b c d e. on_clifford _ λ a' b' c' d' e'.
    bits 8 (λ a b c a' b' c'. z_after (then (from_five a b c d e) (from_five a' b' c' d' e')))
    (λ a b c a' b' c' z x. z_after (from_five a' b' c' d' e') (z_after (from_five a b c d e) z x)
    (x_after (from_five a b c d e) z x)) tt a b c a' b' c'

pub x_after-then : (k m : Clifford) (z x : Bool)
    → x_after (then k m) z x ≡ x_after m (z_after k z x) (x_after k z x)
x_after-then = on_clifford _ λ a b c d e. on_clifford _ λ a' b' c' d' e'.
    bits 8 (λ a b c a' b' c'. x_after (then (from_five a b c d e) (from_five a' b' c' d' e')))
    (λ a b c a' b' c' z x. x_after (from_five a' b' c' d' e') (z_after (from_five a b c d e) z x)
    (x_after (from_five a b c d e) z x)) tt a b c a' b' c'

-- the phases: the signs of the first one are a factor, so the test is over 6 · 24 cliffords
abbrev plain : Clifford → Clifford
plain k = record { class = k.class; sx = false; sz = false }

abbrev signs : Clifford → Bool → Bool → Bool
signs k z x = (x && k.sx) ⊕ (z && k.sz)

phase_after-signs : (k : Clifford) (z x : Bool) → phase_after k z x ≡ minus (signs k z x) +ᵖ phase_after (plain k) z x
phase_after-signs = on_clifford _
    (phases 7 (λ a b c d e. phase_after (from_five a b c d e))
    (λ a b c d e z x. minus (signs (from_five a b c d e) z x) +ᵖ phase_after (plain (from_five a b c d e)) z x) tt)

signs-⊕ : (z x a b a' b' : Bool) → (x && (a ⊕ a')) ⊕ (z && (b ⊕ b')) ≡ ((x && a) ⊕ (z && b)) ⊕ ((x && a') ⊕ (z && b'))
signs-⊕ = bits 6 (λ z x a b a' b'. (x && (a ⊕ a')) ⊕ (z && (b ⊕ b')))
    (λ z x a b a' b'. ((x && a) ⊕ (z && b)) ⊕ ((x && a') ⊕ (z && b'))) tt

plain_then : (k m : Clifford) (z x : Bool) → phase_after (then (plain k) m) z x ≡ phase_after (plain k) z x
    +ᵖ phase_after m (z_after k z x) (x_after k z x)
plain_then = on_clifford _ λ a b c d e. on_clifford _
    (phases 10 (λ a b c a' b' c' d' e'. phase_after (then (plain (from_five a b c d e)) (from_five a' b' c' d' e')))
    (λ a b c a' b' c' d' e' z x. phase_after (plain (from_five a b c d e)) z x
    +ᵖ phase_after (from_five a' b' c' d' e') (z_after (from_five a b c d e) z x)
    (x_after (from_five a b c d e) z x)) tt a b c)

pub phase_after-then : (k m : Clifford) (z x : Bool) → phase_after (then k m) z x ≡ phase_after k z x
    +ᵖ phase_after m (z_after k z x) (x_after k z x)
phase_after-then k m z x =
    phase_after-signs (then k m) z x
    ∙ ap (λ t. t +ᵖ phase_after (plain (then k m)) z x)
    (ap minus (signs-⊕ z x k.sx k.sz (then (plain k) m).sx (then (plain k) m).sz)
    ∙ minus-⊕ (signs k z x) (signs (then (plain k) m) z x))
    ∙ +ᵖ-assoc (minus (signs k z x)) (minus (signs (then (plain k) m) z x)) (phase_after (plain (then k m)) z x)
    ∙ ap (λ t. minus (signs k z x) +ᵖ t) (sym (phase_after-signs (then (plain k) m) z x) ∙ plain_then k m z x)
    ∙ sym (+ᵖ-assoc (minus (signs k z x)) (phase_after (plain k) z x) _)
    ∙ ap (λ t. t +ᵖ phase_after m (z_after k z x) (x_after k z x)) (sym (phase_after-signs k z x))

-- equality of cliffords is that of from_five bits
abbrev pub same_class : Class → Class → Bool
same_class a b = eqb (class_number a) (class_number b)

pub class_of-number : (a : Class) → class_of (class_number a) ≡ a
class_of-number XZ = refl
class_of-number YZ = refl
class_of-number ZX = refl
class_of-number XY = refl
class_of-number YX = refl
class_of-number ZY = refl

abbrev pub same_clifford : Clifford → Clifford → Bool
same_clifford a b = same_class a.class b.class && (same_bit a.sx b.sx && same_bit a.sz b.sz)

pub same_clifford→≡ : (a b : Clifford) → T (same_clifford a b) → a ≡ b
same_clifford→≡ a b t =
    λ i. record {
      class = cl i;
      sx =
          same_bit→≡ a.sx b.sx (and_l (same_bit a.sx b.sx) (same_bit a.sz b.sz) t2') i;
      sz =
          same_bit→≡ a.sz b.sz (and_r (same_bit a.sx b.sx) (same_bit a.sz b.sz) t2') i;
    }
  where
    t2' : T (same_bit a.sx b.sx && same_bit a.sz b.sz)
    t2' = and_r (same_class a.class b.class) (same_bit a.sx b.sx && same_bit a.sz b.sz) t

    cl : a.class ≡ b.class
    cl = sym (class_of-number a.class)
        ∙ ap class_of (eqb→eq (class_number a.class) (class_number b.class)
        (and_l (same_class a.class b.class) (same_bit a.sx b.sx && same_bit a.sz b.sz) t))
        ∙ class_of-number b.class

pub cliffords : (k : ℕ) (f g : Of k Clifford) → T (test same_clifford k f g) → Law Clifford k f g
cliffords = law same_clifford same_clifford→≡

-- ---- the inverse
-- classes 4 and 5 undo each other, the others themselves
abbrev pub inverse_class : Class → Class
inverse_class XZ = XZ
inverse_class YZ = YZ
inverse_class ZX = ZX
inverse_class XY = XY
inverse_class YX = ZY
inverse_class ZY = YX

-- X and Z go back to the letters from which they come, with the signs of these
abbrev pub undone : Clifford → Clifford
undone k =
    record {
      class = inverse_class k.class;
      sx = sign_bit (image_phase k (image_x (inverse_class k.class)));
      sz = sign_bit (image_phase k (image_z (inverse_class k.class)));
    }

pub inverse-is : (k : Clifford) → inverse k ≡ undone k
unfolding inverse first some
inverse-is = on_clifford _
    (cliffords 5 (λ a b c d e. inverse (from_five a b c d e)) (λ a b c d e. undone (from_five a b c d e)) tt)

pub then-inverse : (k : Clifford) → then k (inverse k) ≡ identity_clifford
then-inverse k = ap (then k) (inverse-is k)
    ∙ on_clifford (λ k. then k (undone k) ≡ identity_clifford)
    (cliffords 5 (λ a b c d e. then (from_five a b c d e) (undone (from_five a b c d e)))
    (λ a b c d e. identity_clifford) tt) k

pub inverse-then : (k : Clifford) → then (inverse k) k ≡ identity_clifford
inverse-then k = ap (λ m. then m k) (inverse-is k)
    ∙ on_clifford (λ k. then (undone k) k ≡ identity_clifford)
    (cliffords 5 (λ a b c d e. then (undone (from_five a b c d e)) (from_five a b c d e))
    (λ a b c d e. identity_clifford) tt) k

pub clifford_of-code_of : (k : Clifford) → clifford_of (code_of k) ≡ k
clifford_of-code_of = on_clifford _
    (cliffords 5 (λ a b c d e. clifford_of (code_of (from_five a b c d e))) (λ a b c d e. from_five a b c d e) tt)

-- ---- signs and commutation are kept
pub phase_after-signed : (k : Clifford) (z x : Bool) → imaginary (phase_after k z x) ≡ false
phase_after-signed = on_clifford _
    (bits 7 (λ a b c d e z x. imaginary (phase_after (from_five a b c d e) z x)) (λ a b c d e z x. false) tt)

pub clash-after : (k : Clifford) (z x z' x' : Bool)
    → clash (letter (z_after k z x) (x_after k z x)) (letter (z_after k z' x') (x_after k z' x')) ≡ clash
    (letter z x) (letter z' x')
clash-after = on_clifford _
    (bits 9 (λ a b c d e z x z' x'. clash
    (letter (z_after (from_five a b c d e) z x) (x_after (from_five a b c d e) z x))
    (letter (z_after (from_five a b c d e) z' x') (x_after (from_five a b c d e) z' x')))
    (λ a b c d e z x z' x'. clash (letter z x) (letter z' x')) tt)

-- ---- codes are below 24
pub class-lt : (m : Class) → class_number m < 6
class-lt XZ = lit< tt
class-lt YZ = lit< tt
class-lt ZX = lit< tt
class-lt XY = lit< tt
class-lt YX = lit< tt
class-lt ZY = lit< tt

pub code_of-lt : (k : Clifford) → code_of k < 24
code_of-lt k = omega (arith, class-lt k.class, digit_lt k.sx, digit_lt k.sz)

-- a number below 24 is the code of its Clifford
pub code_of-clifford_of : (c : ℕ) → c < 24 → code_of (clifford_of c) ≡ c
unfolding every
code_of-clifford_of c l = eqb-true (code_of (clifford_of c)) c
    (every-at 24 (λ c. eqb (code_of (clifford_of c)) c) refl c l)

-- ---- the identity
pub phase_after-id : (z x : Bool) → phase_after identity_clifford z x ≡ i⁰
phase_after-id = phases 2 (phase_after identity_clifford) (λ z x. i⁰) tt

pub z_after-id : (z x : Bool) → z_after identity_clifford z x ≡ z
z_after-id = bits 2 (z_after identity_clifford) (λ z x. z) tt

pub x_after-id : (z x : Bool) → x_after identity_clifford z x ≡ x
x_after-id = bits 2 (x_after identity_clifford) (λ z x. x) tt

pub then_id : (k : Clifford) → then k identity_clifford ≡ k
then_id = on_clifford _ (cliffords 5 (λ a b c d e. then (from_five a b c d e) identity_clifford) from_five tt)
