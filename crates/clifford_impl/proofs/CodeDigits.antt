-- Images and inverses as the code works them out, from the digits of a code: its class and its two signs. What follows
-- for what the calls answer is in CodeSigns.
use mathlib.Core.Bool.{◌&&◌, Bool, beq, false, not, true}
use mathlib.Core.Path.{ap, ap₂, refl, sym, ◌∙◌, ◌≡◌}
use Prim.Native.Nat.{◌*◌, ◌+◌, ◌/◌, ◌<◌, ℕ}
use lib.Bits.{bit_xor}
use lib.Dec.{eqb, leb, lit<, ltb}
use mir.Val.{bool_byte}
use borrow.Author.Tests.{eqb-true, ltb-true}
use Rattle.pauli.proofs.PauliLaws.{letter-bits}
use Rattle.pauli.specs.Pauli.{letter, minus, same_phase, sign_bit, x_bit, z_bit}
use Rattle.pauli.specs.declared.Letter.{Letter}
use Rattle.pauli.specs.declared.Letter.TheVariants.{I, X, Y, Z}
use Rattle.words.proofs.Finite.{unequal, ⊕-zero}
use Rattle.words.proofs.SearchLaws.{every-at}
use Rattle.words.specs.Bits.{is_odd, ◌⊕◌}
use Rattle.words.specs.Search.{every}
use Rattle.clifford.proofs.CliffordLaws.{inverse-is, undone}
use Rattle.clifford.specs.Clifford.{
  Clifford,
  clifford_of,
  code_of,
  image,
  image_phase,
  image_x,
  image_z,
  inverse,
}

-- ---- the letter of an image, bit by bit: that of X where the letter has an X, times that of Z where it has a Z
abbrev image_bit : Letter → Bool → Bool → Bool
image_bit l a b = (x_bit l && a) ⊕ (z_bit l && b)

image-bits : (k : Clifford) (l : Letter) →
    letter (image_bit l (z_bit (image_x k.class)) (z_bit (image_z k.class)))
    (image_bit l (x_bit (image_x k.class)) (x_bit (image_z k.class))) ≡ image k l
image-bits k I = refl
image-bits k X =
    ap₂ letter (⊕-zero (z_bit (image_x k.class))) (⊕-zero (x_bit (image_x k.class))) ∙ letter-bits _
image-bits k Y = refl
image-bits k Z = letter-bits (image_z k.class)

-- .. from what the code's calls answer
abbrev coded_bit : Bool → Bool → Bool → Bool → Bool
coded_bit x z a b = not (beq (x && a) (z && b))

pub letter-by-calls : (k : Clifford) (l : Letter) (x z za zb xa xb : Bool) {a b r : Letter} →
    a ≡ image_x k.class → b ≡ image_z k.class → x ≡ x_bit l → z ≡ z_bit l →
    za ≡ z_bit a → zb ≡ z_bit b → xa ≡ x_bit a → xb ≡ x_bit b →
    r ≡ letter (coded_bit x z za zb) (coded_bit x z xa xb) → r ≡ image k l
letter-by-calls k l x z za zb xa xb ea eb ex ez eza ezb exa exb er =
    er ∙ ap₂ letter (bit_is za zb (eza ∙ ap z_bit ea) (ezb ∙ ap z_bit eb))
    (bit_is xa xb (exa ∙ ap x_bit ea) (exb ∙ ap x_bit eb))
    ∙ image-bits k l
  where
    bit_is : (u v : Bool) {u' v' : Bool} → u ≡ u' → v ≡ v' → coded_bit x z u v ≡ image_bit l u' v'
    bit_is u v eu ev = unequal (x && u) (z && v) ∙ ap₂ ◌⊕◌ (ap₂ ◌&&◌ ex eu) (ap₂ ◌&&◌ ez ev)

-- ---- the sign of an image, by one test over the 24 codes for each letter
abbrev pub image_minus : ℕ → Bool → Bool → Bool
image_minus c x z =
    not (beq (not (beq (x && is_odd (c / 2)) (z && is_odd c))) ((x && z) && (leb 4 c && ltb c 16)))

abbrev pub minus_holds : Letter → ℕ → Bool
minus_holds l c = same_phase (minus (image_minus c (x_bit l) (z_bit l))) (image_phase (clifford_of c) l)

pub minus-holds : (l : Letter) → every 24 (minus_holds l) ≡ true
unfolding every
minus-holds I = refl
minus-holds X = refl
minus-holds Y = refl
minus-holds Z = refl

-- ---- the inverse
-- its class, as the code of that class without signs
abbrev pub back : ℕ → ℕ
back c = 4 * bit_xor (c / 4) (c / 4 / 4)

pub back-lt : (c : ℕ) → c < 24 → back c < 24
unfolding every
back-lt c l = ltb-true (back c) 24 (every-at 24 (λ c. ltb (back c) 24) refl c l)

-- .. with signs
abbrev pub back_with : ℕ → Bool → Bool → ℕ
back_with c s t = back c + 2 * bool_byte s + bool_byte t

abbrev pub sign_of : ℕ → Letter → Bool
sign_of c l = sign_bit (image_phase (clifford_of c) l)

-- the letter to which X or Z goes back, from which it came
abbrev pub came_from : ℕ → Letter → Letter
came_from c l = image (clifford_of (back c)) l

-- with the signs of these it is the inverse, by one test over the 24 codes
abbrev pub inverse_code : ℕ → ℕ
inverse_code c = back_with c (sign_of c (came_from c X)) (sign_of c (came_from c Z))

pub inverse-code : (c : ℕ) → c < 24 → inverse_code c ≡ code_of (inverse (clifford_of c))
unfolding every
inverse-code c l =
    eqb-true (inverse_code c) (code_of (undone (clifford_of c)))
    (every-at 24 (λ c. eqb (inverse_code c) (code_of (undone (clifford_of c)))) refl c l)
    ∙ ap code_of (sym (inverse-is (clifford_of c)))

pub byte-lt : (b : Bool) → bool_byte b < 2
byte-lt false = lit< tt
byte-lt true = lit< tt
