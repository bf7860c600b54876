-- The sign of an image and the inverse, as the code's calls answer them.
use mathlib.Core.Bool.{Bool}
use mathlib.Core.Path.{ap, ap₂, subst, sym, ◌∙◌, ◌≡◌}
use Prim.Native.Nat.{◌<◌, ℕ}
use lib.Dec.{T}
use Rattle.pauli.proofs.PhaseLaws.{same_phase→≡, sign-minus}
use Rattle.pauli.specs.Pauli.{minus, sign_bit, x_bit, z_bit}
use Rattle.pauli.specs.declared.Letter.{Letter}
use Rattle.pauli.specs.declared.Letter.TheVariants.{X, Z}
use Rattle.words.proofs.SearchLaws.{every-at}
use Rattle.clifford.proofs.CliffordLaws.{code_of-lt}
use Rattle.clifford.specs.Clifford.{clifford_of, code_of, image_phase, inverse}
use Rattle.clifford_impl.proofs.CodeDigits.{
  back_with,
  came_from,
  image_minus,
  inverse-code,
  minus-holds,
  minus_holds,
  sign_of,
}

-- ---- the sign of an image
pub image-minus : (c : ℕ) → c < 24 → (l : Letter) (x z : Bool) → x ≡ x_bit l → z ≡ z_bit l →
    minus (image_minus c x z) ≡ image_phase (clifford_of c) l
image-minus c h l x z ex ez =
    ap₂ (λ x z. minus (image_minus c x z)) ex ez
    ∙ same_phase→≡ _ _ (subst T (sym (every-at 24 (minus_holds l) (minus-holds l) c h)) tt)

-- ---- the inverse, from what the code's calls answer
pub inverse-by-calls : (c : ℕ) → c < 24 → (s t : Bool) {l m : Letter} →
    l ≡ came_from c X → minus s ≡ image_phase (clifford_of c) l →
    m ≡ came_from c Z → minus t ≡ image_phase (clifford_of c) m →
    (back_with c s t ≡ code_of (inverse (clifford_of c))) × (back_with c s t < 24)
inverse-by-calls c h s t el es em et =
    let e = ap₂ (back_with c) (sign-is s el es) (sign-is t em et) ∙ inverse-code c h in
    (e, subst (λ v. v < 24) (sym e) (code_of-lt (inverse (clifford_of c))))
  where
    sign-is : (s : Bool) {l l' : Letter} → l ≡ l' → minus s ≡ image_phase (clifford_of c) l → s ≡ sign_of c l'
    sign-is s e es = sym (sign-minus s) ∙ ap sign_bit (es ∙ ap (image_phase (clifford_of c)) e)
