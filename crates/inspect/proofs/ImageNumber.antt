-- The image of a letter as one number, from what the code's calls answer.
use mathlib.Core.Bool.{Bool}
use mathlib.Core.Path.{ap, ap₂, sym, ◌∙◌, ◌≡◌}
use Rattle.clifford.specs.Clifford.{Clifford, image, image_phase}
use Rattle.pauli.proofs.PhaseLaws.{sign-minus}
use Rattle.pauli.specs.Pauli.{minus, sign_bit, x_bit, z_bit}
use Rattle.pauli.specs.declared.Letter.{Letter}
use Rattle.inspect.specs.internal.Answers.{number}

pub image-number : (k : Clifford) (l : Letter) (s z x : Bool) {l' r : Letter} →
    l' ≡ l → r ≡ image k l' → minus s ≡ image_phase k l' → z ≡ z_bit r → x ≡ x_bit r →
    number s z x ≡ number (sign_bit (image_phase k l)) (z_bit (image k l)) (x_bit (image k l))
image-number k l s z x {r = r} el er es ez ex =
    ap₂ (number s) (ez ∙ ap z_bit image-is) (ex ∙ ap x_bit image-is)
    ∙ ap (λ b. number b (z_bit (image k l)) (x_bit (image k l))) sign-is
  where
    image-is : r ≡ image k l
    image-is = er ∙ ap (image k) el

    sign-is : s ≡ sign_bit (image_phase k l)
    sign-is = sym (sign-minus s) ∙ ap sign_bit (es ∙ ap (image_phase k) el)
