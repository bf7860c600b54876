-- Letters compared by their bits, and where codes send them.
use mathlib.Core.Bool.{Bool, false, true, true≢false}
use mathlib.Core.Logic.{◌↔◌}
use mathlib.Core.Path.{ap, refl, sym, ◌∙◌, ◌≡◌}
use Rattle.clifford.specs.Clifford.{
  Class,
  Clifford,
  XY,
  XZ,
  YX,
  YZ,
  ZX,
  ZY,
  class_with,
  clifford_of,
  image,
  image_x,
  image_z,
  then,
}
use Rattle.pauli.specs.Pauli.{letter_product}
use Rattle.pauli.specs.contracts.Letter.{the_type}
use denote.Enum.Bare.{same_true, sameb}
use borrow.Author.Rules.{rules}
use Rattle.pauli.specs.declared.Letter.{Letter}
use Rattle.pauli.specs.declared.Letter.TheVariants.{I, X, Y, Z}

-- ---- equal letters, by the derived test
abbrev pub equal_letters : Letter → Letter → Bool
equal_letters a b = sameb the_type a b

pub equal-letters : (a b : Letter) → equal_letters a b ≡ true → a ≡ b
equal-letters a b e = same_true the_type (search rules) a b e

pub equal-letters-refl : (a : Letter) → equal_letters a a ≡ true
equal-letters-refl I = refl
equal-letters-refl X = refl
equal-letters-refl Y = refl
equal-letters-refl Z = refl

-- from what the calls answer
pub sent-by-calls : {l a b : Letter} {t : Bool} → a ≡ l → t ≡ equal_letters a b → (t ≡ true) ↔ (l ≡ b)
sent-by-calls {l} {a} {b} {t} ea h = (
  (λ e. sym ea ∙ equal-letters a b (sym h ∙ e)),
  (λ e. h ∙ ap (equal_letters a) (sym (ea ∙ e)) ∙ equal-letters-refl a),
)

-- ---- images
-- the letter that is neither the image of X nor that of Z
third : (k : Clifford) (l : Letter) → (l ≡ I → ⊥) → (image k X ≡ l → ⊥) → (image k Z ≡ l → ⊥) → image k Y ≡ l
third k l i x z = go k.class l i x z
  where
    go : (c : Class) (l : Letter) → (l ≡ I → ⊥) → (image_x c ≡ l → ⊥) → (image_z c ≡ l → ⊥)
        → letter_product (image_x c) (image_z c) ≡ l
    go c I i x z = absurd (i refl)
    go XZ X i x z = absurd (x refl)
    go XZ Y i x z = refl
    go XZ Z i x z = absurd (z refl)
    go YZ X i x z = refl
    go YZ Y i x z = absurd (x refl)
    go YZ Z i x z = absurd (z refl)
    go ZX X i x z = absurd (z refl)
    go ZX Y i x z = refl
    go ZX Z i x z = absurd (x refl)
    go XY X i x z = absurd (x refl)
    go XY Y i x z = absurd (z refl)
    go XY Z i x z = refl
    go YX X i x z = absurd (z refl)
    go YX Y i x z = absurd (x refl)
    go YX Z i x z = refl
    go ZY X i x z = refl
    go ZY Y i x z = absurd (z refl)
    go ZY Z i x z = absurd (x refl)

-- from two answers that it is neither
pub third-by-calls : (k : Clifford) (l : Letter) → (l ≡ I → ⊥) → {t u : Bool} → (t ≡ true) ↔ (image k X ≡ l) → t ≡ false
    → (u ≡ true) ↔ (image k Z ≡ l) → u ≡ false → image k Y ≡ l
third-by-calls k l i hx ex hz ez =
    third k l i (λ x. true≢false (sym (hx.1 x) ∙ ex)) (λ z. true≢false (sym (hz.1 z) ∙ ez))

-- 11 first: Z goes where X went
pub eleven-z : (k : Clifford) → image (then (clifford_of 11) k) Z ≡ image k X
eleven-z k = go k.class
  where
    go : (c : Class) → image_z (class_with (image_z c) (image_x c)) ≡ image_x c
    go XZ = refl
    go YZ = refl
    go ZX = refl
    go XY = refl
    go YX = refl
    go ZY = refl

-- 13 first: Z goes where Y went
pub thirteen-z : (k : Clifford) → image (then (clifford_of 13) k) Z ≡ image k Y
thirteen-z k = go k.class
  where
    go : (c : Class) → image_z (class_with (image_x c) (letter_product (image_x c) (image_z c)))
        ≡ letter_product (image_x c) (image_z c)
    go XZ = refl
    go YZ = refl
    go ZX = refl
    go XY = refl
    go YX = refl
    go ZY = refl
