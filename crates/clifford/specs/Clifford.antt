-- The 24 one-qubit Cliffords, each up to a global phase: a code names one of them.
use Rattle.std.specs.Prelude.{Bool, false, ◌*◌, ◌+◌, ◌/◌, suc, zero, ℕ, eqb}
use Rattle.pauli.specs.Pauli.{◌+ᵖ◌, Phase, i¹, i⁰, letter_phase, letter_product, minus, sign_bit, x_bit}
use Rattle.pauli.specs.declared.Letter.{Letter}
use Rattle.pauli.specs.declared.Letter.TheVariants.{I, X, Y, Z}
use Rattle.words.specs.Bits.{digit, is_odd, ◌⊕◌}
use Rattle.words.specs.Search.{first}

-- "The class gives the letters to which X and Z go"
pub data Class : Type 0 where
  XZ YZ ZX XY YX ZY : Class

-- the letter to which X goes
abbrev pub image_x : Class → Letter
image_x XZ = X
image_x YZ = Y
image_x ZX = Z
image_x XY = X
image_x YX = Y
image_x ZY = Z

-- the letter to which Z goes
abbrev pub image_z : Class → Letter
image_z XZ = Z
image_z YZ = Z
image_z ZX = X
image_z XY = Y
image_z YX = X
image_z ZY = Y

-- "0 (X,Z), 1 (Y,Z), 2 (Z,X), 3 (X,Y), 4 (Y,X), 5 (Z,Y)"; numbers above 5 are not used
abbrev pub class_of : ℕ → Class
class_of zero = XZ
class_of (suc zero) = YZ
class_of (suc (suc zero)) = ZX
class_of (suc (suc (suc zero))) = XY
class_of (suc (suc (suc (suc zero)))) = YX
class_of (suc (suc (suc (suc (suc c))))) = ZY

-- the number of a class
abbrev pub class_number : Class → ℕ
class_number XZ = 0
class_number YZ = 1
class_number ZX = 2
class_number XY = 3
class_number YX = 4
class_number ZY = 5

-- "sx or sz is 1 if that image is negative"
pub record Clifford : Type 0 where
  pub class : Class
  pub sx : Bool
  pub sz : Bool

-- "A code is 4 × class + 2 × sx + sz"
abbrev pub clifford_of : ℕ → Clifford
clifford_of c = record { class = class_of (c / 4); sx = is_odd (c / 2); sz = is_odd c }

-- the code of a Clifford, by the same sum
abbrev pub code_of : Clifford → ℕ
code_of k = 4 * class_number k.class + 2 * digit k.sx + digit k.sz

-- the image of a letter: its letter. "Y goes to i times the image of X times the image of Z"
abbrev pub image : Clifford → Letter → Letter
image k I = I
image k X = image_x k.class
image k Y = letter_product (image_x k.class) (image_z k.class)
image k Z = image_z k.class

-- its phase
abbrev pub image_phase : Clifford → Letter → Phase
image_phase k I = i⁰
image_phase k X = minus k.sx
image_phase k Y = i¹ +ᵖ ((minus k.sx +ᵖ minus k.sz)
    +ᵖ letter_phase (image_x k.class) (image_z k.class))
image_phase k Z = minus k.sz

-- "C is 1 if the image of Z is X or Y, and D is 1 if the image of X is X or Y"
abbrev pub bit_c : Clifford → Bool
bit_c k = x_bit (image k Z)

-- D of a Clifford
abbrev pub bit_d : Clifford → Bool
bit_d k = x_bit (image k X)

-- ---- composition
-- the class that sends X to the first letter and Z to the second
abbrev pub class_with : Letter → Letter → Class
class_with I b = XZ
class_with X I = XZ
class_with X X = XZ
class_with X Y = XY
class_with X Z = XZ
class_with Y I = XZ
class_with Y X = YX
class_with Y Y = XZ
class_with Y Z = YZ
class_with Z I = XZ
class_with Z X = ZX
class_with Z Y = ZY
class_with Z Z = XZ

-- "Composition means first a, then b": X goes to the image under b of its image under a, and so does Z
abbrev pub then : Clifford → Clifford → Clifford
then a b =
    record {
      class = class_with (image b (image_x a.class)) (image b (image_z a.class));
      sx = a.sx ⊕ sign_bit (image_phase b (image_x a.class));
      sz = a.sz ⊕ sign_bit (image_phase b (image_z a.class));
    }

-- code 0
abbrev pub identity_clifford : Clifford
identity_clifford = record { class = XZ; sx = false; sz = false }

-- the first of the 24 that, after k, gives code 0
unfoldable pub inverse : Clifford → Clifford
inverse k = clifford_of (first 24 (λ c. eqb (code_of (then k (clifford_of c))) 0))
