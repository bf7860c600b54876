-- Linear equations modulo 2 over four words of unknowns, a bit of each for each qubit: what the choices that work
-- satisfy, and how the code keeps them, in four words each.
use Rattle.std.specs.Prelude.{Bool, false, true, List, [], ◌∷◌, map, ◌⊎◌, ◌≡◌, ◌%◌, ◌*◌, ◌+◌, ◌-◌, ◌/◌, ◌<◌, ◌≤◌, suc, zero, ℕ, get_or, length, replicate}
use Rattle.std.specs.Int.Bits.{bit_and, bit_xor}
use Rattle.clifford.specs.Clifford.{Class, Clifford, image_x, image_z}
use Rattle.pauli.specs.Pauli.{x_bit, z_bit}
use Rattle.pauli.specs.declared.Generator.{Generator}
use Rattle.words.specs.Bits.{bit, digit, word_of, ◌⊕◌}
use Rattle.words.specs.internal.Bits.{dot}

-- ---- equations
-- the values of the unknowns: four words, a bit of each for each qubit
pub record Assignment : Type 0 where
  pub a : ℕ
  pub b : ℕ
  pub c : ℕ
  pub d : ℕ

-- the coefficients of the unknowns, whose sum is to be 0
pub record Equation : Type 0 where
  pub a : ℕ
  pub b : ℕ
  pub c : ℕ
  pub d : ℕ

-- nothing asked
abbrev pub empty_equation : Equation
empty_equation = record { a = 0; b = 0; c = 0; d = 0 }

-- equation i of a table; the empty one past its end
abbrev pub equation_at : List Equation → ℕ → Equation
equation_at table i = get_or table i empty_equation

-- the unknowns give the sum 1
unfoldable pub fails : Equation → Assignment → Bool
fails e w = (dot e.a w.a ⊕ dot e.b w.b) ⊕ (dot e.c w.c ⊕ dot e.d w.d)

-- every equation of the table holds
abbrev pub Solves : List Equation → Assignment → Type 0
Solves table w = (i : ℕ) → fails (equation_at table i) w ≡ false

-- of four words the one that unknown l of a qubit lies in
abbrev pub word_at : ℕ → ℕ → ℕ → ℕ → ℕ → ℕ
word_at zero a b c d = a
word_at (suc zero) a b c d = b
word_at (suc (suc zero)) a b c d = c
word_at (suc (suc (suc l))) a b c d = d

-- whether an equation has unknown i: unknown i % 4 of qubit i / 4
abbrev pub unknown : Equation → ℕ → Bool
unknown e i = bit (word_at (i % 4) e.a e.b e.c e.d) (i / 4)

-- r is the number after that of the last unknown; 0 where there is none
pub record Bound (e : Equation) (r : ℕ) : Type 0 where
  pub above : (j : ℕ) → r ≤ j → unknown e j ≡ false
  pub last : 0 < r → unknown e (r - 1) ≡ true

-- r is the number of bits of a word
pub record Size (w r : ℕ) : Type 0 where
  pub above : (j : ℕ) → r ≤ j → bit w j ≡ false
  pub last : 0 < r → bit w (r - 1) ≡ true

-- equation i of the table has unknown i and none above it, or asks nothing
pub record Triangular (table : List Equation) : Type 0 where
  pub long : length table ≡ 256
  pub above : (i j : ℕ) → i < j → unknown (equation_at table i) j ≡ false
  pub leading : (i : ℕ) → (unknown (equation_at table i) i ≡ true) ⊎ (equation_at table i ≡ empty_equation)

-- from equation m on the table asks nothing
pub record EmptyFrom (m : ℕ) (table : List Equation) : Type 0 where
  pub long : length table ≡ 256
  pub empty : (i : ℕ) → m ≤ i → equation_at table i ≡ empty_equation

-- the table with an equation added: its solutions are those of the table that solve the equation
pub record Inserted (table : List Equation) (e : Equation) (result : List Equation) : Type 0 where
  pub triangular : Triangular result
  pub kept : (w : Assignment) → fails e w ≡ false → Solves table w → Solves result w
  pub older : (w : Assignment) → Solves result w → Solves table w
  pub asked : (w : Assignment) → Solves result w → fails e w ≡ false

-- whether one of the equations of qubit q fails
pub record QubitTested (table : List Equation) (q : ℕ) (w : Assignment) (broken : Bool) : Type 0 where
  pub found : broken ≡ true
      → (i : ℕ) × (4 * q ≤ i) × (i < 4 * q + 4) × (fails (equation_at table i) w ≡ true)
  pub hold : broken ≡ false → (i : ℕ) → 4 * q ≤ i → i < 4 * q + 4 → fails (equation_at table i) w ≡ false

-- the sum of two equations
abbrev pub added : Equation → Equation → Equation
added e f =
    record {
      a = bit_xor e.a f.a;
      b = bit_xor e.b f.b;
      c = bit_xor e.c f.c;
      d = bit_xor e.d f.d;
    }

-- ---- what four words stand for
abbrev pub assignment_of : List ℕ → Assignment
assignment_of row = record { a = get_or row 0 0; b = get_or row 1 0; c = get_or row 2 0; d = get_or row 3 0 }

abbrev pub equation_of : List ℕ → Equation
equation_of row = record { a = get_or row 0 0; b = get_or row 1 0; c = get_or row 2 0; d = get_or row 3 0 }

abbrev pub equations_in : List (List ℕ) → List Equation
equations_in rows = map equation_of rows

-- a table without equations
abbrev pub empty_rows : List (List ℕ)
empty_rows = replicate 256 (0 ∷ 0 ∷ 0 ∷ 0 ∷ [])

-- ---- the unknowns of a choice
-- entry l of the matrix of a class
abbrev pub entry : ℕ → Class → Bool
entry zero k = z_bit (image_z k)
entry (suc zero) k = z_bit (image_x k)
entry (suc (suc zero)) k = x_bit (image_z k)
entry (suc (suc (suc l))) k = x_bit (image_x k)

-- the classes: at each qubit image z = a z + b x and image x = c z + d x; (a, c) are the bits (z, x) of the image
-- of Z, and (b, d) those of the image of X
unfoldable pub class_assignment : ℕ → (ℕ → Clifford) → Assignment
class_assignment n k =
    record {
      a = word_of n (λ q. z_bit (image_z (k q).class));
      b = word_of n (λ q. z_bit (image_x (k q).class));
      c = word_of n (λ q. x_bit (image_z (k q).class));
      d = word_of n (λ q. x_bit (image_x (k q).class));
    }

-- the signs sx and sz; and unknown c of qubit 0 is 1
unfoldable pub sign_assignment : ℕ → (ℕ → Clifford) → Assignment
sign_assignment n k = record { a = word_of n (λ q. (k q).sx); b = word_of n (λ q. (k q).sz); c = 1; d = 0 }

-- ---- what a choice that works satisfies
-- the image of g commutes with h
abbrev pub class_equation : Generator → Generator → Equation
class_equation g h =
    record {
      a = bit_and g.z h.x;
      b = bit_and g.x h.x;
      c = bit_and g.z h.z;
      d = bit_and g.x h.z;
    }

-- the signs at the letters of g change the sign of its image by this bit
abbrev pub sign_equation : Generator → Bool → Equation
sign_equation g s = record { a = g.x; b = g.z; c = digit s; d = 0 }
