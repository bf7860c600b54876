-- What the tables of the comparison say, what its two loops choose, and what it answers.
use Rattle.std.specs.Prelude.{Bool, false, not, true, List, ◌⊎◌, ◌≡◌, ◌*◌, ◌+◌, ◌/◌, ◌<◌, ℕ, ◌≤◌, get_or, length, set}
use Rattle.clifford.specs.Clifford.{Clifford}
use Rattle.clifford.specs.Vectors.{act, codes_of}
use Rattle.pauli.specs.Pauli.{Pauli, i², scaled}
use Rattle.pauli.specs.internal.Rows.{generator_of}
use Rattle.pauli.specs.declared.Generator.{Generator}
use Rattle.stabilizer.specs.Groups.{InGroup}
use Rattle.words.specs.Bits.{◌⊕◌}
use Rattle.comparison.specs.Choices.{LeastOf, class_key, least_code, no_choice, sign_key}
use Rattle.comparison.specs.internal.Equations.{
  Assignment,
  Equation,
  Solves,
  Triangular,
  class_assignment,
  class_equation,
  equation_at,
  fails,
  sign_assignment,
  sign_equation,
}
use Rattle.comparison.specs.internal.Setting.{NoSigns, Codes, without_signs, generators_of, no_generator}

-- ---- the tables
-- a triangular table whose solutions are those of the equations in A
pub record TableOf (A : Equation → Type 0) (table : List Equation) : Type 0 where
  pub triangular : Triangular table
  pub kept : (w : Assignment) → ((e : Equation) → A e → fails e w ≡ false) → Solves table w
  pub asks : (w : Assignment) → Solves table w → (e : Equation) → A e → fails e w ≡ false

-- the equations on the classes of the generators below i of the first group, and of generator i with those below j of
-- the second
abbrev pub ClassAsked : ℕ → List Generator → List Generator → ℕ → ℕ → Equation → Type 0
ClassAsked n first second i j e =
    (s : ℕ) × (t : ℕ) × (t < n) × ((s < i) ⊎ ((s ≡ i) × (t < j)))
    × (e ≡ class_equation (get_or first s no_generator) (get_or second t no_generator))

abbrev pub ClassTable : ℕ → List Generator → List Generator → ℕ → ℕ → List Equation → Type 0
ClassTable n first second i j = TableOf (ClassAsked n first second i j)

-- the equation on the signs at generator j, for the classes of c
pub record SignFor (n : ℕ) (first second : List Generator) (c : ℕ → Clifford) (j : ℕ) (e : Equation) : Type 0 where
  -- the image under the classes alone, and the element of the second group that has its letters
  pub sent : Generator
  pub element : Generator
  pub image : generator_of sent ≡ act n (λ q. without_signs (c q)) (generators_of first j)
  pub inside : InGroup n n (generators_of second) (generator_of element)
  pub same-z : sent.z ≡ element.z
  pub same-x : sent.x ≡ element.x
  pub is : e ≡ sign_equation (get_or first j no_generator) (sent.minus ⊕ element.minus)

abbrev pub SignAsked : ℕ → List Generator → List Generator → (ℕ → Clifford) → ℕ → Equation → Type 0
SignAsked n first second c i e = (j : ℕ) × (j < i) × SignFor n first second c j e

abbrev pub SignTable : ℕ → List Generator → List Generator → (ℕ → Clifford) → ℕ → List Equation → Type 0
SignTable n first second c i table =
    TableOf (SignAsked n first second c i) table
    × ((j : ℕ) → j < i → (e : Equation) × SignFor n first second c j e)

-- the classes of c send each generator into the second group, or its negative
abbrev pub SentUpToSign : ℕ → List Generator → List Generator → (ℕ → Clifford) → Type 0
SentUpToSign n first second c =
    (j : ℕ) → j < n → InGroup n n (generators_of second) (act n (λ q. without_signs (c q)) (generators_of first j))
    ⊎ InGroup n n (generators_of second) (scaled i² (act n (λ q. without_signs (c q)) (generators_of first j)))

-- ---- the loops, for the classes or for the signs: A are the unknowns of a choice
-- a choice satisfies the equations of the qubits below q, and at each of these no solution that has its keys before has
-- a smaller one
pub record LeastBelow (A : (ℕ → Clifford) → Assignment) (key : Clifford → ℕ) (table : List Equation) (q : ℕ)
    (c : ℕ → Clifford) : Type 0 where
  pub hold : (i : ℕ) → i < 4 * q → fails (equation_at table i) (A c) ≡ false
  pub least : (t : ℕ) → t < q → (d : ℕ → Clifford) → Solves table (A d)
      → ((u : ℕ) → u < t → key (d u) ≡ key (c u)) → key (c t) ≤ key (d t)

-- of the choices next 0, next 1 and so on the first that satisfies the equations of qubit q; bound if none does
pub record FirstFit (A : (ℕ → Clifford) → Assignment) (table : List Equation) (q : ℕ) (next : ℕ → ℕ → Clifford)
    (bound v : ℕ) : Type 0 where
  pub upto : v ≤ bound
  pub hold : v < bound → (i : ℕ) → 4 * q ≤ i → i < 4 * q + 4 → fails (equation_at table i) (A (next v)) ≡ false
  pub before : (u : ℕ) → u < v
      → (i : ℕ) × (4 * q ≤ i) × (i < 4 * q + 4) × (fails (equation_at table i) (A (next u)) ≡ true)

-- a choice that satisfies the equations of the first q qubits, k or more, has its keys there from a solution
abbrev pub Extendable : ((ℕ → Clifford) → Assignment) → (Clifford → ℕ) → ℕ → ℕ → List Equation → Type 0
Extendable A key k n table =
    (c : ℕ → Clifford) (q : ℕ) → k ≤ q → q ≤ n
    → ((i : ℕ) → i < 4 * q → fails (equation_at table i) (A c) ≡ false)
    → (d : ℕ → Clifford) × ((u : ℕ) → u < q → key (d u) ≡ key (c u)) × Solves table (A d)

-- the array with class v, or signs v, put in at q
abbrev pub with_class : List ℕ → ℕ → ℕ → List ℕ
with_class choice q v = set choice q (4 * v)

abbrev pub with_signs : List ℕ → ℕ → ℕ → List ℕ
with_signs choice q v = set choice q (4 * (get_or choice q 0 / 4) + v)

-- the loop over the classes has chosen below q
pub record ClassesChosen (n : ℕ) (table : List Equation) (q : ℕ) (choice : List ℕ) : Type 0 where
  pub upto : q ≤ n
  pub long : length choice ≡ 64
  pub codes : Codes choice
  pub bare-codes : NoSigns choice
  pub chosen : LeastBelow (class_assignment n) class_key table q (codes_of choice)

-- .. and its answer
pub record ClassesAnswered (n : ℕ) (table : List Equation) (found : Bool) (choice : List ℕ) : Type 0 where
  pub none : found ≡ false → (d : ℕ → Clifford) → Solves table (class_assignment n d) → ⊥
  pub some : found ≡ true → ClassesChosen n table n choice
  pub codes : Codes choice

-- the loop over the signs, from the classes of an array
pub record SignsChosen (n : ℕ) (table : List Equation) (start : List ℕ) (q : ℕ) (choice : List ℕ) : Type 0 where
  pub upto : q ≤ n
  pub long : length choice ≡ 64
  pub codes : Codes choice
  pub classes : (i : ℕ) → class_key (codes_of choice i) ≡ class_key (codes_of start i)
  pub chosen : LeastBelow (sign_assignment n) sign_key table q (codes_of choice)

-- ---- the answer
-- the answer of a search among the choices in K: the least of them, or that there is none
abbrev pub Found : ℕ → ((ℕ → Clifford) → Type 0) → Bool → (ℕ → Clifford) → Type 0
Found n K true c = LeastOf n K c
Found n K false c = (d : ℕ → Clifford) → K d → ⊥

-- an array of codes that answers a search among the choices in K
pub record SearchAnswered (n : ℕ) (K : (ℕ → Clifford) → Type 0) (found : Bool) (choice : List ℕ) : Type 0 where
  pub search : Found n K found (codes_of choice)
  pub codes : Codes choice

-- the answer of the comparison: the least choice, as an equation
pub record LeastAnswer (n : ℕ) (rows others : ℕ → Pauli) (found : Bool) (choice : List ℕ) : Type 0 where
  pub whether : found ≡ not (no_choice n rows others)
  pub which : found ≡ true → (q : ℕ) → q < n → get_or choice q 0 ≡ least_code n rows others q
