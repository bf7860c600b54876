-- Choices of one code per qubit: which of them carry one group onto another, their order, and the least.
use Rattle.std.specs.Prelude.{◌&&◌, Bool, cond, not, ◌⊎◌, ◌≡◌, ◌%◌, ◌*◌, ◌+◌, ◌-◌, ◌/◌, ◌<◌, ◌^◌, suc, ℕ, ltb}
use Rattle.clifford.specs.Clifford.{Clifford, class_number, clifford_of}
use Rattle.clifford.specs.Vectors.{act}
use Rattle.pauli.specs.Pauli.{Pauli}
use Rattle.stabilizer.specs.Carries.{Carries}
use Rattle.stabilizer.specs.Groups.{product}
use Rattle.stabilizer.specs.Membership.{member}
use Rattle.words.specs.Bits.{bit, digit}
use Rattle.words.specs.Search.{every, first, some}

-- ---- which choices work, as a test
-- "sending each place of every element of the first through its qubit's code, signs included, gives
-- exactly the elements of the second"
unfoldable pub is_carrying : ℕ → (ℕ → Clifford) → (ℕ → Pauli) → (ℕ → Pauli) → Bool
is_carrying n c rows others =
    every (2 ^ n) (λ v. member n others (act n c (product n n (bit v) rows)))
    && every (2 ^ n) (λ v. member n (λ j. act n c (rows j)) (product n n (bit v) others))

-- ---- the order
-- the first place below n where the two differ has the smaller number in f
abbrev pub FirstDiffers : ℕ → (ℕ → ℕ) → (ℕ → ℕ) → Type 0
FirstDiffers n f g = (q : ℕ) × (q < n) × ((t : ℕ) → t < q → f t ≡ g t) × (f q < g q)

-- the number of its class
abbrev pub class_key : Clifford → ℕ
class_key c = class_number c.class

-- 2 × sx + sz
abbrev pub sign_key : Clifford → ℕ
sign_key c = 2 * digit c.sx + digit c.sz

-- "the least by the classes of qubits 0, 1 and so on; among those, the least by 2 × sx + sz in the same order"
abbrev pub Before : ℕ → (ℕ → Clifford) → (ℕ → Clifford) → Type 0
Before n c d =
    FirstDiffers n (λ q. class_key (c q)) (λ q. class_key (d q))
    ⊎ (((q : ℕ) → q < n → (c q).class ≡ (d q).class) × FirstDiffers n (λ q. sign_key (c q)) (λ q. sign_key (d q)))

-- the same choice on the n qubits
abbrev pub Agree : ℕ → (ℕ → Clifford) → (ℕ → Clifford) → Type 0
Agree n c d = (q : ℕ) → q < n → c q ≡ d q

-- the least of the choices in K: one of them, "and every other choice .. comes later"
pub record LeastOf (n : ℕ) (K : (ℕ → Clifford) → Type 0) (c : ℕ → Clifford) : Type 0 where
  pub among : K c
  pub least : (d : ℕ → Clifford) → K d → Agree n c d ⊎ Before n c d

-- "Of all choices that work, take the least"
abbrev pub LeastChoice : ℕ → (ℕ → Pauli) → (ℕ → Pauli) → (ℕ → Clifford) → Type 0
LeastChoice n rows others = LeastOf n (λ d. Carries n d rows others)

-- ---- the least choice, as an equation
-- digit q of the number a in base b, of n digits, digit 0 leading
abbrev pub digit_at : ℕ → ℕ → ℕ → ℕ → ℕ
digit_at b n a q = a / b ^ (n - suc q) % b

-- the 24^n choices in their order: choice number k has at qubit q the class that is digit q of the first n
-- digits of k, in base 6, and the 2 × sx + sz that is digit q of the last n, in base 4; code 0 at and above n
unfoldable pub choice : ℕ → ℕ → ℕ → ℕ
choice n k q = cond (ltb q n) (4 * digit_at 6 n (k / 4 ^ n) q + digit_at 4 n (k % 4 ^ n) q) 0

-- choice number k, as Cliffords
abbrev pub choice_at : ℕ → ℕ → ℕ → Clifford
choice_at n k q = clifford_of (choice n k q)

-- the number of the first choice that works; 24^n where none does
unfoldable pub least_number : ℕ → (ℕ → Pauli) → (ℕ → Pauli) → ℕ
least_number n rows others = first (24 ^ n) (λ k. is_carrying n (choice_at n k) rows others)

-- the code of qubit q in the least choice that works; 0 at and above n
abbrev pub least_code : ℕ → (ℕ → Pauli) → (ℕ → Pauli) → ℕ → ℕ
least_code n rows others q = choice n (least_number n rows others) q

-- 13: "No choice of local Cliffords carries one group to the other"
abbrev pub no_choice : ℕ → (ℕ → Pauli) → (ℕ → Pauli) → Bool
no_choice n rows others = not (some (24 ^ n) (λ k. is_carrying n (choice_at n k) rows others))
