-- Words: a bit for each qubit. "Bit q of a word belongs to qubit q, bit 0 lowest, words 64 bits wide."
use Rattle.std.specs.Prelude.{Bool, true, false, cond, ℕ, zero, suc, ◌+◌, ◌*◌, ◌/◌, ◌%◌, ◌^◌, eqb}

-- addition modulo 2
infixl 60 ◌⊕◌
abbrev pub ◌⊕◌ : Bool → Bool → Bool
false ⊕ b = b
true ⊕ false = true
true ⊕ true = false

-- whether two bits are equal
abbrev pub same_bit : Bool → Bool → Bool
same_bit false false = true
same_bit false true = false
same_bit true false = false
same_bit true true = true

-- e · f 0 · f 1 · .. · f (n - 1), in index order: a sum or a product over the places below n
module _ {A : Type 0} (e : A) (◌·◌ : A → A → A) where
  infixl 70 ◌·◌
  unfoldable pub fold : ℕ → (ℕ → A) → A
  fold zero f = e
  fold (suc n) f = fold n f · f n

-- a bit for each qubit
abbrev pub Word : Type 0
Word = ℕ → Bool

-- the sum modulo 2 of the bits at the places below n
abbrev pub parity : ℕ → Word → Bool
parity = fold false ◌⊕◌

-- whether a number is odd: its bit 0
abbrev pub is_odd : ℕ → Bool
is_odd n = eqb (n % 2) 1

-- a bit as a number
abbrev pub digit : Bool → ℕ
digit false = 0
digit true = 1

-- the function f changed at place i, to a
module _ {A : Type 0} where
  unfoldable pub put : (ℕ → A) → ℕ → A → (ℕ → A)
  put f i a j = cond (eqb j i) a (f j)

-- bit q of the word w
unfoldable pub bit : ℕ → Word
bit w q = is_odd (w / 2 ^ q)

-- the word that has these bits at the places below n, and no other
unfoldable pub word_of : ℕ → Word → ℕ
word_of zero f = 0
word_of (suc n) f = word_of n (λ q. f (suc q)) * 2 + digit (f 0)
