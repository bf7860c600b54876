-- A law over k bits, proved by one test that antt computes at all 2 ^ k values: `bits k f g tt` proves
-- f a b .. ≡ g a b .. for all bits a, b, ..
use mathlib.Core.Bool.{◌&&◌, Bool, beq, false, not, true}
use mathlib.Core.Path.{refl, ◌≡◌}
use Prim.Native.Nat.{suc, zero, ℕ}
use lib.Dec.{T}
use Rattle.words.specs.Bits.{same_bit, ◌⊕◌}

pub and_l : (a b : Bool) → T (a && b) → T a
and_l true b t = tt
and_l false b t = t

pub and_r : (a b : Bool) → T (a && b) → T b
and_r true b t = t
and_r false b t = absurd t

pub same_bit→≡ : (a b : Bool) → T (same_bit a b) → a ≡ b
same_bit→≡ false false t = refl
same_bit→≡ false true t = absurd t
same_bit→≡ true false t = absurd t
same_bit→≡ true true t = refl

-- functions of k bits
abbrev pub Of : ℕ → Type 0 → Type 0
Of zero A = A
Of (suc k) A = Bool → Of k A

module _ {A : Type 0} (eq : A → A → Bool) where
  abbrev pub test : (k : ℕ) → Of k A → Of k A → Bool
  test zero f g = eq f g
  test (suc k) f g = test k (f false) (g false) && test k (f true) (g true)

module _ (A : Type 0) where
  abbrev pub Law : (k : ℕ) → Of k A → Of k A → Type 0
  Law zero f g = f ≡ g
  Law (suc k) f g = (b : Bool) → Law k (f b) (g b)

module _ {A : Type 0} (eq : A → A → Bool) (sound : (a b : A) → T (eq a b) → a ≡ b) where
  pub law : (k : ℕ) (f g : Of k A) → T (test eq k f g) → Law A k f g
  law zero f g t = sound f g t
  law (suc k) f g t = elim [
    | false ↦ law k (f false) (g false)
        (and_l (test eq k (f false) (g false)) (test eq k (f true) (g true)) t)
    | true ↦ law k (f true) (g true)
        (and_r (test eq k (f false) (g false)) (test eq k (f true) (g true)) t)
  ]

pub bits : (k : ℕ) (f g : Of k Bool) → T (test same_bit k f g) → Law Bool k f g
bits = law same_bit same_bit→≡

pub ⊕-assoc : (a b c : Bool) → (a ⊕ b) ⊕ c ≡ a ⊕ (b ⊕ c)
⊕-assoc = bits 3 (λ a b c. (a ⊕ b) ⊕ c) (λ a b c. a ⊕ (b ⊕ c)) tt

pub ⊕-comm : (a b : Bool) → a ⊕ b ≡ b ⊕ a
⊕-comm = bits 2 (λ a b. a ⊕ b) (λ a b. b ⊕ a) tt

pub ⊕-self : (a : Bool) → a ⊕ a ≡ false
⊕-self = bits 1 (λ a. a ⊕ a) (λ a. false) tt

pub ⊕-twice : (a b : Bool) → (a ⊕ b) ⊕ b ≡ a
⊕-twice = bits 2 (λ a b. (a ⊕ b) ⊕ b) (λ a b. a) tt

pub ⊕-back : (a b : Bool) → a ⊕ (a ⊕ b) ≡ b
⊕-back = bits 2 (λ a b. a ⊕ (a ⊕ b)) (λ a b. b) tt

pub ⊕-zero : (a : Bool) → a ⊕ false ≡ a
⊕-zero = bits 1 (λ a. a ⊕ false) (λ a. a) tt

pub ⊕-true : (a : Bool) → a ⊕ true ≡ not a
⊕-true = bits 1 (λ a. a ⊕ true) not tt

-- a bit added to itself where a true test says so
pub ⊕-cleared : (a : Bool) → a ⊕ (a && true) ≡ false
⊕-cleared = bits 1 (λ a. a ⊕ (a && true)) (λ a. false) tt

-- two terms with no bit
pub ⊕-none : (a b : Bool) → (a && false) ⊕ (b && false) ≡ false
⊕-none = bits 2 (λ a b. (a && false) ⊕ (b && false)) (λ a b. false) tt

pub and-exchange : (a b c : Bool) → (a && (b && c)) ≡ (b && (a && c))
and-exchange = bits 3 (λ a b c. a && (b && c)) (λ a b c. b && (a && c)) tt

pub and-⊕ : (a b c : Bool) → (a && (b ⊕ c)) ≡ (a && b) ⊕ (a && c)
and-⊕ = bits 3 (λ a b c. a && (b ⊕ c)) (λ a b c. (a && b) ⊕ (a && c)) tt

pub ⊕-and : (a b c : Bool) → ((a ⊕ b) && c) ≡ (a && c) ⊕ (b && c)
⊕-and = bits 3 (λ a b c. (a ⊕ b) && c) (λ a b c. (a && c) ⊕ (b && c)) tt

-- `!=` of two bools
pub unequal : (a b : Bool) → not (beq a b) ≡ a ⊕ b
unequal = bits 2 (λ a b. not (beq a b)) (λ a b. a ⊕ b) tt
