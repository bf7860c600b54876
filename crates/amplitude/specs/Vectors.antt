-- Vectors of Gaussian integers, one for each word, and how a row acts on them: what the amplitudes are shown to be.
use Rattle.std.specs.Prelude.{cond, true, ◌↔◌, ◌≡◌, ◌<◌, ◌^◌, ℕ, ℤ, neg_ℤ, pos}
use Rattle.cut.specs.Kernel.{count}
use Rattle.cut.specs.Rank.{rank}
use Rattle.pauli.specs.Pauli.{◌+ᵖ◌, Pauli, Phase, i¹, i², i³, i⁰}
use Rattle.record.specs.Reduced.{x_words}
use Rattle.stabilizer.specs.Groups.{InGroup}
use Rattle.words.specs.Bits.{◌⊕◌, bit, word_of}
use Rattle.words.specs.Search.{IsFirst}
use Rattle.amplitude.specs.Ratios.{Leads, is_supported, lowest, ratio}
use Rattle.amplitude.specs.Turns.{turns_at}

-- re + i · im
pub record Gaussian : Type 0 where
  pub re : ℤ
  pub im : ℤ

-- 0
abbrev pub none : Gaussian
none = record { re = pos 0; im = pos 0 }

-- 1
abbrev pub one : Gaussian
one = record { re = pos 1; im = pos 0 }

-- a power of i times a number
abbrev pub turn_by : Phase → Gaussian → Gaussian
turn_by i⁰ z = z
turn_by i¹ z = record { re = neg_ℤ z.im; im = z.re }
turn_by i² z = record { re = neg_ℤ z.re; im = neg_ℤ z.im }
turn_by i³ z = record { re = z.im; im = neg_ℤ z.re }

-- the word to which p sends the word y: its x bits flip
abbrev pub moved_to : ℕ → Pauli → ℕ → ℕ
moved_to n p y = word_of n (λ q. bit y q ⊕ p.x q)

-- p v = v for every element p: p sends y to a power of i times another word, and there v has the value so turned
abbrev pub Stabilized : ℕ → (ℕ → Pauli) → (ℕ → Gaussian) → Type 0
Stabilized n R v = (p : Pauli) → InGroup n n R p → (y : ℕ) → y < 2 ^ n
    → v (moved_to n p y) ≡ turn_by (turns_at n p (bit y)) (v y)

-- the answers as a vector: 0, or a power of i
abbrev pub amplitudes : ℕ → (ℕ → Pauli) → ℕ → Gaussian
amplitudes n R y = cond (is_supported n R y) (turn_by (ratio n R y) one) none

-- "the smallest word with a nonzero amplitude": there is one, and its ratio is 1
pub record LowestLeast (n : ℕ) (R : ℕ → Pauli) : Type 0 where
  pub least : IsFirst (2 ^ n) (is_supported n R) (lowest n R)
  pub unit : amplitudes n R (lowest n R) ≡ one

-- "A group element whose x part leads from that word to y fixes the ratio": there is one where y is supported, and
-- all give the same
pub record AnyElementFixes (n : ℕ) (R : ℕ → Pauli) : Type 0 where
  pub some-leads : (y : ℕ) → is_supported n R y ≡ true
      → (p : Pauli) × InGroup n n R p × Leads n p (bit (lowest n R)) (bit y)
  pub all-agree : (y : ℕ) → is_supported n R y ≡ true → (p : Pauli) → InGroup n n R p
      → Leads n p (bit (lowest n R)) (bit y) → turns_at n p (bit (lowest n R)) ≡ ratio n R y

-- whatever vector the group fixes is a multiple of the answers: 0 where the answer is nothing, elsewhere its value at
-- the smallest word, turned by the ratio
abbrev pub OnlyVector : ℕ → (ℕ → Pauli) → Type 0
OnlyVector n R = (w : ℕ → Gaussian) → Stabilized n R w → (y : ℕ) → y < 2 ^ n
    → w y ≡ cond (is_supported n R y) (turn_by (ratio n R y) (w (lowest n R))) none

-- ---- the same of vectors of any other numbers, complex ones among them: powers of i act on them, one after the other
-- as their product does, and only 0 is its own negative
pub record Numbers : Type 1 where
  pub Number : Type 0
  pub zero : Number
  pub turn : Phase → Number → Number
  pub turns : (s t : Phase) (a : Number) → turn (s +ᵖ t) a ≡ turn s (turn t a)
  pub own-negative : (a : Number) → turn i² a ≡ a → a ≡ zero

-- p v = v for every element p
abbrev pub StabilizedOver : (N : Numbers) → ℕ → (ℕ → Pauli) → (ℕ → N.Number) → Type 0
StabilizedOver N n R v = (p : Pauli) → InGroup n n R p → (y : ℕ) → y < 2 ^ n
    → v (moved_to n p y) ≡ N.turn (turns_at n p (bit y)) (v y)

-- each is its value at the smallest word, turned by the ratio, and 0 where the answer is nothing
abbrev pub OnlyVectorOver : ℕ → (ℕ → Pauli) → Type 1
OnlyVectorOver n R = (N : Numbers) (w : ℕ → N.Number) → StabilizedOver N n R w → (y : ℕ) → y < 2 ^ n
    → w y ≡ cond (is_supported n R y) (N.turn (ratio n R y) (w (lowest n R))) N.zero

-- "nothing, exactly where the amplitude is 0": whatever vector the group fixes, if it is not 0 at some word z
abbrev pub ZeroExactly : ℕ → (ℕ → Pauli) → Type 0
ZeroExactly n R = (w : ℕ → Gaussian) → Stabilized n R w → (z : ℕ) → z < 2 ^ n → (w z ≡ none → ⊥) → (y : ℕ)
    → y < 2 ^ n → (w y ≡ none) ↔ (amplitudes n R y ≡ none)

-- "exactly 2^−r with r the rank of the x words": as many words are supported, so that the probabilities add up to 1
abbrev pub WordsCount : ℕ → (ℕ → Pauli) → Type 0
WordsCount n R = count (2 ^ n) (is_supported n R) ≡ 2 ^ rank n n (x_words R)
