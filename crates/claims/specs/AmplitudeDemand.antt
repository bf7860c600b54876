-- Amplitudes (02, §11): the answers are the state that the group fixes, over its value at the smallest word with a
-- nonzero amplitude; what an accepted call writes. The three floats are lent as their bits; a name with a prime is what
-- is lent at exit.
use Rattle.std.specs.Prelude.{Bool, ◌≡◌, ℕ, Float}
use Rattle.std.specs.Float.{binary64}
use Rattle.std.specs.Float.Ieee.{of_bits}
use Rattle.amplitude.specs.Plotting.{float_of, halves, nought, unit}
use Rattle.amplitude.specs.Vectors.{
  AnyElementFixes,
  Gaussian,
  LowestLeast,
  OnlyVector,
  OnlyVectorOver,
  Stabilized,
  WordsCount,
  ZeroExactly,
  amplitudes,
  none,
}
use Rattle.calls.specs.Amplitudes.{amplitude_call}
use Rattle.buffers.specs.Calls.{Call}
use Rattle.cut.specs.Rank.{rank}
use Rattle.pauli.specs.Pauli.{Pauli}
use Rattle.record.specs.Lent.{held_rows}
use Rattle.record.specs.Reduced.{x_words}
use Rattle.operations.specs.Used.{UsedRecord}

-- the vector of the answers is fixed by every element of the group, and every vector that is so is a multiple of it;
-- "the smallest word with a nonzero amplitude"; "A group element whose x part leads from that word to y fixes the
-- ratio"; as many words as the probabilities, "exactly 2^−r with r the rank of the x words", need to add up to 1
pub record AmplitudeDemand (n : ℕ) (R : ℕ → Pauli) : Type 0 where
  pub fixed : Stabilized n R (amplitudes n R)
  pub only : OnlyVector n R
  pub zero : ZeroExactly n R
  pub smallest : LowestLeast n R
  pub ratio : AnyElementFixes n R
  pub words : WordsCount n R

-- whatever numbers a state is written with, complex ones among them: of every accepted call
abbrev pub StatesAreMultiples : Type 1
StatesAreMultiples = (u : UsedRecord) (y re im p re' im' p' : ℕ) →
    Call (amplitude_call u y re im p re' im' p') 0 → OnlyVectorOver u.held.n (held_rows u.held)

-- the float that 64 bits hold
abbrev pub float_in : ℕ → Float
float_in = of_bits binary64

-- "a value on the real axis, or a value on the imaginary axis, as a 64-bit float of 1 or −1"; "Every zero is positive"
pub data OnAxis : Float → Float → Type 0 where
  real : (s : Bool) → OnAxis (unit s) nought
  imaginary : (s : Bool) → OnAxis nought (unit s)

-- the three floats for the value v of the vector: "The probability is 0 for nothing, otherwise exactly 2^−r"
pub record PlottedAs (v : Gaussian) (r : ℕ) (re im p : Float) : Type 0 where
  pub nothing : v ≡ none → (re ≡ nought) × (im ≡ nought) × (p ≡ nought)
  pub value : (v ≡ none → ⊥) → OnAxis re im × (p ≡ halves r)
  pub real-part : re ≡ float_of v.re
  pub imaginary-part : im ≡ float_of v.im

-- what an accepted call says of the record's group R at y: "three floats, real part, imaginary part and probability"
pub record AmplitudeAnswer (n : ℕ) (R : ℕ → Pauli) (y : ℕ) (re im p : Float) : Type 0 where
  pub vector : AmplitudeDemand n R
  pub line : PlottedAs (amplitudes n R y) (rank n n (x_words R)) re im p

-- of every accepted call
abbrev pub AmplitudesAnswer : Type 0
AmplitudesAnswer = (u : UsedRecord) (y re im p re' im' p' : ℕ) →
    Call (amplitude_call u y re im p re' im' p') 0 →
    AmplitudeAnswer u.held.n (held_rows u.held) y (float_in re') (float_in im') (float_in p')
