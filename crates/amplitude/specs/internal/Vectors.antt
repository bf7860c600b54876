-- Vectors of Gaussian integers, one for each word, and how a row acts on them: what the amplitudes are shown to be:
-- what only the proofs name.
use Rattle.std.specs.Prelude.{◌≡◌, ℕ}
use Rattle.pauli.specs.Pauli.{Pauli}
use Rattle.amplitude.specs.Ratios.{amplitude_of, lowest, is_supported}
use Rattle.amplitude.specs.Vectors.{amplitudes}

-- the answers depend on the group alone
pub record OfGroup (n : ℕ) (R S : ℕ → Pauli) : Type 0 where
  pub support : (y : ℕ) → is_supported n R y ≡ is_supported n S y
  pub smallest : lowest n R ≡ lowest n S
  pub vector : (y : ℕ) → amplitudes n R y ≡ amplitudes n S y
  pub answer : (y : ℕ) → amplitude_of n R y ≡ amplitude_of n S y
