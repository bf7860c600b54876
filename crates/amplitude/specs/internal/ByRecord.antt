-- The answer read off a record of reduced form, as the code does it: no search over products.
use Rattle.std.specs.Prelude.{cond, ℕ}
use Rattle.pauli.specs.Pauli.{◌+ᵖ◌, Phase, exponent}
use Rattle.record.specs.Records.{GraphRecord}
use Rattle.words.specs.Bits.{bit}
use Rattle.words.specs.Search.{every}
use Rattle.amplitude.specs.internal.KeptTurns.{fits_at, kept_turns}
use Rattle.amplitude.specs.Plotting.{turned}
use Rattle.amplitude.specs.declared.Amplitude.{Amplitude}
use Rattle.amplitude.specs.declared.Amplitude.TheVariants.{Nothing}

-- the first power of i over the second
abbrev pub over : Phase → Phase → Phase
over a b = a +ᵖ (b +ᵖ (b +ᵖ b))

-- each equation, and the turns of the word over those of the smallest
abbrev pub answer_over : ℕ → GraphRecord → ℕ → ℕ → Amplitude
answer_over n r low y = cond (every n (fits_at r y))
    (turned (exponent (over (kept_turns n r (bit y)) (kept_turns n r (bit low))))) Nothing
