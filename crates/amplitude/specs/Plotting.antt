-- Amplitudes as floats.
use Rattle.std.specs.Prelude.{Bool, true, false, ℕ, zero, suc, ℤ, pos, negsuc, neg_ℤ, Float}
use Rattle.std.specs.Float.{fin}
use Rattle.amplitude.specs.declared.Amplitude.{Amplitude}
use Rattle.amplitude.specs.declared.Amplitude.TheVariants.{Nothing, Real, Imag}
use Rattle.amplitude.specs.declared.PlotLine.{PlotLine}

-- +0
abbrev pub nought : Float
nought = fin false 0 (pos 0)

-- 1, or -1 where the flag is set
abbrev pub unit : Bool → Float
unit s = fin s 1 (pos 0)

-- 2 ^ -r
abbrev pub halves : ℕ → Float
halves r = fin false 1 (neg_ℤ (pos r))

-- i to the power k, k from 0 to 3
abbrev pub turned : ℕ → Amplitude
turned zero = Real (unit false)
turned (suc zero) = Imag (unit false)
turned (suc (suc zero)) = Real (unit true)
turned (suc (suc (suc k))) = Imag (unit true)

-- "Each plot line holds three floats, real part, imaginary part and probability"
abbrev pub plotted : Amplitude → ℕ → PlotLine
plotted Nothing r = record { re = nought; im = nought; p = nought }
plotted (Real v) r = record { re = v; im = nought; p = halves r }
plotted (Imag v) r = record { re = nought; im = v; p = halves r }

-- 0, 1 and -1 as floats; other numbers are not used
abbrev pub float_of : ℤ → Float
float_of (pos zero) = nought
float_of (pos (suc k)) = unit false
float_of (negsuc k) = unit true
