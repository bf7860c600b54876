-- The floats of a plot line are read back from their bits: each is 0, 1 or -1, or 2 ^ -r with r at most 64.
use mathlib.Core.Bool.{Bool, cond, false, not, true}
use mathlib.Core.Path.{◌≡◌, refl, subst, sym}
use Prim.Native.Nat.{◌≤◌, suc, zero, ℕ}
use native.Mathlib.Omega.{arith}
use lib.Dec.{T}
use lib.Ieee.{Float, binary64, fits}
use lib.Ieee.Bits.{of_bits-to_bits}
use Rattle.amplitude.specs.Plotting.{halves, nought, plotted, turned, unit}
use Rattle.amplitude.specs.Ratios.{is_supported, plot_at, ratio}
use Rattle.amplitude.specs.declared.Amplitude.TheVariants.{Nothing}
use Rattle.amplitude.specs.declared.PlotLine.{PlotLine}
use Rattle.calls.specs.Amplitudes.{bits_of}
use Rattle.cut.proofs.Counting.{count-upto}
use Rattle.cut.specs.Rank.{rank}
use Rattle.pauli.specs.Pauli.{Pauli, exponent}
use Rattle.record.specs.Columns.{is_column_dependent}
use Rattle.record.specs.Reduced.{x_words}
use Rattle.words.proofs.SearchLaws.{every-at}
use Rattle.words.specs.Search.{every}
use Rattle.claims.specs.AmplitudeDemand.{float_in}

-- the bits of a float give it back
abbrev Back : Float → Type 0
Back v = float_in (bits_of v) ≡ v

-- the three of a line
pub record AllBack (l : PlotLine) : Type 0 where
  pub re : Back l.re
  pub im : Back l.im
  pub p : Back l.p

nought-back : Back nought
unfolding fits
nought-back = of_bits-to_bits binary64 nought tt

unit-back : (s : Bool) → Back (unit s)
unfolding fits
unit-back s = of_bits-to_bits binary64 (unit s) tt

-- the halves fit, by one test over their powers up to 64
halves-fit : every 65 (λ r. fits binary64 (halves r)) ≡ true
unfolding every fits
halves-fit = refl

halves-back : (r : ℕ) → r ≤ 64 → Back (halves r)
halves-back r h = of_bits-to_bits binary64 (halves r) (subst T (sym (every-at 65 _ halves-fit r (omega (arith, h)))) tt)

turned-back : (k r : ℕ) → Back (halves r) → AllBack (plotted (turned k) r)
turned-back zero r h = record { re = unit-back false; im = nought-back; p = h }
turned-back (suc zero) r h = record { re = nought-back; im = unit-back false; p = h }
turned-back (suc (suc zero)) r h = record { re = unit-back true; im = nought-back; p = h }
turned-back (suc (suc (suc k))) r h = record { re = nought-back; im = unit-back true; p = h }

by-support : (b : Bool) (k r : ℕ) → Back (halves r) → AllBack (plotted (cond b (turned k) Nothing) r)
by-support true k r h = turned-back k r h
by-support false k r h = record { re = nought-back; im = nought-back; p = nought-back }

pub line-back : (n : ℕ) (R : ℕ → Pauli) (y : ℕ) → n ≤ 64 → AllBack (plot_at n R y)
line-back n R y h =
    by-support (is_supported n R y) (exponent (ratio n R y)) (rank n n (x_words R))
    (halves-back (rank n n (x_words R)) (omega (arith, h, count-upto n (λ q. not (is_column_dependent n (x_words R) q)))))
