-- The floats of a plot line are numbers.
use mathlib.Core.Bool.{Bool, cond, false, true}
use Prim.Native.Nat.{ℕ, suc, zero}
use lib.Ieee.{is_nan}
use Rattle.amplitude.specs.Plotting.{plotted, turned}
use Rattle.amplitude.specs.Ratios.{is_supported, plot_at, ratio}
use Rattle.amplitude.specs.declared.Amplitude.TheVariants.{Nothing}
use Rattle.cut.specs.Rank.{rank}
use Rattle.pauli.specs.Pauli.{Pauli, exponent}
use Rattle.record.specs.Reduced.{x_words}
use Rattle.jobs.specs.internal.Numbers.{AllNumbers}

turned-numbers : (k r : ℕ) → AllNumbers (plotted (turned k) r)
unfolding is_nan
turned-numbers zero r = record { re = tt; im = tt; p = tt }
turned-numbers (suc zero) r = record { re = tt; im = tt; p = tt }
turned-numbers (suc (suc zero)) r = record { re = tt; im = tt; p = tt }
turned-numbers (suc (suc (suc k))) r = record { re = tt; im = tt; p = tt }

by-support : (b : Bool) (k r : ℕ) → AllNumbers (plotted (cond b (turned k) Nothing) r)
unfolding is_nan
by-support true k r = turned-numbers k r
by-support false k r = record { re = tt; im = tt; p = tt }

pub all-numbers : (n : ℕ) (R : ℕ → Pauli) (y : ℕ) → AllNumbers (plot_at n R y)
all-numbers n R y = by-support (is_supported n R y) (exponent (ratio n R y)) (rank n n (x_words R))
