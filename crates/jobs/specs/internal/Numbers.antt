-- Lines of a plot whose floats have bits: those that are no NaN.
use Rattle.std.specs.Prelude.{not, T}
use Rattle.std.specs.Float.Ieee.{is_nan}
use Rattle.amplitude.specs.declared.PlotLine.{PlotLine}

-- the three floats are numbers
pub record AllNumbers (l : PlotLine) : Type 0 where
  pub re : T (not (is_nan l.re))
  pub im : T (not (is_nan l.im))
  pub p : T (not (is_nan l.p))
