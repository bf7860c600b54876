-- What the loops of `lines_fit` keep.
use mathlib.Core.Path.{◌≡◌}
use Prim.Native.Nat.{◌*◌, ◌+◌}
use Rattle.text.specs.Reading.{byte_at, line_fits}
use Rattle.text_strings.proofs.FitLoops.{FitBelow}
use Rattle.text_strings.proofs.form.lines_fit.Given as goal

abbrev pub invariant-loop : goal.invariant-loop
invariant-loop l =
    FitBelow l.n (λ i. line_fits l.n (byte_at l.n l.text i)) l.fit l.counter × (l.from ≡ l.counter * (l.n + 2))
