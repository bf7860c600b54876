-- `main` meets its contract.
use mathlib.Core.Path.{sym}
use Rattle.text.proofs.Prints.{printed-fits, printed-part}
use Rattle.amplitudes.proofs.main.Goals as goal

pub slice_bounds-out-end : goal.slice_bounds-out-end
slice_bounds-out-end c = printed-fits _ _ _ _ c.in_ok-end.ensures.ok.response.out c.respond.auto.out

pub slice_bounds-write_all-end : goal.slice_bounds-write_all-end
slice_bounds-write_all-end c = sym (printed-part _ _ _ _ c.in_ok-end.ensures.ok.response.out c.respond.auto.out)
