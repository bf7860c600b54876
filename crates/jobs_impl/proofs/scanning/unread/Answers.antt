-- `unread` meets its contract: nothing is read.
use mathlib.Core.Path.{ap}
use lib.ListN.{replicate}
use Rattle.jobs.specs.internal.Scan.{as_reading, empty, no_step}
use Rattle.jobs_impl.proofs.scanning.unread.Goals as goal

pub returns : goal.returns
unfolding empty
returns c = ap (λ s. as_reading s (replicate 4096 no_step)) c.start.ensures
