-- What the loop of `read_job` keeps.
use mathlib.Core.Path.{◌≡◌}
use lib.ListN.{length}
use Rattle.jobs.specs.internal.Scan.{as_reading}
use Rattle.job.specs.internal.Reads.{ScannedJob}
use Rattle.job.proofs.read_job.Given as goal

abbrev pub invariant-loop : goal.invariant-loop
invariant-loop g l = (4096 ≡ length l.block) × ScannedJob (as_reading l.read.scan l.read.steps)
