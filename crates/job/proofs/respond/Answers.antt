-- `respond` meets its contract: prints the answer to the text of an input.
use Rattle.claims.proofs.ProgramDemandHolds.{job-texts-answered}
use Rattle.job.proofs.respond.Goals as goal

pub returns : goal.returns
returns g c =
    let J = c.in_ok-read.ensures in
    let P = c.job_reply.ensures J.text J.scanned in
    record { ok = record { text = J.text; response = P; answered = job-texts-answered _ _ _ _ P }; err = tt }
