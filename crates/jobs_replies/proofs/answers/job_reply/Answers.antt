-- `job_reply` meets its contract: prints the answer to the text that was read, whatever text it was.
use mathlib.Core.Path.{refl, sym}
use native.Mathlib.Omega.{arith}
use Rattle.std.proofs.lemmas.List.{length-take}
use Rattle.buffers.proofs.RefusalLaws.{refuses}
use Rattle.jobs.proofs.TextAnswers.{accepted-small}
use Rattle.jobs.specs.internal.Scan.{as_reading}
use Rattle.jobs_replies.proofs.Responses.{job-responds, refusal-responds}
use Rattle.jobs_replies.proofs.answers.job_reply.Goals as goal

pub shared_ref_as_front-job_answer : goal.shared_ref_as_front-job_answer
shared_ref_as_front-job_answer c = (accepted-small c.args.read.scan (sym c.in-Ok.ensures)).2

pub job_answer-requires : goal.job_answer-requires
job_answer-requires c =
    let a = c.args.read in
    let small = accepted-small a.scan (sym c.in-Ok.ensures) in
    (small.0, small.1, omega (arith, length-take a.scan.count a.steps, small.2), c.requires)

pub returns-in-Ok : goal.returns-in-Ok
returns-in-Ok c =
    job-responds (as_reading c.args.read.scan c.args.read.steps) _ _ _ _ c.in-Ok.ensures refl c.job_answer.ensures

pub print_refusal-requires : goal.print_refusal-requires
print_refusal-requires c = omega (arith, c.requires)

pub returns-in-Err : goal.returns-in-Err
returns-in-Err c =
    refusal-responds (as_reading c.args.read.scan c.args.read.steps) _ _ _ _ c.in-Err.ensures
    (refuses c.in-Err.refusal) c.print_refusal.ensures
