-- `generate` meets its contract: the text of the job of `count` steps drawn from the seed, at the start of the buffer,
-- and its length.
use mathlib.Core.Path.{refl, sym}
use Rattle.buffers.proofs.Calling.{refused}
use Rattle.buffers.proofs.RefusalLaws.{passed_on}
use Rattle.calls.proofs.GenerateCalls.{accepted-job, generate-accepted}
use Rattle.call_readings.proofs.generated_jobs.generate.Goals as goal

pub returns-in_err-generate_refusal : goal.returns-in_err-generate_refusal
returns-in_err-generate_refusal c =
    let R = passed_on _ _ c.from_residual.ensures.1 c.in_err-generate_refusal.ensures in
    refused _ R.0 R.1 (refl, (refl, tt))

pub put_job-requires : goal.put_job-requires
put_job-requires c =
    let a = c.args in
    accepted-job a.n a.count a.seed a.text.now
    (sym c.in_ok-generate_refusal.ensures)

pub returns : goal.returns
returns c =
    let a = c.args in
    generate-accepted a.n a.count a.seed a.text.now c.in_ok-generate_refusal.ensures refl _ _ c.put_job.ensures
