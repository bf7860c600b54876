-- `cut` meets its contract: the rank of the edges between the marked side and the other.
use mathlib.Core.Path.{refl, sym}
use Rattle.buffers.proofs.Calling.{done, refused}
use Rattle.buffers.proofs.RefusalLaws.{passed_on}
use Rattle.operations.specs.Used.{UsedRecord, used_record}
use Rattle.call_readings.proofs.CutLines.{accepted-cut}
use Rattle.call_readings.proofs.cuts.cut.Goals as goal

pub returns-in_err-used_refusal : goal.returns-in_err-used_refusal
returns-in_err-used_refusal c =
    let R = passed_on _ _ c.from_residual.ensures.1 c.in_err-used_refusal.ensures in
    refused _ R.0 R.1 (refl, tt)

pub cut_rank-requires : goal.cut_rank-requires
cut_rank-requires c =
    let a = c.args in
    let u : UsedRecord = used_record a.n a.neighbours.now a.codes.now a.used in
    let A = accepted-cut u a.side (sym c.in_ok-used_refusal.ensures) in
    record { n_bound = (A.held.upto, A.held.neighbours-length, A.below); simple = A.held.simple }

pub returns : goal.returns
returns c = done _ c.in_ok-used_refusal.ensures refl (c.cut_rank.ensures, tt)
