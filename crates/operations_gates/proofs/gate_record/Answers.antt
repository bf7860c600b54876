-- `gate_record` meets its contract: Gate: code k after the code held at q, and the reduced record.
use native.Mathlib.Omega.{arith}
use Rattle.operations.proofs.UnrefusedRecords.{unrefused-codes, unrefused-place, unrefused-short}
use Rattle.operations_gates.proofs.GatedBuffers.{gated-reduced, gated-unrefused}
use Rattle.operations_gates.proofs.TouchedRecords.{gate-suspected, gate-watched}
use Rattle.operations_gates.proofs.gate_record.Goals as goal

pub gate_code-requires : goal.gate_code-requires
gate_code-requires c =
    (unrefused-place _ _ c.requires.unrefused _ c.requires.q_in_bounds.0, (unrefused-codes _ _ c.requires.unrefused).1, c.requires.q_in_bounds.1)

pub single-requires : goal.single-requires
single-requires c =
    omega (arith, c.requires.q_in_bounds.0, unrefused-short _ _ c.requires.unrefused)

pub settle_all-requires : goal.settle_all-requires
settle_all-requires c =
    let a = c.args in
    let gated = c.gate_code.ensures in
    let own = c.single.ensures in record { unrefused = gated-unrefused _ _ c.requires.unrefused a.q c.requires.q_in_bounds.0 a.k _ gated; suspected = gate-suspected _ _ a.q _ _ gated _ a.touched own c.requires.suspected.0; watched = gate-watched _ _ a.q _ _ gated _ a.touched own c.requires.q_in_bounds.0 c.requires.suspected.1 }

pub returns : goal.returns
returns c =
    let a = c.args in
    gated-reduced _ _ c.requires.unrefused a.q c.requires.q_in_bounds.0 a.k _ c.gate_code.ensures _ _
    c.settle_all.ensures
