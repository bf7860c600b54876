-- `read_record` meets its contract: the record of a text.
use mathlib.Core.Bool.{◌||◌}
use mathlib.Core.Path.{ap₂, refl}
use Rattle.buffers.proofs.RefusalLaws.{passed_on}
use Rattle.call_texts.proofs.ReadCalls.{read_done, read-refused, read-room, read-unformed}
use Rattle.call_texts.proofs.read_record.Goals as goal

pub returns-in_default : goal.returns-in_default
returns-in_default c =
    let a = c.args in
    let told = c.in_default.ensures in
    read-unformed a.text.now a.n.now a.neighbours.now a.codes.now a.used.now told

pub returns-in_err-held_refusal : goal.returns-in_err-held_refusal
returns-in_err-held_refusal c =
    let a = c.args in
    let told = c.in-Some.ensures in
    let R = passed_on _ _ c.from_residual.ensures.1 c.in_err-held_refusal.ensures in
    read-refused a.text.now a.n.now a.neighbours.now a.codes.now a.used.now c.in-Some.read told _
    (ap₂ ◌||◌ c.other_than.ensures c.other_than-2.ensures) _ R.0 R.1

pub take_record-requires : goal.take_record-requires
take_record-requires c =
    let a = c.args in
    let told = c.in-Some.ensures in
    let whole = read-room a.text.now a.n.now a.neighbours.now a.codes.now a.used.now c.in-Some.read told _
    (ap₂ ◌||◌ c.other_than.ensures c.other_than-2.ensures) _ c.in_ok-held_refusal.ensures refl in
    record { i_bound = whole.0; n_in_bounds = whole.1 }

pub returns : goal.returns
returns c =
    let a = c.args in
    let told = c.in-Some.ensures in
    read_done a.text.now a.n.now a.neighbours.now a.codes.now a.used.now c.in-Some.read told _
    (ap₂ ◌||◌ c.other_than.ensures c.other_than-2.ensures) _ c.in_ok-held_refusal.ensures refl
    c.take_record.ensures.0 c.take_record.ensures.1
