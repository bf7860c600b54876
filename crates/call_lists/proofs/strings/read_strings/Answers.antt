-- `read_strings` meets its contract: the generator list of a text.
use mathlib.Core.Path.{refl}
use native.Mathlib.Omega.{arith}
use Rattle.buffers.proofs.RefusalLaws.{passed_on}
use Rattle.call_lists.proofs.ReadCalls.{read_done, read-formed, read-judged, read-refused}
use Rattle.call_lists.proofs.strings.read_strings.Goals as goal

pub returns-in_err-formed_refusal : goal.returns-in_err-formed_refusal
returns-in_err-formed_refusal c =
    let a = c.args in
    let R = passed_on _ _ c.from_residual.ensures.1 c.in_err-formed_refusal.ensures in
    read-refused a.text.now a.signs.now a.z.now a.x.now _ c.letter_count-n.ensures R.0 R.1

pub read_rows-list-requires : goal.read_rows-list-requires
read_rows-list-requires c =
    let a = c.args in
    let F = read-formed a.text.now a.signs.now a.z.now a.x.now _ c.letter_count-n.ensures
    c.in_ok-formed_refusal.ensures refl in
    (F.few, F.size, F.fit)

pub shared_ref_as_front-check : goal.shared_ref_as_front-check
shared_ref_as_front-check c =
    let a = c.args in
    (read-formed a.text.now a.signs.now a.z.now a.x.now _ c.letter_count-n.ensures
    c.in_ok-formed_refusal.ensures refl).few

pub shared_ref_as_front-check-2 : goal.shared_ref_as_front-check-2
shared_ref_as_front-check-2 c =
    let a = c.args in
    (read-formed a.text.now a.signs.now a.z.now a.x.now _ c.letter_count-n.ensures
    c.in_ok-formed_refusal.ensures refl).few

pub shared_ref_as_front-check-3 : goal.shared_ref_as_front-check-3
shared_ref_as_front-check-3 c =
    let a = c.args in
    (read-formed a.text.now a.signs.now a.z.now a.x.now _ c.letter_count-n.ensures
    c.in_ok-formed_refusal.ensures refl).few

pub returns-in_err-check : goal.returns-in_err-check
returns-in_err-check c =
    let a = c.args in
    let R = passed_on _ _ c.from_residual-in_err-check.ensures.1 refl in
    read-judged a.text.now a.signs.now a.z.now a.x.now _ c.letter_count-n.ensures
    c.in_ok-formed_refusal.ensures refl _ _ _ c.read_rows-list.ensures.signs_value
    c.read_rows-list.ensures.z_value c.read_rows-list.ensures.x_value
    (rw R.0 c.in_err-check.ensures) R.1

pub copy_first-requires : goal.copy_first-requires
copy_first-requires c =
    let a = c.args in
    let F = read-formed a.text.now a.signs.now a.z.now a.x.now _ c.letter_count-n.ensures
    c.in_ok-formed_refusal.ensures refl in
    omega (arith, F.few, F.signs-fit)

pub copy_first-requires-2 : goal.copy_first-requires-2
copy_first-requires-2 c =
    let a = c.args in
    let F = read-formed a.text.now a.signs.now a.z.now a.x.now _ c.letter_count-n.ensures
    c.in_ok-formed_refusal.ensures refl in
    omega (arith, F.few, F.z-fit)

pub copy_first-requires-3 : goal.copy_first-requires-3
copy_first-requires-3 c =
    let a = c.args in
    let F = read-formed a.text.now a.signs.now a.z.now a.x.now _ c.letter_count-n.ensures
    c.in_ok-formed_refusal.ensures refl in
    omega (arith, F.few, F.x-fit)

pub returns : goal.returns
returns c =
    let a = c.args in
    read_done a.text.now a.signs.now a.z.now a.x.now _ c.letter_count-n.ensures
    c.in_ok-formed_refusal.ensures refl _ _ _ c.read_rows-list.ensures.signs_value
    c.read_rows-list.ensures.z_value c.read_rows-list.ensures.x_value
    c.in_ok-check.ensures refl c.copy_first.ensures c.copy_first-2.ensures
    c.copy_first-3.ensures
