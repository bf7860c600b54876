-- `write_strings` meets its contract: the text of a generator list.
use mathlib.Core.Path.{refl, sym, ◌∙◌}
use Rattle.buffers.proofs.RefusalLaws.{passed_on}
use Rattle.stabilizer.specs.Lists.{GeneratorList}
use Rattle.call_lists.proofs.WriteCalls.{write-count, write_done, write-refused, write-room, write-size}
use Rattle.call_lists.proofs.strings.write_strings.Goals as goal

pub returns-then-bad_count : goal.returns-then-bad_count
returns-then-bad_count c =
    let a = c.args in
    let l : GeneratorList = record { n = a.n; signs = a.signs.now; z = a.z.now; x = a.x.now } in
    write-count l a.text.now (sym c.bad_count.ensures ∙ c.if-bad_count.true)

pub returns-then-other_than : goal.returns-then-other_than
returns-then-other_than c =
    let a = c.args in
    let l : GeneratorList = record { n = a.n; signs = a.signs.now; z = a.z.now; x = a.x.now } in
    write-size l a.text.now (sym c.bad_count.ensures ∙ c.if-bad_count.false)
    (sym c.other_than.ensures ∙ c.if-other_than.true)

pub returns-in_err-check : goal.returns-in_err-check
returns-in_err-check c =
    let a = c.args in
    let l : GeneratorList = record { n = a.n; signs = a.signs.now; z = a.z.now; x = a.x.now } in
    let R = passed_on _ _ c.from_residual.ensures.1 refl in
    write-refused l a.text.now (sym c.other_than.ensures ∙ c.if-other_than.false) (rw R.0 c.in_err-check.ensures) R.1

pub put_strings-requires : goal.put_strings-requires
put_strings-requires c =
    let a = c.args in
    let l : GeneratorList = record { n = a.n; signs = a.signs.now; z = a.z.now; x = a.x.now } in
    let whole = write-room l a.text.now (sym c.other_than.ensures ∙ c.if-other_than.false) c.in_ok-check.ensures refl in
    record { n_bound = whole.0; out_len = whole.1 }

pub returns : goal.returns
returns c =
    let a = c.args in
    let l : GeneratorList = record { n = a.n; signs = a.signs.now; z = a.z.now; x = a.x.now } in
    write_done l a.text.now (sym c.other_than.ensures ∙ c.if-other_than.false) c.in_ok-check.ensures refl
    c.put_strings.ensures
