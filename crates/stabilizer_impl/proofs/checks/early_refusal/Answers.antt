-- `early_refusal` meets its contract: the first line of a list that holds, of those that need no elimination; 0 where
-- none does.
use mathlib.Core.Path.{refl, ◌∙◌}
use Rattle.buffers.proofs.Fitting.{decides, stays}
use Rattle.buffers.proofs.RefusalLaws.{passed_on}
use Rattle.buffers.specs.Answers.{here, later, none}
use Rattle.stabilizer.specs.Lists.{GeneratorList, form_lines}
use Rattle.stabilizer.proofs.EarlyLines.{clash-tested, clashing-letters, says}
use Rattle.stabilizer_impl.proofs.checks.early_refusal.Goals as goal

pub returns-in_err-form_refusal : goal.returns-in_err-form_refusal
returns-in_err-form_refusal c =
    let a = c.args in
    let l : GeneratorList = record { n = a.n; signs = a.signs.now; z = a.z.now; x = a.x.now } in
    let R = passed_on _ _ c.from_residual.ensures.1 c.in_err-form_refusal.ensures in
    stays (form_lines l a.others) _ R.0 R.1

pub some_clash-requires : goal.some_clash-requires
some_clash-requires c =
    let a = c.args in
    let l : GeneratorList = record { n = a.n; signs = a.signs.now; z = a.z.now; x = a.x.now } in
    let whole = clash-tested l a.others _ c.in_ok-form_refusal.ensures refl in record { n_bound = whole.0; z_value = whole.1 }

pub returns-then-some_clash : goal.returns-then-some_clash
returns-then-some_clash c =
    let a = c.args in
    let l : GeneratorList = record { n = a.n; signs = a.signs.now; z = a.z.now; x = a.x.now } in
    decides (form_lines l a.others) refl c.in_ok-form_refusal.ensures refl
    (here (says (c.some_clash.ensures ∙ clashing-letters l) c.if-some_clash.true))

pub returns : goal.returns
returns c =
    let a = c.args in
    let l : GeneratorList = record { n = a.n; signs = a.signs.now; z = a.z.now; x = a.x.now } in
    decides (form_lines l a.others) refl c.in_ok-form_refusal.ensures refl
    (later (says (c.some_clash.ensures ∙ clashing-letters l) c.if-some_clash.false) none)
