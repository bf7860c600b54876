-- `known_number` meets its contract: the first line of a record that holds, which need not be looked for where none is
-- known to hold; `six`: line 6 holds of a further argument.
use mathlib.Core.Bool.{cond, false}
use mathlib.Core.Path.{ap, sym, ◌∙◌}
use Rattle.operations.specs.Used.{UsedRecord, used_record}
use Rattle.operations_checks.proofs.UsedNumbers.{no-further}
use Rattle.call_gates.proofs.KnownRecords.{known-true, six-alone}
use Rattle.call_gates.proofs.known_number.Goals as goal

pub returns-then-six : goal.returns-then-six
returns-then-six c =
    let a = c.args in
    let u : UsedRecord = used_record a.n a.neighbours.now a.codes.now a.used in
    sym (ap (λ b. cond b 6 0) c.if-six.true) ∙ six-alone u (known-true u c.requires.known c.if-known.true) a.six

pub returns-else-six : goal.returns-else-six
returns-else-six c =
    let a = c.args in
    let u : UsedRecord = used_record a.n a.neighbours.now a.codes.now a.used in
    sym (ap (λ b. cond b 6 0) c.if-six.false) ∙ six-alone u (known-true u c.requires.known c.if-known.true) a.six

pub returns : goal.returns
returns c =
    let a = c.args in
    let u : UsedRecord = used_record a.n a.neighbours.now a.codes.now a.used in
    no-further u false a.six c.used_number.ensures
