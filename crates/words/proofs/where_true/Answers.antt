-- `where_true` meets its contract: the word where b is true, else no bit.
use mathlib.Core.Bool.{◌&&◌}
use mathlib.Core.Path.{ap, sym, ◌∙◌}
use Rattle.words.proofs.BitLaws.{zero_bit}
use Rattle.words.specs.Bits.{bit}
use Rattle.words.proofs.where_true.Goals as goal

pub returns-else-b : goal.returns-else-b
returns-else-b c = λ q. zero_bit q ∙ sym (ap (λ b. b && bit c.args.word q) c.if-b.false)
