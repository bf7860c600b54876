-- `copied_words` meets its contract: lent words in an array; 0 past their end.
use mathlib.Core.Path.{ap, ◌∙◌}
use lib.ListN.{get_or}
use Rattle.buffers.proofs.CopiedItems.{front-copied}
use Rattle.buffers.proofs.Mapping.{zeros}
use Rattle.buffers.proofs.arrays.copied_words.Goals as goal

pub returns : goal.returns
unfolding zeros
returns c i = ap (λ v. get_or v i 0) c.copy_front.ensures ∙ front-copied 64 c.args.lent.now i
