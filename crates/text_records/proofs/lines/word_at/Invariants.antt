-- What the loops of `word_at` keep.
use mathlib.Core.Path.{◌≡◌}
use Prim.Native.Nat.{◌+◌}
use lib.ListN.{get_or}
use Rattle.text.specs.RecordTexts.{hex_of}
use Rattle.text_records.proofs.lines.word_at.Given as goal

abbrev pub invariant-loop-k : goal.invariant-loop-k
invariant-loop-k l = l.w ≡ hex_of l.k (λ c. get_or l.text (l.from + c) 0)
