-- The text read so far, block after block.
use mathlib.Core.List.{List, [], ◌++◌}
use mathlib.Core.Path.{◌∙◌, ◌≡◌, ap, sym}
use Prim.Native.Nat.{ℕ}
use Rattle.jobs.specs.internal.Scan.{empty, fed, feed, Reading}
use Rattle.text.proofs.Feeding.{fed-append}
use Rattle.text.specs.internal.Feeding.{fed_bytes}
use Rattle.job.specs.internal.Reads.{ScannedJob}

-- nothing is read
pub no_block : (r : Reading) → r ≡ empty → ScannedJob r
unfolding fed_bytes
no_block r e = record { text = []; scanned = e }

-- a block more
pub one_block : (r r' : Reading) (block : List ℕ) → ScannedJob r → r' ≡ fed r block → ScannedJob r'
one_block r r' block S e =
    record {
      text = S.text ++ block;
      scanned = e ∙ ap (λ w. fed w block) S.scanned ∙ sym (fed-append feed empty S.text block);
    }
