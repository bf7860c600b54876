-- The record that the image rule tracks: its graph is simple, and it has at most 64 vertices.
use mathlib.Core.Path.{subst, ◌∙◌, ◌≡◌}
use Prim.Native.Nat.{ℕ, ◌≤◌}
use lib.ListN.{length}
use Rattle.record.specs.Graph.{Simple}
use Rattle.record.specs.NeighbourWords.{graph_in}
use Rattle.operations.proofs.UnrefusedRecords.{unrefused-long, unrefused-short, unrefused-simple}
use Rattle.image_impl.specs.internal.Working.{Tracking, Working}

pub tracked-simple : (n : ℕ) (w : Working) → Tracking n w → Simple n (graph_in w.neighbours)
tracked-simple n w T =
    subst (λ m. Simple m (graph_in w.neighbours)) T.long
    (unrefused-simple w.neighbours w.codes T.unrefused)

pub tracked-small : (n : ℕ) (w : Working) → Tracking n w → n ≤ 64
tracked-small n w T = subst (λ m. m ≤ 64) T.long (unrefused-short w.neighbours w.codes T.unrefused)

pub tracked-codes : (n : ℕ) (w : Working) → Tracking n w → length w.codes ≡ n
tracked-codes n w T = unrefused-long w.neighbours w.codes T.unrefused ∙ T.long
