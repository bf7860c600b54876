-- X measured by a pivot without the edges at the vertex: what is asked of the codes then, and the group afterwards.
use mathlib.Core.Bool.{◌&&◌, Bool, false, true}
use mathlib.Core.List.{List}
use mathlib.Core.Path.{◌≡◌}
use Prim.Native.Nat.{◌<◌, ◌^◌, ℕ, ◌≤◌}
use lib.ListN.{get_or, length}
use Rattle.buffers.specs.Buffers.{tabulate}
use Rattle.clifford.specs.Clifford.{code_of, identity_clifford, image, then}
use Rattle.clifford.specs.Vectors.{codes_of}
use Rattle.record.specs.Graph.{Simple}
use Rattle.record.specs.internal.NeighbourWords.{SameGraph}
use Rattle.record.specs.NeighbourWords.{graph_in}
use Rattle.operations.specs.internal.KeptGroups.{GroupMeasured}
use Rattle.operations.specs.internal.GraphSteps.{hadamard_code, pauli_code}
use Rattle.operations.proofs.Rewriting.{pivot-above, pivot-simple}
use Rattle.operations.proofs.UnrefusedRecords.{unrefused-above, unrefused-simple}
use Rattle.operations.specs.internal.InPlace.{Unrefused, record_in}
use Rattle.operations.specs.Steps.{pivot_record}
use Rattle.operations_measurement.proofs.RemovedEdges.{parted_from}
use Rattle.pauli.specs.declared.Letter.TheVariants.{X}
use Rattle.record.specs.Lent.{code_numbers, held_record}
use Rattle.words.specs.Bits.{bit, is_odd, put, ◌⊕◌}
use Rattle.operations_measurement.proofs.BringingToZ.{brought-by-pivot, neighbour-below}
use Rattle.operations_measurement.proofs.PartedBuffers.{parted-asks, parted-measured}

module _ (words codes : List ℕ) (U : Unrefused (record_in words codes)) (q k : ℕ) (hq : q < length words)
    (edge : bit (get_or words q 0) k ≡ true) (near : ℕ) (codes₁ : List ℕ)
    (coded : codes₁ ≡ code_numbers (length words) (pivot_record (held_record (record_in words codes)) q k))
    (joined : (j : ℕ) → bit near j ≡ (pivot_record (held_record (record_in words codes)) q k).graph q j) where
  is-simple : Simple (length words) (pivot_record (held_record (record_in words codes)) q k).graph
  is-simple = pivot-simple (length words) (held_record (record_in words codes)) (unrefused-simple words codes U) q k

  is-above : (j : ℕ) → length words ≤ j
      → (pivot_record (held_record (record_in words codes)) q k).codes j ≡ identity_clifford
  is-above = pivot-above (length words) (held_record (record_in words codes)) (unrefused-simple words codes U) q k hq
      (neighbour-below words codes U q hq k edge) (unrefused-above words codes U)

  pub pivot-asks : ((length codes₁ ≤ 64) × ((j : ℕ) → get_or codes₁ j 0 < 24))
      × ((near < 2 ^ (length codes₁)) × (q < length codes₁))
  pivot-asks = parted-asks words codes U (λ g. pivot_record g q k) is-simple is-above q hq near codes₁ coded joined

  pub pivot-measured : (b : Bool) (words₂ codes₂ : List ℕ) → length words₂ ≡ length words
      → SameGraph (graph_in words₂) (parted_from (pivot_record (held_record (record_in words codes)) q k).graph q)
      → codes₂ ≡ tabulate (length codes₁) (λ j. code_of (put
      (λ j. then (pauli_code false ((b ⊕ is_odd (get_or codes₁ q 0)) && bit near j)) (codes_of codes₁ j)) q
      (then (hadamard_code (b ⊕ is_odd (get_or codes₁ q 0))) (codes_of codes₁ q)) j))
      → GroupMeasured words codes (image (codes_of codes q) X) q b words₂ codes₂
  pivot-measured b words₂ codes₂ long edges turned =
      parted-measured words codes U (λ g. pivot_record g q k) is-simple is-above q hq near codes₁ coded joined b words₂
      codes₂ long edges turned (image (codes_of codes q) X) (brought-by-pivot words codes U q hq k edge)
