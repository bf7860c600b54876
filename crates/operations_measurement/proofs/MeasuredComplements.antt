-- Y measured by a complementation without the edges at the vertex: what is asked of the codes then, and the group
-- afterwards.
use mathlib.Core.Bool.{◌&&◌, Bool, false, not}
use mathlib.Core.List.{List}
use mathlib.Core.Path.{ap, sym, ◌∙◌, ◌≡◌}
use Prim.Native.Nat.{◌<◌, ◌^◌, ℕ, ◌≤◌}
use lib.Dec.{eqb}
use lib.ListN.{get_or, length}
use Rattle.buffers.specs.Buffers.{tabulate}
use Rattle.clifford.specs.Clifford.{code_of, identity_clifford, image, then}
use Rattle.clifford.specs.Vectors.{codes_of}
use Rattle.record.proofs.Complement.{complement-simple}
use Rattle.record.specs.Graph.{Simple, complement}
use Rattle.record.specs.internal.NeighbourWords.{SameGraph}
use Rattle.record.specs.NeighbourWords.{graph_in}
use Rattle.operations.specs.internal.KeptGroups.{GroupMeasured}
use Rattle.operations.specs.internal.GraphSteps.{hadamard_code, pauli_code}
use Rattle.operations.proofs.UnrefusedRecords.{complement-above, unrefused-above, unrefused-simple}
use Rattle.operations.specs.internal.InPlace.{Unrefused, record_in}
use Rattle.operations_measurement.proofs.RemovedEdges.{parted_from}
use Rattle.pauli.specs.declared.Letter.TheVariants.{Y}
use Rattle.record.specs.Lent.{code_numbers, held_record}
use Rattle.record.specs.Records.{complement_record}
use Rattle.words.proofs.Finite.{⊕-zero}
use Rattle.words.specs.Bits.{bit, is_odd, put, ◌⊕◌}
use Rattle.operations_measurement.proofs.BringingToZ.{brought-by-complement}
use Rattle.operations_measurement.proofs.PartedBuffers.{parted-asks, parted-measured}

module _ (words codes : List ℕ) (U : Unrefused (record_in words codes)) (q : ℕ) (hq : q < length words) (near : ℕ)
    (codes₁ : List ℕ)
    (coded : codes₁ ≡ code_numbers (length words) (complement_record (held_record (record_in words codes)) q))
    (joined : near ≡ get_or words q 0) where
  simple : Simple (length words) (graph_in words)
  simple = unrefused-simple words codes U

  is-simple : Simple (length words) (complement (graph_in words) q)
  is-simple = complement-simple (length words) (graph_in words) simple q

  is-above : (j : ℕ) → length words ≤ j
      → (complement_record (held_record (record_in words codes)) q).codes j ≡ identity_clifford
  is-above = complement-above (length words) (held_record (record_in words codes)) simple q hq
      (unrefused-above words codes U)

  -- q keeps its neighbours
  same-near : (j : ℕ) → bit near j ≡ complement (graph_in words) q q j
  same-near j = ap (λ w. bit w j) joined
      ∙ sym (ap (λ b. graph_in words q j ⊕ ((b && graph_in words q j) && not (eqb j q))) (simple.loopless q)
      ∙ ⊕-zero (graph_in words q j))

  pub complement-asks : ((length codes₁ ≤ 64) × ((j : ℕ) → get_or codes₁ j 0 < 24))
      × ((near < 2 ^ (length codes₁)) × (q < length codes₁))
  complement-asks = parted-asks words codes U (λ g. complement_record g q) is-simple is-above q hq near codes₁ coded
      same-near

  pub complement-measured : (b : Bool) (words₂ codes₂ : List ℕ) → length words₂ ≡ length words
      → SameGraph (graph_in words₂) (parted_from (complement (graph_in words) q) q)
      → codes₂ ≡ tabulate (length codes₁) (λ j. code_of (put
      (λ j. then (pauli_code false ((b ⊕ is_odd (get_or codes₁ q 0)) && bit near j)) (codes_of codes₁ j)) q
      (then (hadamard_code (b ⊕ is_odd (get_or codes₁ q 0))) (codes_of codes₁ q)) j))
      → GroupMeasured words codes (image (codes_of codes q) Y) q b words₂ codes₂
  complement-measured b words₂ codes₂ long edges turned =
      parted-measured words codes U (λ g. complement_record g q) is-simple is-above q hq near codes₁ coded same-near b
      words₂
      codes₂ long edges turned (image (codes_of codes q) Y) (brought-by-complement words codes U q hq)
