-- A pivot on neighbour words: the two sets as words.
use mathlib.Core.Bool.{true, ◌||◌}
use mathlib.Core.List.{List}
use mathlib.Core.Path.{ap, ap₂, fun_ext, sym, ◌∙◌, ◌≡◌}
use Prim.Native.Nat.{◌<◌, ◌^◌, ℕ}
use native.Mathlib.Omega.{arith}
use lib.Bits.{bit_or}
use lib.ListN.{get_or, length}
use Rattle.words.proofs.BitLaws.{bit-or, bit-single, lt-of-bits}
use Rattle.words.proofs.Places.{other_place}
use Rattle.words.specs.Bits.{bit}
use Rattle.record.proofs.Pivot.{pivot-between}
use Rattle.record.specs.Graph.{Simple, complement}
use Rattle.record.specs.internal.Joined.{closed, joined_by}
use Rattle.record.specs.internal.NeighbourWords.{SameGraph}
use Rattle.record.specs.NeighbourWords.{graph_in}

module _ (words : List ℕ) (S : Simple (length words) (graph_in words)) where
  -- a vertex and its neighbours, as the code makes the word
  pub closed_at : (v s : ℕ) → s ≡ 2 ^ v → (q : ℕ) → bit (bit_or (get_or words v 0) s) q ≡ closed (graph_in words) v q
  closed_at v s e q =
      bit-or (get_or words v 0) s q
      ∙ ap (λ b. graph_in words v q || b) (ap (λ w. bit w q) e ∙ bit-single v q)

  pub closed-below : (v s : ℕ) → v < length words → s ≡ 2 ^ v → bit_or (get_or words v 0) s < 2 ^ length words
  closed-below v s h e = lt-of-bits (length words) (bit_or (get_or words v 0) s) (λ q l. closed_at v s e q
      ∙ ap₂ ◌||◌ (S.below v q l) (other_place {i = q} {j = v} (λ d. absurd (omega (arith, d, h, l)))))

  pub pivot-by-sets : (j k s t : ℕ) → graph_in words j k ≡ true → s ≡ 2 ^ j → t ≡ 2 ^ k → (words' : List ℕ)
      → SameGraph (graph_in words')
      (joined_by (graph_in words) (bit (bit_or (get_or words j 0) s)) (bit (bit_or (get_or words k 0) t)))
      → SameGraph (graph_in words') (complement (complement (complement (graph_in words) j) k) j)
  pivot-by-sets j k s t edge es et words' h x y =
      h x y ∙ ap₂ (λ A B. joined_by (graph_in words) A B x y) (fun_ext (closed_at j s es)) (fun_ext (closed_at k t et))
      ∙ sym (pivot-between (length words) (graph_in words) S j k edge x y)
