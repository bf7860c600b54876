-- A pivot on an edge q, k without the edges at q: those between the neighbours of q and the closed neighbourhood of k
-- are flipped, and the neighbours that q has after the pivot are k and its other neighbours.
use mathlib.Core.Bool.{◌&&◌, Bool, cond, not, true, ◌||◌}
use mathlib.Core.List.{List}
use mathlib.Core.Path.{ap, ap₂, fun_ext, refl, sym, ◌∙◌, ◌≡◌}
use Prim.Native.Nat.{◌<◌, ◌^◌, ℕ}
use lib.Bits.{bit_or, bit_xor}
use lib.Dec.{eqb}
use lib.ListN.{get_or, length, set}
use borrow.Author.Tests.{eqb-true}
use Rattle.buffers.proofs.Tabulate.{tabulate-cong}
use Rattle.buffers.specs.Buffers.{tabulate}
use Rattle.clifford.specs.Clifford.{clifford_of, code_of, then}
use Rattle.clifford.specs.Vectors.{codes_of}
use Rattle.record.proofs.Complement.{under}
use Rattle.record.proofs.Pivot.{pivot-between}
use Rattle.record.proofs.PivotWords.{closed_at}
use Rattle.record.specs.Graph.{Graph, Simple, complement}
use Rattle.record.specs.internal.Joined.{closed, joined_by}
use Rattle.record.specs.internal.NeighbourWords.{SameGraph}
use Rattle.record.specs.NeighbourWords.{graph_in}
use Rattle.operations.proofs.UnrefusedRecords.{unrefused-simple}
use Rattle.operations.specs.internal.InPlace.{Unrefused, record_in}
use Rattle.operations.specs.Steps.{pivot_record}
use Rattle.operations_rewriting.proofs.PivotCodes.{pivot-code}
use Rattle.operations_rewriting.proofs.PivotedRecords.{both-recoded}
use Rattle.record.specs.Lent.{code_numbers, held_record}
use Rattle.record.specs.Records.{GraphRecord}
use Rattle.words.proofs.BitLaws.{bit-flip, bit-or}
use Rattle.words.proofs.Finite.{bits}
use Rattle.words.proofs.Flags.{implies, same_bit-true}
use Rattle.words.proofs.Places.{same_place}
use Rattle.words.specs.Bits.{bit, same_bit, ◌⊕◌}
use Rattle.operations_measurement.proofs.RemovedEdges.{parted_from}

-- ---- at two places x and y; the bits say: J and K, x is q, k; J' and K', y is; t, they are joined; a and b, q is
-- joined to x, y; c and d, k is. In a simple graph where q and k are joined:
abbrev known : Bool → Bool → Bool → Bool → Bool → Bool → Bool → Bool
known J J' t a b c d = (not J || (not a && (c && same_bit t b))) && (not J' || (not b && (d && same_bit t a)))

abbrev opened : Bool → Bool → Bool → Bool → Bool → Bool → Bool → Bool
opened K K' t a b c d = t ⊕ ((a && (d || K')) ⊕ ((c || K) && b))

abbrev both : Bool → Bool → Bool → Bool → Bool → Bool → Bool → Bool → Bool → Bool
both J K J' K' t a b c d = (t ⊕ (((a || J) && (d || K')) ⊕ ((c || K) && (b || J')))) && (not J && not J')

open_at : (J K J' K' t a b c d : Bool) → known J J' t a b c d ≡ true → opened K K' t a b c d ≡ both J K J' K' t a b c d
open_at J K J' K' t a b c d h =
    under (known J J' t a b c d) (opened K K' t a b c d) (both J K J' K' t a b c d) h
    (bits 9 (λ J K J' K' t a b c d. cond (known J J' t a b c d) (opened K K' t a b c d) (both J K J' K' t a b c d)) both
    tt
    J K J' K' t a b c d)

-- at one place, the row of q; B, it is k or a neighbour of k
row_at : (u v J a B : Bool) → u ≡ true → v ≡ true → (not J || not a) ≡ true
    → a ⊕ ((u && B) ⊕ (v && (a || J))) ≡ B ⊕ J
row_at u v J a B hu hv h =
    ap₂ (λ u v. a ⊕ ((u && B) ⊕ (v && (a || J)))) hu hv
    ∙ under (not J || not a) (a ⊕ (B ⊕ (a || J))) (B ⊕ J) h
    (bits 3 (λ J a B. cond (not J || not a) (a ⊕ (B ⊕ (a || J))) (B ⊕ J)) (λ J a B. B ⊕ J) tt J a B)

-- and q itself is among the neighbours of k
wide_at : (J a B : Bool) → (not J || B) ≡ true → (a || B) ≡ ((a || J) || B)
wide_at J a B h = under (not J || B) (a || B) ((a || J) || B) h
    (bits 3 (λ J a B. cond (not J || B) (a || B) ((a || J) || B)) (λ J a B. (a || J) || B) tt J a B)

module _ (n : ℕ) (θ : Graph) (S : Simple n θ) (q k : ℕ) (edge : θ q k ≡ true) where
  back : θ k q ≡ true
  back = S.symmetric k q ∙ edge

  possible : (x y : ℕ) → known (eqb x q) (eqb y q) (θ x y) (θ q x) (θ q y) (θ k x) (θ k y) ≡ true
  possible x y = ap₂ ◌&&◌
      (implies (eqb x q) _ (λ d. let e = eqb-true x q d in
      ap₂ (λ s t. not s && t) (ap (θ q) e ∙ S.loopless q)
      (ap₂ ◌&&◌ (ap (θ k) e ∙ back) (same_bit-true (ap (λ m. θ m y) e)))))
      (implies (eqb y q) _ (λ d. let e = eqb-true y q d in
      ap₂ (λ s t. not s && t) (ap (θ q) e ∙ S.loopless q)
      (ap₂ ◌&&◌ (ap (θ k) e ∙ back) (same_bit-true (ap (θ x) e ∙ S.symmetric x q)))))

  pub pivot-parted : SameGraph (joined_by θ (θ q) (closed θ k))
      (parted_from (complement (complement (complement θ q) k) q) q)
  pivot-parted x y =
      open_at (eqb x q) (eqb x k) (eqb y q) (eqb y k) (θ x y) (θ q x) (θ q y) (θ k x) (θ k y) (possible x y)
      ∙ ap (λ b. b && (not (eqb x q) && not (eqb y q))) (sym (pivot-between n θ S q k edge x y))

  pub pivot-near : (j : ℕ) → (closed θ k j ⊕ eqb j q) ≡ complement (complement (complement θ q) k) q q j
  pivot-near j =
      sym (pivot-between n θ S q k edge q j
      ∙ row_at (closed θ q q) (closed θ k q) (eqb j q) (θ q j) (closed θ k j)
      (ap₂ ◌||◌ (S.loopless q) (same_place q)) (ap (λ b. b || eqb q k) back)
      (implies (eqb j q) _ (λ d. ap (λ b. not b) (ap (θ q) (eqb-true j q d) ∙ S.loopless q))))

  pub near-wide : (j : ℕ) → (θ q j || closed θ k j) ≡ (closed θ q j || closed θ k j)
  near-wide j = wide_at (eqb j q) (θ q j) (closed θ k j)
      (implies (eqb j q) _ (λ d. ap (λ b. b || eqb j k) (ap (θ k) (eqb-true j q d) ∙ back)))

-- ---- on the buffers
module _ (words codes : List ℕ) (U : Unrefused (record_in words codes)) (q k : ℕ) (hq : q < length words)
    (hk : k < length words) (edge : bit (get_or words q 0) k ≡ true) (s : ℕ) (es : s ≡ 2 ^ k) where
  abbrev r : GraphRecord
  r = held_record (record_in words codes)

  simple : Simple (length words) (graph_in words)
  simple = unrefused-simple words codes U

  at-k : (j : ℕ) → bit (bit_or (get_or words k 0) s) j ≡ closed (graph_in words) k j
  at-k = closed_at words simple k s es

  pub parted-edges : (words' : List ℕ) → SameGraph (graph_in words')
      (joined_by (graph_in words) (bit (get_or words q 0)) (bit (bit_or (get_or words k 0) s)))
      → SameGraph (graph_in words') (parted_from (pivot_record (held_record (record_in words codes)) q k).graph q)
  parted-edges words' h x y =
      h x y ∙ ap (λ B. joined_by (graph_in words) (graph_in words q) B x y) (fun_ext at-k)
      ∙ pivot-parted (length words) (graph_in words) simple q k edge x y

  pub parted-near : (near : ℕ) → near ≡ bit_xor (bit_or (get_or words k 0) s) (2 ^ q)
      → (j : ℕ) → bit near j ≡ (pivot_record (held_record (record_in words codes)) q k).graph q j
  parted-near near e j =
      ap (λ w. bit w j) e ∙ bit-flip (bit_or (get_or words k 0) s) q j ∙ ap (λ b. b ⊕ eqb j q) (at-k j)
      ∙ pivot-near (length words) (graph_in words) simple q k edge j

  pub parted-codes : (codes₁ : List ℕ) (v w : ℕ) → v ≡ code_of (then (clifford_of 11) (codes_of codes q))
      → w ≡ code_of (then (clifford_of 11) (codes_of codes k))
      → codes₁ ≡ tabulate (length codes) (λ j. code_of (cond (bit (bit_or (get_or words q 0) (bit_or (get_or words k 0) s)) j)
      (then (clifford_of 2) (codes_of codes j)) (codes_of codes j)))
      → set (set codes₁ q v) k w
      ≡ code_numbers (length words) (pivot_record (held_record (record_in words codes)) q k)
  parted-codes codes₁ v w ev ew e₁ =
      both-recoded words codes U q k hq hk (2 ^ q) s refl es codes₁ v w ev ew
      (e₁ ∙ tabulate-cong (length codes) _ _
      (λ j l. ap (λ b. code_of (cond b (then (clifford_of 2) (codes_of codes j)) (codes_of codes j))) (wider j)))
      ∙ tabulate-cong (length words) _ _ (λ j l. ap code_of (sym (pivot-code (length words) r simple q k edge j)))
    where
      wider : (j : ℕ) → bit (bit_or (get_or words q 0) (bit_or (get_or words k 0) s)) j
          ≡ bit (bit_or (bit_or (get_or words q 0) (2 ^ q)) (bit_or (get_or words k 0) s)) j
      wider j =
          bit-or (get_or words q 0) (bit_or (get_or words k 0) s) j ∙ ap (λ b. bit (get_or words q 0) j || b) (at-k j)
          ∙ near-wide (length words) (graph_in words) simple q k edge j
          ∙ sym (bit-or (bit_or (get_or words q 0) (2 ^ q)) (bit_or (get_or words k 0) s) j
          ∙ ap₂ ◌||◌ (closed_at words simple q (2 ^ q) refl j) (at-k j))
