-- A pivot on the buffers of a record: what it leaves.
use mathlib.Core.Bool.{cond, false, or-false, true, ◌||◌}
use mathlib.Core.List.{List}
use mathlib.Core.Path.{ap, ap₂, subst, sym, ◌∙◌, ◌≡◌}
use Prim.Native.Nat.{◌<◌, ◌^◌, ℕ, ◌≤◌}
use native.Mathlib.Decide.{ℕ_discrete}
use lib.Bits.{bit_or}
use lib.Dec.{eqb}
use lib.ListN.{get_or, length, length-set, set}
use lib.Seq.{get_or-set_other, get_or-set_same}
use Rattle.buffers.proofs.Tabulate.{tabulate-at, tabulate-cong, tabulate-is, tabulate-length}
use Rattle.buffers.specs.Buffers.{tabulate}
use Rattle.clifford.specs.Clifford.{clifford_of, code_of, identity_clifford, then}
use Rattle.clifford.specs.Vectors.{codes_of}
use Rattle.record.proofs.PivotWords.{closed_at}
use Rattle.record.specs.Graph.{Simple, complement}
use Rattle.record.specs.internal.NeighbourWords.{SameGraph}
use Rattle.record.specs.NeighbourWords.{graph_in}
use Rattle.operations.proofs.Rewriting.{pivot-above, pivot-simple}
use Rattle.operations.proofs.UnrefusedRecords.{
  rewritten-held,
  rewritten-length,
  rewritten-unrefused,
  unrefused-above,
  unrefused-long,
  unrefused-simple,
}
use Rattle.operations.specs.internal.InPlace.{Rewritten, Unrefused, record_in}
use Rattle.operations.specs.Steps.{pivot_record}
use Rattle.operations_rewriting.proofs.Recoding.{written}
use Rattle.record.specs.Lent.{held_record}
use Rattle.record.specs.Records.{GraphRecord}
use Rattle.words.proofs.BitLaws.{bit-or}
use Rattle.words.proofs.Places.{other_place, same_place}
use Rattle.words.specs.Bits.{bit}
use Rattle.operations_rewriting.proofs.PivotCodes.{pivot-code, pivoted_code}

module _ (words codes : List ℕ) (U : Unrefused (record_in words codes)) (j k : ℕ) (hj : j < length words)
    (hk : k < length words) where
  abbrev new : ℕ → ℕ
  new q = code_of (pivoted_code (eqb q j) (eqb q k) (bit (get_or words j 0) q) (bit (get_or words k 0) q) (codes_of codes q))

  -- j and k apart, their closed neighbourhoods are their neighbours
  around : (s t : ℕ) → s ≡ 2 ^ j → t ≡ 2 ^ k → (q : ℕ) → (q ≡ j → ⊥) → (q ≡ k → ⊥)
      → bit (bit_or (bit_or (get_or words j 0) s) (bit_or (get_or words k 0) t)) q
      ≡ (bit (get_or words j 0) q || bit (get_or words k 0) q)
  around s t es et q dj dk =
      bit-or (bit_or (get_or words j 0) s) (bit_or (get_or words k 0) t) q
      ∙ ap₂ ◌||◌ (apart j s es dj) (apart k t et dk)
    where
      apart : (v r : ℕ) → r ≡ 2 ^ v → (q ≡ v → ⊥) → bit (bit_or (get_or words v 0) r) q ≡ bit (get_or words v 0) q
      apart v r e d = closed_at words (unrefused-simple words codes U) v r e q
          ∙ ap (λ b. bit (get_or words v 0) q || b) (other_place d) ∙ or-false (bit (get_or words v 0) q)

  -- the codes of j and k stored after those of their neighbours
  pub both-recoded : (s t : ℕ) → s ≡ 2 ^ j → t ≡ 2 ^ k → (codes₁ : List ℕ) (v w : ℕ)
      → v ≡ code_of (then (clifford_of 11) (codes_of codes j)) → w ≡ code_of (then (clifford_of 11) (codes_of codes k))
      → codes₁ ≡ tabulate (length codes) (λ q. code_of (cond
      (bit (bit_or (bit_or (get_or words j 0) s) (bit_or (get_or words k 0) t)) q)
      (then (clifford_of 2) (codes_of codes q)) (codes_of codes q)))
      → set (set codes₁ j v) k w ≡ tabulate (length words) (λ q. code_of (pivoted_code (eqb q j) (eqb q k)
      (bit (get_or words j 0) q) (bit (get_or words k 0) q) (codes_of codes q)))
  both-recoded s t es et codes₁ v w ev ew e₁ =
      tabulate-is (length words) new (set (set codes₁ j v) k w)
      (length-set (set codes₁ j v) k w ∙ length-set codes₁ j v ∙ long₁) place
    where
      long₁ : length codes₁ ≡ length words
      long₁ = ap length e₁ ∙ tabulate-length (length codes) _ ∙ unrefused-long words codes U

      stored : (q : ℕ) → q < length words → (q ≡ k → ⊥) → Dec (q ≡ j) → get_or (set codes₁ j v) q 0
          ≡ code_of (pivoted_code (eqb q j) false (bit (get_or words j 0) q) (bit (get_or words k 0) q) (codes_of codes q))
      stored q l dk (yes d) = subst (λ m. get_or (set codes₁ j v) m 0
          ≡ code_of (pivoted_code (eqb m j) false (bit (get_or words j 0) m) (bit (get_or words k 0) m) (codes_of codes m)))
          (sym d)
          (get_or-set_same codes₁ j v 0 (subst (λ m. j < m) (sym long₁) hj) ∙ ev
          ∙ ap (λ b. code_of (pivoted_code b false (bit (get_or words j 0) j) (bit (get_or words k 0) j) (codes_of codes j)))
          (sym (same_place j)))
      stored q l dk (no d) = get_or-set_other codes₁ j q v 0 d ∙ ap (λ m. get_or m q 0) e₁
          ∙ tabulate-at (length codes) _ q (subst (λ m. q < m) (sym (unrefused-long words codes U)) l)
          ∙ ap (λ b. code_of (cond b (then (clifford_of 2) (codes_of codes q)) (codes_of codes q)))
          (around s t es et q d dk)
          ∙ ap (λ b. code_of (pivoted_code b false (bit (get_or words j 0) q) (bit (get_or words k 0) q) (codes_of codes q)))
          (sym (other_place d))

      place : (q : ℕ) → q < length words → get_or (set (set codes₁ j v) k w) q 0 ≡ new q
      place q l = elim (ℕ_discrete q k) [
        | yes d ↦ subst (λ m. get_or (set (set codes₁ j v) k w) m 0 ≡ new m) (sym d)
            (get_or-set_same (set codes₁ j v) k w 0 (subst (λ m. k < m) (sym (length-set codes₁ j v ∙ long₁)) hk) ∙ ew
            ∙ ap (λ b. code_of (pivoted_code (eqb k j) b (bit (get_or words j 0) k) (bit (get_or words k 0) k)
            (codes_of codes k)))
            (sym (same_place k)))
        | no d ↦ get_or-set_other (set codes₁ j v) k q w 0 d ∙ stored q l d (ℕ_discrete q j)
            ∙ ap (λ b. code_of (pivoted_code (eqb q j) b (bit (get_or words j 0) q) (bit (get_or words k 0) q)
            (codes_of codes q)))
            (sym (other_place d))
      ]

  pub pivoted : bit (get_or words j 0) k ≡ true → (words' codes' : List ℕ)
      → codes' ≡ tabulate (length words) (λ q. code_of (pivoted_code (eqb q j) (eqb q k)
      (bit (get_or words j 0) q) (bit (get_or words k 0) q) (codes_of codes q)))
      → length words' ≡ length words
      → SameGraph (graph_in words') (complement (complement (complement (graph_in words) j) k) j)
      → Rewritten words codes (λ g. pivot_record g j k) words' codes'
  pivoted edge words' codes' coded long edges =
      let r = held_record (record_in words codes) in
      let S = unrefused-simple words codes U in
      written words codes U j hj (λ g. pivot_record g j k) (pivot-simple (length words) r S j k) words' codes'
      (coded ∙ tabulate-cong (length words) _ _
      (λ q l. ap code_of (sym (pivot-code (length words) r S j k edge q))))
      long edges

  -- the buffers hold the new record, and no line refuses it
  module _ (words' codes' : List ℕ) (R : Rewritten words codes (λ g. pivot_record g j k) words' codes') where
    abbrev old : GraphRecord
    old = held_record (record_in words codes)

    is-simple : Simple (length words) (pivot_record old j k).graph
    is-simple = pivot-simple (length words) old (unrefused-simple words codes U) j k

    is-above : (q : ℕ) → length words ≤ q → (pivot_record old j k).codes q ≡ identity_clifford
    is-above = pivot-above (length words) old (unrefused-simple words codes U) j k hj hk (unrefused-above words codes U)

    pub pivoted-length : length words' ≡ length words
    pivoted-length = rewritten-length words codes U (λ g. pivot_record g j k) words' codes' R is-simple is-above

    pub pivoted-unrefused : Unrefused (record_in words' codes')
    pivoted-unrefused = rewritten-unrefused words codes U (λ g. pivot_record g j k) words' codes' R is-simple is-above

    pub pivoted-held : held_record (record_in words' codes') ≡ pivot_record (held_record (record_in words codes)) j k
    pivoted-held = rewritten-held words codes U (λ g. pivot_record g j k) words' codes' R is-simple is-above
