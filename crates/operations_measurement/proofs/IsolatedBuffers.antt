-- A vertex isolated in the buffers of a record.
use mathlib.Core.Bool.{◌&&◌, Bool, cond, false, not, true}
use mathlib.Core.List.{List}
use mathlib.Core.Path.{ap, fun_ext, refl, subst, sym, ◌∙◌, ◌≡◌}
use Prim.Native.Nat.{◌*◌, ◌+◌, ◌<◌, ◌^◌, ℕ}
use lib.Dec.{eqb}
use lib.ListN.{get_or, length, length-set, set}
use lib.Seq.{get_or-set_other, get_or-set_same}
use Rattle.buffers.proofs.Tabulate.{tabulate-at, tabulate-is, tabulate-length}
use Rattle.buffers.specs.Buffers.{tabulate}
use Rattle.clifford.proofs.CliffordLaws.{code_of-clifford_of}
use Rattle.clifford.specs.Clifford.{clifford_of, code_of, then}
use Rattle.clifford.specs.Vectors.{codes_of}
use Rattle.record.specs.Graph.{Simple}
use Rattle.record.specs.internal.NeighbourWords.{SameGraph}
use Rattle.record.specs.NeighbourWords.{graph_in}
use Rattle.operations.proofs.Places.{z-before}
use Rattle.operations.specs.internal.GraphSteps.{isolated, hadamard_code, pauli_code}
use Rattle.operations.proofs.UnrefusedRecords.{unrefused-codes, unrefused-long, unrefused-simple}
use Rattle.operations.specs.internal.InPlace.{Rewritten, Unrefused, record_in}
use Rattle.record.specs.Lent.{held_record}
use Rattle.record.specs.Records.{GraphRecord}
use Rattle.words.proofs.BitLaws.{lt-of-bits, word_of-bit, zero_bit}
use Rattle.words.proofs.Places.{put_all}
use Rattle.words.specs.Bits.{bit, digit, put, word_of}
use Rattle.operations_measurement.proofs.RemovedEdges.{parted_from}

-- a Hadamard's number
hadamard-number : (t : Bool) → clifford_of (8 + 2 * digit t) ≡ hadamard_code t
hadamard-number false = refl
hadamard-number true = refl

pub hadamard-by-calls : (t : Bool) (code : ℕ) {a r : ℕ} → a ≡ digit t
    → r ≡ code_of (then (clifford_of (8 + 2 * a)) (clifford_of code))
    → r ≡ code_of (then (hadamard_code t) (clifford_of code))
hadamard-by-calls t code ea e =
    e ∙ ap (λ k. code_of (then k (clifford_of code))) (ap (λ a. clifford_of (8 + 2 * a)) ea ∙ hadamard-number t)

-- the codes: a Hadamard at q, and Z before those of the vertices that the word w has
pub turned-written : (codes : List ℕ) (q : ℕ) (t : Bool) (near : ℕ → Bool) (w : ℕ) (codes₁ : List ℕ) (v : ℕ)
    → q < length codes → ((j : ℕ) → bit w j ≡ (t && near j))
    → codes₁ ≡ tabulate (length codes)
    (λ j. code_of (cond (bit w j) (then (clifford_of 2) (codes_of codes j)) (codes_of codes j)))
    → v ≡ code_of (then (hadamard_code t) (codes_of codes q))
    → set codes₁ q v ≡ tabulate (length codes) (λ j. code_of (put
    (λ j. then (pauli_code false (t && near j)) (codes_of codes j)) q (then (hadamard_code t) (codes_of codes q)) j))
turned-written codes q t near w codes₁ v hq hw e₁ ev =
    tabulate-is (length codes) _ (set codes₁ q v) (length-set codes₁ q v ∙ long₁)
    (λ j l. put_all (λ j c. get_or (set codes₁ q v) j 0 ≡ code_of c)
    (λ j. then (pauli_code false (t && near j)) (codes_of codes j)) q (then (hadamard_code t) (codes_of codes q))
    (get_or-set_same codes₁ q v 0 (subst (λ m. q < m) (sym long₁) hq) ∙ ev) j
    (λ d. get_or-set_other codes₁ q j v 0 d ∙ ap (λ c. get_or c j 0) e₁ ∙ tabulate-at (length codes) _ j l
    ∙ ap code_of (z-before (bit w j) (codes_of codes j)
    ∙ ap (λ b. then (pauli_code false b) (codes_of codes j)) (hw j))))
  where
    long₁ : length codes₁ ≡ length codes
    long₁ = ap length e₁ ∙ tabulate-length (length codes) _

module _ (words codes : List ℕ) (U : Unrefused (record_in words codes)) (q : ℕ) (t : Bool) where
  abbrev n : ℕ
  n = length words

  abbrev r : GraphRecord
  r = held_record (record_in words codes)

  simple : Simple (length words) (held_record (record_in words codes)).graph
  simple = unrefused-simple words codes U

  -- the word w has the vertices that get Z
  isolated-written : (w : ℕ) (codes₁ words' codes' : List ℕ) (v : ℕ) → q < length codes
      → ((j : ℕ) → bit w j ≡ (t && bit (get_or words q 0) j))
      → codes₁ ≡ tabulate (length codes)
      (λ j. code_of (cond (bit w j) (then (clifford_of 2) (codes_of codes j)) (codes_of codes j)))
      → v ≡ code_of (then (hadamard_code t) (codes_of codes q)) → codes' ≡ set codes₁ q v
      → length words' ≡ length words → SameGraph (graph_in words') (parted_from (graph_in words) q)
      → Rewritten words codes (λ g. isolated g q t) words' codes'
  isolated-written w codes₁ words' codes' v hq hw e₁ ev e' long edges =
      record {
        neighbours = tabulate-is n _ words' long
            (λ j l. sym (word_of-bit n (get_or words' j 0) (below j)) ∙ ap (word_of n) (fun_ext (edges j)));
        numbers = e' ∙ turned-written codes q t (bit (get_or words q 0)) w codes₁ v hq hw e₁ ev
            ∙ ap (λ m. tabulate m (λ j. code_of ((isolated r q t).codes j))) (unrefused-long words codes U);
      }
    where
      below : (j : ℕ) → get_or words' j 0 < 2 ^ n
      below j = lt-of-bits n (get_or words' j 0)
          (λ l m. edges j l ∙ ap (λ b. b && (not (eqb j q) && not (eqb l q))) (simple.below j l m))

  -- where t is true these are the neighbours of q
  pub isolated-turning : t ≡ true → (codes₁ words' codes' : List ℕ) (v : ℕ) → q < length codes
      → codes₁ ≡ tabulate (length codes)
      (λ j. code_of (cond (bit (get_or words q 0) j) (then (clifford_of 2) (codes_of codes j)) (codes_of codes j)))
      → v ≡ code_of (then (hadamard_code t) (codes_of codes q)) → codes' ≡ set codes₁ q v
      → length words' ≡ length words → SameGraph (graph_in words') (parted_from (graph_in words) q)
      → Rewritten words codes (λ g. isolated g q t) words' codes'
  isolated-turning e codes₁ words' codes' v hq = isolated-written (get_or words q 0) codes₁ words' codes' v hq
      (λ j. ap (λ b. b && bit (get_or words q 0) j) (sym e))

  -- and where it is false there are none
  pub isolated-alone : t ≡ false → (words' codes' : List ℕ) (v : ℕ) → q < length codes
      → v ≡ code_of (then (hadamard_code t) (codes_of codes q)) → codes' ≡ set codes q v
      → length words' ≡ length words → SameGraph (graph_in words') (parted_from (graph_in words) q)
      → Rewritten words codes (λ g. isolated g q t) words' codes'
  isolated-alone e words' codes' v hq = isolated-written 0 codes words' codes' v hq
      (λ j. zero_bit j ∙ ap (λ b. b && bit (get_or words q 0) j) (sym e))
      (tabulate-is (length codes) _ codes refl
      (λ j l. sym (ap (λ b. code_of (cond b (then (clifford_of 2) (codes_of codes j)) (codes_of codes j))) (zero_bit j)
      ∙ code_of-clifford_of (get_or codes j 0) ((unrefused-codes words codes U).1 j))))
