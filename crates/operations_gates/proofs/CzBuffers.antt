-- CZ on the buffers of a record with two vertices that are ready: what its calls leave is the record that CZ makes.
use mathlib.Core.Bool.{◌&&◌, Bool, cond, false}
use mathlib.Core.List.{List}
use mathlib.Core.Logic.{◌≢◌}
use mathlib.Core.Path.{ap, ap₂, fun_ext, subst, sym, ◌∙◌, ◌≡◌}
use Prim.Native.Nat.{◌<◌, ◌^◌, ℕ, ◌≤◌}
use lib.ListN.{get_or, length}
use Rattle.buffers.proofs.Tabulate.{tabulate-cong, tabulate-is}
use Rattle.buffers.specs.Buffers.{tabulate}
use Rattle.clifford.specs.Clifford.{clifford_of, code_of, then}
use Rattle.clifford.specs.Vectors.{codes_of}
use Rattle.record.specs.Graph.{Simple}
use Rattle.record.specs.internal.Joined.{joined_by}
use Rattle.record.specs.internal.NeighbourWords.{SameGraph}
use Rattle.record.specs.NeighbourWords.{graph_in}
use Rattle.operations.proofs.CzSteps.{cz-simple, turned-above}
use Rattle.operations.proofs.Places.{z-before}
use Rattle.operations.proofs.Reaching.{reach-below}
use Rattle.operations.specs.internal.ReadyPairs.{Ready}
use Rattle.operations.specs.internal.GraphSteps.{cz_record, cz_turned, pauli_code, reach, reach_minus}
use Rattle.operations.proofs.UnrefusedRecords.{unrefused-long, unrefused-simple}
use Rattle.operations.specs.internal.InPlace.{Rewritten, Unrefused, record_in}
use Rattle.record.specs.Lent.{held_record}
use Rattle.record.specs.Records.{GraphRecord}
use Rattle.words.proofs.BitLaws.{lt-of-bits, word_of-bit}
use Rattle.words.specs.Bits.{bit, word_of, ◌⊕◌}

-- the turned vertices, from what the calls answer
pub turned-by-calls : (r : GraphRecord) (a b wa wb t : ℕ) {ma mb : Bool} → ((q : ℕ) → bit wa q ≡ reach r a q)
    → ((q : ℕ) → bit wb q ≡ reach r b q) → ma ≡ reach_minus r a → mb ≡ reach_minus r b
    → ((q : ℕ) → bit t q ≡ (bit wa q && bit wb q) ⊕ ((ma && bit wb q) ⊕ (mb && bit wa q)))
    → (q : ℕ) → bit t q ≡ cz_turned r a b q
turned-by-calls r a b wa wb t {ma} {mb} hwa hwb ema emb h q =
    h q ∙ ap₂ (λ u v. (u && v) ⊕ ((ma && v) ⊕ (mb && u))) (hwa q) (hwb q)
    ∙ ap₂ (λ s t. (reach r a q && reach r b q) ⊕ ((s && reach r b q) ⊕ (t && reach r a q))) ema emb

module _ (words codes : List ℕ) (U : Unrefused (record_in words codes)) where
  abbrev n : ℕ
  n = length words

  abbrev r : GraphRecord
  r = held_record (record_in words codes)

  simple : Simple (length words) (held_record (record_in words codes)).graph
  simple = unrefused-simple words codes U

  -- a set lies below n
  pub reach-fits : (a : ℕ) → a < length words → (w : ℕ)
      → ((q : ℕ) → bit w q ≡ reach (held_record (record_in words codes)) a q) → w < 2 ^ (length words)
  reach-fits a ha w h = lt-of-bits n w (λ q l. h q ∙ reach-below n r simple a ha q l)

  module _ (a b : ℕ) (ha : a < length words) (hb : b < length words) (ab : a ≢ b)
      (P : Ready (held_record (record_in words codes)) a b) where
    pub turned-fits : (t : ℕ) → ((q : ℕ) → bit t q ≡ cz_turned (held_record (record_in words codes)) a b q)
        → t < 2 ^ (length codes)
    turned-fits t h = lt-of-bits (length codes) t
        (λ q l. h q ∙ turned-above n r simple a b ha hb ab P q (subst (λ m. m ≤ q) (unrefused-long words codes U) l))

    pub cz-written : (wa wb t : ℕ) (words' codes' : List ℕ)
        → ((q : ℕ) → bit wa q ≡ reach (held_record (record_in words codes)) a q)
        → ((q : ℕ) → bit wb q ≡ reach (held_record (record_in words codes)) b q)
        → ((q : ℕ) → bit t q ≡ cz_turned (held_record (record_in words codes)) a b q)
        → length words' ≡ length words → SameGraph (graph_in words') (joined_by (graph_in words) (bit wa) (bit wb))
        → codes' ≡ tabulate (length codes)
        (λ q. code_of (cond (bit t q) (then (clifford_of 2) (codes_of codes q)) (codes_of codes q)))
        → Rewritten words codes (λ g. cz_record g a b) words' codes'
    cz-written wa wb t words' codes' hwa hwb ht long edges coded =
        record {
          neighbours = tabulate-is n _ words' long
              (λ j l. sym (word_of-bit n (get_or words' j 0) (below j)) ∙ ap (word_of n) (fun_ext (graph j)));
          numbers = coded ∙ ap (λ m. tabulate m (λ q. code_of (cond (bit t q) (then (clifford_of 2) (codes_of codes q))
              (codes_of codes q)))) (unrefused-long words codes U)
              ∙ tabulate-cong n _ _ (λ q l. ap code_of (z-before (bit t q) (codes_of codes q)
              ∙ ap (λ v. then (pauli_code false v) (codes_of codes q)) (ht q)));
        }
      where
        graph : (j q : ℕ) → graph_in words' j q ≡ (cz_record r a b).graph j q
        graph j q = edges j q ∙ ap₂ (λ u v. joined_by (graph_in words) u v j q) (fun_ext hwa) (fun_ext hwb)

        below : (j : ℕ) → get_or words' j 0 < 2 ^ n
        below j = lt-of-bits n (get_or words' j 0) (λ q l. graph j q ∙ (cz-simple n r simple a b ha hb ab P).below j q l)
