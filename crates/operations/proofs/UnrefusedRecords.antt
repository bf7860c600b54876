-- What it means for the buffers of a record that no line refuses it, as the operations need it.
use mathlib.Core.Bool.{cond, false}
use mathlib.Core.List.{List}
use mathlib.Core.Path.{ap, ap₂, subst, sym, ◌∙◌, ◌≡◌}
use Prim.Native.Nat.{◌<◌, ℕ, ◌≤◌}
use native.Mathlib.Omega.{arith}
use lib.ListN.{get_or-eq_default, get_or, length}
use Rattle.buffers.proofs.Tabulate.{tabulate-length}
use Rattle.buffers.specs.Refusals.{first_fitting}
use Rattle.clifford.specs.Clifford.{clifford_of, identity_clifford, then}
use Rattle.record.specs.Graph.{Simple}
use Rattle.record.specs.NeighbourWords.{graph_in}
use Rattle.record.proofs.AcceptedRecords.{accepted-passes, accepted-record}
use Rattle.record.proofs.Unique.{record-path}
use Rattle.record.proofs.WrittenRecords.{record-back, record-passes, written_record}
use Rattle.record.specs.Accepted.{AcceptedRecord}
use Rattle.record.specs.Lent.{code_numbers, held_record, lent_record, neighbour_words, record_lines}
use Rattle.record.specs.Records.{GraphRecord, complement_record}
use Rattle.words.proofs.Places.{other_place}
use Rattle.operations.specs.internal.InPlace.{Rewritten, Unrefused, record_in}

module _ (words codes : List ℕ) (U : Unrefused (record_in words codes)) where
  abbrev A : AcceptedRecord (record_in words codes)
  A = accepted-record (record_in words codes) false false U.no_line

  pub unrefused-codes : (length codes ≤ 64) × ((q : ℕ) → get_or codes q 0 < 24)
  unrefused-codes = (subst (λ m. m ≤ 64) (sym A.codes-length) A.upto, A.codes-below)

  pub unrefused-place : (q : ℕ) → q < length words → q < length codes
  unrefused-place q l = subst (λ m. q < m) (sym A.codes-length) l

  pub unrefused-long : length codes ≡ length words
  unrefused-long = A.codes-length

  pub unrefused-short : length words ≤ 64
  unrefused-short = A.upto

  pub unrefused-simple : Simple (length words) (graph_in words)
  unrefused-simple = A.simple

  -- code 0 stands at and above n
  pub unrefused-above : (q : ℕ) → length words ≤ q
      → (held_record (record_in words codes)).codes q ≡ identity_clifford
  unrefused-above q k =
      ap clifford_of (get_or-eq_default codes 0 (subst (λ m. m ≤ q) (sym A.codes-length) k))

-- complementing keeps that
pub complement-above : (n : ℕ) (r : GraphRecord) → Simple n r.graph → (a : ℕ) → a < n
    → ((q : ℕ) → n ≤ q → r.codes q ≡ identity_clifford)
    → (q : ℕ) → n ≤ q → (complement_record r a).codes q ≡ identity_clifford
complement-above n r S a ha above q l =
    ap₂ (λ b c. cond b (then (clifford_of 13) (r.codes q))
    (cond c (then (clifford_of 6) (r.codes q)) (r.codes q)))
    (other_place {i = q} {j = a} (λ e. absurd (omega (arith, e)))) (S.below a q l) ∙ above q l

-- buffers that were rewritten hold the new record, and no line refuses it
module _ (words codes : List ℕ) (U : Unrefused (record_in words codes)) (f : GraphRecord → GraphRecord)
    (words' codes' : List ℕ) (R : Rewritten words codes f words' codes')
    (S : Simple (length words) (f (held_record (record_in words codes))).graph)
    (above : (q : ℕ) → length words ≤ q
    → (f (held_record (record_in words codes))).codes q ≡ identity_clifford) where
  abbrev new : GraphRecord
  new = f (held_record (record_in words codes))

  pub rewritten-length : length words' ≡ length words
  rewritten-length = ap length R.neighbours ∙ tabulate-length (length words) _

  are_written : record_in words' codes' ≡ written_record (length words) new
  are_written =
      ap₂ record_in R.neighbours R.numbers
      ∙ ap (λ m. lent_record m (neighbour_words (length words) new) (code_numbers (length words) new))
      (tabulate-length (length words) _)

  pub rewritten-held : held_record (record_in words' codes') ≡ f (held_record (record_in words codes))
  rewritten-held = ap held_record are_written
      ∙ record-path (held_record (written_record (length words) new)) new
      (record-back (length words) new S above)

  pub rewritten-unrefused : Unrefused (record_in words' codes')
  rewritten-unrefused =
      let A = accepted-record (record_in words codes) false false U.no_line in
      subst Unrefused (sym are_written)
      (record { no_line = record-passes (length words) new S above A.positive A.upto })

-- buffers that hold a copy of a record
pub copied-unrefused : {words codes words' codes' : List ℕ} → (words' ≡ words) × (codes' ≡ codes)
    → Unrefused (record_in words codes) → Unrefused (record_in words' codes')
copied-unrefused e U = subst Unrefused (sym (ap₂ record_in e.0 e.1)) U

-- the buffers of an accepted record, whose length is n
pub accepted-unrefused : (n : ℕ) (words codes : List ℕ)
    → AcceptedRecord (lent_record n words codes) → Unrefused (record_in words codes)
accepted-unrefused n words codes A =
    record {
      no_line =
          subst (λ m. first_fitting (record_lines (lent_record m words codes) false false) ≡ 0)
          (sym A.neighbours-length) (accepted-passes _ A);
    }
