-- Buffers of a record that was complemented: they hold the new record, and no line refuses it.
use mathlib.Core.List.{List}
use mathlib.Core.Path.{◌≡◌}
use Prim.Native.Nat.{◌<◌, ℕ, ◌≤◌}
use lib.ListN.{length}
use Rattle.clifford.specs.Clifford.{identity_clifford}
use Rattle.record.proofs.Complement.{complement-simple}
use Rattle.record.specs.Graph.{Simple}
use Rattle.operations.proofs.UnrefusedRecords.{
  complement-above,
  rewritten-held,
  rewritten-length,
  rewritten-unrefused,
  unrefused-above,
  unrefused-simple,
}
use Rattle.operations.specs.internal.InPlace.{Rewritten, Unrefused, record_in}
use Rattle.record.specs.Lent.{held_record}
use Rattle.record.specs.Records.{GraphRecord, complement_record}

module _ (words codes : List ℕ) (U : Unrefused (record_in words codes)) (a : ℕ) (ha : a < length words)
    (words' codes' : List ℕ) (R : Rewritten words codes (λ g. complement_record g a) words' codes') where
  abbrev old : GraphRecord
  old = held_record (record_in words codes)

  new-simple : Simple (length words) (complement_record old a).graph
  new-simple = complement-simple (length words) old.graph (unrefused-simple words codes U) a

  new-above : (q : ℕ) → length words ≤ q → (complement_record old a).codes q ≡ identity_clifford
  new-above = complement-above (length words) old (unrefused-simple words codes U) a ha
      (unrefused-above words codes U)

  pub complemented-length : length words' ≡ length words
  complemented-length =
      rewritten-length words codes U (λ g. complement_record g a) words' codes' R new-simple new-above

  pub complemented-unrefused : Unrefused (record_in words' codes')
  complemented-unrefused =
      rewritten-unrefused words codes U (λ g. complement_record g a) words' codes' R new-simple new-above

  pub complemented-held : held_record (record_in words' codes') ≡ complement_record
      (held_record (record_in words codes)) a
  complemented-held = rewritten-held words codes U (λ g. complement_record g a) words' codes' R new-simple
      new-above
