-- What it means that a record is accepted, and that no line holds of such a record.
use mathlib.Core.Bool.{Bool, false, or-false, true, ◌||◌}
use mathlib.Core.List.{List}
use mathlib.Core.Logic.{inl, inr, ◌⊎◌}
use mathlib.Core.Path.{ap, ap₂, subst, sym, ◌∙◌, ◌≡◌}
use Prim.Native.Nat.{◌<◌, ◌^◌, ℕ, ◌≤◌}
use lib.Dec.{lit<}
use lib.ListN.{get_or-eq_default, get_or, length}
use lib.Pow.{pow_pos}
use Rattle.buffers.proofs.Lines.{none-fits, not-held, only-where-true, passed}
use Rattle.buffers.proofs.Reaching.{below_all}
use Rattle.buffers.specs.Refusals.{bad_count, first_fitting, reaching}
use Rattle.record.specs.Graph.{Simple}
use Rattle.stabilizer.proofs.SharedTests.{below-passes, count-passes, counted, length-passes}
use Rattle.words.proofs.BitLaws.{bit-above, zero_bit}
use Rattle.words.proofs.Flags.{neither}
use Rattle.words.proofs.Sums.{lt-or-ge}
use Rattle.words.specs.Bits.{bit}
use Rattle.record.proofs.RecordLines.{record-lengths-are}
use Rattle.record.proofs.ReducedRecords.{record-proper}
use Rattle.record.proofs.SimpleVerdict.{SimpleBelow, simple-exactly}
use Rattle.record.specs.Accepted.{AcceptedRecord}
use Rattle.record.specs.Lent.{
  LentRecord,
  held_record,
  not_simple,
  record_codes,
  record_lengths,
  record_lines,
  record_stray,
}

-- a bound of every place of a buffer, past its end too
below-everywhere : (b : ℕ) (buffer : List ℕ) → 0 < b → reaching b buffer ≡ false → (j : ℕ)
    → get_or buffer j 0 < b
below-everywhere b buffer h e j = elim (lt-or-ge j (length buffer)) [
  | inl l ↦ below_all b buffer e j l
  | inr l ↦ subst (λ v. v < b) (sym (get_or-eq_default buffer 0 l)) h
]

-- the graph of words below 2 ^ n: no neighbour at or above n, and none of a vertex at or above n
pub held_below : (l : LentRecord) → ((j : ℕ) → get_or l.neighbours j 0 < 2 ^ l.n) → (i q : ℕ) → l.n ≤ q →
    (held_record l).graph i q ≡ false
held_below l h i q k = bit-above l.n (get_or l.neighbours i 0) (h i) q k

pub held-above : (l : LentRecord) → length l.neighbours ≡ l.n → (i q : ℕ) → l.n ≤ i →
    (held_record l).graph i q ≡ false
held-above l e i q k =
    ap (λ w. bit w q) (get_or-eq_default l.neighbours 0 (subst (λ m. m ≤ i) (sym e) k)) ∙ zero_bit q

pub held-simple : (l : LentRecord) → length l.neighbours ≡ l.n →
    ((j : ℕ) → get_or l.neighbours j 0 < 2 ^ l.n) → SimpleBelow l.n (held_record l).graph →
    Simple l.n (held_record l).graph
held-simple l e h S =
    record {
      symmetric = λ i j. symmetric-at i j (lt-or-ge i l.n) (lt-or-ge j l.n);
      loopless = λ i. loopless-at i (lt-or-ge i l.n);
      below = held_below l h;
    }
  where
    symmetric-at : (i j : ℕ) → (i < l.n) ⊎ (l.n ≤ i) → (j < l.n) ⊎ (l.n ≤ j) →
        (held_record l).graph i j ≡ (held_record l).graph j i
    symmetric-at i j (inl a) (inl b) = S.symmetric i j a b
    symmetric-at i j (inl a) (inr b) = held_below l h i j b ∙ sym (held-above l e j i b)
    symmetric-at i j (inr a) (inl b) = held-above l e i j a ∙ sym (held_below l h j i a)
    symmetric-at i j (inr a) (inr b) = held-above l e i j a ∙ sym (held-above l e j i b)

    loopless-at : (i : ℕ) → (i < l.n) ⊎ (l.n ≤ i) → (held_record l).graph i i ≡ false
    loopless-at i (inl a) = S.loopless i a
    loopless-at i (inr a) = held_below l h i i a

pub accepted-record : (l : LentRecord) (others six : Bool) → first_fitting (record_lines l others six) ≡ 0 →
    AcceptedRecord l
accepted-record l others six e =
    let h2 = not-held 1 _ _ e in
    let h4 = not-held 3 _ _ h2.1 in
    let h5 = not-held 4 _ _ h4.1 in
    let h6 = not-held 5 _ _ h5.1 in
    let h7 = not-held 6 _ _ h6.1 in
    let count = counted l.n h2.0 in
    let lengths = record-lengths-are l (neither (record_lengths l) others h4.0).0 in
    let below : ((j : ℕ) → get_or l.neighbours j 0 < 2 ^ l.n) =
    below-everywhere (2 ^ l.n) l.neighbours (pow_pos l.n) h5.0 in
    let simple = held-simple l lengths.0 below
    ((simple-exactly l.n (held_record l).graph).0 h7.0) in
    record {
      positive = count.0;
      upto = count.1;
      neighbours-length = lengths.0;
      codes-length = lengths.1;
      words-below = below;
      codes-below = below-everywhere 24 l.codes (lit< tt) (neither (record_codes l) six h6.0).0;
      simple = simple;
      proper = record-proper l.n (held_record l) simple;
    }

-- no line holds of a record that passes each test
pub none-refuses : (l : LentRecord) → 1 ≤ l.n → l.n ≤ 64 → length l.neighbours ≡ l.n → length l.codes ≡ l.n →
    record_stray l ≡ false → record_codes l ≡ false → SimpleBelow l.n (held_record l).graph →
    first_fitting (record_lines l false false) ≡ 0
none-refuses l positive upto words codes no_stray no_code simple =
    passed 2 _ (count-passes l.n positive upto)
    ∙ passed 4 _ (ap (λ b. b || false) (ap₂ ◌||◌ (length-passes l.n l.neighbours words)
    (length-passes l.n l.codes codes)))
    ∙ passed 5 _ no_stray ∙ passed 6 _ (ap (λ b. b || false) no_code)
    ∙ passed 7 _ ((simple-exactly l.n (held_record l).graph).1 simple) ∙ none-fits

pub accepted-passes : (l : LentRecord) → AcceptedRecord l → first_fitting (record_lines l false false) ≡ 0
accepted-passes l A =
    none-refuses l A.positive A.upto A.neighbours-length A.codes-length
    (below-passes (2 ^ l.n) l.neighbours (λ j k. A.words-below j))
    (below-passes 24 l.codes (λ q k. A.codes-below q))
    (record { symmetric = λ i j k h. A.simple.symmetric i j; loopless = λ i k. A.simple.loopless i })

-- "a number comes back only where its line below is true"
pub record RecordNumbers (l : LentRecord) (others six : Bool) (r : ℕ) : Type 0 where
  pub count : r ≡ 2 → bad_count l.n ≡ true
  pub lengths : r ≡ 4 → (record_lengths l || others) ≡ true
  pub strays : r ≡ 5 → record_stray l ≡ true
  pub codes : r ≡ 6 → (record_codes l || six) ≡ true
  pub graph : r ≡ 7 → not_simple l.n (held_record l).graph ≡ true

pub record-numbers : (l : LentRecord) (others six : Bool) →
    RecordNumbers l others six (first_fitting (record_lines l others six))
record-numbers l others six =
    record {
      count = λ e. sym (or-false _) ∙ only-where-true (record_lines l others six) 2 (lit< tt) e;
      lengths = λ e. sym (or-false _) ∙ only-where-true (record_lines l others six) 4 (lit< tt) e;
      strays = λ e. sym (or-false _) ∙ only-where-true (record_lines l others six) 5 (lit< tt) e;
      codes = λ e. sym (or-false _) ∙ only-where-true (record_lines l others six) 6 (lit< tt) e;
      graph = λ e. sym (or-false _) ∙ only-where-true (record_lines l others six) 7 (lit< tt) e;
    }
