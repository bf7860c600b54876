-- No line refuses a store exactly if its buffers have their lengths, its held records pass, and no name is held twice.
use mathlib.Core.Bool.{◌&&◌, Bool, false, true, ◌||◌}
use mathlib.Core.Path.{ap, ap₂, refl, sym, ◌∙◌, ◌≡◌}
use Prim.Native.Nat.{◌*◌, ◌<◌, ℕ}
use Rattle.buffers.specs.Refusals.{first_fitting, other_than}
use Rattle.buffers.proofs.Fitting.{NoneHolds, none-fits-of, none-holds}
use Rattle.record.proofs.AcceptedRecords.{accepted-record}
use Rattle.record.specs.Accepted.{AcceptedRecord}
use Rattle.stabilizer.proofs.SharedTests.{has-length, length-passes}
use Rattle.operations.proofs.UsedPassing.{lines-pass}
use Rattle.operations.specs.Used.{UsedRecord, used_lines}
use Rattle.words.proofs.Flags.{neither}
use Rattle.words.proofs.SearchLaws.{some-false, some-none}
use Rattle.store.proofs.StoreNumbers.{record-number}
use Rattle.store.specs.Places.{Store, is_held, named_twice, place_at}
use Rattle.store.specs.StoreLines.{of_held, of_record, record_tests, store_lengths, store_lines}
use Rattle.store.specs.internal.Passing.{Passing}

-- a test beside two that never hold
pub bare : (b : Bool) → ((b || false) || false) ≡ false → b ≡ false
bare b e = (neither b false (neither (b || false) false e).0).0

-- a record that passes, by its tests
tests-pass : (u : UsedRecord) → of_record u 2 ≡ false → of_record u 4 ≡ false → of_record u 5 ≡ false → of_record u 6 ≡
    false
    → of_record u 7 ≡ false → first_fitting (used_lines u false false false) ≡ 0
tests-pass u a b c d e = sym (record-number u) ∙ none-fits-of (record_tests (of_record u)) (a, (b, (c, (d, (e, tt)))))

pass-tests : (u : UsedRecord) → first_fitting (used_lines u false false false) ≡ 0 → NoneHolds (record_tests (of_record u))
pass-tests u z = none-holds (record_tests (of_record u)) refl (record-number u ∙ z)

-- what a record that passes is
pub held-record : (u : UsedRecord) → first_fitting (used_lines u false false false) ≡ 0 → AcceptedRecord u.held
held-record u z = accepted-record u.held false false ((lines-pass u false false false).0 z).0

module _ (k : ℕ) (st : Store) (others : Bool) where
  module _ (z : first_fitting (store_lines k st others) ≡ 0) where
    all : NoneHolds (store_lines k st others)
    all = none-holds (store_lines k st others) refl z

    lengths : (store_lengths k st || others) ≡ false
    lengths = (neither (of_held k st 4) (store_lengths k st || others) (neither _ false all.1.0).0).1

    none_of : (m : ℕ) → of_held k st m ≡ false → (i : ℕ) → i < k → is_held st.heads i ≡ true
        → of_record (place_at st i) m ≡ false
    none_of m e i l h =
        sym (ap (λ b. b && of_record (place_at st i) m) h)
        ∙ some-false k (λ j. is_held st.heads j && of_record (place_at st j) m) e i l

    pub others-fit : others ≡ false
    others-fit = (neither (store_lengths k st) others lengths).1

    pub store-accepted : Passing k st
    store-accepted =
        let h = (neither (store_lengths k st) others lengths).0 in
        let p = neither (other_than (3 * k) st.heads) _ h in
        let q = neither (other_than (64 * k) st.neighbours) (other_than (64 * k) st.codes) p.1 in
        let seven = neither (of_held k st 7 || false) (named_twice k st.heads) all.1.1.1.1.0 in
        record {
          heads-long = has-length (3 * k) st.heads p.0;
          words_long = has-length (64 * k) st.neighbours q.0;
          codes-long = has-length (64 * k) st.codes q.1;
          records = λ i l e. tests-pass (place_at st i)
              (none_of 2 (bare _ all.0) i l e)
              (none_of 4 (neither (of_held k st 4) (store_lengths k st || others) (neither _ false all.1.0).0).0 i l
              e)
              (none_of 5 (bare _ all.1.1.0) i l e)
              (none_of 6 (bare _ all.1.1.1.0) i l e)
              (none_of 7 (neither (of_held k st 7) false seven.0).0 i l e);
          once = seven.1;
        }

-- the other way
module _ (k : ℕ) (st : Store) (P : Passing k st) where
  none-held : (m : ℕ) → ((i : ℕ) → i < k → is_held st.heads i ≡ true → of_record (place_at st i) m ≡ false)
      → of_held k st m ≡ false
  none-held m h = some-none k _ (λ i l. go i l (is_held st.heads i) refl)
    where
      go : (i : ℕ) → i < k → (b : Bool) → is_held st.heads i ≡ b → (b && of_record (place_at st i) m) ≡ false
      go i l true e = h i l e
      go i l false e = refl

  pub store-passes : first_fitting (store_lines k st false) ≡ 0
  store-passes =
      none-fits-of (store_lines k st false) (
        plain (none-held 2 (λ i l e. (tests i l e).0)),
        (
          ap₂ (λ a b. (a || (b || false)) || false) (none-held 4 (λ i l e. (tests i l e).1.0)) fit,
          (
            plain (none-held 5 (λ i l e. (tests i l e).1.1.0)),
            (
              plain (none-held 6 (λ i l e. (tests i l e).1.1.1.0)),
              (ap₂ (λ a b. (a || false) || b) (none-held 7 (λ i l e. (tests i l e).1.1.1.1.0)) P.once, tt),
            ),
          ),
        ),
      )
    where
      tests : (i : ℕ) → i < k → is_held st.heads i ≡ true → NoneHolds (record_tests (of_record (place_at st i)))
      tests i l e = pass-tests (place_at st i) (P.records i l e)

      plain : {b : Bool} → b ≡ false → ((b || false) || false) ≡ false
      plain e = ap (λ b. (b || false) || false) e

      fit : store_lengths k st ≡ false
      fit = ap₂ ◌||◌ (length-passes (3 * k) st.heads P.heads-long)
          (ap₂ ◌||◌ (length-passes (64 * k) st.neighbours P.words_long)
          (length-passes (64 * k) st.codes P.codes-long))
