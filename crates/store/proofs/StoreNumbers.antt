-- The number of a store, from those of its places and the tests beside them.
use mathlib.Core.Bool.{◌&&◌, Bool, cond, false, not, or-false, or-true, true, ◌||◌}
use mathlib.Core.Path.{ap, refl, sym, ◌∙◌, ◌≡◌}
use Prim.Native.Nat.{ℕ}
use lib.Dec.{eqb, ltb}
use borrow.Author.Tests.{eq-eqb, eqb-true, ne_eqb}
use Rattle.buffers.specs.Refusals.{first_fitting, with_test}
use Rattle.buffers.proofs.Fitting.{first-is}
use Rattle.buffers.specs.Answers.{here, later}
use Rattle.buffers.specs.internal.Earlier.{earliest_of}
use Rattle.operations.specs.Used.{UsedRecord, used_lines}
use Rattle.words.proofs.SearchLaws.{some-ext}
use Rattle.store.proofs.ManyRecords.{earlier-of, last-tested, told-by-number}
use Rattle.store.specs.Places.{Store, count_at, is_held, named_twice, place_at}
use Rattle.store.specs.StoreLines.{of_held, of_record, record_tests, store_lengths, store_lines}
use Rattle.store.specs.internal.StoreNumbers.{large_count, number_at}

-- a record's number by its tests
pub record-number : (u : UsedRecord) → first_fitting (record_tests (of_record u)) ≡ first_fitting
    (used_lines u false false false)
record-number u = told-by-number _ _ _ _ _

-- free, or held
module _ (u : UsedRecord) where
  pub free-number : u.held.n ≡ 0
      → 0 ≡ cond (not (eqb u.held.n 0)) (first_fitting (used_lines u false false false)) 0
  free-number e = sym (ap (λ b. cond (not b) (first_fitting (used_lines u false false false)) 0)
      (eq-eqb u.held.n 0 e))

  pub held-place-number : (u.held.n ≡ 0 → ⊥) → {r : ℕ} → r ≡ first_fitting (used_lines u false false false)
      → r ≡ cond (not (eqb u.held.n 0)) (first_fitting (used_lines u false false false)) 0
  held-place-number h e =
      e ∙ sym (ap (λ b. cond (not b) (first_fitting (used_lines u false false false)) 0) (ne_eqb u.held.n 0 h))

module _ (st : Store) where
  place-number : (i : ℕ) → first_fitting (record_tests (λ m. is_held st.heads i && of_record (place_at st i) m))
      ≡ number_at st i
  unfolding first_fitting
  place-number i = by-held (is_held st.heads i)
    where
      by-held : (b : Bool) → first_fitting (record_tests (λ m. b && of_record (place_at st i) m))
          ≡ cond b (first_fitting (used_lines (place_at st i) false false false)) 0
      by-held true = record-number (place_at st i)
      by-held false = refl

  pub held_number : (k : ℕ) → first_fitting (record_tests (of_held k st)) ≡ earliest_of k (number_at st)
  held_number k = earlier-of k (λ i m. is_held st.heads i && of_record (place_at st i) m) ∙ ap (earliest_of k)
      (λ j i. place-number i j)

-- line 2 of the held records is that of an n above 64
module _ (k : ℕ) (st : Store) where
  count_of : (n : ℕ) → (not (eqb n 0) && ((((eqb n 0 || ltb 64 n) || false) || false) || false)) ≡ ltb 64 n
  count_of n = go (eqb n 0) refl
    where
      go : (b : Bool) → eqb n 0 ≡ b → (not b && ((((b || ltb 64 n) || false) || false) || false)) ≡ ltb 64 n
      go true e = sym (ap (ltb 64) (eqb-true n 0 e))
      go false e = or-false _ ∙ or-false _ ∙ or-false _

  pub large_is : of_held k st 2 ≡ large_count k st.heads
  large_is = some-ext k _ _ (λ i l. count_of (count_at st.heads i))

  module _ (others : Bool) where
    pub store-2 : large_count k st.heads ≡ true → 2 ≡ first_fitting (store_lines k st others)
    store-2 h = first-is (here (ap (λ b. (b || false) || false) (large_is ∙ h)))

    module _ (few : large_count k st.heads ≡ false) where
      pub store-4 : (store_lengths k st || others) ≡ true → 4 ≡ first_fitting (store_lines k st others)
      store-4 h = first-is (later (ap (λ b. (b || false) || false) (large_is ∙ few))
          (here (ap (λ b. (of_held k st 4 || b) || false) h ∙ ap (λ b. b || false) (or-true (of_held k st 4)))))

    module _ (fit : (store_lengths k st || others) ≡ false) where
      -- the places decide, then the names
      pub store-decided : first_fitting (store_lines k st others)
          ≡ cond (eqb (earliest_of k (number_at st)) 0) (cond (named_twice k st.heads) 7 0) (earliest_of k (number_at st))
      store-decided =
          ap (λ b. first_fitting (with_test 7 (named_twice k st.heads) (with_test 4 b (record_tests (of_held k st))))) fit
          ∙ last-tested _ _ _ _ _ _
          ∙ ap (λ r. cond (eqb r 0) (cond (named_twice k st.heads) 7 0) r) (held_number st k)

      -- the number of the places, then that of the names
      module _ (r : ℕ) (e : r ≡ earliest_of k (number_at st)) where
        pub store-number : (r ≡ 0 → ⊥) → r ≡ first_fitting (store_lines k st others)
        store-number h =
            sym (store-decided ∙ ap (λ m. cond (eqb m 0) (cond (named_twice k st.heads) 7 0) m) (sym e)
            ∙ ap (λ b. cond b (cond (named_twice k st.heads) 7 0) r) (ne_eqb r 0 h))

        pub store-names : r ≡ 0 → {b : Bool} → b ≡ named_twice k st.heads
            → cond b 7 0 ≡ first_fitting (store_lines k st others)
        store-names z f =
            sym (store-decided ∙ ap (λ m. cond (eqb m 0) (cond (named_twice k st.heads) 7 0) m) (sym e ∙ z)
            ∙ ap (λ b. cond b 7 0) (sym f))
