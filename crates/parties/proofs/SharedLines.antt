-- The lines that a party's save, return and forget share: on a record with the parties apart they read the party's own
-- places alone, and what holds where none of them refuses.
use mathlib.Core.Bool.{◌&&◌, Bool, and-false, false, not, true, true≢false, ◌||◌}
use mathlib.Core.List.{◌++◌, List, [], ◌∷◌}
use mathlib.Core.Logic.{inl, inr}
use mathlib.Core.Path.{ap, ap₂, refl, sym, ◌∙◌, ◌≡◌}
use Prim.Native.Nat.{◌*◌, ◌<◌, ◌≤◌, ℕ}
use native.Mathlib.Omega.{arith}
use lib.Dec.{eqb, ltb}
use borrow.Author.Tests.{eqb-true, ltb-false, not-false}
use Rattle.buffers.specs.Refusals.{Refusal, first_fitting, line, other_than, with_test}
use Rattle.buffers.proofs.Fitting.{NoneHolds, none-fits-of, none-holds}
use Rattle.stabilizer.proofs.SharedTests.{has-length, length-passes}
use Rattle.store.proofs.PassingStores.{bare, store-accepted}
use Rattle.store.proofs.SavePlaces.{full}
use Rattle.store.proofs.StoreNumbers.{record-number}
use Rattle.store.specs.Kept.{save_place}
use Rattle.store.specs.Places.{Store, count_at, has_name, holds_name, is_held, named_twice, others_held, place_at, place_of}
use Rattle.store.specs.StoreLines.{holds_line, of_held, of_record, record_tests, store_lengths, store_lines}
use Rattle.store.specs.internal.Passing.{Passing}
use Rattle.operations.specs.Used.{UsedRecord, used_lines}
use Rattle.words.proofs.Flags.{both_true, neither}
use Rattle.words.proofs.SearchLaws.{some-false, some-true}
use Rattle.words.proofs.Sums.{lt-or-ge}
use Rattle.words.specs.Search.{some}
use Rattle.parties.proofs.OwnHeads.{own-heads-long, part-long}
use Rattle.parties.proofs.OwnPlaces.{EightLong}
use Rattle.parties.specs.PartyLines.{with_party}
use Rattle.parties.specs.PartyStores.{
  party_named_lines,
  party_save_lines,
  held_out,
  other_count,
  own_lines,
  own_places,
  shared_lines,
}
use Rattle.parties.specs.Masks.{in_party, reaches_out}
use Rattle.parties.specs.internal.Apart.{Apart}

-- ---- what the lines read
-- no line holds of a record that passes
none-of-all : (m : ℕ) (ls : List Refusal) → NoneHolds ls → holds_line m ls ≡ false
none-of-all m [] h = refl
none-of-all m (l ∷ ls) h =
    ap₂ ◌||◌ (ap (λ b. eqb l.number m && b) h.0 ∙ and-false (eqb l.number m)) (none-of-all m ls h.1)

pub passes-all : (u : UsedRecord) → first_fitting (used_lines u false false false) ≡ 0 → (m : ℕ) → of_record u m ≡ false
passes-all u z m = none-of-all m (used_lines u false false false) (none-holds (used_lines u false false false) refl z)

pub eight-fit : (st : Store) → EightLong st → store_lengths 8 st ≡ false
eight-fit st L = ap₂ ◌||◌ (length-passes 24 st.heads L.heads)
    (ap₂ ◌||◌ (length-passes 512 st.neighbours L.words) (length-passes 512 st.codes L.codes))

pub eight-long : (st : Store) → store_lengths 8 st ≡ false → EightLong st
eight-long st e =
    let p = neither (other_than 24 st.heads) (other_than 512 st.neighbours || other_than 512 st.codes) e in
    let q = neither (other_than 512 st.neighbours) (other_than 512 st.codes) p.1 in
    record {
      heads = has-length 24 st.heads p.0;
      words = has-length 512 st.neighbours q.0;
      codes = has-length 512 st.codes q.1;
    }

-- the lines from what they read
abbrev shared_with : ℕ → ℕ → ℕ → (ℕ → Bool) → Bool → Bool → Store → List Refusal
shared_with word g n test lengths crossing own =
    with_party g n (record_tests (λ m. test m || holds_line m
    (with_test 7 (named_twice 4 own.heads || held_out (in_party word g) own)
    (with_test 4 lengths (with_test 2 (other_count own) (record_tests (of_held 4 own)))))))
    ++ (line 19 crossing ∷ [])

pub shared-alone : (word g : ℕ) (u v : UsedRecord) (st st' : Store) → Apart word u → Apart word v → EightLong st →
    EightLong st' → own_places g st ≡ own_places g st' → shared_lines word g u st ≡ shared_lines word g v st'
shared-alone word g u v st st' A B L M e = plain u st A L ∙ ap (shared_with word g 64 (λ m. false) false false) e
    ∙ sym (plain v st' B M)
  where
    plain : (u : UsedRecord) (st : Store) → Apart word u → EightLong st →
        shared_lines word g u st ≡ shared_with word g 64 (λ m. false) false false (own_places g st)
    plain u st A L = λ j. shared_with word g (A.count j) (λ m. passes-all u A.passes m j) (eight-fit st L j)
        (A.no-crossing j) (own_places g st)

-- ---- what holds where none refuses
-- the first of two lists
pub front-none : (ls ms : List Refusal) → NoneHolds (ls ++ ms) → NoneHolds ls
front-none [] ms h = tt
front-none (l ∷ ls) ms h = (h.0, front-none ls ms h.1)

module _ (word g : ℕ) (u : UsedRecord) (st : Store) (h : NoneHolds (shared_lines word g u st)) where
  abbrev own_test : ℕ → Bool
  own_test m = holds_line m (own_lines (in_party word g) g st)

  -- the party is 0 or 1
  pub shared-party : g < 2
  shared-party = low (ltb-false 1 g (neither (of_record u 6 || own_test 6) (ltb 1 g)
      (neither ((of_record u 6 || own_test 6) || ltb 1 g) false h.1.1.1.0).0).1)
    where
      low : g ≤ 1 → g < 2
      low l = omega (arith, l)

  -- the record's part and the store's part of a line
  tests : (a x y z : Bool) → (((a || x) || y) || z) ≡ false → (a ≡ false) × (x ≡ false)
  tests a x y z e = neither a x (neither (a || x) y (neither ((a || x) || y) z e).0).0

  two : (of_record u 2 ≡ false) × (own_test 2 ≡ false)
  two = tests (of_record u 2) (own_test 2) false (not (eqb u.held.n 64)) h.0

  four : (of_record u 4 ≡ false) × (own_test 4 ≡ false)
  four = tests (of_record u 4) (own_test 4) false false h.1.0

  five : (of_record u 5 ≡ false) × (own_test 5 ≡ false)
  five = tests (of_record u 5) (own_test 5) false false h.1.1.0

  six : (of_record u 6 ≡ false) × (own_test 6 ≡ false)
  six = tests (of_record u 6) (own_test 6) (ltb 1 g) false h.1.1.1.0

  seven : (of_record u 7 ≡ false) × (own_test 7 ≡ false)
  seven = tests (of_record u 7) (own_test 7) false false h.1.1.1.1.0

  -- the parties are apart on the record
  pub shared-apart : Apart word u
  shared-apart =
      record {
        count = eqb-true u.held.n 64 (not-false (eqb u.held.n 64)
            (neither ((of_record u 2 || own_test 2) || false) (not (eqb u.held.n 64)) h.0).1);
        passes = sym (record-number u) ∙ none-fits-of (record_tests (of_record u))
            (two.0, (four.0, (five.0, (six.0, (seven.0, tt)))));
        no-crossing = h.1.1.1.1.1.0;
      }

  -- the buffers of the store have their lengths
  pub shared_long : EightLong st
  shared_long = eight-long st (neither (of_held 4 (own_places g st) 4 || false) (store_lengths 8 st)
      (bare ((of_held 4 (own_places g st) 4 || false) || store_lengths 8 st) four.1)).1

pub record OwnFits (word g : ℕ) (st : Store) : Type 0 where
  pub passing : Passing 4 (own_places g st)
  pub counts : other_count (own_places g st) ≡ false
  pub inside : held_out (in_party word g) (own_places g st) ≡ false

-- the buffers of a party's places have their lengths
pub own-long : (g : ℕ) (st : Store) → g < 2 → EightLong st → store_lengths 4 (own_places g st) ≡ false
own-long g st lg L = let own = own_places g st in
    ap₂ ◌||◌ (length-passes 12 own.heads (own-heads-long g st.heads lg L.heads))
    (ap₂ ◌||◌ (length-passes 256 own.neighbours (part-long (256 * g) 256 st.neighbours
    (omega (arith, lg, L.words))))
    (length-passes 256 own.codes (part-long (256 * g) 256 st.codes (omega (arith, lg, L.codes)))))

module _ (word g : ℕ) (u : UsedRecord) (st : Store) (h : NoneHolds (shared_lines word g u st)) where
  abbrev own : Store
  own = own_places g st

  counts : (of_held 4 own 2 ≡ false) × (other_count own ≡ false)
  counts = neither (of_held 4 own 2) (other_count own) (bare (of_held 4 own 2 || other_count own)
      (neither (((of_held 4 own 2 || other_count own) || false) || false) false (two word g u st h).1).0)

  held-four : of_held 4 own 4 ≡ false
  held-four = (neither (of_held 4 own 4) false (neither (of_held 4 own 4 || false) (store_lengths 8 st)
      (bare ((of_held 4 own 4 || false) || store_lengths 8 st) (four word g u st h).1)).0).0

  -- lines 5 and 6 as they stand
  as-held : (b : Bool) → ((((b || false) || false) || false) || false) ≡ false → ((b || false) || false) ≡ false
  as-held b e = bare ((b || false) || false) e

  sevens : (((of_held 4 own 7 || false) || false) ≡ false)
      × ((named_twice 4 own.heads || held_out (in_party word g) own) ≡ false)
  sevens = neither ((of_held 4 own 7 || false) || false) (named_twice 4 own.heads || held_out (in_party word g) own)
      (neither (((of_held 4 own 7 || false) || false) || (named_twice 4 own.heads || held_out (in_party word g) own))
      false
      (seven word g u st h).1).0

  names : (named_twice 4 own.heads ≡ false) × (held_out (in_party word g) own ≡ false)
  names = neither (named_twice 4 own.heads) (held_out (in_party word g) own) sevens.1

  pub shared-fits : OwnFits word g st
  shared-fits =
      record {
        passing = store-accepted 4 own false (none-fits-of (store_lines 4 own false) (
          ap (λ b. (b || false) || false) counts.0,
          (
            ap₂ (λ a b. (a || (b || false)) || false) {x = of_held 4 own 4} held-four
                (own-long g st (shared-party word g u st h) (shared_long word g u st h)),
            (
              as-held (of_held 4 own 5) (five word g u st h).1,
              (
                as-held (of_held 4 own 6) (six word g u st h).1,
                (
                  ap₂ (λ a b. (a || false) || b) {x = of_held 4 own 7} (bare (of_held 4 own 7) sevens.0) names.0,
                  tt,
                ),
              ),
            ),
          ),
        ));
        counts = counts.1;
        inside = names.1;
      }

-- ---- a save: a place of the four is there
module _ (word g : ℕ) (u : UsedRecord) (name : ℕ) (st : Store) (z : first_fitting (party_save_lines word g u name st) ≡ 0)
  where
    save-lines : NoneHolds (party_save_lines word g u name st)
    save-lines = none-holds (party_save_lines word g u name st) refl z

    pub save-shared : NoneHolds (shared_lines word g u st)
    save-shared = front-none (shared_lines word g u st)
        (line 18 (others_held 4 (own_places g st).heads name) ∷ []) save-lines

    pub save-place : save_place 4 (own_places g st).heads name < 4
    save-place = elim (lt-or-ge (save_place 4 (own_places g st).heads name) 4) [
      | inl l ↦ l
      | inr l ↦ absurd (true≢false (sym (full 4 (own_places g st).heads name l) ∙ save-lines.1.1.1.1.1.1.0))
    ]

-- ---- a return or a forget: the name is held at a place of the four, and a return finds a record of 64 qubits there
-- that passes and has no neighbour outside the party
module _ (word g : ℕ) (u : UsedRecord) (name : ℕ) (st : Store) (z : first_fitting (party_named_lines word g u name st) ≡ 0)
  where
    named-lines : NoneHolds (party_named_lines word g u name st)
    named-lines = none-holds (party_named_lines word g u name st) refl z

    abbrev own-heads : List ℕ
    own-heads = (own_places g st).heads

    pub named-shared : NoneHolds (shared_lines word g u st)
    named-shared = front-none (shared_lines word g u st) (line 17 (not (holds_name 4 own-heads name)) ∷ []) named-lines

    pub named-held : holds_name 4 (own_places g st).heads name ≡ true
    named-held = not-false (holds_name 4 own-heads name) named-lines.1.1.1.1.1.1.0

    pub named-place : place_of 4 (own_places g st).heads name < 4
    named-place = (some-true 4 (has_name own-heads name) named-held).below

    held-there : is_held own-heads (place_of 4 own-heads name) ≡ true
    held-there = (both_true (is_held own-heads (place_of 4 own-heads name)) _
        (some-true 4 (has_name own-heads name) named-held).passes).0

    fits : OwnFits word g st
    fits = shared-fits word g u st named-shared

    at_place : (f : ℕ → Bool) → some 4 (λ i. is_held own-heads i && f i) ≡ false → f (place_of 4 own-heads name) ≡ false
    at_place f e =
        sym (ap (λ b. b && f (place_of 4 own-heads name)) held-there)
        ∙ some-false 4 (λ i. is_held own-heads i && f i) e (place_of 4 own-heads name) named-place

    pub named_count : count_at (own_places g st).heads (place_of 4 (own_places g st).heads name) ≡ 64
    named_count = eqb-true _ 64 (not-false _ (at_place (λ i. not (eqb (count_at own-heads i) 64)) fits.counts))

    pub named-inside : reaches_out (in_party word g) (place_at (own_places g st)
        (place_of 4 (own_places g st).heads name)) ≡ false
    named-inside = at_place (λ i. reaches_out (in_party word g) (place_at (own_places g st) i)) fits.inside

    pub named-passes : first_fitting (used_lines (place_at (own_places g st)
        (place_of 4 (own_places g st).heads name)) false false false) ≡ 0
    named-passes = fits.passing.records (place_of 4 own-heads name) named-place held-there
