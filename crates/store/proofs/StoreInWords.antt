-- The tests of a store decide the sentences of its lines.
use mathlib.Core.Bool.{◌&&◌, Bool, not, true, ◌||◌}
use mathlib.Core.Path.{ap₂, refl, ◌≡◌}
use mathlib.Core.List.{List}
use Prim.Native.Nat.{◌*◌, ◌<◌, ℕ}
use lib.Dec.{eqb}
use borrow.Author.Tests.{eqb-false, ne_eqb, not-true}
use Rattle.buffers.proofs.SentenceLaws.{
  Decides,
  Matches,
  and-decides,
  and-line,
  bad-count,
  itself,
  not-decides,
  or-decides,
  or-none,
  other_length,
  some-decides,
  stray,
}
use Rattle.buffers.specs.Sentences.{BadCount}
use Rattle.record.proofs.RecordInWords.{code-above-23, misfits, stray-neighbour}
use Rattle.record.specs.RecordSentences.{CodeAbove23, RecordMisfits}
use Rattle.operations.proofs.UsedInWords.{no_record}
use Rattle.operations.specs.Used.{UsedRecord}
use Rattle.operations.specs.UsedSentences.{NoRecord, StrayBit}
use Rattle.words.proofs.Flags.{both_true}
use Rattle.words.proofs.SearchLaws.{every-at, every_in}
use Rattle.store.specs.Places.{Store, has_name, holds_name, is_held, name_at, named_twice, others_held, place_at}
use Rattle.store.specs.StoreLines.{named_lines, of_held, of_record, save_lines, store_lengths, store_lines}
use Rattle.store.specs.StoreSentences.{
  NameHeldTwice,
  UnknownName,
  AllOtherNames,
  SomeHeld,
  StoreMisfits,
  named_sentences,
  save_sentences,
  store_sentences,
}

-- ---- the lines of one record, by their numbers
module _ (u : UsedRecord) where
  pub of-2 : Decides (of_record u 2) (BadCount u.held.n)
  of-2 = or-none (or-none (or-none (bad-count u.held.n)))

  pub of-4 : Decides (of_record u 4) (RecordMisfits u.held)
  of-4 = or-none (or-none (or-none (or-none (misfits u.held))))

  pub of-5 : Decides (of_record u 5) (StrayBit u)
  of-5 = or-none (or-none (or-decides (stray-neighbour u.held) (or-none (stray u.held.n u.used))))

  pub of-6 : Decides (of_record u 6) (CodeAbove23 u.held)
  of-6 = or-none (or-none (or-none (or-none (code-above-23 u.held))))

  pub of-7 : Decides (of_record u 7) (NoRecord u)
  of-7 = or-none (no_record u)

-- ---- those of the held records
pub held : (k : ℕ) (st : Store) (m : ℕ) (P : UsedRecord → Type 0) → ((u : UsedRecord) → Decides (of_record u m) (P u))
    → Decides (of_held k st m) (SomeHeld k st P)
held k st m P D = some-decides k (λ i. is_held st.heads i && of_record (place_at st i) m)
    (λ i. (is_held st.heads i ≡ true) × P (place_at st i)) (λ i. and-decides itself (D (place_at st i)))

pub store-misfits : (k : ℕ) (st : Store) → Decides (store_lengths k st) (StoreMisfits k st)
store-misfits k st = or-decides (other_length (3 * k) st.heads)
    (or-decides (other_length (64 * k) st.neighbours) (other_length (64 * k) st.codes))

pub twice : (k : ℕ) (heads : List ℕ) → Decides (named_twice k heads) (NameHeldTwice k heads)
twice k heads = some-decides k (λ i. is_held heads i && holds_name i heads (name_at heads i))
    (λ i. (is_held heads i ≡ true) × ((j : ℕ) × (j < i) × (has_name heads (name_at heads i) j ≡ true)))
    (λ i. and-decides itself (some-decides i (has_name heads (name_at heads i)) _ (λ j. itself)))

pub not-held : (k : ℕ) (heads : List ℕ) (name : ℕ) → Decides (not (holds_name k heads name)) (UnknownName k heads name)
not-held k heads name = not-decides (some-decides k (has_name heads name) _ (λ i. itself))

pub others-held : (k : ℕ) (heads : List ℕ) (name : ℕ) → Decides (others_held k heads name) (AllOtherNames k heads name)
others-held k heads name = (
  (λ e i l. let h = both_true (is_held heads i) (not (eqb (name_at heads i) name)) (every-at k _ e i l) in
      (h.0, eqb-false (name_at heads i) name (not-true (eqb (name_at heads i) name) h.1))),
  (λ h. every_in k _ (λ i l. ap₂ (λ a b. a && not b) (h i l).0 (ne_eqb (name_at heads i) name (h i l).1))),
)

module _ (k : ℕ) (st : Store) where
  store-in-words : (others : Bool) (Four : Type 0) → Decides (of_held k st 4 || (store_lengths k st || others)) Four
      → Matches (store_lines k st others) (store_sentences k st Four)
  store-in-words others Four D = (
    refl,
    (
      or-none (or-none (held k st 2 _ of-2)),
      λ e. (
        refl,
        (
          or-none D,
          λ e. (
            refl,
            (
              or-none (or-none (held k st 5 _ of-5)),
              λ e. (
                refl,
                (
                  or-none (or-none (held k st 6 _ of-6)),
                  λ e. (
                    refl,
                    (or-decides (or-none (held k st 7 _ of-7)) (twice k st.heads), λ e. tt),
                  ),
                ),
              ),
            ),
          ),
        ),
      ),
    ),
  )

  pub named-in-words : (name : ℕ) (others : Bool) (Four : Type 0)
      → Decides (of_held k st 4 || (store_lengths k st || others)) Four
      → Matches (named_lines k name st others) (named_sentences k name st Four)
  named-in-words name others Four D = and-line (store_lines k st others) (store_sentences k st Four) 17
      (store-in-words others Four D) (λ e. not-held k st.heads name)

  pub save-in-words : (u : UsedRecord) (name : ℕ) → Matches (save_lines k u name st) (save_sentences k u name st)
  save-in-words u name = (
    refl,
    (
      or-decides (of-2 u) (or-none (or-none (or-none (held k st 2 _ of-2)))),
      λ e. (
        refl,
        (
          or-decides (of-4 u) (or-none (or-none (or-decides (held k st 4 _ of-4) (or-none (store-misfits k st))))),
          λ e. (
            refl,
            (
              or-decides (of-5 u) (or-none (or-none (or-none (held k st 5 _ of-5)))),
              λ e. (
                refl,
                (
                  or-decides (of-6 u) (or-none (or-none (or-none (held k st 6 _ of-6)))),
                  λ e. (
                    refl,
                    (
                      or-decides (of-7 u) (or-none (or-decides (or-none (held k st 7 _ of-7)) (twice k st.heads))),
                      λ e. (refl, (others-held k st.heads name, λ e. tt)),
                    ),
                  ),
                ),
              ),
            ),
          ),
        ),
      ),
    ),
  )
