-- A party's save, return and forget, from what the functions below them answer.
use mathlib.Core.Bool.{cond, not, true}
use mathlib.Core.List.{List}
use mathlib.Core.Path.{◌∙◌, ◌≡◌, ap, ap₂, refl, subst, sym}
use Prim.Native.Nat.{◌*◌, ◌+◌, ◌<◌, ◌≤◌, ℕ}
use native.Mathlib.Omega.{arith}
use lib.ListN.{get_or, length, set}
use Rattle.buffers.specs.Refusals.{first_fitting}
use Rattle.buffers.proofs.Calling.{done, refused}
use Rattle.buffers.proofs.Fitting.{NoneHolds, decides, none-holds, stays}
use Rattle.buffers.specs.Answers.{here, later, none}
use Rattle.buffers.specs.Calls.{Call}
use Rattle.parties_impl.proofs.HeldStates.{held-count}
use Rattle.parties_impl.proofs.Moving.{of64}
use Rattle.parties.proofs.OwnPlaces.{EightLong, count-own}
use Rattle.parties.proofs.SharedLines.{shared-apart, shared-fits, shared-party, shared_long}
use Rattle.parties.specs.PartyStores.{
  party_named_lines,
  party_returned,
  party_save_lines,
  party_saved,
  own_places,
  shared_lines,
}
use Rattle.parties.specs.Masks.{in_party, masked, merged}
use Rattle.parties_impl.proofs.OwnWords.{masked-own, merged-own}
use Rattle.record.specs.Accepted.{AcceptedRecord}
use Rattle.record.specs.Lent.{LentRecord, lent_record}
use Rattle.store.proofs.PassingStores.{held-record}
use Rattle.store.proofs.SavePlaces.{full, not_full}
use Rattle.store.specs.Kept.{save_place, with_place}
use Rattle.store.specs.Places.{Store, count_at, has_name, holds_name, is_held, part_at, place_at, place_of}
use Rattle.operations.specs.Used.{UsedRecord, used_record}
use Rattle.words.proofs.Flags.{both_true}
use Rattle.words.proofs.SearchLaws.{some-true}
use Rattle.words.proofs.Searching.{above-none, below-some}
use Rattle.words.specs.Bits.{bit, word_of}
use Rattle.calls.specs.PartyStores.{party_forget_call, party_return_call, party_save_call}

module _ (word g : ℕ) (u : UsedRecord) (name : ℕ) (st : Store) (k : ℕ)
    (e : k ≡ first_fitting (shared_lines word g u st)) where
  abbrev heads : List ℕ
  heads = (own_places g st).heads

  -- ---- refused by a shared line
  module _ (h : k ≡ 0 → ⊥) where
    pub save-refused : Call (party_save_call word g u name st st.heads st.neighbours st.codes) k
    save-refused = refused _ (stays (shared_lines word g u st) _ e h) h (refl, (refl, (refl, tt)))

    pub return_refused : Call (party_return_call word g u name st u.held.neighbours u.held.codes u.used) k
    return_refused = refused _ (stays (shared_lines word g u st) _ e h) h (refl, (refl, (refl, tt)))

    pub forget-refused : Call (party_forget_call word g u name st st.heads) k
    forget-refused = refused _ (stays (shared_lines word g u st) _ e h) h (refl, tt)

  module _ (z : k ≡ 0) where
    no_line : NoneHolds (shared_lines word g u st)
    no_line = none-holds (shared_lines word g u st) refl (sym e ∙ z)

    low : g < 2
    low = shared-party word g u st no_line

    count : u.held.n ≡ 64
    count = (shared-apart word g u st no_line).count

    accepted : AcceptedRecord u.held
    accepted = held-record u (shared-apart word g u st no_line).passes

    long : EightLong st
    long = shared_long word g u st no_line

    pub search-fits : (g ≤ 1) × (length st.heads ≡ 24)
    search-fits = (omega (arith, low), long.heads)

    -- the buffers, and a place of the party's four
    pub all_fit : (place : ℕ) → place < 4
        → ((4 * g + place < 8) × (length st.neighbours ≡ 512) × (length st.codes ≡ 512))
        × ((length u.held.neighbours ≡ 64) × (length u.held.codes ≡ 64))
    all_fit place l = (
      (omega (arith, l, low), long.words, long.codes),
      (accepted.neighbours-length ∙ count, accepted.codes-length ∙ count),
    )

    -- ---- a save
    module _ (place : ℕ) (p : place ≡ save_place 4 heads name) where
      pub save-full : 4 ≤ place → Call (party_save_call word g u name st st.heads st.neighbours st.codes) 18
      save-full l = refused _
          (decides (shared_lines word g u st) refl e z (here (full 4 heads name (subst (λ q. 4 ≤ q) p l))))
          (λ x. absurd (omega (arith, x))) (refl, (refl, (refl, tt)))

      module _ (l : place < 4) where
        pub put-fits : ((4 * g + place < 8) × (length u.held.neighbours ≡ 64) × (length u.held.codes ≡ 64))
            × ((length st.heads ≡ 24) × (length st.neighbours ≡ 512) × (length st.codes ≡ 512))
        put-fits = let f = all_fit place l in
            ((f.0.0, f.1.0, f.1.1), (long.heads, f.0.1, f.0.2))

        pub save-done : (own : ℕ) → own ≡ word_of 64 (in_party word g) → (st' : Store)
            → st' ≡ with_place (4 * g + place)
            (masked (bit own) (of64 u.held.neighbours u.held.codes u.used)) name st
            → Call (party_save_call word g u name st st'.heads st'.neighbours st'.codes) 0
        save-done own eo st' es = done _ (z ∙ at-end) z
            (ap (λ s. s.heads) left, (ap (λ s. s.neighbours) left, (ap (λ s. s.codes) left, tt)))
          where
            at-end : 0 ≡ first_fitting (party_save_lines word g u name st)
            at-end = decides (shared_lines word g u st) refl e z
                (later (not_full 4 heads name (subst (λ q. q < 4) p l)) none)

            alone : masked (bit own) (of64 u.held.neighbours u.held.codes u.used) ≡ masked (in_party word g) u
            alone =
                ap (λ m. masked (bit own) (used_record m u.held.neighbours u.held.codes u.used)) (sym count)
                ∙ masked-own own (in_party word g) eo u count

            left : st' ≡ party_saved word g u name st
            left = es ∙ ap₂ (λ q v. with_place (4 * g + q) v name st) p alone

    -- ---- a return or a forget
    module _ (place : ℕ) (p : place ≡ place_of 4 heads name) where
      module _ (l : 4 ≤ place) where
        nowhere : not (holds_name 4 heads name) ≡ true
        nowhere = ap not (above-none 4 (has_name heads name) (subst (λ q. 4 ≤ q) p l))

        pub return-not-held :
            Call (party_return_call word g u name st u.held.neighbours u.held.codes u.used) 17
        return-not-held = refused _ (decides (shared_lines word g u st) refl e z (here nowhere))
            (λ x. absurd (omega (arith, x))) (refl, (refl, (refl, tt)))

        pub forget-not-held : Call (party_forget_call word g u name st st.heads) 17
        forget-not-held = refused _ (decides (shared_lines word g u st) refl e z (here nowhere))
            (λ x. absurd (omega (arith, x))) (refl, tt)

      module _ (l : place < 4) where
        there : holds_name 4 heads name ≡ true
        there = below-some 4 (has_name heads name) (subst (λ q. q < 4) p l)

        -- the state held there has 64 qubits
        count-there : count_at st.heads (4 * g + place) ≡ 64
        count-there =
            count-own g place st low l long
            ∙ held-count (own_places g st) (shared-fits word g u st no_line).counts place l
            (subst (λ q. is_held heads q ≡ true) (sym p)
            (both_true (is_held heads (place_of 4 heads name)) _ (some-true 4 (has_name heads name) there).passes).0)

        pub return-done : (own : ℕ) → own ≡ word_of 64 (in_party word g) → (was : ℕ)
            → was ≡ get_or st.heads (3 * (4 * g + place) + 2) 0 → (nb' cs' : List ℕ) (used' : ℕ)
            → ◌≡◌ {A = LentRecord} (lent_record 64 nb' cs') (merged (bit own)
            (of64 (part_at (4 * g + place) 64 st.neighbours) (part_at (4 * g + place) 64 st.codes) 0)
            (of64 u.held.neighbours u.held.codes 0)).held
            → used' ≡ word_of 64 (λ q. cond (bit own q) (bit was q) (bit u.used q))
            → Call (party_return_call word g u name st nb' cs' used') 0
        return-done own eo was ew nb' cs' used' er eu = done _ (z ∙ at-end) z (
          ap (λ r. r.neighbours) er ∙ ap (λ v. v.held.neighbours) left,
          (
            ap (λ r. r.codes) er ∙ ap (λ v. v.held.codes) left,
            (
              eu ∙ ap (λ w. word_of 64 (λ q. cond (bit own q) (bit w q) (bit u.used q))) ew ∙ ap (λ v. v.used) left,
              tt,
            ),
          ),
        )
          where
            at-end : 0 ≡ first_fitting (party_named_lines word g u name st)
            at-end = decides (shared_lines word g u st) refl e z (later (ap not there) none)

            -- the two records, with their counts
            together : ℕ → ℕ → UsedRecord
            together m c = merged (bit own) (record {
              held = record {
                n = c;
                neighbours = part_at (4 * g + place) c st.neighbours;
                codes = part_at (4 * g + place) c st.codes;
              };
              used = get_or st.heads (3 * (4 * g + place) + 2) 0;
            }) (used_record m u.held.neighbours u.held.codes u.used)

            left : together 64 64 ≡ party_returned word g u name st
            left =
                ap₂ together (sym count) (sym count-there)
                ∙ merged-own own (in_party word g) eo (place_at st (4 * g + place)) u count
                ∙ ap (λ q. merged (in_party word g) (place_at st (4 * g + q)) u) p

        pub head-inside : 3 * (4 * g + place) < length st.heads
        head-inside = omega (arith, l, low, long.heads)

        pub forget-done : Call (party_forget_call word g u name st (set st.heads (3 * (4 * g + place)) 0)) 0
        forget-done = done _ (z ∙ decides (shared_lines word g u st) refl e z (later (ap not there) none)) z
            (ap (λ q. set st.heads (3 * (4 * g + q)) 0) p, tt)
