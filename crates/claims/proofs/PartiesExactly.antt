-- The lines of a party's calls, exactly: what it means that none of them holds.
use mathlib.Core.Bool.{◌&&◌, Bool, false, not, true, ◌||◌}
use mathlib.Core.List.{◌++◌, List, [], ◌∷◌}
use mathlib.Core.Logic.{◌↔◌}
use mathlib.Core.Path.{◌≡◌, ◌∙◌, ap, ap₂, refl, subst, sym}
use Prim.Native.Nat.{◌*◌, ◌<◌, suc, ℕ}
use native.Mathlib.Omega.{arith}
use lib.Dec.{eqb, lit<, ltb}
use borrow.Author.Tests.{eq-eqb, eqb-true, le-ltb, lt-ltb, ltb-false, not-false}
use Rattle.buffers.proofs.AddedLines.{test-numbered, test-passes}
use Rattle.buffers.proofs.Lines.{Numbered}
use Rattle.buffers.specs.Refusals.{Refusal, first_fitting, line, with_test}
use Rattle.buffers.proofs.EarlierNumbers.{earlier-none}
use Rattle.buffers.specs.internal.Earlier.{earlier_of}
use Rattle.parties.proofs.Edges.{crosses-not, none-crosses, none-reaches-out, reaches-out-not}
use Rattle.parties.proofs.PartyPassing.{party-number, party-passes}
use Rattle.parties.proofs.OwnHeads.{own-heads-long, part-long}
use Rattle.parties.proofs.OwnPlaces.{EightLong}
use Rattle.parties.proofs.SharedLines.{eight-fit, eight-long, own-long}
use Rattle.parties.specs.PartyLines.{party_lines, names_other, outsider, with_party}
use Rattle.parties.specs.PartyStores.{held_out, other_count, own_lines, own_places, shared_lines}
use Rattle.parties.specs.Masks.{crosses, in_party, reaches_out}
use Rattle.operations.specs.Steps.{Operation}
use Rattle.store.proofs.ManyRecords.{earlier-of-two, told-by-number}
use Rattle.store.proofs.Names.{names-once, once-names}
use Rattle.store.proofs.PassingStores.{store-accepted, store-passes}
use Rattle.store.proofs.StoreNumbers.{record-number}
use Rattle.store.specs.Places.{Store, count_at, is_held, named_twice, place_at}
use Rattle.store.specs.StoreLines.{holds_line, of_held, of_record, record_tests, store_lengths, store_lines}
use Rattle.store.specs.internal.Passing.{Passing}
use Rattle.operations.specs.Used.{UsedRecord, used_lines, used_lines_of}
use Rattle.words.proofs.Flags.{neither}
use Rattle.words.proofs.SearchLaws.{some-false, some-none}
use Rattle.words.specs.Bits.{Word}
use Rattle.words.specs.Search.{some}
use Rattle.claims.proofs.LinesExactly.{last-exactly, more-exactly}
use Rattle.claims.proofs.families.Stores.{is-record}
use Rattle.claims.specs.families.Parties.{OwnStates, SharedFits, TwoParties}

-- ---- the parties
module _ (word g : ℕ) (u : UsedRecord) where
  pub parties-of : u.held.n ≡ 64 → ltb 1 g ≡ false → crosses word u ≡ false → TwoParties word g u
  parties-of n64 low e =
      record {
        count = n64;
        party = let l = ltb-false 1 g low in omega (arith, l);
        apart = λ j k hj hk t. crosses-not word u e j k (subst (λ n. j < n) (sym n64) hj)
            (subst (λ n. k < n) (sym n64) hk) t;
      }

  pub of-parties : TwoParties word g u → (ltb 1 g ≡ false) × (crosses word u ≡ false)
  of-parties T = (
    le-ltb 1 g (let l = T.party in omega (arith, l)),
    none-crosses word u (λ j k hj hk t.
        T.apart j k (subst (λ n. j < n) T.count hj) (subst (λ n. k < n) T.count hk) t),
  )

-- ---- gate, cz, measure, complement
pub party-exactly : (word g : ℕ) (u : UsedRecord) (o : Operation) → (first_fitting (party_lines word g u o) ≡ 0)
    ↔ (TwoParties word g u × (names_other (in_party word g) 64 o ≡ false) × (first_fitting (used_lines_of u o) ≡ 0))
party-exactly word g u o = (
  (λ e. let P = party-passes word g u o e in
      (parties-of word g u P.count P.party P.no-crossing, P.own, P.lines)),
  (λ h. let T = h.0 in let p = of-parties word g u T in
      party-number word g u o (eq-eqb u.held.n 64 T.count) p.0
      (ap₂ ◌||◌ p.1 (ap (λ m. names_other (in_party word g) m o) T.count ∙ h.1)) ∙ h.2),
)

-- a qubit of the record is no outsider exactly if it is the party's
pub own-exactly : (s : Word) (q : ℕ) → q < 64 → (outsider s 64 q ≡ false) ↔ (s q ≡ true)
own-exactly s q l = (
  (λ e. not-false (s q) (sym (ap (λ b. b && not (s q)) (lt-ltb q 64 l)) ∙ e)),
  (λ e. ap₂ (λ a b. a && not b) (lt-ltb q 64 l) e),
)

-- ---- the party's four places
five-numbered : (test : ℕ → Bool) → Numbered (record_tests test)
five-numbered test = (lit< tt, (lit< tt, (lit< tt, (lit< tt, (lit< tt, tt)))))

module _ (word g : ℕ) (st : Store) where
  abbrev own : Store
  own = own_places g st

  abbrev tests : List Refusal
  tests = record_tests (of_held 4 own)

  -- its lines, one test after the other
  own-tests : (first_fitting (own_lines (in_party word g) g st) ≡ 0) ↔
      (((first_fitting tests ≡ 0) × (other_count own ≡ false))
      × (store_lengths 8 st ≡ false) × ((named_twice 4 own.heads || held_out (in_party word g) own) ≡ false))
  own-tests = (
    (λ e. let h7 = seven.0 e in let h4 = four.0 h7.0 in (two.0 h4.0, h4.1, h7.1)),
    (λ h. seven.1 (four.1 (two.1 h.0, h.1), h.2)),
  )
    where
      N2 : Numbered (with_test 2 (other_count own) tests)
      N2 = test-numbered 2 (other_count own) tests (five-numbered (of_held 4 own))

      N4 : Numbered (with_test 4 (store_lengths 8 st) (with_test 2 (other_count own) tests))
      N4 = test-numbered 4 (store_lengths 8 st) (with_test 2 (other_count own) tests) N2

      two : (first_fitting (with_test 2 (other_count own) tests) ≡ 0) ↔
          ((first_fitting tests ≡ 0) × (other_count own ≡ false))
      two = test-passes 2 (other_count own) tests (five-numbered (of_held 4 own)) refl

      four : (first_fitting (with_test 4 (store_lengths 8 st) (with_test 2 (other_count own) tests)) ≡ 0)
          ↔ ((first_fitting (with_test 2 (other_count own) tests) ≡ 0) × (store_lengths 8 st ≡ false))
      four = test-passes 4 (store_lengths 8 st) (with_test 2 (other_count own) tests) N2 refl

      seven : (first_fitting (own_lines (in_party word g) g st) ≡ 0)
          ↔ ((first_fitting (with_test 4 (store_lengths 8 st) (with_test 2 (other_count own) tests)) ≡ 0)
          × ((named_twice 4 own.heads || held_out (in_party word g) own) ≡ false))
      seven = test-passes 7 (named_twice 4 own.heads || held_out (in_party word g) own)
          (with_test 4 (store_lengths 8 st) (with_test 2 (other_count own) tests)) N4 refl

  -- those of a store of four places
  four-tests : store_lengths 4 own ≡ false → (first_fitting (store_lines 4 own false) ≡ 0)
      ↔ ((first_fitting tests ≡ 0) × (named_twice 4 own.heads ≡ false))
  four-tests fit = (
    (λ e. let h7 = seven.0 e in ((four.0 h7.0).0, h7.1)),
    (λ h. seven.1 (four.1 (h.0, ap (λ b. b || false) fit), h.1)),
  )
    where
      four : (first_fitting (with_test 4 (store_lengths 4 own || false) tests) ≡ 0)
          ↔ ((first_fitting tests ≡ 0) × ((store_lengths 4 own || false) ≡ false))
      four = test-passes 4 (store_lengths 4 own || false) tests (five-numbered (of_held 4 own)) refl

      seven : (first_fitting (store_lines 4 own false) ≡ 0)
          ↔ ((first_fitting (with_test 4 (store_lengths 4 own || false) tests) ≡ 0) × (named_twice 4 own.heads ≡ false))
      seven = test-passes 7 (named_twice 4 own.heads) (with_test 4 (store_lengths 4 own || false) tests)
          (test-numbered 4 (store_lengths 4 own || false) tests (five-numbered (of_held 4 own))) refl

  -- a search over the held states
  held_none : (f : ℕ → Bool) → (some 4 (λ i. is_held own.heads i && f i) ≡ false)
      ↔ ((i : ℕ) → i < 4 → is_held own.heads i ≡ true → f i ≡ false)
  held_none f = (
    (λ e i l h. sym (ap (λ b. b && f i) h) ∙ some-false 4 (λ i. is_held own.heads i && f i) e i l),
    (λ h. some-none 4 _ (λ i l. go i l (is_held own.heads i) refl h)),
  )
    where
      go : (i : ℕ) → i < 4 → (b : Bool) → is_held own.heads i ≡ b
          → ((i : ℕ) → i < 4 → is_held own.heads i ≡ true → f i ≡ false) → (b && f i) ≡ false
      go i l true e h = h i l e
      go i l false e h = refl

  pub own-exactly-fits : g < 2 → (first_fitting (own_lines (in_party word g) g st) ≡ 0) ↔ OwnStates word g st
  own-exactly-fits low = (there, back)
    where
      there : first_fitting (own_lines (in_party word g) g st) ≡ 0 → OwnStates word g st
      there e =
          let h = own-tests.0 e in
          let L = eight-long st h.1 in
          let t = neither (named_twice 4 own.heads) (held_out (in_party word g) own) h.2 in
          let P = store-accepted 4 own false ((four-tests (own-long g st low L)).1 (h.0.0, t.0)) in
          let counts = (held_none (λ i. not (eqb (count_at own.heads i) 64))).0 h.0.1 in
          let out = (held_none (λ i. reaches_out (in_party word g) (place_at own i))).0 t.1 in
          let n64 : (i : ℕ) → i < 4 → is_held own.heads i ≡ true → count_at own.heads i ≡ 64 =
          λ i l m. eqb-true (count_at own.heads i) 64 (not-false (eqb (count_at own.heads i) 64) (counts i l m)) in
          record {
            heads = L.heads;
            neighbours = L.words;
            codes = L.codes;
            records = λ i l m. (is-record (place_at own i)).0 (P.records i l m);
            counts = n64;
            inside = λ i l m j k hj hk b. reaches-out-not (in_party word g) (place_at own i) (out i l m) j k
                (subst (λ n. j < n) (sym (n64 i l m)) hj) (subst (λ n. k < n) (sym (n64 i l m)) hk) b;
            once = names-once 4 own.heads t.0;
          }

      back : OwnStates word g st → first_fitting (own_lines (in_party word g) g st) ≡ 0
      back O =
          let L : EightLong st = record { heads = O.heads; words = O.neighbours; codes = O.codes } in
          let fit = own-long g st low L in
          let twice = once-names 4 own.heads O.once in
          own-tests.1 (
            (
              ((four-tests fit).0 (store-passes 4 own (passing L twice))).0,
              (held_none (λ i. not (eqb (count_at own.heads i) 64))).1
                  (λ i l m. ap not (eq-eqb (count_at own.heads i) 64 (O.counts i l m))),
            ),
            eight-fit st L,
            ap₂ ◌||◌ twice ((held_none (λ i. reaches_out (in_party word g) (place_at own i))).1
                (λ i l m. none-reaches-out (in_party word g) (place_at own i) (λ j k hj hk b. O.inside i l m j k
                (subst (λ n. j < n) (O.counts i l m) hj) (subst (λ n. k < n) (O.counts i l m) hk) b))),
          )
        where
          passing : EightLong st → named_twice 4 own.heads ≡ false → Passing 4 own
          passing L twice =
              record {
                heads-long = own-heads-long g st.heads low L.heads;
                words_long = part-long (256 * g) 256 st.neighbours (omega (arith, low, L.words));
                codes-long = part-long (256 * g) 256 st.codes (omega (arith, low, L.codes));
                records = λ i l m. (is-record (place_at own i)).1 (O.records i l m);
                once = twice;
              }

-- ---- save, return, forget: their shared lines, then one more
module _ (word g : ℕ) (u : UsedRecord) (st : Store) where
  abbrev either : ℕ → Bool
  either m = of_record u m || holds_line m (own_lines (in_party word g) g st)

  abbrev both : List Refusal
  both = record_tests either

  both-number : first_fitting both
      ≡ earlier_of (first_fitting (used_lines u false false false)) (first_fitting (own_lines (in_party word g) g st))
  both-number = earlier-of-two (of_record u) (λ m. holds_line m (own_lines (in_party word g) g st))
      ∙ ap₂ earlier_of (record-number u) (told-by-number _ _ _ _ _)

  party-tests : (first_fitting (with_party g u.held.n both) ≡ 0)
      ↔ (((first_fitting both ≡ 0) × (ltb 1 g ≡ false)) × (not (eqb u.held.n 64) ≡ false))
  party-tests = (
    (λ e. let h2 = two.0 e in (six.0 h2.0, h2.1)),
    (λ h. two.1 (six.1 h.0, h.1)),
  )
    where
      six : (first_fitting (with_test 6 (ltb 1 g) both) ≡ 0) ↔ ((first_fitting both ≡ 0) × (ltb 1 g ≡ false))
      six = test-passes 6 (ltb 1 g) both (five-numbered either) refl

      two : (first_fitting (with_party g u.held.n both) ≡ 0)
          ↔ ((first_fitting (with_test 6 (ltb 1 g) both) ≡ 0) × (not (eqb u.held.n 64) ≡ false))
      two = test-passes 2 (not (eqb u.held.n 64)) (with_test 6 (ltb 1 g) both)
          (test-numbered 6 (ltb 1 g) both (five-numbered either)) refl

  shared-numbered : Numbered (shared_lines word g u st)
  shared-numbered = (lit< tt, (lit< tt, (lit< tt, (lit< tt, (lit< tt, (lit< tt, tt))))))

  shared-exactly : (first_fitting (shared_lines word g u st) ≡ 0) ↔ SharedFits word g u st
  shared-exactly = (
    (λ e. let p = (more-exactly (with_party g u.held.n both) _ (lit< tt, (lit< tt, (lit< tt, (lit< tt, (lit< tt, tt)))))).0 e in
        let t = party-tests.0 p.0 in
        let n64 = eqb-true u.held.n 64 (not-false _ t.1) in
        let T = parties-of word g u n64 t.0.1 ((last-exactly 18 (crosses word u)).0 p.1) in
        let b = earlier-none _ _ (sym both-number ∙ t.0.0) in
        record {
          held = (is-record u).0 b.0;
          parties = T;
          own = (own-exactly-fits word g st T.party).0 b.1;
        }),
    (λ F. let q = of-parties word g u F.parties in
        (more-exactly (with_party g u.held.n both) _ (lit< tt, (lit< tt, (lit< tt, (lit< tt, (lit< tt, tt)))))).1 (
          party-tests.1 (
            (
              both-number ∙ ap₂ earlier_of ((is-record u).1 F.held)
                  ((own-exactly-fits word g st F.parties.party).1 F.own),
              q.0,
            ),
            ap not (eq-eqb u.held.n 64 F.parties.count),
          ),
          (last-exactly 18 (crosses word u)).1 q.1,
        )),
  )

  -- with one line more
  pub with-last : (k : ℕ) (b : Bool) → (first_fitting (shared_lines word g u st ++ (line (suc k) b ∷ [])) ≡ 0)
      ↔ (SharedFits word g u st × (b ≡ false))
  with-last k b = (
    (λ e. let p = (more-exactly (shared_lines word g u st) _ shared-numbered).0 e in
        (shared-exactly.0 p.0, (last-exactly k b).0 p.1)),
    (λ h. (more-exactly (shared_lines word g u st) _ shared-numbered).1
        (shared-exactly.1 h.0, (last-exactly k b).1 h.1)),
  )
