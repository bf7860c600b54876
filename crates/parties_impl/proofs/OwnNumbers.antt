-- The number of a party's places, from that of a store of four places and the tests beside it.
use mathlib.Core.Bool.{◌&&◌, Bool, cond, false, not, or-true, true, true≢false, ◌||◌}
use mathlib.Core.List.{List, []}
use mathlib.Core.Path.{◌∙◌, ◌≡◌, ap, ap₂, refl, sym}
use Prim.Native.Nat.{◌*◌, ◌+◌, ◌-◌, ◌<◌, ◌≤◌, ℕ}
use native.Mathlib.Omega.{arith}
use lib.Dec.{eqb, eqb→eq, ltb}
use lib.ListN.{drop, drop_of_length-le, length, take}
use lib.Seq.{take-nil}
use borrow.Author.Tests.{eqb-true, ne_eqb}
use Rattle.buffers.specs.Refusals.{Refusal, first_fitting, with_test}
use Rattle.buffers.proofs.Fitting.{first-is}
use Rattle.buffers.specs.Answers.{here, later}
use Rattle.parties.proofs.OwnHeads.{no-heads, own-heads-of, part-long}
use Rattle.parties.proofs.SharedLines.{eight-long, own-long}
use Rattle.parties.specs.PartyStores.{held_out, other_count, own_lines, own_places}
use Rattle.parties.specs.Masks.{in_party, reaches_out}
use Rattle.store.proofs.ManyRecords.{five}
use Rattle.store.proofs.StoreNumbers.{large_is}
use Rattle.store.specs.Places.{Store, count_at, is_held, named_twice}
use Rattle.store.specs.StoreLines.{of_held, record_tests, store_lengths, store_lines}
use Rattle.store_impl.proofs.Parts.{from_place}
use Rattle.words.proofs.Finite.{Law, Of, law}
use Rattle.words.proofs.SearchLaws.{some-false, some-none}
use Rattle.words.specs.Bits.{Word, bit, word_of}
use Rattle.words.specs.Search.{some}
use Rattle.parties_impl.proofs.HeldStates.{out-own}
use Rattle.parties_impl.specs.internal.PlacesNumber.{places_number}

-- ---- tests joined into the lines
abbrev joined : Of 7 ℕ
joined a b c d e t h = first_fitting (with_test 7 (t || h) (with_test 4 false (with_test 2 false (five a b c d e))))

abbrev stepwise : Of 7 ℕ
stepwise a b c d e t h =
    cond (eqb (first_fitting (with_test 7 t (with_test 4 false (five a b c d e)))) 0) (cond h 7 0)
    (first_fitting (with_test 7 t (with_test 4 false (five a b c d e))))

last-joined : Law ℕ 7 joined stepwise
unfolding first_fitting
last-joined = law eqb eqb→eq 7 joined stepwise tt

-- the lines of a party with these places, in a store whose buffers have other lengths or not
abbrev lines_of : Word → Store → Bool → List Refusal
lines_of s own b =
    with_test 7 (named_twice 4 own.heads || held_out s own)
    (with_test 4 b (with_test 2 (other_count own) (record_tests (of_held 4 own))))

none-held : (s : Word) → first_fitting (lines_of s (record { heads = []; neighbours = []; codes = [] }) false) ≡ 0
unfolding first_fitting some
none-held s = refl

-- a party above 1 has no place
pub none-counted : (g : ℕ) (heads : List ℕ) → 1 < g
    → false ≡ other_count (own_places g (record { heads = heads; neighbours = []; codes = [] }))
unfolding some
none-counted g heads l = sym (ap (λ h. other_count (record { heads = h; neighbours = []; codes = [] }))
    (no-heads g heads l))

module _ (s : Word) (g : ℕ) (st : Store) where
  abbrev own : Store
  own = own_places g st

  pub own-2 : other_count own ≡ true → 2 ≡ first_fitting (own_lines s g st)
  own-2 h = first-is (here (ap (λ b. ((of_held 4 own 2 || b) || false) || false) h
      ∙ ap (λ b. (b || false) || false) (or-true (of_held 4 own 2))))

  module _ (few : other_count own ≡ false) where
    -- an n that is 0 or 64 is not above 64
    small : (n : ℕ) → (not (eqb n 0) && not (eqb n 64)) ≡ false → ltb 64 n ≡ false
    small n = go (eqb n 0) (eqb n 64) refl refl
      where
        go : (a b : Bool) → eqb n 0 ≡ a → eqb n 64 ≡ b → (not a && not b) ≡ false → ltb 64 n ≡ false
        go true b e f h = ap (ltb 64) (eqb-true n 0 e)
        go false true e f h = ap (ltb 64) (eqb-true n 64 f)
        go false false e f h = absurd (true≢false h)

    no-2 : of_held 4 own 2 ≡ false
    no-2 = large_is 4 own ∙ some-none 4 _ (λ i l. small (count_at own.heads i)
        (some-false 4 (λ j. is_held own.heads j && not (eqb (count_at own.heads j) 64)) few i l))

    pub own-4 : store_lengths 8 st ≡ true → 4 ≡ first_fitting (own_lines s g st)
    own-4 h = first-is (later (ap₂ (λ a b. ((a || b) || false) || false) no-2 few)
        (here (ap (λ b. ((of_held 4 own 4 || false) || b) || false) h
        ∙ ap (λ b. b || false) (or-true (of_held 4 own 4 || false)))))

    module _ (fit : store_lengths 8 st ≡ false) where
      pub own-none : 1 < g → 0 ≡ first_fitting (own_lines s g st)
      own-none l = let L = eight-long st fit in
          sym (ap₂ (λ o b. first_fitting (lines_of s o b)) (λ j. record {
            heads = no-heads g st.heads l j;
            neighbours = empty 256 st.neighbours (omega (arith, l, L.words)) j;
            codes = empty 256 st.codes (omega (arith, l, L.codes)) j;
          }) fit ∙ none-held s)
        where
          empty : (k : ℕ) (buffer : List ℕ) → length buffer ≤ k * g → take k (drop (k * g) buffer) ≡ []
          empty k buffer h = ap (take k) (drop_of_length-le buffer h) ∙ take-nil k

      module _ (l : g < 2) where
        -- the four places decide, then the neighbours outside s
        pub own-decided : first_fitting (own_lines s g st) ≡ places_number s own
        own-decided =
            ap₂ (λ a b. first_fitting (with_test 7 (named_twice 4 own.heads || held_out s own)
            (with_test 4 a (with_test 2 b (record_tests (of_held 4 own)))))) fit few
            ∙ last-joined (of_held 4 own 2) (of_held 4 own 4) (of_held 4 own 5) (of_held 4 own 6) (of_held 4 own 7)
            (named_twice 4 own.heads) (held_out s own)
            ∙ sym (ap (λ b. cond (eqb (number b) 0) (cond (held_out s own) 7 0) (number b))
            (ap (λ b. b || false) (own-long g st l (eight-long st fit))))
          where
            number : Bool → ℕ
            number b = first_fitting (with_test 7 (named_twice 4 own.heads)
                (with_test 4 b (record_tests (of_held 4 own))))

-- ---- the steps of the check of four places
module _ (s : Word) (own : Store) (number : ℕ) (e : number ≡ first_fitting (store_lines 4 own false)) where
  pub places-early : (number ≡ 0 → ⊥) → number ≡ places_number s own
  places-early h = sym (ap (λ k. cond (eqb k 0) (cond (held_out s own) 7 0) k) (sym e)
      ∙ ap (λ b. cond b (cond (held_out s own) 7 0) number) (ne_eqb number 0 h))

  pub places-last : number ≡ 0 → {b : Bool} → b ≡ held_out s own → cond b 7 0 ≡ places_number s own
  places-last z f = sym (ap (λ k. cond (eqb k 0) (cond (held_out s own) 7 0) k) (sym e ∙ z)
      ∙ ap (λ b. cond b 7 0) (sym f))

-- codes have no part in what reaches out
pub codes-unread : (s : Word) (heads nb cs : List ℕ)
    → held_out s (record { heads = heads; neighbours = nb; codes = [] })
    ≡ held_out s (record { heads = heads; neighbours = nb; codes = cs })
unfolding reaches_out
codes-unread s heads nb cs = refl

-- ---- the parts of the buffers that a party has
pub own-cut : (g : ℕ) (st : Store) → store_lengths 8 st ≡ false → own_places g st ≡ record {
  heads = take (12 * g + 12 - 12 * g) (drop (12 * g) st.heads);
  neighbours = take (256 * g + 256 - 256 * g) (drop (256 * g) st.neighbours);
  codes = take (256 * g + 256 - 256 * g) (drop (256 * g) st.codes);
}
own-cut g st fit = λ j. record {
  heads = (own-heads-of g st.heads (eight-long st fit).heads ∙ sym (from_place (12 * g) 12 st.heads)) j;
  neighbours = sym (from_place (256 * g) 256 st.neighbours) j;
  codes = sym (from_place (256 * g) 256 st.codes) j;
}

module _ (g : ℕ) (st : Store) (fit : store_lengths 8 st ≡ false) (l : g ≤ 1) where
  pub parts-inside : (12 * g + 12 ≤ length st.heads) × (256 * g + 256 ≤ length st.neighbours)
      × (256 * g + 256 ≤ length st.codes)
  parts-inside = let L = eight-long st fit in
      (omega (arith, l, L.heads), omega (arith, l, L.words), omega (arith, l, L.codes))

module _ (g : ℕ) (st : Store) (few : other_count (own_places g st) ≡ false) (fit : store_lengths 8 st ≡ false)
    (l : g ≤ 1) where
  -- what is asked of the parts
  pub places-fit : (other_count (record {
    heads = take (12 * g + 12 - 12 * g) (drop (12 * g) st.heads);
    neighbours = take (256 * g + 256 - 256 * g) (drop (256 * g) st.neighbours);
    codes = [];
  }) ≡ false) × (length (take (256 * g + 256 - 256 * g) (drop (256 * g) st.neighbours)) ≡ 256)
  places-fit = (
    ap other_count (sym (own-cut g st fit)) ∙ few,
    ap length (from_place (256 * g) 256 st.neighbours)
        ∙ part-long (256 * g) 256 st.neighbours (parts-inside g st fit l).1,
  )

module _ (word g : ℕ) (st : Store) (few : other_count (own_places g st) ≡ false) (fit : store_lengths 8 st ≡ false)
    (l : g ≤ 1) where
  pub own-answer : (own : ℕ) → own ≡ word_of 64 (in_party word g) → (r : ℕ) → r ≡ places_number (bit own) (record {
    heads = take (12 * g + 12 - 12 * g) (drop (12 * g) st.heads);
    neighbours = take (256 * g + 256 - 256 * g) (drop (256 * g) st.neighbours);
    codes = take (256 * g + 256 - 256 * g) (drop (256 * g) st.codes);
  }) → r ≡ first_fitting (own_lines (in_party word g) g st)
  own-answer own eo r e =
      e ∙ ap (places_number (bit own)) (sym (own-cut g st fit))
      ∙ ap (λ b. cond (eqb (first_fitting (store_lines 4 (own_places g st) false)) 0) (cond b 7 0)
      (first_fitting (store_lines 4 (own_places g st) false))) (out-own (own_places g st) few own (in_party word g) eo)
      ∙ sym (own-decided (in_party word g) g st few fit (omega (arith, l)))
