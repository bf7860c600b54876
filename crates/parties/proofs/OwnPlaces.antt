-- The four places of a party in a store of eight, after a place of the eight is written: a place of the party is
-- written there, and a place of the other party leaves them.
use mathlib.Core.List.{◌++◌, List, append_assoc}
use mathlib.Core.Logic.{inl, inr}
use mathlib.Core.Path.{ap, ap₂, subst, sym, ◌∙◌, ◌≡◌}
use Prim.Native.Nat.{◌*◌, ◌+◌, ◌<◌, ◌≤◌, ℕ}
use native.Mathlib.Omega.{arith}
use lib.ListN.{drop, get_or, length, length-set, take, take-append-drop}
use lib.Seq.{drop-append-le, drop_at, drop-drop, length-take-le, take-add, take-append-le, take_at}
use Rattle.store.proofs.PlacedParts.{part-front, placed-long}
use Rattle.store.specs.Kept.{placed_at, with_place}
use Rattle.store.specs.Places.{Store, count_at, part_at, place_at}
use Rattle.operations.specs.Used.{UsedRecord}
use Rattle.parties.proofs.OwnHeads.{headed-other, headed-own, own-head, part-long, side}
use Rattle.parties.specs.PartyStores.{own_places}

-- ---- 64 numbers of a place
-- a place past the first 4 g, in the part that begins there
placed_past : (g p : ℕ) (new old : List ℕ)
    → placed_at (4 * g + p) new old ≡ take (256 * g) old ++ placed_at p new (drop (256 * g) old)
placed_past g p new old =
    ap₂ (λ a b. a ++ (new ++ b))
    (ap (λ k. take k old) before ∙ take-add (256 * g) (64 * p) old)
    (ap (λ k. drop k old) (behind (length new)) ∙ sym (drop-drop (64 * p + length new) (256 * g) old))
    ∙ append_assoc (take (256 * g) old) (take (64 * p) (drop (256 * g) old)) _
  where
    before : 64 * (4 * g + p) ≡ 256 * g + 64 * p
    before = omega arith

    behind : (m : ℕ) → 64 * (4 * g + p) + m ≡ 256 * g + (64 * p + m)
    behind m = omega arith

-- a place in the front part
placed-front : (p : ℕ) (new front back : List ℕ) → 64 * p + length new ≤ length front
    → placed_at p new (front ++ back) ≡ placed_at p new front ++ back
placed-front p new front back l =
    ap₂ (λ a b. a ++ (new ++ b)) (take-append-le (64 * p) front back (few (length new) l))
    (drop-append-le (64 * p + length new) front back l)
    ∙ ap (λ b. take (64 * p) front ++ b) (sym (append_assoc new (drop (64 * p + length new) front) back))
    ∙ sym (append_assoc (take (64 * p) front) (new ++ drop (64 * p + length new) front) back)
  where
    few : (m : ℕ) → 64 * p + m ≤ length front → 64 * p ≤ length front
    few m h = omega (arith, h)

module _ (g p : ℕ) (new old : List ℕ) (lp : p < 4) (full : length new ≡ 64) (l : 256 * g + 256 ≤ length old) where
  fits : (k : ℕ) → 64 * p + 64 ≤ k → 64 * p + length new ≤ k
  fits k h = subst (λ m. 64 * p + m ≤ k) (sym full) h

  few : length new ≤ 64
  few = subst (λ m. m ≤ 64) (sym full) (omega arith)

  abbrev own_part : List ℕ → List ℕ
  own_part b = take 256 (drop (256 * g) b)

  abbrev rest : List ℕ
  rest = drop (256 * g) old

  placed-own-part : own_part (placed_at (4 * g + p) new old) ≡ placed_at p new (own_part old)
  placed-own-part =
      ap own_part (placed_past g p new old)
      ∙ ap (take 256) (drop_at (take (256 * g) old) (placed_at p new rest) (256 * g)
      (length-take-le (256 * g) old (omega (arith, l))))
      ∙ ap (λ b. take 256 (placed_at p new b)) (sym (take-append-drop 256 rest))
      ∙ ap (take 256) (placed-front p new (take 256 rest) (drop 256 rest) (fits _ (omega (arith, lp, long))))
      ∙ take_at (placed_at p new (take 256 rest)) (drop 256 rest) 256
      (placed-long p new (take 256 rest) few (omega (arith, lp, long)) ∙ long)
    where
      long : length (take 256 rest) ≡ 256
      long = part-long (256 * g) 256 old l

  placed-other-part : (h : ℕ) → (h ≡ g → ⊥) → 256 * h ≤ length old
      → take 256 (drop (256 * h) (placed_at (4 * g + p) new old)) ≡ take 256 (drop (256 * h) old)
  placed-other-part h ne there = elim (side h g ne) [ inl k ↦ later k | inr k ↦ earlier k ]
    where
      later : h < g → take 256 (drop (256 * h) (placed_at (4 * g + p) new old)) ≡ take 256 (drop (256 * h) old)
      later k =
          ap (λ b. take 256 (drop (256 * h) b)) (placed_past g p new old)
          ∙ part-front (256 * h) 256 (take (256 * g) old) (placed_at p new (drop (256 * g) old)) room
          ∙ sym (part-front (256 * h) 256 (take (256 * g) old) (drop (256 * g) old) room)
          ∙ ap (λ b. take 256 (drop (256 * h) b)) (take-append-drop (256 * g) old)
        where
          room : 256 * h + 256 ≤ length (take (256 * g) old)
          room = omega (arith, k, length-take-le (256 * g) old (omega (arith, l)))

      earlier : g < h → take 256 (drop (256 * h) (placed_at (4 * g + p) new old)) ≡ take 256 (drop (256 * h) old)
      earlier k = ap (take 256)
          (ap (λ b. drop (256 * h) (placed_at (4 * g + p) new b)) (sym (take-append-drop (256 * h) old))
          ∙ ap (drop (256 * h)) (placed-front (4 * g + p) new (take (256 * h) old) (drop (256 * h) old)
          (subst (λ m. 64 * (4 * g + p) + m ≤ length (take (256 * h) old)) (sym full) room))
          ∙ drop_at (placed_at (4 * g + p) new (take (256 * h) old)) (drop (256 * h) old) (256 * h)
          (placed-long (4 * g + p) new (take (256 * h) old) few room ∙ long))
        where
          long : length (take (256 * h) old) ≡ 256 * h
          long = length-take-le (256 * h) old there

          room : 64 * (4 * g + p) + 64 ≤ length (take (256 * h) old)
          room = omega (arith, k, lp, long)

-- ---- stores of eight places
-- its buffers have their lengths
pub record EightLong (st : Store) : Type 0 where
  pub heads : length st.heads ≡ 24
  pub words : length st.neighbours ≡ 512
  pub codes : length st.codes ≡ 512

module _ (g p : ℕ) (u : UsedRecord) (name : ℕ) (st : Store) (lg : g < 2) (lp : p < 4)
    (words-full : length u.held.neighbours ≡ 64) (codes-full : length u.held.codes ≡ 64)
    (L : EightLong st) where
  words-room : 256 * g + 256 ≤ length st.neighbours
  words-room = omega (arith, lg, L.words)

  codes-room : 256 * g + 256 ≤ length st.codes
  codes-room = omega (arith, lg, L.codes)

  -- a record put at a place of the party
  pub placed-own-places : own_places g (with_place (4 * g + p) u name st) ≡ with_place p u name (own_places g st)
  placed-own-places = λ j. record {
    heads = headed-own g p u.held.n name u.used st.heads lg lp j;
    neighbours = placed-own-part g p u.held.neighbours st.neighbours lp words-full words-room j;
    codes = placed-own-part g p u.held.codes st.codes lp codes-full codes-room j;
  }

  -- and at one of the other
  pub placed-other-places : (h : ℕ) → h < 2 → (h ≡ g → ⊥) → own_places h (with_place (4 * g + p) u name st)
      ≡ own_places h st
  placed-other-places h lh ne = λ j. record {
    heads = headed-other g p u.held.n name u.used st.heads lg lp h ne j;
    neighbours = placed-other-part g p u.held.neighbours st.neighbours lp words-full words-room h ne
        (omega (arith, lh, L.words)) j;
    codes = placed-other-part g p u.held.codes st.codes lp codes-full codes-room h ne
        (omega (arith, lh, L.codes)) j;
  }

  pub placed-eight-long : EightLong (with_place (4 * g + p) u name st)
  placed-eight-long =
      record {
        heads = simp length-set L.heads;
        words = placed-long (4 * g + p) u.held.neighbours st.neighbours
            (subst (λ m. m ≤ 64) (sym words-full) (omega arith)) (omega (arith, lg, lp, L.words)) ∙ L.words;
        codes = placed-long (4 * g + p) u.held.codes st.codes
            (subst (λ m. m ≤ 64) (sym codes-full) (omega arith)) (omega (arith, lg, lp, L.codes)) ∙ L.codes;
      }

-- ---- what a place of a party holds, read among the four or among the eight
module _ (g p : ℕ) (st : Store) (lg : g < 2) (lp : p < 4) (L : EightLong st) where
  head_at : (i j : ℕ) → i ≡ 12 * g + j → j < 12 → get_or st.heads i 0 ≡ get_or (own_places g st).heads j 0
  head_at i j e l = ap (λ k. get_or st.heads k 0) e ∙ sym (own-head g st.heads j lg l)

  part-at : (n : ℕ) → n ≤ 64 → (buffer : List ℕ) → length buffer ≡ 512
      → part_at (4 * g + p) n buffer ≡ part_at p n (take 256 (drop (256 * g) buffer))
  part-at n few buffer long =
      ap (λ k. take n (drop k buffer)) there ∙ ap (take n) (sym (drop-drop (64 * p) (256 * g) buffer))
      ∙ ap (λ b. take n (drop (64 * p) b)) (sym (take-append-drop 256 (drop (256 * g) buffer)))
      ∙ part-front (64 * p) n (take 256 (drop (256 * g) buffer)) (drop 256 (drop (256 * g) buffer))
      (omega (arith, lp, few, part-long (256 * g) 256 buffer (omega (arith, lg, long))))
    where
      there : 64 * (4 * g + p) ≡ 256 * g + 64 * p
      there = omega arith

  pub count-own : count_at st.heads (4 * g + p) ≡ count_at (own_places g st).heads p
  count-own = head_at (3 * (4 * g + p)) (3 * p) (omega arith) (omega (arith, lp))

  pub place-own : count_at (own_places g st).heads p ≤ 64 → place_at st (4 * g + p) ≡ place_at (own_places g st) p
  place-own few = λ j. record {
    held = record {
      n = count-own j;
      neighbours = (ap (λ n. part_at (4 * g + p) n st.neighbours) count-own ∙ part-at _ few st.neighbours
          L.words) j;
      codes = (ap (λ n. part_at (4 * g + p) n st.codes) count-own ∙ part-at _ few st.codes L.codes) j;
    };
    used = head_at (3 * (4 * g + p) + 2) (3 * p + 2) (omega arith) (omega (arith, lp)) j;
  }
