-- The loop over the places of a store: the number of those that it has passed.
use mathlib.Core.Bool.{Bool, cond, false, not, ◌||◌}
use mathlib.Core.List.{List}
use mathlib.Core.Path.{◌∙◌, ◌≡◌, ap, ap₂, refl, sym}
use Prim.Native.Nat.{◌*◌, ◌+◌, ◌-◌, ◌<◌, ◌≤◌, zero-le, ℕ}
use native.Mathlib.Nat.{le_antisymm}
use native.Mathlib.Numerals.{add-one}
use native.Mathlib.Omega.{arith}
use lib.Dec.{eqb, ltb}
use lib.ListN.{drop, get_or, length, length-drop, take}
use lib.Seq.{length-take-le, take-take}
use borrow.Author.Tests.{ltb-false}
use Rattle.buffers.specs.Refusals.{first_fitting, other_than}
use Rattle.buffers.specs.internal.Earlier.{earlier_of, earliest_of}
use Rattle.stabilizer.proofs.SharedTests.{has-length}
use Rattle.store.specs.Places.{Store, count_at}
use Rattle.store.specs.StoreLines.{store_lengths}
use Rattle.store.specs.internal.StoreNumbers.{large_count, number_at}
use Rattle.operations.specs.Used.{used_lines, used_record}
use Rattle.words.proofs.Flags.{neither}
use Rattle.words.proofs.SearchLaws.{some-false}

-- no buffer of the store has a wrong length
pub lengths-fit : (k : ℕ) (st : Store) (others : Bool) → (store_lengths k st || others) ≡ false
    → (length st.neighbours ≡ 64 * k) × (length st.codes ≡ 64 * k)
lengths-fit k st others e =
    let h = (neither (other_than (3 * k) st.heads) _ (neither (store_lengths k st) others e).0).1 in
    let p = neither (other_than (64 * k) st.neighbours) (other_than (64 * k) st.codes) h in
    (has-length (64 * k) st.neighbours p.0, has-length (64 * k) st.codes p.1)

taken : (i : ℕ) → 64 * i + 64 - 64 * i ≡ 64
taken i = omega arith

-- the 64 numbers of place i
module _ (i k : ℕ) (buffer : List ℕ) (l : i < k) (long : length buffer ≡ 64 * k) where
  pub place_inside : 64 * i + 64 ≤ length buffer
  place_inside = omega (arith, long, l)

  pub place-long : length (take (64 * i + 64 - 64 * i) (drop (64 * i) buffer)) ≡ 64
  place-long = length-take-le (64 * i + 64 - 64 * i) (drop (64 * i) buffer)
      (simp length-drop (omega (arith, place_inside))) ∙ taken i

pub place-part : (i : ℕ) (buffer : List ℕ)
    → take (64 * i + 64 - 64 * i) (drop (64 * i) buffer) ≡ take 64 (drop (64 * i) buffer)
place-part i buffer = ap (λ m. take m (drop (64 * i) buffer)) (taken i)

-- the number of the first i places
pub record Passed (k : ℕ) (st : Store) (number i : ℕ) : Type 0 where
  pub upto : i ≤ k
  pub is : number ≡ earliest_of i (number_at st)

module _ (k : ℕ) (st : Store) where
  pub none_passed : Passed k st 0 0
  unfolding earliest_of
  none_passed = record { upto = zero-le; is = refl }

  -- an n that is not above 64
  pub place-small : large_count k st.heads ≡ false → (i n : ℕ) → i < k → n ≡ count_at st.heads i → n ≤ 64
  place-small e i n l f = ltb-false 64 n (ap (ltb 64) f ∙ some-false k (λ j. ltb 64 (count_at st.heads j)) e i l)

  module _ (number i : ℕ) (P : Passed k st number i) where
    -- one place more: its n and used word, and the 64 places that it has in the two buffers
    pub place-passed : (n used : ℕ) (nb cs : List ℕ) → i < k → n ≤ 64 → n ≡ count_at st.heads i
        → used ≡ get_or st.heads (3 * i + 2) 0
        → nb ≡ take 64 (drop (64 * i) st.neighbours) → cs ≡ take 64 (drop (64 * i) st.codes)
        → (here : ℕ) → here ≡ cond (not (eqb n 0)) (first_fitting
        (used_lines (used_record n (take n nb) (take n cs) used) false false false)) 0
        → (next : ℕ) → next ≡ earlier_of number here → Passed k st next (i + 1)
    unfolding earliest_of
    place-passed n used nb cs l small en eu enb ecs here eh next e =
        record {
          upto = omega arith;
          is = e ∙ ap₂ earlier_of P.is is_number ∙ ap (λ m. earliest_of m (number_at st)) (sym (add-one i));
        }
      where
        at : ℕ → ℕ → List ℕ → List ℕ → ℕ
        at m u ws bs = cond (not (eqb m 0)) (first_fitting (used_lines (used_record m ws bs u) false false false)) 0

        is_number : here ≡ number_at st i
        is_number =
            eh ∙ ap₂ (λ ws bs. at n used ws bs)
            (ap (take n) enb ∙ take-take n 64 (drop (64 * i) st.neighbours) small)
            (ap (take n) ecs ∙ take-take n 64 (drop (64 * i) st.codes) small)
            ∙ ap₂ (λ m u. at m u (take m (drop (64 * i) st.neighbours)) (take m (drop (64 * i) st.codes))) en eu

    pub all-passed : k ≤ i → number ≡ earliest_of k (number_at st)
    all-passed l = P.is ∙ ap (λ m. earliest_of m (number_at st)) (le_antisymm P.upto l)
