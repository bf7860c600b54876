-- The calls on a store that name a held state, from what the functions below them answer.
use mathlib.Core.Bool.{Bool, false, not, true, ◌||◌}
use mathlib.Core.List.{List}
use mathlib.Core.Path.{ap, ap₂, refl, subst, sym, ◌∙◌, ◌≡◌}
use Prim.Native.Nat.{◌*◌, ◌+◌, ◌<◌, ◌≤◌, ℕ}
use native.Mathlib.Omega.{arith}
use lib.ListN.{get_or, length, set}
use Rattle.buffers.specs.Buffers.{written}
use Rattle.buffers.specs.Refusals.{first_fitting, other_than}
use Rattle.buffers.proofs.Calling.{done, refused}
use Rattle.buffers.proofs.Fitting.{decides, stays}
use Rattle.buffers.specs.Answers.{here, later, none}
use Rattle.buffers.specs.Calls.{Call}
use Rattle.record.specs.Accepted.{AcceptedRecord}
use Rattle.stabilizer.proofs.SharedTests.{has-length}
use Rattle.store.proofs.PassingStores.{held-record, others-fit, store-accepted}
use Rattle.store.specs.Places.{Store, count_at, has_name, holds_name, is_held, part_at, place_at, place_of}
use Rattle.store.specs.StoreLines.{named_lines, store_lines}
use Rattle.store.specs.internal.Passing.{Passing}
use Rattle.words.proofs.Flags.{both_true, neither}
use Rattle.words.proofs.SearchLaws.{some-true}
use Rattle.words.proofs.Searching.{above-none, below-some}
use Rattle.calls.specs.Stores.{forget_call, return_call}

module _ (name : ℕ) (st : Store) (others : Bool) (k : ℕ) (e : k ≡ first_fitting (store_lines 8 st others)) where
  pub early-number : (k ≡ 0 → ⊥) → k ≡ first_fitting (named_lines 8 name st others)
  early-number h = stays (store_lines 8 st others) _ e h

  module _ (z : k ≡ 0) where
    pub store-passing : Passing 8 st
    store-passing = store-accepted 8 st others (sym e ∙ z)

    pub further-fit : others ≡ false
    further-fit = others-fit 8 st others (sym e ∙ z)

    module _ (place : ℕ) (p : place ≡ place_of 8 st.heads name) where
      pub not_there : 8 ≤ place → 17 ≡ first_fitting (named_lines 8 name st others)
      not_there l = decides (store_lines 8 st others) refl e z
          (here (ap not (above-none 8 (has_name st.heads name) (subst (λ q. 8 ≤ q) p l))))

      module _ (l : place < 8) where
        there : holds_name 8 st.heads name ≡ true
        there = below-some 8 (has_name st.heads name) (subst (λ q. q < 8) p l)

        pub named-passes : 0 ≡ first_fitting (named_lines 8 name st others)
        named-passes = decides (store_lines 8 st others) refl e z (later (ap not there) none)

        -- the record held there is in order
        pub place-passes : AcceptedRecord (place_at st place).held
        place-passes = subst (λ q. AcceptedRecord (place_at st q).held) (sym p)
            (held-record (place_at st (place_of 8 st.heads name))
            (store-passing.records _ (subst (λ q. q < 8) p l)
            (both_true (is_held st.heads (place_of 8 st.heads name)) _
            (some-true 8 (has_name st.heads name) there).passes).0))

-- ---- the calls
module _ (name : ℕ) (st : Store) (n : ℕ) (nb cs : List ℕ) (used k : ℕ)
    (e : k ≡ first_fitting (store_lines 8 st (other_than 64 nb || other_than 64 cs))) where
  pub return_refused : (k ≡ 0 → ⊥) → Call (return_call name st n nb cs used n nb cs used) k
  return_refused h = refused _ (early-number name st (other_than 64 nb || other_than 64 cs) k e h) h
      (refl, (refl, (refl, (refl, tt))))

  module _ (z : k ≡ 0) (place : ℕ) (p : place ≡ place_of 8 st.heads name) where
    pub return-not-held : 8 ≤ place → Call (return_call name st n nb cs used n nb cs used) 17
    return-not-held l = refused _ (not_there name st (other_than 64 nb || other_than 64 cs) k e z place p l)
        (λ x. absurd (omega (arith, x))) (refl, (refl, (refl, (refl, tt))))

    module _ (l : place < 8) (count : ℕ) (c : count ≡ count_at st.heads place) where
      fit : (length nb ≡ 64) × (length cs ≡ 64)
      fit =
          let h = neither (other_than 64 nb) (other_than 64 cs)
          (further-fit name st (other_than 64 nb || other_than 64 cs) k e z) in
          (has-length 64 nb h.0, has-length 64 cs h.1)

      small : count ≤ 64
      small = subst (λ m. m ≤ 64) (sym c)
          (place-passes name st (other_than 64 nb || other_than 64 cs) k e z place p l).upto

      pub take-fits : ((place < 8) × (count ≤ length nb) × (count ≤ length cs))
          × ((64 * place + count ≤ length st.neighbours) × (64 * place + count ≤ length st.codes))
      take-fits =
          let P = store-passing name st (other_than 64 nb || other_than 64 cs) k e z in (
            (l, omega (arith, small, fit.0), omega (arith, small, fit.1)),
            (omega (arith, l, small, P.words_long), omega (arith, l, small, P.codes-long)),
          )

      pub return-done : (nb' cs' : List ℕ) (used' : ℕ) → nb' ≡ written (part_at place count st.neighbours) nb
          → cs' ≡ written (part_at place count st.codes) cs → used' ≡ get_or st.heads (3 * place + 2) 0
          → Call (return_call name st n nb cs used count nb' cs' used') 0
      return-done nb' cs' used' en ec eu = done _
          (z ∙ named-passes name st (other_than 64 nb || other_than 64 cs) k e z place p l) z (
            c ∙ ap (count_at st.heads) p,
            (
              en ∙ ap₂ (λ m q. written (part_at q m st.neighbours) nb) (c ∙ ap (count_at st.heads) p) p,
              (
                ec ∙ ap₂ (λ m q. written (part_at q m st.codes) cs) (c ∙ ap (count_at st.heads) p) p,
                (eu ∙ ap (λ q. get_or st.heads (3 * q + 2) 0) p, tt),
              ),
            ),
          )

module _ (name : ℕ) (st : Store) (k : ℕ) (e : k ≡ first_fitting (store_lines 8 st false)) where
  pub forget-refused : (k ≡ 0 → ⊥) → Call (forget_call name st st.heads) k
  forget-refused h = refused _ (early-number name st false k e h) h (refl, tt)

  module _ (z : k ≡ 0) (place : ℕ) (p : place ≡ place_of 8 st.heads name) where
    pub forget-not-held : 8 ≤ place → Call (forget_call name st st.heads) 17
    forget-not-held l =
        refused _ (not_there name st false k e z place p l) (λ x. absurd (omega (arith, x))) (refl, tt)

    module _ (l : place < 8) where
      pub head-inside : 3 * place < length st.heads
      head-inside = omega (arith, l, (store-passing name st false k e z).heads-long)

      pub forget-done : Call (forget_call name st (set st.heads (3 * place) 0)) 0
      forget-done = done _ (z ∙ named-passes name st false k e z place p l) z
          (ap (λ q. set st.heads (3 * q) 0) p, tt)
