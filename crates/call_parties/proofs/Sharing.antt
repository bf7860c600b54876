-- The lines that a party's save, return and forget share, from what the functions below answer.
use mathlib.Core.Bool.{Bool, cond, false, not, or-true, true, ◌||◌}
use mathlib.Core.List.{List, [], ◌∷◌}
use mathlib.Core.Path.{◌∙◌, ◌≡◌, ap, ap₂, refl, sym}
use Prim.Native.Nat.{◌^◌, ℕ}
use lib.Dec.{eqb, eqb→eq, leb, ltb}
use lib.ListN.{length}
use borrow.Author.Tests.{eq-eqb, ne_eqb}
use Rattle.buffers.specs.Refusals.{Refusal, first_fitting, line, with_test}
use Rattle.buffers.proofs.Fitting.{decides, first-is, stays}
use Rattle.buffers.specs.Answers.{FirstFits, here, later, none}
use Rattle.buffers.proofs.EarlierNumbers.{earlier-none}
use Rattle.buffers.specs.internal.Earlier.{earlier_of}
use Rattle.parties.specs.PartyLines.{with_party}
use Rattle.parties.specs.PartyStores.{own_lines, shared_lines}
use Rattle.parties.specs.Masks.{crosses, in_party}
use Rattle.store.proofs.ManyRecords.{earlier-of-two, five, told-by-number}
use Rattle.store.proofs.PassingStores.{held-record}
use Rattle.store.proofs.StoreNumbers.{record-number}
use Rattle.store.specs.Places.{Store}
use Rattle.store.specs.StoreLines.{holds_line, of_record, record_tests}
use Rattle.operations.specs.Used.{UsedRecord, used_lines}
use Rattle.operations_checks.proofs.UsedNumbers.{no-further}
use Rattle.words.proofs.Finite.{Law, Of, law}

-- ---- line 6 of the party, joined into the lines
abbrev joined : Of 6 ℕ
joined a b c d e t = first_fitting (with_test 2 false (with_test 6 t (five a b c d e)))

abbrev apart : Of 6 ℕ
apart a b c d e t = earlier_of (first_fitting (five a b c d e)) (cond t 6 0)

six-joined : Law ℕ 6 joined apart
unfolding first_fitting
six-joined = law eqb eqb→eq 6 joined apart tt

module _ (word g : ℕ) (u : UsedRecord) (st : Store) where
  abbrev own_ones : List Refusal
  own_ones = own_lines (in_party word g) g st

  -- line m of the record or of the store
  abbrev test : ℕ → Bool
  test m = of_record u m || holds_line m own_ones

  abbrev early_ones : List Refusal
  early_ones = with_party g u.held.n (record_tests test)

  -- the record and the store together
  both-numbers : first_fitting (record_tests test)
      ≡ earlier_of (first_fitting (used_lines u false false false)) (first_fitting own_ones)
  both-numbers = earlier-of-two (of_record u) (λ m. holds_line m own_ones)
      ∙ ap₂ earlier_of (record-number u) (told-by-number _ _ _ _ _)

  pub both-number : (own held r : ℕ) → own ≡ first_fitting (used_lines u false (leb (2 ^ u.held.n) 0) false)
      → held ≡ first_fitting own_ones → r ≡ earlier_of own held → r ≡ first_fitting (record_tests test)
  both-number own held r e f h = h ∙ ap₂ earlier_of (no-further u false false e) f ∙ sym both-numbers

  -- another n than 64
  pub shared-2 : (u.held.n ≡ 64 → ⊥) → 2 ≡ first_fitting (shared_lines word g u st)
  shared-2 h = first-is
      (here (ap (λ b. (test 2 || false) || not b) (ne_eqb u.held.n 64 h) ∙ or-true (test 2 || false)))

  module _ (count : u.held.n ≡ 64) (both six r : ℕ) (e : both ≡ first_fitting (record_tests test))
      (f : six ≡ cond (ltb 1 g) 6 0) (h : r ≡ earlier_of both six) where
    early-number : r ≡ first_fitting early_ones
    early-number =
        h ∙ ap₂ earlier_of e f ∙ sym (six-joined (test 2) (test 4) (test 5) (test 6) (test 7) (ltb 1 g))
        ∙ ap (λ b. first_fitting (with_test 2 (not b) (with_test 6 (ltb 1 g) (record_tests test))))
        (sym (eq-eqb u.held.n 64 count))

    pub shared-early : (r ≡ 0 → ⊥) → r ≡ first_fitting (shared_lines word g u st)
    shared-early k = stays early_ones _ early-number k

    module _ (z : r ≡ 0) where
      -- the record passes, and has a neighbour word for each qubit
      pub words-fit : length u.held.neighbours ≡ 64
      words-fit = (held-record u (earlier-none _ _ (sym both-numbers ∙ sym e ∙ (earlier-none both six (sym h ∙ z)).0)).0
          ).neighbours-length ∙ count

      pub shared_last : (b : Bool) → b ≡ crosses word u → cond b 19 0 ≡ first_fitting (shared_lines word g u st)
      shared_last b c = decides early_ones refl early-number z (last b c)
        where
          last : (b : Bool) → b ≡ crosses word u → FirstFits (line 19 (crosses word u) ∷ []) (cond b 19 0)
          last true c = here (sym c)
          last false c = later (sym c) none
