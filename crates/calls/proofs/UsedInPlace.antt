-- The lines of the calls on a record lent in place: their number from the answers of the tests in their order, and what
-- it means that none of them holds.
use mathlib.Core.Bool.{Bool, false, not, or-false, true, true≢false, ◌||◌}
use mathlib.Core.List.{List, [], ◌∷◌}
use mathlib.Core.Path.{ap, refl, sym, ◌∙◌, ◌≡◌}
use Prim.Native.Nat.{ℕ}
use native.Mathlib.Decide.{ℕ_discrete}
use lib.Dec.{eqb, leb, lit<}
use borrow.Author.Tests.{not-false}
use Rattle.buffers.proofs.Lines.{none-of-all}
use Rattle.buffers.specs.Refusals.{Refusal, first_fitting, line, with_test}
use Rattle.buffers.proofs.Fitting.{decides, stays}
use Rattle.buffers.specs.Answers.{here, later, none}
use Rattle.operations.specs.Steps.{in_place_lines, pivot_of}
use Rattle.record.specs.Lent.{held_record, record_lines}
use Rattle.operations.proofs.UsedPassing.{in-place-counted, used-passes, with-used-passes}
use Rattle.operations.proofs.UsedRefusing.{edge-unused}
use Rattle.operations.specs.Used.{UsedRecord, used_lines, used_lines_of, used_stray, used_wrong}
use Rattle.calls.proofs.InPlaceLines.{edge-passes, held-accepted, pair_lines}
use Rattle.calls.specs.internal.InPlace.{used_in_place}

-- a flag with two tests of other lines
pub plain : {h t : Bool} → h ≡ t → ((h || false) || false) ≡ ((t || false) || false)
plain e = ap (λ b. (b || false) || false) e

module _ (u : UsedRecord) (six : Bool) where
  -- the lines of the record
  abbrev held : List Refusal
  held = with_test 7 (used_wrong u) (with_test 5 (used_stray u) (record_lines u.held false six))

  module _ {k : ℕ} (e : k ≡ first_fitting (used_lines u false false six)) where
    number : k ≡ first_fitting held
    number = e ∙ ap (λ b. first_fitting (with_test 7 (used_wrong u) (with_test 5 b (record_lines u.held false six))))
        (or-false (used_stray u))

    module _ (eight sixteen : Bool) where
      -- a number of the record stays
      pub record-refused : (k ≡ 0 → ⊥) → k ≡ first_fitting (used_in_place u six eight sixteen)
      record-refused h = stays held _ number h

      -- then 8, then 16
      module _ (z : k ≡ 0) where
        pub then-8 : eight ≡ true → 8 ≡ first_fitting (used_in_place u six eight sixteen)
        then-8 h = decides held refl number z (here (plain h))

        pub then-16 : eight ≡ false → sixteen ≡ true → 16 ≡ first_fitting (used_in_place u six eight sixteen)
        then-16 h t = decides held refl number z (later (plain h) (here t))

        pub then-0 : eight ≡ false → sixteen ≡ false → 0 ≡ first_fitting (used_in_place u six eight sixteen)
        then-0 h t = decides held refl number z (later (plain h) (later t none))

-- none holds: none held without the used word
pub in-place-before : (u : UsedRecord) (six eight sixteen : Bool) → first_fitting (used_in_place u six eight sixteen) ≡ 0
    → first_fitting (in_place_lines u.held six eight) ≡ 0
in-place-before u six eight sixteen e =
    ((with-used-passes u (in_place_lines u.held six eight) (in-place-counted u.held six eight) sixteen).0 e).0

-- the test for line 16
pub named-as : (u : UsedRecord) (six eight : Bool) {k : ℕ} {b named : Bool}
    → k ≡ first_fitting (used_in_place u six eight b) → b ≡ named → k ≡ first_fitting (used_in_place u six eight named)
named-as u six eight e f = e ∙ ap (λ b. first_fitting (used_in_place u six eight b)) f

-- ---- a pivot: its pair is tested, then its edge; an edge has no used end
module _ (u : UsedRecord) (j k : ℕ) where
  abbrev pair : Bool
  pair = leb u.held.n j || (leb u.held.n k || eqb j k)

  module _ {r : ℕ} (e : r ≡ first_fitting (used_in_place u false pair false)) where
    -- what refuses the pair refuses the pivot
    pub pair-refused : (r ≡ 0 → ⊥) → r ≡ first_fitting (used_lines_of u (pivot_of j k))
    pair-refused h = go (ℕ_discrete (first_fitting (held u false)) 0) pair refl
      where
        more : (a b c d : Bool) → (a || (b || c)) ≡ true → (a || (b || (c || d))) ≡ true
        more true b c d e = refl
        more false true c d e = refl
        more false false true d e = refl
        more false false false d e = absurd (true≢false (sym e))

        go : Dec (first_fitting (held u false) ≡ 0) → (t : Bool) → pair ≡ t
            → r ≡ first_fitting (used_lines_of u (pivot_of j k))
        go (no d) t f = e ∙ sym (stays (held u false) _ refl d) ∙ stays (held u false) _ refl d
        go (yes z) false f = absurd (h (e ∙ sym (decides (held u false) refl refl z
            (later (plain f) (later refl none)))))
        go (yes z) true f = e ∙ sym (decides (held u false) refl refl z (here (plain f)))
            ∙ decides (held u false) refl refl z
            (here (plain (more (leb u.held.n j) (leb u.held.n k) (eqb j k) _ f)))

    module _ (z : r ≡ 0) where
      pub pair-before : first_fitting (pair_lines u.held j k) ≡ 0
      pair-before = in-place-before u false pair false (sym e ∙ z)

      module _ (edge : Bool) (f : edge ≡ (held_record u.held).graph j k) where
        pub no-edge-refuses : not edge ≡ true → 8 ≡ first_fitting (used_lines_of u (pivot_of j k))
        no-edge-refuses t = decides (held u false) refl refl record-passes
            (here (plain (last (leb u.held.n j) (leb u.held.n k) (eqb j k) _ (ap not (sym f) ∙ t))))
          where
            record-passes : first_fitting (held u false) ≡ 0
            record-passes = (none-of-all (held u false) (line 8 ((pair || false) || false) ∷ line 16 false ∷ [])
                (lit< tt, (lit< tt, (lit< tt, (lit< tt, (lit< tt, tt))))) (sym e ∙ z)).0

            last : (a b c d : Bool) → d ≡ true → (a || (b || (c || d))) ≡ true
            last true b c d e = refl
            last false true c d e = refl
            last false false true d e = refl
            last false false false d e = e

        pub edge-accepts : not edge ≡ false → 0 ≡ first_fitting (used_lines_of u (pivot_of j k))
        edge-accepts t =
            let P = (with-used-passes u (pair_lines u.held j k) (in-place-counted u.held false pair) false).0
            (sym e ∙ z) in
            let there : (held_record u.held).graph j k ≡ true = sym f ∙ not-false edge t in
            sym ((used-passes u (pivot_of j k)).1 (record {
              as_before = edge-passes u.held j k P.0 there;
              no_stray = P.1;
              none-wrong = P.2;
              none_named = edge-unused u (held-accepted u.held false pair P.0) P.1 P.2 j k there;
            }))
