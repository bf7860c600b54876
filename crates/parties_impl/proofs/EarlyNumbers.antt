-- The lines of a party's call before 8: their number from the tests in their order, and what it means that none holds.
use mathlib.Core.Bool.{Bool, false, not, or-false, or-true, true, ◌||◌}
use mathlib.Core.List.{◌++◌, List, [], ◌∷◌}
use mathlib.Core.Path.{ap, refl, subst, sym, ◌∙◌, ◌≡◌}
use Prim.Native.Nat.{ℕ}
use lib.Dec.{eqb, ltb}
use lib.ListN.{length}
use borrow.Author.Tests.{eq-eqb, eqb-true, ne_eqb, not-false}
use Rattle.buffers.proofs.AddedLines.{without-test}
use Rattle.buffers.specs.Refusals.{Refusal, bad_count, first_fitting, line, with_test}
use Rattle.buffers.proofs.Fitting.{decides, first-is, none-fits-of, none-holds, stays}
use Rattle.buffers.specs.Answers.{here, later, none}
use Rattle.parties.specs.PartyLines.{party_lines, names_other, with_party}
use Rattle.parties.specs.Masks.{crosses, in_party}
use Rattle.parties.specs.internal.Apart.{PartyOp, complement-op, cz-op, gate-op, measure-op}
use Rattle.parties_impl.proofs.OwnWords.{crosses-reads}
use Rattle.operations.specs.Steps.{Operation}
use Rattle.record.proofs.AcceptedRecords.{accepted-record}
use Rattle.record.specs.Lent.{held_record, not_simple, record_codes, record_lengths, record_lines, record_stray}
use Rattle.operations.proofs.UsedPassing.{lines-pass}
use Rattle.operations.specs.Used.{used_lines, UsedRecord, used_record, used_stray, used_wrong}
use Rattle.words.proofs.Finite.{bits}
use Rattle.words.proofs.Flags.{neither}
use Rattle.parties_impl.specs.internal.BeforeEight.{Admitted, before_eight, six_of}

-- a further test of line 6 is one of its arguments
six-joined : (u : UsedRecord) (six t : Bool)
    → first_fitting (used_lines u false false (six || t)) ≡ first_fitting (with_test 6 t (used_lines u false false six))
six-joined u six t = λ i. first_fitting (
    line 2 (more ((bad_count u.held.n || false) || false) i)
    ∷ line 4 (more (((record_lengths u.held || false) || false) || false) i)
    ∷ line 5 (more ((record_stray u.held || (used_stray u || false)) || false) i)
    ∷ line 6 (joined (record_codes u.held) six t i)
    ∷ line 7 (more ((not_simple u.held.n (held_record u.held).graph || false) || used_wrong u) i) ∷ [])
  where
    more : (b : Bool) → b ≡ (b || false)
    more b = sym (or-false b)

    joined : (a b c : Bool) → (((a || (b || c)) || false) || false) ≡ ((((a || b) || false) || false) || c)
    joined = bits 3 (λ a b c. ((a || (b || c)) || false) || false) (λ a b c. (((a || b) || false) || false) || c) tt

module _ (word g : ℕ) (u : UsedRecord) (six other : Bool) where
  -- the lines of the record
  abbrev held : List Refusal
  held = with_party g u.held.n (used_lines u false false six)

  -- "another n gives 2"
  pub other-count : (u.held.n ≡ 64 → ⊥) → 2 ≡ first_fitting (before_eight word g u six other)
  other-count h = first-is (here (ap (λ b. (((bad_count u.held.n || false) || false) || false) || not b)
      (ne_eqb u.held.n 64 h) ∙ or-true (((bad_count u.held.n || false) || false) || false)))

  module _ (n64 : u.held.n ≡ 64) {k : ℕ} (e : k ≡ first_fitting (used_lines u false false (six || ltb 1 g))) where
    number : k ≡ first_fitting held
    number = e ∙ six-joined u six (ltb 1 g)
        ∙ sym (without-test 2 (with_test 6 (ltb 1 g) (used_lines u false false six)))
        ∙ ap (λ b. first_fitting (with_test 2 (not b) (with_test 6 (ltb 1 g) (used_lines u false false six))))
        (sym (eq-eqb u.held.n 64 n64))

    pub record-refused : (k ≡ 0 → ⊥) → k ≡ first_fitting (before_eight word g u six other)
    record-refused h = stays held _ number h

    module _ (z : k ≡ 0) where
      pub of-64 : length u.held.neighbours ≡ 64
      of-64 = (accepted-record u.held false (six || ltb 1 g)
          ((lines-pass u false false (six || ltb 1 g)).0 (sym e ∙ z)).0).neighbours-length ∙ n64

      module _ {crossing : Bool} (f : crossing ≡ crosses word (used_record 64 u.held.neighbours [] 0)) where
        nineteen : {t : Bool} → (crossing || other) ≡ t → (crosses word u || other) ≡ t
        nineteen h = ap (λ b. b || other) (sym (f ∙ crosses-reads _ u (sym n64) refl word)) ∙ h

        pub then-19 : (crossing || other) ≡ true → 19 ≡ first_fitting (before_eight word g u six other)
        then-19 h = decides held refl number z (here (nineteen h))

        pub then-none : (crossing || other) ≡ false → 0 ≡ first_fitting (before_eight word g u six other)
        then-none h = decides held refl number z (later (nineteen h) none)

-- ---- what it means for an operation
-- the lines before 8 as they stand among those of the operation
abbrev up_to19 : ℕ → ℕ → UsedRecord → Operation → Bool → List Refusal
up_to19 word g u o stray =
    with_party g u.held.n (with_test 7 (used_wrong u) (with_test 5 stray (record_lines u.held false (six_of o))))
    ++ (line 19 (crosses word u || names_other (in_party word g) u.held.n o) ∷ [])

module _ (word g : ℕ) (u : UsedRecord) {k : ℕ} where
  -- a number of these lines stays
  pub early-refused : (o : Operation) → PartyOp o
      → k ≡ first_fitting (before_eight word g u (six_of o) (names_other (in_party word g) u.held.n o)) → (k ≡ 0 → ⊥)
      → k ≡ first_fitting (party_lines word g u o)
  early-refused o O e h = go o O (e ∙ ap (λ b. first_fitting (up_to19 word g u o b)) (or-false (used_stray u)))
    where
      go : (o : Operation) → PartyOp o → k ≡ first_fitting (up_to19 word g u o (used_stray u))
          → k ≡ first_fitting (party_lines word g u o)
      go o (gate-op q c) e = stays (up_to19 word g u o (used_stray u)) _ e h
      go o (cz-op a b) e = stays (up_to19 word g u o (used_stray u)) _ e h
      go o (measure-op pauli q b) e = stays (up_to19 word g u o (used_stray u)) _ e h
      go o (complement-op a) e = stays (up_to19 word g u o (used_stray u)) _ e h

  module _ (o : Operation)
      (e : k ≡ first_fitting (before_eight word g u (six_of o) (names_other (in_party word g) u.held.n o))) where
    pub early-admitted : k ≡ 0 → Admitted word g u o
    early-admitted z =
        let h = none-holds (before_eight word g u (six_of o) (names_other (in_party word g) u.held.n o)) refl
        (sym e ∙ z) in
        let h2 = neither _ _ h.0 in
        let h6 = neither _ _ (neither _ _ h.1.1.1.0).0 in
        let codes = (neither (record_codes u.held) (six_of o) (neither _ _ (neither _ _ h6.0).0).0).0 in
        let h19 = neither (crosses word u) (names_other (in_party word g) u.held.n o) h.1.1.1.1.1.0 in
        let n64 = eqb-true u.held.n 64 (not-false (eqb u.held.n 64) h2.1) in
        record {
          apart = record {
            count = n64;
            passes = none-fits-of (used_lines u false false false) (
              (neither _ _ h2.0).0,
              (
                (neither _ _ (neither _ _ h.1.0).0).0,
                (
                  (neither _ _ (neither _ _ h.1.1.0).0).0,
                  (
                    ap (λ b. ((b || false) || false) || false) codes,
                    ((neither _ _ (neither _ _ h.1.1.1.1.0).0).0, tt),
                  ),
                ),
              ),
            );
            no-crossing = h19.0;
          };
          low = h6.1;
          own = subst (λ m. names_other (in_party word g) m o ≡ false) n64 h19.1;
        }

-- the test for a qubit of the other party
pub other-as : (word g : ℕ) (u : UsedRecord) (six : Bool) {k : ℕ} {b other : Bool}
    → k ≡ first_fitting (before_eight word g u six b) → b ≡ other → k ≡ first_fitting (before_eight word g u six other)
other-as word g u six e f = e ∙ ap (λ b. first_fitting (before_eight word g u six b)) f
