-- A party's call that no line refuses: n is 64, the party is 0 or 1, the parties are apart, the call names no qubit of
-- the other party, and the call on the whole record is not refused either.
use mathlib.Core.Bool.{Bool, false, not, true, ◌||◌}
use mathlib.Core.List.{List}
use mathlib.Core.Path.{ap, refl, subst, ◌∙◌, ◌≡◌}
use Prim.Native.Nat.{ℕ}
use lib.Dec.{eqb, lit<, ltb}
use borrow.Author.Tests.{eqb-true, not-false}
use Rattle.buffers.proofs.AddedLines.{before-none, before-passes}
use Rattle.buffers.proofs.AddedLines.{has_number, test_has, test-numbered, test-passes, without-test}
use Rattle.buffers.proofs.Lines.{Numbered}
use Rattle.buffers.specs.Refusals.{Refusal, first_fitting, inserted_before, line, with_test}
use Rattle.operations.specs.Steps.{Operation, complement_of, cz_on, gate_with, lines_of, measurement_of, pivot_of}
use Rattle.record.proofs.AcceptedRecords.{accepted-passes}
use Rattle.record.specs.Lent.{LentRecord, record_lines}
use Rattle.operations.proofs.AcceptedSteps.{accepted-step}
use Rattle.operations.proofs.UsedPassing.{lines-pass, used-passes}
use Rattle.operations.specs.Used.{UsedRecord, used_lines, used_lines_of}
use Rattle.words.proofs.Flags.{neither}
use Rattle.parties.specs.PartyLines.{party_lines, names_other, with_party}
use Rattle.parties.specs.Masks.{crosses, in_party}
use Rattle.parties.specs.internal.Apart.{Apart}

-- the lines of an operation: 2, 6 and 8 are among them, and no number is 0
record Lined (lines : List Refusal) : Type 0 where
  numbered : Numbered lines
  two : has_number 2 lines ≡ true
  six : has_number 6 lines ≡ true
  eight : has_number 8 lines ≡ true

lined : (u : UsedRecord) (o : Operation) → Lined (used_lines_of u o)
lined u (gate_with q k) =
    record {
      numbered = (lit< tt, (lit< tt, (lit< tt, (lit< tt, (lit< tt, (lit< tt, (lit< tt, tt)))))));
      two = refl;
      six = refl;
      eight = refl;
    }
lined u (cz_on a b) =
    record {
      numbered = (lit< tt, (lit< tt, (lit< tt, (lit< tt, (lit< tt, (lit< tt, (lit< tt, tt)))))));
      two = refl;
      six = refl;
      eight = refl;
    }
lined u (measurement_of pauli q b) =
    record {
      numbered = (lit< tt, (lit< tt, (lit< tt, (lit< tt, (lit< tt, (lit< tt, (lit< tt, (lit< tt, tt))))))));
      two = refl;
      six = refl;
      eight = refl;
    }
lined u (complement_of a) =
    record {
      numbered = (lit< tt, (lit< tt, (lit< tt, (lit< tt, (lit< tt, (lit< tt, (lit< tt, tt)))))));
      two = refl;
      six = refl;
      eight = refl;
    }
lined u (pivot_of j k) =
    record {
      numbered = (lit< tt, (lit< tt, (lit< tt, (lit< tt, (lit< tt, (lit< tt, (lit< tt, tt)))))));
      two = refl;
      six = refl;
      eight = refl;
    }

-- the record of an accepted call passes
held-passes : (l : LentRecord) (o : Operation) → first_fitting (lines_of l o) ≡ 0
    → first_fitting (record_lines l false false) ≡ 0
held-passes l o e = accepted-passes l (accepted-step l o e)

pub record-unrefused : (u : UsedRecord) (o : Operation) → first_fitting (used_lines_of u o) ≡ 0
    → first_fitting (used_lines u false false false) ≡ 0
record-unrefused u o e =
    let P = (used-passes u o).0 e in
    (lines-pass u false false false).1
    (held-passes u.held o P.as_before, ap (λ b. b || false) P.no_stray, P.none-wrong)

module _ (word g : ℕ) (u : UsedRecord) (o : Operation) where
  -- 19: an edge between the parties, or a qubit of the other party
  abbrev nineteen : Bool
  nineteen = crosses word u || names_other (in_party word g) u.held.n o

  -- with n 64, the party 0 or 1 and no such edge or qubit, the number is that of the call on the whole record
  pub party-number : eqb u.held.n 64 ≡ true → ltb 1 g ≡ false
      → (crosses word u || names_other (in_party word g) u.held.n o) ≡ false
      → first_fitting (party_lines word g u o) ≡ first_fitting (used_lines_of u o)
  party-number n64 low no-19 =
      (λ i. first_fitting (inserted_before 8 (line 19 (no-19 i))
      (with_test 2 (not (n64 i)) (with_test 6 (low i) (used_lines_of u o)))))
      ∙ before-none 8 19 (with_test 2 false (with_test 6 false (used_lines_of u o)))
      ∙ without-test 2 (with_test 6 false (used_lines_of u o)) ∙ without-test 6 (used_lines_of u o)

  pub record PartyPasses : Type 0 where
    pub count : u.held.n ≡ 64
    pub party : ltb 1 g ≡ false
    pub no-crossing : crosses word u ≡ false
    pub own : names_other (in_party word g) 64 o ≡ false
    pub lines : first_fitting (used_lines_of u o) ≡ 0

  pub party-passes : first_fitting (party_lines word g u o) ≡ 0 → PartyPasses
  party-passes e =
      let L = lined u o in
      let N6 = test-numbered 6 (ltb 1 g) (used_lines_of u o) L.numbered in
      let h19 = (before-passes 8 18 nineteen (with_party g u.held.n (used_lines_of u o))
      (test-numbered 2 (not (eqb u.held.n 64)) (with_test 6 (ltb 1 g) (used_lines_of u o)) N6)
      (test_has 8 2 (not (eqb u.held.n 64)) (with_test 6 (ltb 1 g) (used_lines_of u o))
      ∙ test_has 8 6 (ltb 1 g) (used_lines_of u o) ∙ L.eight)).0 e in
      let h2 = (test-passes 2 (not (eqb u.held.n 64)) (with_test 6 (ltb 1 g) (used_lines_of u o)) N6
      (test_has 2 6 (ltb 1 g) (used_lines_of u o) ∙ L.two)).0 h19.0 in
      let h6 = (test-passes 6 (ltb 1 g) (used_lines_of u o) L.numbered L.six).0 h2.0 in
      let parts = neither (crosses word u) (names_other (in_party word g) u.held.n o) h19.1 in
      let n64 = eqb-true u.held.n 64 (not-false (eqb u.held.n 64) h2.1) in
      record {
        count = n64;
        party = h6.1;
        no-crossing = parts.0;
        own = subst (λ m. names_other (in_party word g) m o ≡ false) n64 parts.1;
        lines = h6.0;
      }

  -- the parties are apart
  pub party-accepted : first_fitting (party_lines word g u o) ≡ 0 → Apart word u
  party-accepted e =
      let P = party-passes e in
      record { count = P.count; passes = record-unrefused u o P.lines; no-crossing = P.no-crossing }
