-- A party's observation has the lines of a gate at its qubit, and accepted it is the party's measurement with the
-- outcome that it answers.
use mathlib.Core.Bool.{Bool, cond, false, not, true, ◌||◌}
use mathlib.Core.List.{List}
use mathlib.Core.Path.{ap, refl, sym, ◌∙◌, ◌≡◌}
use Prim.Native.Nat.{ℕ}
use lib.Dec.{eqb, leb, ltb}
use borrow.Author.Tests.{eq-eqb, eqb-false, leb-false}
use Rattle.buffers.proofs.AddedLines.{before-none, without-test}
use Rattle.buffers.specs.Refusals.{Refusal, first_fitting, inserted_before, line, with_test}
use Rattle.buffers.proofs.Fitting.{none-holds}
use Rattle.parties.proofs.PartyNumbers.{answered-alike}
use Rattle.parties.proofs.PartyPassing.{party-passes}
use Rattle.parties.specs.PartyLines.{party_lines, outsider}
use Rattle.parties.specs.Masks.{crosses, in_party, masked}
use Rattle.parties.specs.internal.Apart.{Apart}
use Rattle.operations.specs.Steps.{Operation, argument_lines, gate_with, in_place_lines, measured_answer, measurement_of}
use Rattle.record.specs.Lent.{record_codes}
use Rattle.source.proofs.Observed.{answered, observed-accepted}
use Rattle.operations.proofs.UsedPassing.{in-place-counted, with-used-passes}
use Rattle.operations.specs.Used.{UsedRecord, used_arguments_of, with_used}
use Rattle.words.proofs.Flags.{neither}
use Rattle.words.specs.Bits.{bit}
use Rattle.source.specs.PartySources.{party_lines_at, party_observe_lines}

-- with n 64, the party 0 or 1 and no edge or qubit of the other, the number is that of the lines on the whole record
pub lines-number : (word g : ℕ) (u : UsedRecord) (q : ℕ) (lines : List Refusal) → u.held.n ≡ 64 → ltb 1 g ≡ false
    → crosses word u ≡ false → outsider (in_party word g) 64 q ≡ false
    → first_fitting (party_lines_at word g u q lines) ≡ first_fitting lines
lines-number word g u q lines n64 low none own =
    (λ i. first_fitting (inserted_before 8 (line 19 (none i || (ap (λ m. outsider (in_party word g) m q) n64 ∙ own) i))
    (with_test 2 (not (eq-eqb u.held.n 64 n64 i)) (with_test 6 (low i) lines))))
    ∙ before-none 8 19 (with_test 2 false (with_test 6 false lines))
    ∙ without-test 2 (with_test 6 false lines) ∙ without-test 6 lines

module _ (pauli b : ℕ) where
  -- line 6 of an observation, and a code that has it exactly then
  abbrev pub observed_six : Bool
  observed_six = leb 2 b || (eqb pauli 0 || leb 4 pauli)

  abbrev pub like_code : ℕ
  like_code = cond observed_six 24 0

  pub like-six : observed_six ≡ leb 24 like_code
  like-six = go observed_six
    where
      go : (s : Bool) → s ≡ leb 24 (cond s 24 0)
      go true = refl
      go false = refl

module _ (word g : ℕ) (u : UsedRecord) (pauli q b : ℕ) where
  abbrev pub like : Operation
  like = gate_with q (like_code pauli b)

  -- the lines are those of a gate
  pub like-a-gate : party_observe_lines word g u pauli q b ≡ party_lines word g u like
  like-a-gate = ap (λ s. party_lines_at word g u q (with_used u (bit u.used q)
      (in_place_lines u.held s (leb u.held.n q))))
      (like-six pauli b)

  pub record ObservedPasses : Type 0 where
    pub count : u.held.n ≡ 64
    pub party : ltb 1 g ≡ false
    pub no-crossing : crosses word u ≡ false
    pub own : outsider (in_party word g) 64 q ≡ false
    pub lines : first_fitting (used_arguments_of u (measurement_of pauli q b)) ≡ 0

  module _ (z : first_fitting (party_observe_lines word g u pauli q b) ≡ 0) where
    pub observed-passes-party : ObservedPasses
    observed-passes-party =
        let P = party-passes word g u like (sym (ap first_fitting like-a-gate) ∙ z) in
        record {
          count = P.count;
          party = P.party;
          no-crossing = P.no-crossing;
          own = P.own;
          lines = sym (lines-number word g u q (used_arguments_of u (measurement_of pauli q b)) P.count P.party
              P.no-crossing P.own) ∙ z;
        }

    -- accepted, so is the measurement with the outcome
    pub party-observed : first_fitting (party_lines word g u (measurement_of pauli q (answered u pauli q b))) ≡ 0
    party-observed =
        let P = observed-passes-party in
        lines-number word g u q _ P.count P.party P.no-crossing P.own
        ∙ observed-accepted u pauli q b P.lines

    -- the answer is that of the party's vertices alone
    pub observed-alone : Apart word u
        → measured_answer u.held pauli q b ≡ measured_answer (masked (in_party word g) u).held pauli q b
    observed-alone H =
        let P = observed-passes-party in
        let W = (with-used-passes u (argument_lines u.held pauli q b) (in-place-counted u.held _ _)
        (bit u.used q)).0
        P.lines in
        let h = none-holds (argument_lines u.held pauli q b) refl W.0 in
        let six = (neither (record_codes u.held) _ h.1.1.1.0).1 in
        answered-alike word g u H pauli q P.own (leb-false u.held.n q h.1.1.1.1.1.0)
        (eqb-false pauli 0 (neither (eqb pauli 0) _ (neither (leb 2 b) _ six).1).0) b
