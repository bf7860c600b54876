-- The number of a party's call is that on the party's vertices alone, also where it names a qubit of the other party.
use mathlib.Core.Bool.{Bool, cond, false, not, or-true, true, ◌||◌}
use mathlib.Core.List.{◌++◌, List, [], ◌∷◌}
use mathlib.Core.Path.{ap, ap₂, refl, subst, sym, ◌∙◌, ◌≡◌}
use Prim.Native.Nat.{ℕ}
use lib.Dec.{eqb, leb, ltb}
use borrow.Author.Tests.{eq-eqb}
use Rattle.buffers.specs.Refusals.{Refusal, first_fitting, inserted_after, inserted_before, line, with_test}
use Rattle.buffers.proofs.Fitting.{none-holds}
use Rattle.operations.specs.Measurement.{contradicts, pauli_letter}
use Rattle.operations.specs.Steps.{Operation, complement_of, cz_on, gate_with, measurement_of, pivot_of}
use Rattle.record.specs.Lent.{held_rows, record_codes, record_lengths, record_lines}
use Rattle.operations.proofs.UsedPassing.{lines-pass}
use Rattle.operations.specs.Used.{UsedRecord, names_used, used_stray, with_used}
use Rattle.words.proofs.Flags.{neither}
use Rattle.words.specs.Bits.{is_odd}
use Rattle.parties.proofs.PartyNumbers.{masked-number}
use Rattle.parties.proofs.PartyPassing.{party-number}
use Rattle.parties.proofs.MaskedRecords.{masked-apart}
use Rattle.parties.specs.PartyLines.{party_lines, names_other, with_party}
use Rattle.parties.specs.Masks.{crosses, in_party, masked}
use Rattle.parties.specs.internal.Apart.{Apart, PartyOp, complement-op, cz-op, gate-op, measure-op}

-- 6: a code above 23, an outcome above 1, no Pauli
abbrev wrong_argument : Operation → Bool
wrong_argument (gate_with q k) = leb 24 k
wrong_argument (cz_on a b) = false
wrong_argument (measurement_of pauli q b) = leb 2 b || (eqb pauli 0 || leb 4 pauli)
wrong_argument (complement_of a) = false
wrong_argument (pivot_of j k) = false

-- a call that 19 refuses where 6 does not: 6 reads the arguments alone
module _ (word g : ℕ) (u : UsedRecord) (H : Apart word u) (low : ltb 1 g ≡ false) where
  refused-number : (six named eight nineteen : Bool) (rest : List Refusal) → nineteen ≡ true →
      first_fitting (inserted_before 8 (line 19 nineteen) (with_party g u.held.n
      (with_used u named (record_lines u.held false six ++ (line 8 eight ∷ rest))))) ≡ cond six 6 19
  unfolding first_fitting
  refused-number six named eight nineteen rest e =
      let P = (lines-pass u false false false).0 H.passes in
      let h = none-holds (record_lines u.held false false) refl P.0 in
      let lengths = (neither (record_lengths u.held) false h.1.0).0 in
      let codes = (neither (record_codes u.held) false h.1.1.1.0).0 in
      let stray = (neither (used_stray u) false P.1).0 in
      (λ i. first_fitting (inserted_before 8 (line 19 (e i)) (with_test 2 (not (eq-eqb u.held.n 64 H.count i))
      (with_test 6 (low i) (inserted_after 8 (line 16 named) (with_test 7 (P.2 i) (with_test 5 (stray i)
      (line 2 (h.0 i) ∷ line 4 (lengths i || false) ∷ line 5 (h.1.1.0 i) ∷ line 6 (codes i || six)
      ∷ line 7 (h.1.1.1.1.0 i) ∷ line 8 eight ∷ rest))))))))
      ∙ by-six six
    where
      by-six : (six : Bool) → first_fitting (inserted_before 8 (line 19 true) (with_test 2 false (with_test 6 false
          (inserted_after 8 (line 16 named) (with_test 7 false (with_test 5 false (line 2 false ∷ line 4 false
          ∷ line 5 false ∷ line 6 six ∷ line 7 false ∷ line 8 eight ∷ rest))))))) ≡ cond six 6 19
      by-six true = refl
      by-six false = refl

  abbrev nineteen : Operation → Bool
  nineteen o = crosses word u || names_other (in_party word g) u.held.n o

  there : (o : Operation) → names_other (in_party word g) u.held.n o ≡ true → nineteen o ≡ true
  there o e = ap (λ b. crosses word u || b) e ∙ or-true (crosses word u)

  -- 6 where the arguments have it, else 19
  names-other : (o : Operation) → PartyOp o → names_other (in_party word g) u.held.n o ≡ true →
      first_fitting (party_lines word g u o) ≡ cond (wrong_argument o) 6 19
  names-other o (gate-op q k) e =
      refused-number (leb 24 k) (names_used u o) (leb u.held.n q) (nineteen o) [] (there o e)
  names-other o (cz-op a b) e =
      refused-number false (names_used u o) (leb u.held.n a || (leb u.held.n b || eqb a b)) (nineteen o) []
      (there o e)
  names-other o (measure-op pauli q b) e =
      refused-number (leb 2 b || (eqb pauli 0 || leb 4 pauli)) (names_used u o) (leb u.held.n q) (nineteen o)
      (line 14 (contradicts u.held.n (held_rows u.held) (pauli_letter pauli) q (is_odd b)) ∷ []) (there o e)
  names-other o (complement-op a) e =
      refused-number false (names_used u o) (leb u.held.n a) (nineteen o) [] (there o e)

module _ (word g : ℕ) (u : UsedRecord) (H : Apart word u) (low : ltb 1 g ≡ false) (o : Operation) (G : PartyOp o) where
  abbrev own : UsedRecord
  own = masked (in_party word g) u

  O : Apart word own
  O = masked-apart word g u H

  pub party-alone : first_fitting (party_lines word g u o)
      ≡ first_fitting (party_lines word g (masked (in_party word g) u) o)
  party-alone = go (names_other (in_party word g) u.held.n o) refl
    where
      go : (b : Bool) → names_other (in_party word g) u.held.n o ≡ b →
          first_fitting (party_lines word g u o) ≡ first_fitting (party_lines word g own o)
      go true e = names-other word g u H low o G e ∙ sym (names-other word g own O low o G e)
      go false e =
          party-number word g u o (eq-eqb u.held.n 64 H.count) low (ap₂ ◌||◌ H.no-crossing e)
          ∙ masked-number word g u H o G (subst (λ n. names_other (in_party word g) n o ≡ false) H.count e)
          ∙ sym (party-number word g own o (eq-eqb u.held.n 64 H.count) low (ap₂ ◌||◌ O.no-crossing e))
