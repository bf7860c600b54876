-- A call that names no qubit of the other party has the same number on the whole record and on the party's vertices
-- alone, and a measurement the same answer.
use mathlib.Core.Bool.{◌&&◌, Bool, and-false, cond, false, not, true, ◌||◌}
use mathlib.Core.List.{◌++◌, List, [], ◌∷◌}
use mathlib.Core.Logic.{◌≢◌, inl, inr}
use mathlib.Core.Path.{ap, ap₂, refl, subst, sym, ◌∙◌, ◌≡◌}
use Prim.Native.Nat.{◌<◌, ◌^◌, ℕ}
use native.Mathlib.Nat.{pos_of_ne-zero}
use lib.Dec.{eqb, leb}
use lib.ListN.{get_or}
use borrow.Author.Tests.{eqb-false, leb-false, lt-ltb, not-false}
use Rattle.buffers.specs.Refusals.{Refusal, first_fitting, inserted_after, line, with_test}
use Rattle.clifford.specs.Clifford.{clifford_of}
use Rattle.buffers.proofs.Fitting.{none-holds}
use Rattle.operations.proofs.MeasuredRecords.{acts, pauli-acts}
use Rattle.operations.specs.Measurement.{contradicts, pauli_letter}
use Rattle.operations.specs.Steps.{Operation, measured_answer, measurement_of}
use Rattle.record.specs.Lent.{held_record, held_rows, record_codes, record_lengths, record_lines}
use Rattle.operations.proofs.AcceptedSteps.{measure-arguments}
use Rattle.operations.proofs.UsedPassing.{lines-pass, used_step_lem}
use Rattle.operations.specs.Used.{UsedRecord, used_lines, used_lines_of, used_stray, with_used}
use Rattle.words.proofs.BitLaws.{bit-above}
use Rattle.words.proofs.Flags.{neither}
use Rattle.words.proofs.Sums.{lt-or-ge}
use Rattle.words.specs.Bits.{Word, bit, is_odd}
use Rattle.parties.specs.PartyLines.{names_other, outsider}
use Rattle.parties.specs.Masks.{in_party, masked}
use Rattle.parties.specs.internal.Apart.{Apart, PartyOp, complement-op, cz-op, gate-op, measure-op}
use Rattle.parties.proofs.MaskedRecords.{
  apart-record,
  apart-stray,
  masked-apart,
  masked-code,
  masked-graph,
  masked-used,
}
use Rattle.parties.proofs.MeasuredAlike.{answer-alike, contradicts-alike}

-- the number of a call on a record that passes, by its arguments alone: line 6, then the lines from 8 on
abbrev by_arguments : Bool → Bool → List Refusal → ℕ
by_arguments six named rest =
    first_fitting (inserted_after 8 (line 16 named) (with_test 7 false (with_test 5 false (line 6 six ∷ rest))))

passed-number : (u : UsedRecord) → first_fitting (used_lines u false false false) ≡ 0
    → (six named : Bool) (rest : List Refusal)
    → first_fitting (with_used u named (record_lines u.held false six ++ rest)) ≡ by_arguments six named rest
unfolding first_fitting
passed-number u e six named rest =
    let P = (lines-pass u false false false).0 e in
    let h = none-holds (record_lines u.held false false) refl P.0 in
    let lengths = (neither (record_lengths u.held) false h.1.0).0 in
    let codes = (neither (record_codes u.held) false h.1.1.1.0).0 in
    let stray = (neither (used_stray u) false P.1).0 in
    λ i. first_fitting (inserted_after 8 (line 16 named) (with_test 7 (P.2 i) (with_test 5 (stray i)
    (line 2 (h.0 i) ∷ line 4 (lengths i || false) ∷ line 5 (h.1.1.0 i) ∷ line 6 (codes i || six)
    ∷ line 7 (h.1.1.1.1.0 i) ∷ rest))))

-- of a line 14 that comes after 6 and 8, only where neither holds
last-number : (six named eight : Bool) {c d : Bool} → (six ≡ false → eight ≡ false → c ≡ d)
    → by_arguments six named (line 8 eight ∷ line 14 c ∷ []) ≡ by_arguments six named (line 8 eight ∷ line 14 d ∷ [])
unfolding first_fitting
last-number true named eight h = refl
last-number false named true h = refl
last-number false named false h = ap (λ b. by_arguments false named (line 8 false ∷ line 14 b ∷ [])) (h refl refl)

module _ (word g : ℕ) (u : UsedRecord) (H : Apart word u) where
  abbrev s : Word
  s = in_party word g

  abbrev v : UsedRecord
  v = masked (in_party word g) u

  H' : Apart word v
  H' = masked-apart word g u H

  -- a named qubit below n is in the party
  pub in-party : (q : ℕ) → outsider s 64 q ≡ false → q < u.held.n → s q ≡ true
  in-party q e l = not-false (s q)
      (ap (λ b. b && not (s q)) (sym (lt-ltb q 64 (subst (λ m. q < m) H.count l))) ∙ e)

  -- it is used in both records or in none
  pub used-alike : (q : ℕ) → outsider s 64 q ≡ false → bit u.used q ≡ bit v.used q
  used-alike q e = sym (masked-used s u (apart-stray word u H) q ∙ (elim (lt-or-ge q u.held.n) [
    | inl l ↦ ap (λ b. b && bit u.used q) (in-party q e l)
    | inr l ↦ let below = leb-false (2 ^ u.held.n) u.used (apart-stray word u H) in
        let none = bit-above u.held.n u.used below q l in
        ap (λ b. s q && b) none ∙ and-false (s q) ∙ sym none
  ]))

  -- ---- a measured qubit of the party has its row and its code
  module _ (pauli q : ℕ) (own : outsider s 64 q ≡ false) (l : q < u.held.n) (acting : pauli ≢ 0) where
    inside : s q ≡ true
    inside = in-party q own l

    row : (j : ℕ) → (held_record u.held).graph q j ≡ (held_record v.held).graph q j
    row j = sym (masked-graph s u (apart-record word u H) q j ∙ ap (λ b. b && (held_record u.held).graph q j) inside)

    code : (held_record u.held).codes q ≡ (held_record v.held).codes q
    code = sym (ap clifford_of (masked-code s u q l ∙ ap (λ b. cond b (get_or u.held.codes q 0) 8) inside))

    acts-here : acts (pauli_letter pauli) ≡ true
    acts-here = pauli-acts pauli (pos_of_ne-zero acting)

    contradicted-alike : (b : Bool) → contradicts u.held.n (held_rows u.held) (pauli_letter pauli) q b
        ≡ contradicts u.held.n (held_rows v.held) (pauli_letter pauli) q b
    contradicted-alike = contradicts-alike u.held.n (held_record u.held) (held_record v.held)
        (apart-record word u H).simple (apart-record word v H').simple q l code row (pauli_letter pauli) acts-here

    pub answered-alike : (b : ℕ) → measured_answer u.held pauli q b ≡ measured_answer v.held pauli q b
    answered-alike b = answer-alike u.held.n (held_record u.held) (held_record v.held)
        (apart-record word u H).simple (apart-record word v H').simple q l code row (pauli_letter pauli) acts-here
        (is_odd b)

  -- ---- the numbers
  -- a call without line 14
  in-place-number : (six eight : Bool) {a b : Bool} → a ≡ b
      → first_fitting (with_used u a (record_lines u.held false six ++ (line 8 eight ∷ [])))
      ≡ first_fitting (with_used v b (record_lines v.held false six ++ (line 8 eight ∷ [])))
  in-place-number six eight {a} {b} e =
      passed-number u H.passes six a (line 8 eight ∷ [])
      ∙ ap (λ c. by_arguments six c (line 8 eight ∷ [])) e
      ∙ sym (passed-number v H'.passes six b (line 8 eight ∷ []))

  measured-number : (pauli q b : ℕ) → outsider s 64 q ≡ false
      → first_fitting (used_lines_of u (measurement_of pauli q b)) ≡ first_fitting (used_lines_of v (measurement_of pauli q b))
  measured-number pauli q b own =
      passed-number u H.passes six (bit u.used q) (line 8 eight ∷ line 14 c ∷ [])
      ∙ ap (λ d. by_arguments six d (line 8 eight ∷ line 14 c ∷ [])) (used-alike q own)
      ∙ last-number six (bit v.used q) eight (λ h6 h8. contradicted-alike pauli q own (leb-false u.held.n q h8)
      (eqb-false pauli 0 (neither (eqb pauli 0) _ (neither (leb 2 b) _ h6).1).0) (is_odd b))
      ∙ sym (passed-number v H'.passes six (bit v.used q) (line 8 eight ∷ line 14 d ∷ []))
    where
      six : Bool
      six = leb 2 b || (eqb pauli 0 || leb 4 pauli)

      eight : Bool
      eight = leb u.held.n q

      c : Bool
      c = contradicts u.held.n (held_rows u.held) (pauli_letter pauli) q (is_odd b)

      d : Bool
      d = contradicts u.held.n (held_rows v.held) (pauli_letter pauli) q (is_odd b)

  pub masked-number : (o : Operation) → PartyOp o → names_other (in_party word g) 64 o ≡ false
      → first_fitting (used_lines_of u o) ≡ first_fitting (used_lines_of (masked (in_party word g) u) o)
  masked-number o (gate-op q k) own = in-place-number (leb 24 k) (leb u.held.n q) (used-alike q own)
  masked-number o (cz-op a b) own =
      let h = neither (outsider s 64 a) (outsider s 64 b) own in
      in-place-number false (leb u.held.n a || (leb u.held.n b || eqb a b))
      (ap₂ ◌||◌ (used-alike a h.0) (used-alike b h.1))
  masked-number o (measure-op pauli q b) own = measured-number pauli q b own
  masked-number o (complement-op a) own = in-place-number false (leb u.held.n a) (used-alike a own)

  pub masked-answer : (pauli q b : ℕ) → names_other (in_party word g) 64 (measurement_of pauli q b) ≡ false
      → first_fitting (used_lines_of u (measurement_of pauli q b)) ≡ 0
      → measured_answer u.held pauli q b ≡ measured_answer (masked (in_party word g) u).held pauli q b
  masked-answer pauli q b own e =
      let M = measure-arguments u.held pauli q b (used_step_lem u (measurement_of pauli q b) e) in
      answered-alike pauli q own M.below M.not_none b
