-- The tests of a record with used qubits, and of the calls that name qubits of it, decide the sentences of their lines.
use mathlib.Core.Bool.{Bool, false, true, ◌||◌}
use mathlib.Core.List.{[], ◌∷◌}
use mathlib.Core.Logic.{◌⊎◌}
use mathlib.Core.Path.{ap, refl, ◌∙◌, ◌≡◌}
use Prim.Native.Nat.{◌*◌, ◌/◌, ◌%◌, ◌<◌, ◌≤◌, suc, zero, ℕ}
use native.Mathlib.Omega.{arith}
use lib.Dec.{eqb, leb}
use lib.ListN.{get_or}
use borrow.Author.Tests.{eqb-false, leb-false, ltb-true, not-true}
use Rattle.buffers.proofs.Lines.{none-of-all, not-held}
use Rattle.buffers.proofs.SentenceLaws.{
  Decides,
  Matches,
  and-decides,
  and-line,
  at_most,
  bad-count,
  equal,
  from,
  itself,
  not-decides,
  or-decides,
  or-none,
  some-decides,
  stray,
}
use Rattle.buffers.specs.Refusals.{first_fitting, line}
use Rattle.record.specs.NeighbourWords.{graph_in}
use Rattle.operations.proofs.Contradicted.{contradicts-exactly}
use Rattle.operations.specs.Measurement.{contradicts, pauli_letter}
use Rattle.operations.specs.Steps.{argument_lines, complement_of, cz_on, gate_with, in_place_lines, measurement_of}
use Rattle.record.proofs.AcceptedRecords.{accepted-record}
use Rattle.record.proofs.RecordInWords.{code-above-23, misfits, not-simple, stray-neighbour}
use Rattle.record.proofs.RecordLines.{record-numbered}
use Rattle.record.specs.Lent.{held_rows, not_simple, record_codes, record_lengths, record_lines, record_stray}
use Rattle.record.specs.RecordSentences.{CodeAbove23}
use Rattle.words.proofs.Flags.{both_true}
use Rattle.words.specs.Bits.{bit, is_odd}
use Rattle.operations.proofs.UsedPassing.{in-place-counted, with-used-passes}
use Rattle.operations.specs.Used.{
  UsedRecord,
  used_arguments_of,
  used_code,
  used_lines,
  used_lines_of,
  used_stray,
  used_wrong,
  with_used,
}
use Rattle.operations.specs.UsedSentences.{
  Contradicted,
  IsUsed,
  MeasureMisfits,
  NoRecord,
  OfSix,
  StrayBit,
  UsedOtherwise,
  complement_sentences,
  cz_sentences,
  gate_sentences,
  in_place_sentences,
  measure_sentences,
  used_sentences,
}

-- one of the six codes
pub of-six : (c : ℕ) → Decides (used_code c) (OfSix c)
of-six c = (
  (λ e. let h = both_true _ _ e in
      let below : c < 12 = ltb-true c 12 h.0 in
      (c / 2, omega (arith, below), half c (eqb-false (c % 2) 1 (not-true (is_odd c) h.1)))),
  (λ h. ap used_code h.2 ∙ even h.0 h.1),
)
  where
    half : (c : ℕ) → (c % 2 ≡ 1 → ⊥) → c ≡ 2 * (c / 2)
    half c h = omega (arith, h)

    even : (i : ℕ) → i < 6 → used_code (2 * i) ≡ true
    even zero h = refl
    even (suc zero) h = refl
    even (suc (suc zero)) h = refl
    even (suc (suc (suc zero))) h = refl
    even (suc (suc (suc (suc zero)))) h = refl
    even (suc (suc (suc (suc (suc zero))))) h = refl
    even (suc (suc (suc (suc (suc (suc i)))))) h = absurd (omega (arith, h))

pub used-otherwise : (u : UsedRecord) → Decides (used_wrong u) (UsedOtherwise u)
unfolding used_wrong
used-otherwise u = some-decides u.held.n _ _ (λ q. and-decides (itself {a = bit u.used q})
    (or-decides (not-decides (equal (get_or u.held.neighbours q 0) 0))
    (not-decides (of-six (get_or u.held.codes q 0)))))

module _ (u : UsedRecord) where
  pub stray-bit : Decides (record_stray u.held || used_stray u) (StrayBit u)
  stray-bit = or-decides (stray-neighbour u.held) (stray u.held.n u.used)

  pub no_record : Decides ((not_simple u.held.n (graph_in u.held.neighbours) || false) || used_wrong u)
      (NoRecord u)
  no_record = or-decides (or-none (not-simple u.held.n (graph_in u.held.neighbours))) (used-otherwise u)

  -- ---- the lines of the record
  pub used-in-words : (others five six : Bool) (Four Five Six : Type 0)
      → Decides (record_lengths u.held || others) Four
      → Decides (record_stray u.held || (used_stray u || five)) Five
      → Decides (record_codes u.held || six) Six
      → Matches (used_lines u others five six) (used_sentences u Four Five Six)
  used-in-words others five six Four Five Six D E F = (
    refl,
    (
      or-none (or-none (bad-count u.held.n)),
      λ e. (
        refl,
        (
          or-none (or-none D),
          λ e. (
            refl,
            (or-none E, λ e. (refl, (or-none (or-none F), λ e. (refl, (no_record, λ e. tt))))),
          ),
        ),
      ),
    ),
  )

  -- ---- the lines of a call that names qubits of it
  pub in-place-in-words : (six eight named : Bool) (Six Eight Sixteen : Type 0)
      → Decides (record_codes u.held || six) Six → Decides eight Eight → Decides named Sixteen
      → Matches (with_used u named (in_place_lines u.held six eight)) (in_place_sentences u Six Eight Sixteen)
  in-place-in-words six eight named Six Eight Sixteen D E F = (
    refl,
    (
      or-none (or-none (bad-count u.held.n)),
      λ e. (
        refl,
        (
          or-none (or-none (or-none (misfits u.held))),
          λ e. (
            refl,
            (
              or-none stray-bit,
              λ e. (
                refl,
                (
                  or-none (or-none D),
                  λ e. (
                    refl,
                    (no_record, λ e. (refl, (or-none (or-none E), λ e. (refl, (F, λ e. tt))))),
                  ),
                ),
              ),
            ),
          ),
        ),
      ),
    ),
  )

  pub gate-in-words : (q k : ℕ) → Matches (used_lines_of u (gate_with q k)) (gate_sentences u q k)
  gate-in-words q k = in-place-in-words _ _ _ _ _ _ (or-decides (code-above-23 u.held) (from 23 k))
      (at_most u.held.n q) itself

  pub cz-in-words : (a b : ℕ) → Matches (used_lines_of u (cz_on a b)) (cz_sentences u a b)
  cz-in-words a b = in-place-in-words _ _ _ _ _ _ (or-none (code-above-23 u.held))
      (or-decides (at_most u.held.n a) (or-decides (at_most u.held.n b) (equal a b))) (or-decides itself itself)

  pub complement-in-words : (a : ℕ) → Matches (used_lines_of u (complement_of a)) (complement_sentences u a)
  complement-in-words a = in-place-in-words _ _ _ _ _ _ (or-none (code-above-23 u.held))
      (at_most u.held.n a) itself

  -- ---- a measurement
  module _ (pauli q b : ℕ) where
    -- where its arguments are in order, 14 is about the record's group
    pub contradicted : first_fitting (used_arguments_of u (measurement_of pauli q b)) ≡ 0
        → Decides (contradicts u.held.n (held_rows u.held) (pauli_letter pauli) q (is_odd b))
        (Contradicted u pauli q b)
    contradicted e =
        let six = leb 2 b || (eqb pauli 0 || leb 4 pauli) in
        let before = ((with-used-passes u (argument_lines u.held pauli q b) (in-place-counted u.held six _) _).0 e).0
        in
        let p = none-of-all (record_lines u.held false six) (line 8 (leb u.held.n q) ∷ [])
        (record-numbered u.held false six) before in
        contradicts-exactly u.held.n (held_rows u.held) (pauli_letter pauli) q (is_odd b)
        (accepted-record u.held false six p.0).proper
        (leb-false u.held.n q (not-held 7 (leb u.held.n q) [] p.1).0)

    pub arguments-in-words : Matches (used_arguments_of u (measurement_of pauli q b))
        (in_place_sentences u (CodeAbove23 u.held ⊎ MeasureMisfits pauli b) (u.held.n ≤ q) (IsUsed u q))
    arguments-in-words = in-place-in-words _ _ _ _ _ _
        (or-decides (code-above-23 u.held) (or-decides (from 1 b) (or-decides (equal pauli 0) (from 3 pauli))))
        (at_most u.held.n q) itself

    pub measure-in-words : Matches (used_lines_of u (measurement_of pauli q b)) (measure_sentences u pauli q b)
    measure-in-words = and-line (used_arguments_of u (measurement_of pauli q b))
        (in_place_sentences u (CodeAbove23 u.held ⊎ MeasureMisfits pauli b) (u.held.n ≤ q) (IsUsed u q)) 14
        arguments-in-words (λ e. or-none (or-none (contradicted e)))
