-- The tests of a party's gate, cz, measurement and complementation decide the sentences of their lines.
use Prim.Native.Nat.{ℕ}
use Rattle.buffers.proofs.SentenceLaws.{Matches, and-line, at_most, equal, from, itself, or-decides, or-none}
use Rattle.operations.specs.Steps.{complement_of, cz_on, gate_with, measurement_of}
use Rattle.record.proofs.RecordInWords.{code-above-23}
use Rattle.operations.proofs.UsedInWords.{contradicted}
use Rattle.operations.specs.Used.{UsedRecord}
use Rattle.parties.proofs.PartyArguments.{arguments, whole-passes}
use Rattle.parties.proofs.PartyInWords.{other-parties, party-in-words}
use Rattle.parties.specs.PartyLines.{party_lines}
use Rattle.parties.specs.PartySentences.{
  party_argument_sentences,
  party_complement_sentences,
  party_cz_sentences,
  party_gate_sentences,
  party_measure_sentences,
}

module _ (word g : ℕ) (u : UsedRecord) where
  pub gate-in-words : (q k : ℕ) → Matches (party_lines word g u (gate_with q k)) (party_gate_sentences word g u q k)
  gate-in-words q k = party-in-words word g u _ _ _ _ _ _ _ _ (or-decides (code-above-23 u.held) (from 23 k))
      (other-parties word g u q) (at_most u.held.n q) itself

  pub cz-in-words : (a b : ℕ) → Matches (party_lines word g u (cz_on a b)) (party_cz_sentences word g u a b)
  cz-in-words a b = party-in-words word g u _ _ _ _ _ _ _ _ (or-none (code-above-23 u.held))
      (λ l. or-decides (other-parties word g u a l) (other-parties word g u b l))
      (or-decides (at_most u.held.n a) (or-decides (at_most u.held.n b) (equal a b))) (or-decides itself itself)

  pub complement-in-words : (a : ℕ) → Matches (party_lines word g u (complement_of a))
      (party_complement_sentences word g u a)
  complement-in-words a = party-in-words word g u _ _ _ _ _ _ _ _ (or-none (code-above-23 u.held))
      (other-parties word g u a) (at_most u.held.n a) itself

  pub arguments-in-words : (pauli q b : ℕ)
      → Matches (arguments word g u pauli q b) (party_argument_sentences word g u pauli q b)
  arguments-in-words pauli q b = party-in-words word g u _ _ _ _ _ _ _ _
      (or-decides (code-above-23 u.held) (or-decides (from 1 b) (or-decides (equal pauli 0) (from 3 pauli))))
      (other-parties word g u q) (at_most u.held.n q) itself

  pub measure-in-words : (pauli q b : ℕ) → Matches (party_lines word g u (measurement_of pauli q b))
      (party_measure_sentences word g u pauli q b)
  measure-in-words pauli q b =
      and-line (arguments word g u pauli q b) (party_argument_sentences word g u pauli q b) 14
      (arguments-in-words pauli q b)
      (λ e. or-none (or-none (or-none (or-none (contradicted u pauli q b (whole-passes word g u pauli q b e))))))
