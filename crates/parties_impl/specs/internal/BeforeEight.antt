-- The lines of a party's call before 8, and what it means that none of them holds: what only the proofs name.
use Rattle.std.specs.Prelude.{Bool, false, ◌||◌, ◌++◌, List, [], ◌∷◌, ◌≡◌, ℕ, eqb, leb, ltb}
use Rattle.buffers.specs.Refusals.{Refusal, line}
use Rattle.parties.specs.PartyLines.{names_other, with_party}
use Rattle.parties.specs.Masks.{crosses, in_party, merged}
use Rattle.parties.specs.internal.Apart.{Apart}
use Rattle.operations.specs.Steps.{Operation, complement_of, cz_on, gate_with, measurement_of, pivot_of}
use Rattle.operations.specs.Used.{used_lines, UsedRecord, used_record}
use Rattle.words.specs.Bits.{Word}

-- 2, 4, 5, 6, 7 and 19; `six`: line 6 holds of a further argument; `other`: the call names a qubit of the other party
abbrev pub before_eight : ℕ → ℕ → UsedRecord → Bool → Bool → List Refusal
before_eight word g u six other =
    with_party g u.held.n (used_lines u false false six) ++ (line 19 (crosses word u || other) ∷ [])

-- line 6 of the arguments of an operation
abbrev pub six_of : Operation → Bool
six_of (gate_with q k) = leb 24 k
six_of (cz_on a b) = false
six_of (measurement_of pauli q b) = leb 2 b || (eqb pauli 0 || leb 4 pauli)
six_of (complement_of a) = false
six_of (pivot_of j k) = false

-- the parties are apart, and the call is one of party 0 or 1 on qubits of its own
pub record Admitted (word g : ℕ) (u : UsedRecord) (o : Operation) : Type 0 where
  pub apart : Apart word u
  pub low : ltb 1 g ≡ false
  pub own : names_other (in_party word g) 64 o ≡ false

-- the buffers of a record of 64 qubits after the vertices of s were put back: words and bytes hold those vertices
pub record PutBack (s : Word) (words bytes nb cs nb' cs' : List ℕ) : Type 0 where
  pub neighbours : nb' ≡ (merged s (used_record 64 words bytes 0)
      (used_record 64 nb cs 0)).held.neighbours
  pub codes : cs' ≡ (merged s (used_record 64 words bytes 0)
      (used_record 64 nb cs 0)).held.codes
