-- Examples: photons and their Paulis, a photon measured, renewed and measured again, and the refusals of a renewal.
use mathlib.Core.Bool.{false, true}
use mathlib.Core.List.{◌++◌, List, [], map, ◌∷◌}
use mathlib.Core.Path.{◌≡◌, refl}
use Prim.Native.Nat.{ℕ}
use Rattle.buffers.specs.Refusals.{first_fitting, reaching}
use Rattle.operations.specs.Measurement.{pauli_letter, single}
use Rattle.record.specs.Lent.{not_simple}
use Rattle.operations.specs.Used.{UsedRecord, used_record, used_wrong}
use Rattle.words.specs.Bits.{bit, word_of}
use Rattle.words.specs.Search.{some}
use Rattle.source.specs.Renewal.{photon, renew_lines, renewed}

-- "+X, -X, +Y, -Y, +Z, -Z"
pub photons : map (photon 3) (0 ∷ 2 ∷ 4 ∷ 6 ∷ 8 ∷ 10 ∷ [])
    ≡ (single (pauli_letter 1) 3 false ∷ single (pauli_letter 1) 3 true ∷ single (pauli_letter 2) 3 false
    ∷ single (pauli_letter 2) 3 true ∷ single (pauli_letter 3) 3 false ∷ single (pauli_letter 3) 3 true ∷ [])
photons = refl

-- two qubits apart in -Z, of which qubit 0 is used
abbrev measured : UsedRecord
measured = used_record 2 (0 ∷ 0 ∷ []) (10 ∷ 10 ∷ []) 1

abbrev left : UsedRecord → ℕ → ℕ → List ℕ
left u q k = first_fitting (renew_lines u q k) ∷ (renewed u q k).used
    ∷ ((renewed u q k).held.neighbours ++ (renewed u q k).held.codes)

abbrev number : ℕ → ℕ → ℕ
number q k = first_fitting (renew_lines measured q k)

pub renewals : (left measured 0 0 ≡ (0 ∷ 0 ∷ 0 ∷ 0 ∷ 0 ∷ 10 ∷ []))
    × ((number 1 0 ∷ number 2 0 ∷ number 0 1 ∷ number 0 12 ∷ number 2 24 ∷ number 0 10 ∷ []) ≡
    (20 ∷ 8 ∷ 6 ∷ 6 ∷ 6 ∷ 0 ∷ []))
unfolding bit word_of some first_fitting reaching not_simple used_wrong
renewals = (refl, refl)
