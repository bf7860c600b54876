-- The request's cases on two groups: the numbers of a group's calls on 64 qubits, 0 to 31 of group 0, the others of
-- group 1.
use mathlib.Core.List.{List, [], ◌∷◌}
use mathlib.Core.Path.{◌≡◌, refl}
use Prim.Native.Nat.{ℕ}
use Rattle.buffers.specs.Refusals.{first_fitting, reaching}
use Rattle.parties.proofs.PartyExamples.{asked, empty, halves, joined, plain}
use Rattle.parties.specs.PartyStores.{party_named_lines, party_save_lines}
use Rattle.parties.specs.Masks.{crosses, reaches_out}
use Rattle.operations.specs.Steps.{cz_on, gate_with}
use Rattle.record.specs.Lent.{not_simple}
use Rattle.operations.specs.Used.{used_wrong}
use Rattle.words.specs.Bits.{bit}
use Rattle.words.specs.Search.{every, first, some}

abbrev given : List ℕ
given =
    asked plain 0 (gate_with 40 0) ∷ asked plain 0 (gate_with 64 0) ∷ asked plain 0 (gate_with 40 24)
    ∷ asked plain 0 (cz_on 40 40) ∷ asked plain 0 (cz_on 64 64) ∷ asked plain 0 (cz_on 0 40) ∷ asked plain 0 (cz_on 40 64)
    ∷ asked plain 2 (gate_with 0 0) ∷ asked plain 0 (gate_with 31 0) ∷ asked plain 1 (gate_with 32 0)
    ∷ asked joined 0 (gate_with 1 0) ∷ asked joined 0 (gate_with 1 24) ∷ asked joined 1 (gate_with 64 0)
    ∷ first_fitting (party_named_lines halves 0 joined 65 empty) ∷ first_fitting (party_named_lines halves 0 plain 65 empty)
    ∷ first_fitting (party_save_lines halves 1 plain 65 empty) ∷ []

pub party-numbers :
    given ≡ 19 ∷ 8 ∷ 6 ∷ 19 ∷ 8 ∷ 19 ∷ 19 ∷ 6 ∷ 0 ∷ 0 ∷ 19 ∷ 6 ∷ 19 ∷ 19 ∷ 17 ∷ 0 ∷ []
unfolding bit some every first first_fitting reaching not_simple used_wrong crosses reaches_out
party-numbers = refl
