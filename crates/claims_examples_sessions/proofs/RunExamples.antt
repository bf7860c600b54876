-- A run of both groups on 64 qubits: the refusals that group 0 sees, and the code of its qubit 0 after each of its
-- calls.
use mathlib.Core.List.{List, [], ◌∷◌}
use mathlib.Core.Path.{◌≡◌, refl}
use Prim.Native.Nat.{ℕ}
use lib.ListN.{get_or}
use Rattle.buffers.specs.Buffers.{tabulate}
use Rattle.buffers.specs.Refusals.{first_fitting, reaching}
use Rattle.claims_parties.specs.PartyRuns.{
  CallOf,
  SharedCall,
  Observation,
  party_complement,
  party_forget,
  party_return,
  party_save,
  observations,
  shared_start,
}
use Rattle.parties.proofs.PartyExamples.{halves}
use Rattle.parties.specs.Masks.{crosses, reaches_out}
use Rattle.record.specs.Lent.{not_simple}
use Rattle.operations.specs.Used.{used_wrong}
use Rattle.words.specs.Bits.{bit, word_of}
use Rattle.words.specs.Search.{every, first, some}

abbrev by : ℕ → SharedCall → CallOf
by g c = record { party = g; call = c }

abbrev calls : List CallOf
calls =
    by 0 (party_save 65) ∷ by 1 (party_complement 40) ∷ by 0 (party_complement 0) ∷ by 1 (party_forget 65)
    ∷ by 2 (party_save 66) ∷ by 0 (party_complement 40) ∷ by 0 (party_return 65) ∷ []

-- a refusal, and the code of qubit 0 afterwards
abbrev told : List Observation → List ℕ
told [] = []
told (o ∷ os) = o.refusal ∷ get_or o.vertices.held.codes 0 0 ∷ told os

pub seen-by-0 : told (observations halves 0 shared_start calls) ≡ 0 ∷ 8 ∷ 0 ∷ 20 ∷ 19 ∷ 20 ∷ 0 ∷ 8 ∷ []
unfolding tabulate bit word_of some every first first_fitting reaching not_simple used_wrong crosses reaches_out
seen-by-0 = refl
