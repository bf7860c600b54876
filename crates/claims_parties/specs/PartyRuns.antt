-- Runs of two parties on one record (02, §13): the calls, what each answers and leaves, and what a party sees of a run.
use Rattle.std.specs.Prelude.{cond, List, [], ◌∷◌, ℕ, eqb, replicate}
use Rattle.buffers.specs.Refusals.{Refusal, first_fitting}
use Rattle.claims.specs.StoreDemand.{Session}
use Rattle.parties.specs.PartyLines.{party_after, party_lines}
use Rattle.parties.specs.PartyStores.{
  party_forgotten,
  party_named_lines,
  party_returned,
  party_save_lines,
  party_saved,
  own_places,
}
use Rattle.parties.specs.Masks.{in_party, masked}
use Rattle.source.specs.PartySources.{party_observe_lines, party_observed, party_renew_lines}
use Rattle.jobs.specs.Runs.{started}
use Rattle.operations.specs.Measurement.{determined_number, outcome_number}
use Rattle.operations.specs.Steps.{complement_of, cz_on, gate_with, measured_answer, measurement_of}
use Rattle.source.specs.Renewal.{renewed}
use Rattle.store.specs.Places.{Store}
use Rattle.operations.specs.Used.{UsedRecord}

-- "Group calls are gate, cz, measure, complement, .. save, return and forget", with their arguments; a party has no
-- pivot. Besides, a measurement with a bit by lot and a new photon at a used qubit
pub data SharedCall : Type 0 where
  party_gate : ℕ → ℕ → SharedCall
  party_cz : ℕ → ℕ → SharedCall
  party_measure : ℕ → ℕ → ℕ → SharedCall
  party_complement : ℕ → SharedCall
  party_save : ℕ → SharedCall
  party_return : ℕ → SharedCall
  party_forget : ℕ → SharedCall
  party_observe : ℕ → ℕ → ℕ → SharedCall
  party_renew : ℕ → ℕ → SharedCall

-- a call of a run, with the number of its party. One above 1 is no party: its call is refused, and changes nothing
pub record CallOf : Type 0 where
  pub party : ℕ
  pub call : SharedCall

-- "Two groups share one record", and one store; "all start in +Z as in §5"; no name is held
abbrev pub shared_start : Session
shared_start =
    record {
      current = started 64;
      store = record { heads = replicate 24 0; neighbours = replicate 512 0; codes = replicate 512 0 };
    }

-- ---- one call
-- its lines in checking order
abbrev pub shared_call_lines : ℕ → ℕ → Session → SharedCall → List Refusal
shared_call_lines word g s (party_gate q k) = party_lines word g s.current (gate_with q k)
shared_call_lines word g s (party_cz a b) = party_lines word g s.current (cz_on a b)
shared_call_lines word g s (party_measure pauli q b) = party_lines word g s.current (measurement_of pauli q b)
shared_call_lines word g s (party_complement a) = party_lines word g s.current (complement_of a)
shared_call_lines word g s (party_save name) = party_save_lines word g s.current name s.store
shared_call_lines word g s (party_return name) = party_named_lines word g s.current name s.store
shared_call_lines word g s (party_forget name) = party_named_lines word g s.current name s.store
shared_call_lines word g s (party_observe pauli q b) = party_observe_lines word g s.current pauli q b
shared_call_lines word g s (party_renew q k) = party_renew_lines word g s.current q k

-- the number that it answers
abbrev pub shared_number : ℕ → ℕ → Session → SharedCall → ℕ
shared_number word g s c = first_fitting (shared_call_lines word g s c)

-- what an accepted one leaves
abbrev pub shared_left : ℕ → ℕ → Session → SharedCall → Session
shared_left word g s (party_gate q k) =
    record { current = party_after word g s.current (gate_with q k); store = s.store }
shared_left word g s (party_cz a b) = record { current = party_after word g s.current (cz_on a b); store = s.store }
shared_left word g s (party_measure pauli q b) =
    record { current = party_after word g s.current (measurement_of pauli q b); store = s.store }
shared_left word g s (party_complement a) =
    record { current = party_after word g s.current (complement_of a); store = s.store }
shared_left word g s (party_save name) =
    record { current = s.current; store = party_saved word g s.current name s.store }
shared_left word g s (party_return name) =
    record { current = party_returned word g s.current name s.store; store = s.store }
shared_left word g s (party_forget name) =
    record {
      current = s.current;
      store = record {
        heads = party_forgotten g name s.store;
        neighbours = s.store.neighbours;
        codes = s.store.codes;
      };
    }
shared_left word g s (party_observe pauli q b) =
    record { current = party_observed word g s.current pauli q b; store = s.store }
shared_left word g s (party_renew q k) = record { current = renewed s.current q k; store = s.store }

-- what a call leaves: refused, it "changes no lent byte"
abbrev pub shared_after : ℕ → ℕ → Session → SharedCall → Session
shared_after word g s c = cond (eqb (shared_number word g s c) 0) (shared_left word g s c) s

-- the outcome and the determined bit that an accepted call answers: a measurement's and an observation's alone
abbrev pub measured_numbers : Session → SharedCall → List ℕ
measured_numbers s (party_gate q k) = []
measured_numbers s (party_cz a b) = []
measured_numbers s (party_measure pauli q b) =
    outcome_number (measured_answer s.current.held pauli q b)
    ∷ determined_number (measured_answer s.current.held pauli q b) ∷ []
measured_numbers s (party_complement a) = []
measured_numbers s (party_save name) = []
measured_numbers s (party_return name) = []
measured_numbers s (party_forget name) = []
measured_numbers s (party_observe pauli q b) =
    outcome_number (measured_answer s.current.held pauli q b)
    ∷ determined_number (measured_answer s.current.held pauli q b) ∷ []
measured_numbers s (party_renew q k) = []

-- those of a call: a refused one answers none
abbrev pub shared_measured : ℕ → ℕ → Session → SharedCall → List ℕ
shared_measured word g s c = cond (eqb (shared_number word g s c) 0) (measured_numbers s c) []

-- ---- a run
-- "one group's calls .. in order"
abbrev pub own_calls : ℕ → List CallOf → List SharedCall
own_calls g [] = []
own_calls g (c ∷ cs) = cond (eqb c.party g) (c.call ∷ own_calls g cs) (own_calls g cs)

-- "that group's refusals, outcomes, determined bits, codes, neighbour words, used bits and saved states": the last
-- four as they are after the call. The codes, words and used bits are those at the party's qubits; the saved states,
-- what its four places hold
pub record Observation : Type 0 where
  pub refusal : ℕ
  pub measured : List ℕ
  pub vertices : UsedRecord
  pub saved-states : Store

-- of one call of the party
abbrev pub observed : ℕ → ℕ → Session → SharedCall → Observation
observed word g s c =
    record {
      refusal = shared_number word g s c;
      measured = shared_measured word g s c;
      vertices = masked (in_party word g) (shared_after word g s c).current;
      saved-states = own_places g (shared_after word g s c).store;
    }

-- "after each of its calls" of a run from a state; the calls of others are made, and not observed
abbrev pub observations : ℕ → ℕ → Session → List CallOf → List Observation
observations word g s [] = []
observations word g s (c ∷ cs) =
    cond (eqb c.party g)
    (observed word g s c.call ∷ observations word g (shared_after word c.party s c.call) cs)
    (observations word g (shared_after word c.party s c.call) cs)
