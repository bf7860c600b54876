-- The calls of a run are the exported ones: what the contract of each says is the step of a run (02, §13).
use Rattle.std.specs.Prelude.{List, [], ◌∷◌, ◌≡◌, ℕ}
use Rattle.calls.specs.PartyStores.{party_forget_call, party_return_call, party_save_call}
use Rattle.calls.specs.Parties.{party_call, party_measure_call}
use Rattle.calls.specs.Sources.{party_observe_call, party_renew_call}
use Rattle.claims.specs.StoreDemand.{Session}
use Rattle.buffers.specs.Calls.{Call}
use Rattle.jobs.specs.Standing.{left}
use Rattle.operations.specs.Steps.{complement_of, cz_on, gate_with}
use Rattle.claims_parties.specs.PartyRuns.{
  SharedCall,
  party_complement,
  party_cz,
  party_forget,
  party_gate,
  party_measure,
  party_observe,
  party_renew,
  party_return,
  party_save,
  shared_after,
  shared_measured,
  shared_number,
}

-- the number r is that of the call, and the state after it is what it leaves
pub record IsStep (word g : ℕ) (s : Session) (c : SharedCall) (r : ℕ) (after : Session) : Type 0 where
  pub number : r ≡ shared_number word g s c
  pub state : after ≡ shared_after word g s c

-- the state with these buffers and this used word for the record
abbrev pub with_record : Session → List ℕ → List ℕ → ℕ → Session
with_record s nb cs used =
    record { current = record { held = left s.current.held nb cs; used = used }; store = s.store }

-- and with these buffers for the store
abbrev pub with_store : Session → List ℕ → List ℕ → List ℕ → Session
with_store s heads nb cs =
    record { current = s.current; store = record { heads = heads; neighbours = nb; codes = cs } }

-- of each call. A gate, a cz and a complementation are not lent the used word; an accepted measurement or observation
-- answers its outcome and its determined bit
pub record ContractsAreSteps : Type 0 where
  pub gate : (word g : ℕ) (s : Session) (q k r : ℕ) (nb' cs' : List ℕ) →
      Call (party_call word g s.current (gate_with q k) nb' cs') r →
      IsStep word g s (party_gate q k) r (with_record s nb' cs' s.current.used)
  pub cz : (word g : ℕ) (s : Session) (a b r : ℕ) (nb' cs' : List ℕ) →
      Call (party_call word g s.current (cz_on a b) nb' cs') r →
      IsStep word g s (party_cz a b) r (with_record s nb' cs' s.current.used)
  pub measure : (word g : ℕ) (s : Session) (pauli q b answer determined r : ℕ) (nb' cs' : List ℕ)
      (used' answer' determined' : ℕ) →
      Call (party_measure_call word g s.current pauli q b answer determined nb' cs' used' answer' determined') r →
      IsStep word g s (party_measure pauli q b) r (with_record s nb' cs' used')
      × (r ≡ 0 → answer' ∷ determined' ∷ [] ≡ shared_measured word g s (party_measure pauli q b))
  pub complement : (word g : ℕ) (s : Session) (a r : ℕ) (nb' cs' : List ℕ) →
      Call (party_call word g s.current (complement_of a) nb' cs') r →
      IsStep word g s (party_complement a) r (with_record s nb' cs' s.current.used)
  pub save : (word g : ℕ) (s : Session) (name r : ℕ) (heads' nb' cs' : List ℕ) →
      Call (party_save_call word g s.current name s.store heads' nb' cs') r →
      IsStep word g s (party_save name) r (with_store s heads' nb' cs')
  pub return-to : (word g : ℕ) (s : Session) (name r : ℕ) (nb' cs' : List ℕ) (used' : ℕ) →
      Call (party_return_call word g s.current name s.store nb' cs' used') r →
      IsStep word g s (party_return name) r (with_record s nb' cs' used')
  pub forget : (word g : ℕ) (s : Session) (name r : ℕ) (heads' : List ℕ) →
      Call (party_forget_call word g s.current name s.store heads') r →
      IsStep word g s (party_forget name) r (with_store s heads' s.store.neighbours s.store.codes)
  pub observe : (word g : ℕ) (s : Session) (pauli q b answer determined r : ℕ) (nb' cs' : List ℕ)
      (used' answer' determined' : ℕ) →
      Call (party_observe_call word g s.current pauli q b answer determined nb' cs' used' answer' determined') r →
      IsStep word g s (party_observe pauli q b) r (with_record s nb' cs' used')
      × (r ≡ 0 → answer' ∷ determined' ∷ [] ≡ shared_measured word g s (party_observe pauli q b))
  pub renew : (word g : ℕ) (s : Session) (q k r : ℕ) (nb' cs' : List ℕ) (used' : ℕ) →
      Call (party_renew_call word g s.current q k nb' cs' used') r →
      IsStep word g s (party_renew q k) r (with_record s nb' cs' used')
