-- What a party's save, return and forget promise, for all arguments: their lines in checking order, and what is lent
-- for their answers. A name with a prime is what the buffer, or the lent number, holds at exit.
use Rattle.std.specs.Prelude.{List, [], ◌∷◌, ℕ}
use Rattle.buffers.specs.Calls.{Contract, buffer, contract_of, number}
use Rattle.parties.specs.PartyStores.{party_forgotten, party_named_lines, party_returned, party_save_lines, party_saved}
use Rattle.store.specs.Places.{Store}
use Rattle.operations.specs.Used.{UsedRecord}

-- ---- sukhlent_group_save
abbrev pub party_save_call : (word g : ℕ) (u : UsedRecord) (name : ℕ) (st : Store) (heads' nb' cs' : List ℕ) → Contract
party_save_call word g u name st heads' nb' cs' =
    contract_of (party_save_lines word g u name st)
    (buffer st.heads (party_saved word g u name st).heads heads'
    ∷ buffer st.neighbours (party_saved word g u name st).neighbours nb'
    ∷ buffer st.codes (party_saved word g u name st).codes cs' ∷ [])

-- ---- sukhlent_group_return
abbrev pub party_return_call : (word g : ℕ) (u : UsedRecord) (name : ℕ) (st : Store) (neighbours' codes' : List ℕ)
    (used' : ℕ) → Contract
party_return_call word g u name st neighbours' codes' used' =
    contract_of (party_named_lines word g u name st)
    (buffer u.held.neighbours (party_returned word g u name st).held.neighbours neighbours'
    ∷ buffer u.held.codes (party_returned word g u name st).held.codes codes'
    ∷ number u.used (party_returned word g u name st).used used' ∷ [])

-- ---- sukhlent_group_forget
abbrev pub party_forget_call : ℕ → ℕ → UsedRecord → ℕ → Store → List ℕ → Contract
party_forget_call word g u name st heads' =
    contract_of (party_named_lines word g u name st) (buffer st.heads (party_forgotten g name st) heads' ∷ [])
