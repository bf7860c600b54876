-- What the calls on a store promise, for all arguments: their lines in checking order, and the buffers lent for their
-- answers. A name with a prime is what the buffer holds at exit.
use Rattle.std.specs.Prelude.{false, ◌||◌, List, [], ◌∷◌, ℕ}
use Rattle.buffers.specs.Buffers.{written}
use Rattle.buffers.specs.Refusals.{other_than}
use Rattle.buffers.specs.Calls.{Contract, buffer, contract_of, number}
use Rattle.store.specs.Kept.{forgotten_heads, saved}
use Rattle.store.specs.Places.{Store, place_at, place_of}
use Rattle.store.specs.StoreLines.{named_lines, save_lines}
use Rattle.operations.specs.Used.{UsedRecord}

-- ---- sukhlent_save: the record under the name, "other names keep their records"
abbrev pub save_call : UsedRecord → ℕ → Store → List ℕ → List ℕ → List ℕ → Contract
save_call u name st heads' nb' cs' =
    contract_of (save_lines 8 u name st)
    (buffer st.heads (saved 8 u name st).heads heads'
    ∷ buffer st.neighbours (saved 8 u name st).neighbours nb'
    ∷ buffer st.codes (saved 8 u name st).codes cs' ∷ [])

-- the record held under a name
abbrev pub held_under : ℕ → Store → UsedRecord
held_under name st = place_at st (place_of 8 st.heads name)

-- ---- sukhlent_return: "Returning brings back the whole record, its n and used word included", into buffers of 64
-- places, so that another n fits; those past its n keep their values
abbrev pub return_call : (name : ℕ) (st : Store) (n : ℕ) (nb cs : List ℕ) (used n' : ℕ) (nb' cs' : List ℕ) (used' : ℕ)
    → Contract
return_call name st n nb cs used n' nb' cs' used' =
    contract_of (named_lines 8 name st (other_than 64 nb || other_than 64 cs))
    (number n (held_under name st).held.n n'
    ∷ buffer nb (written (held_under name st).held.neighbours nb) nb'
    ∷ buffer cs (written (held_under name st).held.codes cs) cs'
    ∷ number used (held_under name st).used used' ∷ [])

-- ---- sukhlent_forget: "forgetting a name makes its place free for the next save"
abbrev pub forget_call : ℕ → Store → List ℕ → Contract
forget_call name st heads' =
    contract_of (named_lines 8 name st false) (buffer st.heads (forgotten_heads 8 name st.heads) heads' ∷ [])
