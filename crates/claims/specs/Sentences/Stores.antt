-- What the documents say of the exported functions on a store of named states, a record for each: demand 1, which
-- arguments it accepts, its own refusal, and the sentences of the request that speak of its answer. That it is an
-- action of a session is a theorem of its own (`ContractsAreActions`).
use Rattle.std.specs.Prelude.{false, ◌||◌, List, ◌↔◌, ◌≡◌, ℕ}
use Rattle.buffers.specs.Refusals.{other_than}
use Rattle.calls.specs.Stores.{forget_call, return_call, save_call}
use Rattle.store.specs.Places.{Store}
use Rattle.operations.specs.Used.{UsedRecord}
use Rattle.claims.specs.Conforming.{Answered}
use Rattle.claims.specs.StoreDemand.{ForgetKeeps, FullStore, NotHeld, ReturnGives, SaveKeeps, store_of}
use Rattle.claims.specs.families.Stores.{ForgetFits, ReturnFits, SaveFits}
use Rattle.buffers.specs.Sentences.{FirstTrue}
use Rattle.store.specs.StoreSentences.{save_sentences}
use Rattle.claims.specs.Numbers.{forget_sentences, return_sentences}

-- of save: the record under its name, every other name as it was
pub record SaveSays (u : UsedRecord) (name : ℕ) (st : Store) (heads' nb' cs' : List ℕ) (r : ℕ) : Type 0 where
  pub answered : Answered (save_call u name st heads' nb' cs') r
  pub accepted : (r ≡ 0) ↔ SaveFits u name st
  pub numbers : FirstTrue (save_sentences 8 u name st) r
  pub full : FullStore u name st r
  pub keeps : r ≡ 0 → SaveKeeps u name st (store_of heads' nb' cs')

-- of return: the record that is held under the name
pub record ReturnSays (name : ℕ) (st : Store) (n : ℕ) (nb cs : List ℕ) (used n' : ℕ) (nb' cs' : List ℕ) (used' r : ℕ) :
    Type 0 where
  pub answered : Answered (return_call name st n nb cs used n' nb' cs' used') r
  pub accepted : (r ≡ 0) ↔ ReturnFits name st nb cs
  pub numbers : FirstTrue (return_sentences name st nb cs) r
  pub not-held : NotHeld name st (other_than 64 nb || other_than 64 cs) r
  pub gives : r ≡ 0 → ReturnGives name st nb cs n' nb' cs' used'

-- of forget: nothing under the name, every other name as it was
pub record ForgetSays (name : ℕ) (st : Store) (heads' : List ℕ) (r : ℕ) : Type 0 where
  pub answered : Answered (forget_call name st heads') r
  pub accepted : (r ≡ 0) ↔ ForgetFits name st
  pub numbers : FirstTrue (forget_sentences name st) r
  pub not-held : NotHeld name st false r
  pub keeps : r ≡ 0 → ForgetKeeps name st (store_of heads' st.neighbours st.codes)
