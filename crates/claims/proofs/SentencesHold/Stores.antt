-- What the request says of the exported functions on a store of named states, from their contracts.
use mathlib.Core.Bool.{false, ◌||◌}
use mathlib.Core.List.{List}
use Prim.Native.Nat.{ℕ}
use Rattle.buffers.specs.Refusals.{other_than}
use Rattle.calls.specs.Stores.{forget_call, return_call, save_call}
use Rattle.buffers.specs.Calls.{Call}
use Rattle.store.specs.Places.{Store}
use Rattle.operations.specs.Used.{UsedRecord}
use Rattle.claims.proofs.StoreDemandHolds.{forgets-keep, returns-give, saves-keep}
use Rattle.claims.proofs.StoreRefusals.{full-exactly, not-held-exactly}
use Rattle.claims.proofs.families.Shared.{answered, at_zero}
use Rattle.claims.proofs.families.Stores.{stores-accepted, stores-conform}
use Rattle.claims.specs.Sentences.Stores.{ForgetSays, ReturnSays, SaveSays}
use Rattle.store.proofs.StoreInWords.{save-in-words}
use Rattle.store.specs.StoreSentences.{save_sentences}
use Rattle.claims.proofs.NumbersHold.{forget-words, in_words, return-words}
use Rattle.claims.specs.Numbers.{forget_sentences, return_sentences}

pub save-says : (u : UsedRecord) (name : ℕ) (st : Store) (heads' nb' cs' : List ℕ) (r : ℕ) →
    Call (save_call u name st heads' nb' cs') r → SaveSays u name st heads' nb' cs' r
save-says u name st heads' nb' cs' r C =
    record {
      answered = answered (stores-conform.saves u name st heads' nb' cs') C;
      accepted = stores-accepted.save u name st heads' nb' cs' r C;
      numbers = in_words (save_sentences 8 u name st) (save-in-words 8 st u name) C;
      full = full-exactly u name st C.number;
      keeps = λ z. saves-keep u name st heads' nb' cs' (at_zero C z);
    }

pub return-says : (name : ℕ) (st : Store) (n : ℕ) (nb cs : List ℕ) (used n' : ℕ) (nb' cs' : List ℕ) (used' r : ℕ) →
    Call (return_call name st n nb cs used n' nb' cs' used') r → ReturnSays name st n nb cs used n' nb' cs' used' r
return-says name st n nb cs used n' nb' cs' used' r C =
    record {
      answered = answered (stores-conform.returns name st n nb cs used n' nb' cs' used') C;
      accepted = stores-accepted.return name st n nb cs used n' nb' cs' used' r C;
      numbers = in_words (return_sentences name st nb cs) (return-words name st nb cs) C;
      not-held = not-held-exactly name st (other_than 64 nb || other_than 64 cs) C.number;
      gives = λ z. returns-give name st n nb cs used n' nb' cs' used' (at_zero C z);
    }

pub forget-says : (name : ℕ) (st : Store) (heads' : List ℕ) (r : ℕ) → Call (forget_call name st heads') r →
    ForgetSays name st heads' r
forget-says name st heads' r C =
    record {
      answered = answered (stores-conform.forgets name st heads') C;
      accepted = stores-accepted.forget name st heads' r C;
      numbers = in_words (forget_sentences name st) (forget-words name st) C;
      not-held = not-held-exactly name st false C.number;
      keeps = λ z. forgets-keep name st heads' (at_zero C z);
    }
