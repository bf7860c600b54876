-- Named states: the lines and answers of the calls on a store are as demand 1 has them, and which arguments they
-- accept.
use mathlib.Core.Bool.{false, not, ◌||◌}
use mathlib.Core.List.{List}
use mathlib.Core.Logic.Iff
use mathlib.Core.Logic.{◌↔◌}
use mathlib.Core.Path.{ap, ap₂, refl, sym, ◌∙◌, ◌≡◌}
use Prim.Native.Nat.{ℕ}
use native.Mathlib.Omega.{arith}
use lib.Dec.{eqb}
use lib.ListN.{length-set}
use Rattle.buffers.specs.Refusals.{first_fitting, other_than}
use Rattle.calls.proofs.SaveLines.{both-numbers}
use Rattle.calls.specs.Stores.{held_under, return_call, save_call}
use Rattle.buffers.proofs.Fitting.{decides}
use Rattle.buffers.specs.Answers.{later, none}
use Rattle.buffers.specs.Calls.{EachOf}
use Rattle.buffers.specs.internal.Earlier.{earlier_of}
use Rattle.stabilizer.proofs.SharedTests.{has-length, length-passes}
use Rattle.store.proofs.ForgottenNames.{held-passes}
use Rattle.store.proofs.Lookups.{saved-passing}
use Rattle.store.proofs.Names.{names-once, once-names}
use Rattle.store.proofs.PassingStores.{held-record, others-fit, store-passes}
use Rattle.store.specs.Places.{Store, place_at}
use Rattle.store.specs.StoreLines.{holds_line, named_lines, of_record, record_tests, save_lines, store_lines}
use Rattle.store.specs.internal.Passing.{Passing}
use Rattle.operations.specs.Used.{UsedRecord, used_lines}
use Rattle.words.proofs.Flags.{neither}
use Rattle.claims.proofs.StoreDemandHolds.{
  name-held,
  named-passing,
  parts,
  parts-named,
  place-there,
  record-passes,
  save-passing,
}
use Rattle.claims.proofs.UsedExactly.{used-exactly}
use Rattle.claims.proofs.families.Shared.{by_lines, written-fills}
use Rattle.claims.specs.Arguments.{IsRecord}
use Rattle.claims.specs.Conforming.{Fills}
use Rattle.claims.specs.families.Stores.{
  ForgetFits,
  IsStore,
  ReturnFits,
  SaveFits,
  StoreBuffersUnread,
  StoresAccepted,
  StoresConform,
}

-- ---- stores
pub is-record : (u : UsedRecord) → (first_fitting (used_lines u false false false) ≡ 0) ↔ IsRecord u
is-record u = (
  (λ e. ((used-exactly u false false false).0 e).0),
  (λ R. (used-exactly u false false false).1 (R, refl, refl, refl)),
)

is_store : (st : Store) → Passing 8 st → IsStore st
is_store st P =
    record {
      heads = P.heads-long;
      neighbours = P.words_long;
      codes = P.codes-long;
      records = λ i l h. (is-record (place_at st i)).0 (P.records i l h);
      once = names-once 8 st.heads P.once;
    }

store_is : (st : Store) → IsStore st → Passing 8 st
store_is st I =
    record {
      heads-long = I.heads;
      words_long = I.neighbours;
      codes-long = I.codes;
      records = λ i l h. (is-record (place_at st i)).1 (I.records i l h);
      once = once-names 8 st.heads I.once;
    }

-- ---- demand 1
save-fills : (u : UsedRecord) (name : ℕ) (st : Store) → first_fitting (save_lines 8 u name st) ≡ 0
    → EachOf Fills (save_call u name st st.heads st.neighbours st.codes).lent
save-fills u name st z =
    let P = save-passing u name st z in
    let Q = saved-passing 8 st P u (record-passes u name st z) name (place-there u name st z) in (
      Q.heads-long ∙ sym P.heads-long,
      (Q.words_long ∙ sym P.words_long, (Q.codes-long ∙ sym P.codes-long, tt)),
    )

return-fills : (name : ℕ) (st : Store) (n : ℕ) (nb cs : List ℕ) (used : ℕ)
    → first_fitting (named_lines 8 name st (other_than 64 nb || other_than 64 cs)) ≡ 0
    → EachOf Fills (return_call name st n nb cs used n nb cs used).lent
return-fills name st n nb cs used z =
    let o = other_than 64 nb || other_than 64 cs in
    let f = neither (other_than 64 nb) (other_than 64 cs) (others-fit 8 st o (parts-named name st o z).0) in
    let A = held-record (held_under name st)
    (held-passes 8 st (named-passing name st o z) name (name-held name st o z)) in (
      tt,
      (
        written-fills (held_under name st).held.neighbours nb
            (omega (arith, A.neighbours-length, A.upto, has-length 64 nb f.0)),
        (
          written-fills (held_under name st).held.codes cs
              (omega (arith, A.codes-length, A.upto, has-length 64 cs f.1)),
          (tt, tt),
        ),
      ),
    )

pub stores-conform : StoresConform
stores-conform =
    record {
      saves = λ u name st heads' nb' cs'. record { order = refl; complete = save-fills u name st };
      returns = λ name st n nb cs used n' nb' cs' used'. record {
        order = refl;
        complete = return-fills name st n nb cs used;
      };
      forgets = λ name st heads'. record { order = refl; complete = λ z. (length-set st.heads _ 0, tt) };
    }

pub store-buffers-unread : StoreBuffersUnread
store-buffers-unread =
    record {
      returns = λ name st nb nb₂ cs cs₂ e f. ap₂ (λ a b. first_fitting (named_lines 8 name st
          (not (eqb a 64) || not (eqb b 64)))) e f;
    }

-- ---- which arguments they accept
save-lines : (u : UsedRecord) (name : ℕ) (st : Store) → (first_fitting (save_lines 8 u name st) ≡ 0) ↔ SaveFits u name st
save-lines u name st = (
  (λ z. ((is-record u).0 (record-passes u name st z), is_store st (save-passing u name st z), (parts u name st z).1)),
  (λ F. sym (decides (record_tests (λ m. of_record u m || holds_line m (store_lines 8 st false))) refl
      (sym (both-numbers u st ∙ ap₂ earlier_of ((is-record u).1 F.0) (store-passes 8 st (store_is st F.1)))) refl
      (later F.2 none))),
)

named-lines : (name : ℕ) (st : Store) → (first_fitting (named_lines 8 name st false) ≡ 0) ↔ ForgetFits name st
named-lines name st = (
  (λ z. (is_store st (named-passing name st false z), name-held name st false z)),
  (λ F. sym (decides (store_lines 8 st false) refl (sym (store-passes 8 st (store_is st F.0))) refl
      (later (ap not F.1) none))),
)

return-lines : (name : ℕ) (st : Store) (nb cs : List ℕ)
    → (first_fitting (named_lines 8 name st (other_than 64 nb || other_than 64 cs)) ≡ 0) ↔ ReturnFits name st nb cs
return-lines name st nb cs = (
  (λ z. let o = other_than 64 nb || other_than 64 cs in
      let f = neither (other_than 64 nb) (other_than 64 cs) (others-fit 8 st o (parts-named name st o z).0) in (
        (is_store st (named-passing name st o z), name-held name st o z),
        has-length 64 nb f.0,
        has-length 64 cs
            f.1,
      )),
  (λ F. ap (λ b. first_fitting (named_lines 8 name st b)) (ap₂ ◌||◌ (length-passes 64 nb F.1)
      (length-passes 64 cs F.2))
      ∙ (named-lines name st).1 F.0),
)

pub stores-accepted : StoresAccepted
stores-accepted =
    record {
      save = λ u name st heads' nb' cs' r C. Iff.trans (by_lines C) (save-lines u name st);
      return = λ name st n nb cs used n' nb' cs' used' r C. Iff.trans (by_lines C) (return-lines name st nb cs);
      forget = λ name st heads' r C. Iff.trans (by_lines C) (named-lines name st);
    }
