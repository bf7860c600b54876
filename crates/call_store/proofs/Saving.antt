-- The call that saves a record, from what the functions below it answer.
use mathlib.Core.Bool.{false, ◌||◌}
use mathlib.Core.List.{List}
use mathlib.Core.Path.{ap₂, refl, subst, sym, ◌∙◌, ◌≡◌}
use Prim.Native.Nat.{◌*◌, ◌+◌, ◌<◌, ◌^◌, ◌≤◌, ℕ}
use native.Mathlib.Omega.{arith}
use lib.Dec.{leb}
use lib.ListN.{length}
use Rattle.calls.proofs.SaveLines.{both-numbers, no_number}
use Rattle.buffers.specs.Refusals.{first_fitting}
use Rattle.buffers.proofs.Calling.{done, refused}
use Rattle.buffers.proofs.Fitting.{decides, stays}
use Rattle.buffers.specs.Answers.{here, later, none}
use Rattle.buffers.specs.Calls.{Call}
use Rattle.buffers.specs.internal.Earlier.{earlier_of}
use Rattle.record.specs.Accepted.{AcceptedRecord}
use Rattle.store.proofs.PassingStores.{held-record, store-accepted}
use Rattle.store.proofs.SavePlaces.{full, not_full}
use Rattle.store.specs.Kept.{save_place, saved}
use Rattle.store.specs.Places.{Store}
use Rattle.store.specs.StoreLines.{holds_line, of_record, record_tests, save_lines, store_lines}
use Rattle.store.specs.internal.Passing.{Passing}
use Rattle.operations.specs.Used.{UsedRecord, used_lines}
use Rattle.operations_checks.proofs.UsedNumbers.{no-further}
use Rattle.calls.specs.Stores.{save_call}

module _ (u : UsedRecord) (st : Store) where
  pub save-number : (own others r : ℕ) → own ≡ first_fitting (used_lines u false (leb (2 ^ u.held.n) 0) false)
      → others ≡ first_fitting (store_lines 8 st false) → r ≡ earlier_of own others
      → r ≡ first_fitting (record_tests (λ m. of_record u m || holds_line m (store_lines 8 st false)))
  save-number own others r e f g = g ∙ ap₂ earlier_of (no-further u false false e) f ∙ sym (both-numbers u st)

  module _ (name k : ℕ)
      (e : k ≡ first_fitting (record_tests (λ m. of_record u m || holds_line m (store_lines 8 st false))))
    where
      pub save-refused : (k ≡ 0 → ⊥) → Call (save_call u name st st.heads st.neighbours st.codes) k
      save-refused h =
          refused _ (stays (record_tests (λ m. of_record u m || holds_line m (store_lines 8 st false))) _ e h) h
          (refl, (refl, (refl, tt)))

      module _ (z : k ≡ 0) where
        pub record-passes : AcceptedRecord u.held
        record-passes = held-record u (no_number u st k e z).0

        pub store-passing : Passing 8 st
        store-passing = store-accepted 8 st false (no_number u st k e z).1

        module _ (place : ℕ) (p : place ≡ save_place 8 st.heads name) where
          pub save-full : 8 ≤ place → Call (save_call u name st st.heads st.neighbours st.codes) 18
          save-full l = refused _
              (decides (record_tests (λ m. of_record u m || holds_line m (store_lines 8 st false))) refl e z
              (here (full 8 st.heads name (subst (λ q. 8 ≤ q) p l))))
              (λ x. absurd (omega (arith, x))) (refl, (refl, (refl, tt)))

          module _ (l : place < 8) where
            pub head-fits : (place < 8) × (3 * place + 3 ≤ length st.heads)
            head-fits = (l, omega (arith, l, store-passing.heads-long))

            pub record-fits : ((place < 8) × (length u.held.codes ≡ length u.held.neighbours))
                × ((64 * place + length u.held.neighbours ≤ length st.neighbours)
                × (64 * place + length u.held.neighbours ≤ length st.codes))
            record-fits =
                let A = record-passes in (
                  (l, A.codes-length ∙ sym A.neighbours-length),
                  (
                    omega (arith, l, store-passing.words_long, A.neighbours-length, A.upto),
                    omega (arith, l, store-passing.codes-long, A.neighbours-length, A.upto),
                  ),
                )

            pub save-done : (heads' nb' cs' : List ℕ) → heads' ≡ (saved 8 u name st).heads
                → nb' ≡ (saved 8 u name st).neighbours → cs' ≡ (saved 8 u name st).codes
                → Call (save_call u name st heads' nb' cs') 0
            save-done heads' nb' cs' eh en ec = done _ (z ∙ at-end) z (eh, (en, (ec, tt)))
              where
                at-end : 0 ≡ first_fitting (save_lines 8 u name st)
                at-end = decides (record_tests (λ m. of_record u m || holds_line m (store_lines 8 st false))) refl e z
                    (later (not_full 8 st.heads name (subst (λ q. q < 8) p l)) none)
