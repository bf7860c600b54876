-- What each call of a party leaves: the other party's vertices and places stay, and under the party's names is held
-- what a save and a forget say; 17 and 18.
use mathlib.Core.Bool.{Bool, cond, false, not, true}
use mathlib.Core.List.{List}
use mathlib.Core.Path.{ap, refl, subst, sym, ◌∙◌, ◌≡◌}
use Prim.Native.Nat.{◌*◌, ◌+◌, ◌<◌, ℕ}
use borrow.Author.Tests.{not-true}
use native.Mathlib.Omega.{arith}
use Rattle.buffers.proofs.Tabulate.{tabulate-length}
use Rattle.buffers.specs.Refusals.{first_fitting}
use Rattle.calls.specs.Parties.{party_call}
use Rattle.claims.proofs.StoreDemandHolds.{forgotten-free}
use Rattle.claims.specs.UsedDemand.{left_used}
use Rattle.buffers.proofs.Fitting.{decides, fits-at, is-first, none-fits-of, skips}
use Rattle.buffers.specs.Answers.{here}
use Rattle.buffers.specs.Calls.{Call}
use Rattle.parties.proofs.PartyPassing.{party-accepted}
use Rattle.parties.proofs.MaskedRecords.{masked-passes}
use Rattle.parties.proofs.MergedPasses.{party-apart, merged-apart}
use Rattle.parties.proofs.Merging.{merged-code, merged-used, merged-word}
use Rattle.parties.proofs.OwnHeads.{freed-other-heads, freed-own-heads}
use Rattle.parties.proofs.OwnPlaces.{EightLong, placed-other-places}
use Rattle.parties.proofs.SharedLines.{
  named_count,
  named-held,
  named-inside,
  named-passes,
  named-place,
  named-shared,
  save-place,
  save-shared,
  shared-apart,
  shared-fits,
  shared-party,
  shared_long,
}
use Rattle.parties.specs.PartyLines.{party_after, party_lines}
use Rattle.parties.specs.PartyStores.{
  party_forgotten,
  party_named_lines,
  party_returned,
  party_save_lines,
  party_saved,
  own_places,
  shared_lines,
}
use Rattle.parties.specs.Masks.{in_party, masked, merged, reaches_out}
use Rattle.parties.specs.internal.Apart.{Apart, PartyOp, complement-op, cz-op, gate-op, measure-op}
use Rattle.operations.specs.Steps.{Operation, complement_of, cz_on, gate_with, measurement_of}
use Rattle.store.proofs.ForgottenNames.{forgotten-lookup, forgotten-passing, held-lookup}
use Rattle.store.proofs.Lookups.{found_nowhere, saved-lookup, saved-passing}
use Rattle.store.proofs.PassingStores.{store-passes}
use Rattle.store.specs.StoreLines.{store_lines}
use Rattle.store.specs.Kept.{save_place}
use Rattle.store.specs.Places.{Store, found, holds_name, lookup, nothing, others_held, place_at, place_of}
use Rattle.operations.specs.Used.{UsedRecord, used_after, used_lines, used_step}
use Rattle.claims_parties.proofs.ContractSteps.{used-kept}
use Rattle.claims_parties.proofs.OwnCalls.{held_place, returned-left, saved-left}
use Rattle.claims_parties.specs.PartyKeeps.{
  PartyCallsKeep,
  PartyForgetKeeps,
  PartyForgetsKeep,
  PartyFull,
  PartyKeeps,
  PartyNamesRefused,
  PartyNotHeld,
  PartyReturnGives,
  PartyReturnsGive,
  PartySaveKeeps,
  PartySavesKeep,
}

-- ---- vertices put back into a record with the parties apart
merged_keeps : (word g : ℕ) (a u : UsedRecord) → Apart word u → Apart word (merged (in_party word g) a u) →
    PartyKeeps word g u (merged (in_party word g) a u)
merged_keeps word g a u H B =
    record {
      words = λ q l h. merged-word (in_party word g) a u q (below q l) false h;
      codes = λ q l h. merged-code (in_party word g) a u q (below q l) false h;
      used = λ q l h. merged-used (in_party word g) a u q (below q l) false h;
      still = B.passes;
      apart = B.no-crossing;
    }
  where
    below : (q : ℕ) → q < 64 → q < u.held.n
    below q l = subst (λ n. q < n) (sym H.count) l

module _ (word g : ℕ) (u : UsedRecord) (o : Operation) (G : PartyOp o) (nb' cs' : List ℕ) (used' : ℕ) where
  operation-keeps : first_fitting (party_lines word g u o) ≡ 0 → nb' ≡ (party_after word g u o).held.neighbours →
      cs' ≡ (party_after word g u o).held.codes → used' ≡ (party_after word g u o).used →
      PartyKeeps word g u (left_used u nb' cs' used')
  operation-keeps z a b c = subst (PartyKeeps word g u)
      (λ j. left_used u (sym a j) (sym b j) (sym c j))
      (merged_keeps word g (used_step (masked (in_party word g) u) o).after u (party-accepted word g u o z)
      (party-apart word g u (party-accepted word g u o z) o G z))

-- a gate, a cz or a complementation
copying-keeps : (word g : ℕ) (u : UsedRecord) (o : Operation) → PartyOp o →
    ((v : UsedRecord) → used_after v o ≡ v.used) →
    (nb' cs' : List ℕ) → Call (party_call word g u o nb' cs') 0 → PartyKeeps word g u (left_used u nb' cs' u.used)
copying-keeps word g u o G copies nb' cs' C = operation-keeps word g u o G nb' cs' u.used (sym C.number)
    C.held.0
    C.held.1.0 (sym (used-kept word g u o copies (party-accepted word g u o (sym C.number))))

pub party-calls-keep : PartyCallsKeep
party-calls-keep =
    record {
      gate = λ word g u q k. copying-keeps word g u (gate_with q k) (gate-op q k) (λ v. refl);
      cz = λ word g u a b. copying-keeps word g u (cz_on a b) (cz-op a b) (λ v. refl);
      complement = λ word g u a. copying-keeps word g u (complement_of a) (complement-op a) (λ v. refl);
      measure = λ word g u pauli q b answer determined nb' cs' used' answer' determined' C.
          operation-keeps word g u (measurement_of pauli q b) (measure-op pauli q b) nb' cs' used' (sym C.number)
          C.held.1.1.1.0 C.held.1.1.1.1.0 C.held.0;
    }

-- ---- a save
module _ (word g : ℕ) (u : UsedRecord) (name : ℕ) (st : Store)
    (z : first_fitting (party_save_lines word g u name st) ≡ 0) where
  saved-keeps : PartySaveKeeps word g u name st (party_saved word g u name st)
  saved-keeps =
      let h = save-shared word g u name st z in
      let H = shared-apart word g u st h in
      let L = shared_long word g u st h in
      let lg = shared-party word g u st h in
      let l = save-place word g u name st z in
      record {
        held = λ m. ap (λ own. lookup 4 own m) (saved-left word g lg u name st H L z)
            ∙ saved-lookup 4 (own_places g st) (shared-fits word g u st h).passing (masked (in_party word g) u)
            (masked-passes word g u H) name l m;
        still = subst (λ own. first_fitting (store_lines 4 own false) ≡ 0) (sym (saved-left word g lg u name st H L z))
            (store-passes 4 _ (saved-passing 4 (own_places g st) (shared-fits word g u st h).passing
            (masked (in_party word g) u) (masked-passes word g u H) name l));
        others = λ h lh ne. placed-other-places g (save_place 4 (own_places g st).heads name)
            (masked (in_party word g) u)
            name st lg l (tabulate-length u.held.n _ ∙ H.count)
            (tabulate-length u.held.n _ ∙ H.count) L h lh ne;
      }

pub party-saves-keep : PartySavesKeep
party-saves-keep word g u name st heads' nb' cs' C = subst (PartySaveKeeps word g u name st)
    (λ j. record { heads = sym C.held.0 j; neighbours = sym C.held.1.0 j; codes = sym C.held.1.1.0 j })
    (saved-keeps word g u name st (sym C.number))

-- ---- a return and a forget
module _ (word g : ℕ) (u : UsedRecord) (name : ℕ) (st : Store)
    (z : first_fitting (party_named_lines word g u name st) ≡ 0) where
  abbrev own : Store
  own = own_places g st

  abbrev p : ℕ
  p = place_of 4 (own_places g st).heads name

  H : Apart word u
  H = shared-apart word g u st (named-shared word g u name st z)

  L : EightLong st
  L = shared_long word g u st (named-shared word g u name st z)

  lg : g < 2
  lg = shared-party word g u st (named-shared word g u name st z)

  forgotten-keeps : PartyForgetKeeps g name st
      (record { heads = party_forgotten g name st; neighbours = st.neighbours; codes = st.codes })
  forgotten-keeps =
      record {
        held = λ m. ap
            (λ heads. lookup 4 (record { heads = heads; neighbours = own.neighbours; codes = own.codes }) m)
            (freed-own-heads g p lg (named-place word g u name st z) st.heads)
            ∙ forgotten-lookup 4 own (shared-fits word g u st (named-shared word g u name st z)).passing name
            (named-held word g u name st z) m;
        still = subst (λ heads. first_fitting (store_lines 4 (record {
          heads = heads;
          neighbours = own.neighbours;
          codes = own.codes;
        }) false) ≡ 0) (sym (freed-own-heads g p lg (named-place word g u name st z) st.heads))
            (store-passes 4 _ (forgotten-passing 4 own
            (shared-fits word g u st (named-shared word g u name st z)).passing name (named-held word g u name st z)));
        free = λ m. ap (λ heads. others_held 4 heads m)
            (freed-own-heads g p lg (named-place word g u name st z) st.heads)
            ∙ forgotten-free 4 own (shared-fits word g u st (named-shared word g u name st z)).passing name
            (named-held word g u name st z) m;
        others = λ h lh ne. λ j. record {
          heads = freed-other-heads g p lg (named-place word g u name st z) h ne st.heads j;
          neighbours = (own_places h st).neighbours;
          codes = (own_places h st).codes;
        };
      }

  returned-gives : PartyReturnGives word g u name st (party_returned word g u name st)
  returned-gives =
      let same = held_place word g lg u name st L z in
      record {
        state = place_at own p;
        held = held-lookup 4 own (shared-fits word g u st (named-shared word g u name st z)).passing name
            (named-held word g u name st z);
        own = returned-left word g lg u name st H L z;
        keeps = merged_keeps word g (place_at st (4 * g + p)) u H (merged-apart word g u (place_at st (4 * g + p)) H
            (ap (λ v. v.held.n) same ∙ named_count word g u name st z)
            (ap (λ v. first_fitting (used_lines v false false false)) same ∙ named-passes word g u name st z)
            (ap (reaches_out (in_party word g)) same ∙ named-inside word g u name st z));
      }

pub party-forgets-keep : PartyForgetsKeep
party-forgets-keep word g u name st heads' C = subst (PartyForgetKeeps g name st)
    (λ j. record { heads = sym C.held.0 j; neighbours = st.neighbours; codes = st.codes })
    (forgotten-keeps word g u name st (sym C.number))

pub party-returns-give : PartyReturnsGive
party-returns-give word g u name st nb' cs' used' C = subst (PartyReturnGives word g u name st)
    (λ j. left_used u (sym C.held.0 j) (sym C.held.1.0 j) (sym C.held.1.1.0 j))
    (returned-gives word g u name st (sym C.number))

-- ---- 17 and 18
module _ (word g : ℕ) (u : UsedRecord) (name : ℕ) (st : Store) where
  nothing-held : (b : Bool) →
      cond b (found (place_at (own_places g st) (place_of 4 (own_places g st).heads name))) nothing
      ≡ nothing → b ≡ false
  nothing-held true e = let z : ◌≡◌ {A = ℕ} 0 1 = cc in absurd (omega (arith, z))
  nothing-held false e = refl

  not-held : {r : ℕ} → r ≡ first_fitting (party_named_lines word g u name st) → PartyNotHeld word g u name st r
  not-held e = (
    (λ z. let h = skips (shared_lines word g u st) 17 refl z (fits-at (party_named_lines word g u name st) e) in (
      none-fits-of (shared_lines word g u st) h.0,
      found_nowhere 4 (own_places g st) name (not-true (holds_name 4 (own_places g st).heads name)
          (is-first h.1 refl z)),
    )),
    (λ h. e ∙ sym (decides (shared_lines word g u st) refl (sym h.0) refl
        (here (ap not (nothing-held (holds_name 4 (own_places g st).heads name) h.1))))),
  )

  full-here : {r : ℕ} → r ≡ first_fitting (party_save_lines word g u name st) → PartyFull word g u name st r
  full-here e = (
    (λ z. let h = skips (shared_lines word g u st) 18 refl z (fits-at (party_save_lines word g u name st) e) in
        (none-fits-of (shared_lines word g u st) h.0, is-first h.1 refl z)),
    (λ h. e ∙ sym (decides (shared_lines word g u st) refl (sym h.0) refl (here h.1))),
  )

pub party-names-refused : PartyNamesRefused
party-names-refused =
    record {
      save = λ word g u name st heads' nb' cs' r C. full-here word g u name st C.number;
      return-to = λ word g u name st nb' cs' used' r C. not-held word g u name st C.number;
      forget = λ word g u name st heads' r C. not-held word g u name st C.number;
    }
