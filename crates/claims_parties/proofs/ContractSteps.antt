-- What the contract of each party call says is the step of a run.
use mathlib.Core.Bool.{◌&&◌, Bool, cond, false, true}
use mathlib.Core.List.{List, [], ◌∷◌}
use mathlib.Core.Path.{ap, ap₂, refl, sym, ◌∙◌, ◌≡◌}
use Prim.Native.Nat.{◌^◌, ℕ}
use lib.Dec.{eqb}
use borrow.Author.Tests.{eqb-true, leb-false}
use Rattle.buffers.specs.Buffers.{accepted, accepted_number}
use Rattle.buffers.specs.Refusals.{first_fitting}
use Rattle.calls.specs.Parties.{party_call, party_measure_call}
use Rattle.calls.specs.Sources.{party_observe_call}
use Rattle.claims.specs.StoreDemand.{Session}
use Rattle.buffers.specs.Calls.{Call}
use Rattle.source.specs.PartySources.{party_observed}
use Rattle.parties.proofs.PartyPassing.{party-accepted}
use Rattle.parties.proofs.MaskedRecords.{apart-stray}
use Rattle.parties.specs.PartyLines.{party_after, party_lines}
use Rattle.parties.specs.PartyStores.{party_forgotten, party_returned, party_saved}
use Rattle.parties.specs.Masks.{in_party, masked}
use Rattle.parties.specs.internal.Apart.{Apart}
use Rattle.operations.specs.Measurement.{determined_number, outcome_number}
use Rattle.operations.specs.Steps.{Operation, complement_of, cz_on, gate_with, leaves, measured_answer, measurement_of}
use Rattle.source.specs.Renewal.{renewed}
use Rattle.store.specs.Places.{Store}
use Rattle.operations.specs.Used.{used_after, used_lines_of, UsedRecord, used_record, used_step}
use Rattle.words.proofs.BitLaws.{bit-word_of, word-cong, word_of-bit}
use Rattle.words.specs.Bits.{Word, bit}
use Rattle.claims_parties.specs.PartyContracts.{ContractsAreSteps, with_record, with_store}
use Rattle.claims_parties.specs.PartyRuns.{
  party_forget,
  party_measure,
  party_observe,
  party_renew,
  party_return,
  party_save,
  measured_numbers,
  shared_measured,
  shared_number,
}

-- ---- an accepted gate, cz or complementation keeps the used word
module _ (word g : ℕ) (u : UsedRecord) (o : Operation) (copies : (v : UsedRecord) → used_after v o ≡ v.used) where
  abbrev s : Word
  s = in_party word g

  own-used : (used_step (masked s u) o).after.used ≡ (masked s u).used
  own-used = go (eqb (first_fitting (used_lines_of (masked s u) o)) 0)
    where
      go : (b : Bool) → (cond b (record { held = leaves (masked s u).held o; used = used_after (masked s u) o })
          (masked s u)).used ≡ (masked s u).used
      go true = copies (masked s u)
      go false = refl

  pub used-kept : Apart word u → (party_after word g u o).used ≡ u.used
  used-kept H =
      word-cong u.held.n _ (bit u.used) (λ q l.
      ap (λ b. cond (s q) b (bit u.used q)) (ap (λ w. bit w q) own-used ∙ bit-word_of u.held.n _ q l)
      ∙ either (s q) (bit u.used q))
      ∙ word_of-bit u.held.n u.used (leb-false (2 ^ u.held.n) u.used (apart-stray word u H))
    where
      either : (b x : Bool) → cond b (b && x) x ≡ x
      either true x = refl
      either false x = refl

-- ---- buffers and numbers that hold the answer, or what they held
module _ (s : Session) (N r : ℕ) (number : r ≡ N) where
  record-step : (v : UsedRecord) → s.current.held.n ≡ v.held.n → (nb' cs' : List ℕ) (used' : ℕ) →
      nb' ≡ accepted r v.held.neighbours s.current.held.neighbours →
      cs' ≡ accepted r v.held.codes s.current.held.codes →
      used' ≡ accepted_number r v.used s.current.used →
      with_record s nb' cs' used' ≡ cond (eqb N 0) (record { current = v; store = s.store }) s
  record-step v e nb' cs' used' a b c =
      (λ j. with_record s ((a ∙ ap (λ m. accepted m v.held.neighbours s.current.held.neighbours) number) j)
      ((b ∙ ap (λ m. accepted m v.held.codes s.current.held.codes) number) j)
      ((c ∙ ap (λ m. accepted_number m v.used s.current.used) number) j))
      ∙ go (eqb N 0)
    where
      go : (f : Bool) → with_record s (cond f v.held.neighbours s.current.held.neighbours)
          (cond f v.held.codes s.current.held.codes) (cond f v.used s.current.used)
          ≡ cond f (record { current = v; store = s.store }) s
      go true = λ j. record {
        current = used_record (e j) v.held.neighbours v.held.codes v.used;
        store = s.store;
      }
      go false = refl

  store_step : (w : Store) (heads' nb' cs' : List ℕ) → heads' ≡ accepted r w.heads s.store.heads →
      nb' ≡ accepted r w.neighbours s.store.neighbours → cs' ≡ accepted r w.codes s.store.codes →
      with_store s heads' nb' cs' ≡ cond (eqb N 0) (record { current = s.current; store = w }) s
  store_step w heads' nb' cs' a b c =
      (λ j. with_store s ((a ∙ ap (λ m. accepted m w.heads s.store.heads) number) j)
      ((b ∙ ap (λ m. accepted m w.neighbours s.store.neighbours) number) j)
      ((c ∙ ap (λ m. accepted m w.codes s.store.codes) number) j))
      ∙ go (eqb N 0)
    where
      go : (f : Bool) → with_store s (cond f w.heads s.store.heads)
          (cond f w.neighbours s.store.neighbours)
          (cond f w.codes s.store.codes) ≡ cond f (record { current = s.current; store = w }) s
      go true = refl
      go false = refl

-- a gate, a cz or a complementation
module _ (word g : ℕ) (s : Session) (o : Operation) (copies : (v : UsedRecord) → used_after v o ≡ v.used) (r : ℕ)
    (nb' cs' : List ℕ) (C : Call (party_call word g s.current o nb' cs') r) where
  used-same : s.current.used ≡ accepted_number r (party_after word g s.current o).used s.current.used
  used-same = go (eqb r 0) (eqb-true r 0)
    where
      go : (b : Bool) → (b ≡ true → r ≡ 0) →
          s.current.used ≡ cond b (party_after word g s.current o).used s.current.used
      go true z = sym (used-kept word g s.current o copies
          (party-accepted word g s.current o (sym C.number ∙ z refl)))
      go false z = refl

  operation-step : with_record s nb' cs' s.current.used
      ≡ cond (eqb (first_fitting (party_lines word g s.current o)) 0)
      (record { current = party_after word g s.current o; store = s.store }) s
  operation-step = record-step s (first_fitting (party_lines word g s.current o)) r C.number
      (party_after word g s.current o) refl nb' cs' s.current.used C.held.0 C.held.1.0 used-same

-- a refused call keeps a buffer, and one that answers what was there keeps it too
kept_buffer : (r : ℕ) (buffer : List ℕ) → buffer ≡ accepted r buffer buffer
kept_buffer r buffer = go (eqb r 0)
  where
    go : (b : Bool) → buffer ≡ cond b buffer buffer
    go true = refl
    go false = refl

-- the numbers of an accepted measurement
told : (word g : ℕ) (s : Session) (pauli q b answer determined r : ℕ) (nb' cs' : List ℕ)
    (used' answer' determined' : ℕ) →
    Call (party_measure_call word g s.current pauli q b answer determined nb' cs' used' answer' determined') r →
    r ≡ 0 →
    answer' ∷ determined' ∷ [] ≡ shared_measured word g s (party_measure pauli q b)
told word g s pauli q b answer determined r nb' cs' used' answer' determined' C z =
    let o = measured_answer s.current.held pauli q b in
    ap₂ (λ x y. x ∷ y ∷ []) (C.held.1.0 ∙ ap (λ m. accepted_number m (outcome_number o) answer) z)
    (C.held.1.1.0 ∙ ap (λ m. accepted_number m (determined_number o) determined) z)
    ∙ sym (ap (λ m. cond (eqb m 0) (measured_numbers s (party_measure pauli q b)) []) (sym C.number ∙ z))

-- and of an accepted observation
told-by-lot : (word g : ℕ) (s : Session) (pauli q b answer determined r : ℕ) (nb' cs' : List ℕ)
    (used' answer' determined' : ℕ) →
    Call (party_observe_call word g s.current pauli q b answer determined nb' cs' used' answer' determined') r →
    r ≡ 0 →
    answer' ∷ determined' ∷ [] ≡ shared_measured word g s (party_observe pauli q b)
told-by-lot word g s pauli q b answer determined r nb' cs' used' answer' determined' C z =
    let o = measured_answer s.current.held pauli q b in
    ap₂ (λ x y. x ∷ y ∷ []) (C.held.1.0 ∙ ap (λ m. accepted_number m (outcome_number o) answer) z)
    (C.held.1.1.0 ∙ ap (λ m. accepted_number m (determined_number o) determined) z)
    ∙ sym (ap (λ m. cond (eqb m 0) (measured_numbers s (party_observe pauli q b)) []) (sym C.number ∙ z))

pub contracts-are-steps : ContractsAreSteps
contracts-are-steps =
    record {
      gate = λ word g s q k r nb' cs' C. record {
        number = C.number;
        state = operation-step word g s (gate_with q k) (λ v. refl) r nb' cs' C;
      };
      cz = λ word g s a b r nb' cs' C. record {
        number = C.number;
        state = operation-step word g s (cz_on a b) (λ v. refl) r nb' cs' C;
      };
      complement = λ word g s a r nb' cs' C. record {
        number = C.number;
        state = operation-step word g s (complement_of a) (λ v. refl) r nb' cs' C;
      };
      measure = λ word g s pauli q b answer determined r nb' cs' used' answer' determined' C. (
        record {
          number = C.number;
          state = record-step s (shared_number word g s (party_measure pauli q b)) r C.number
              (party_after word g s.current (measurement_of pauli q b)) refl nb' cs' used' C.held.1.1.1.0
              C.held.1.1.1.1.0 C.held.0;
        },
        told word g s pauli q b answer determined r nb' cs' used' answer' determined' C,
      );
      observe = λ word g s pauli q b answer determined r nb' cs' used' answer' determined' C. (
        record {
          number = C.number;
          state = record-step s (shared_number word g s (party_observe pauli q b)) r C.number
              (party_observed word g s.current pauli q b) refl nb' cs' used' C.held.1.1.1.0
              C.held.1.1.1.1.0 C.held.0;
        },
        told-by-lot word g s pauli q b answer determined r nb' cs' used' answer' determined' C,
      );
      renew = λ word g s q k r nb' cs' used' C. record {
        number = C.number;
        state = record-step s (shared_number word g s (party_renew q k)) r C.number (renewed s.current q k) refl nb'
            cs'
            used' C.held.1.0 C.held.1.1.0 C.held.0;
      };
      save = λ word g s name r heads' nb' cs' C. record {
        number = C.number;
        state = store_step s (shared_number word g s (party_save name)) r C.number
            (party_saved word g s.current name s.store) heads' nb' cs' C.held.0 C.held.1.0
            C.held.1.1.0;
      };
      return-to = λ word g s name r nb' cs' used' C. record {
        number = C.number;
        state = record-step s (shared_number word g s (party_return name)) r C.number
            (party_returned word g s.current name s.store) refl nb' cs' used' C.held.0 C.held.1.0
            C.held.1.1.0;
      };
      forget = λ word g s name r heads' C. record {
        number = C.number;
        state = store_step s (shared_number word g s (party_forget name)) r C.number
            (record {
              heads = party_forgotten g name s.store;
              neighbours = s.store.neighbours;
              codes = s.store.codes;
            }) heads' s.store.neighbours s.store.codes C.held.0 (kept_buffer r s.store.neighbours)
            (kept_buffer r s.store.codes);
      };
    }
