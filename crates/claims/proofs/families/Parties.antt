-- Two parties on one record: the lines and answers of a party's calls are as demand 1 has them, and which arguments
-- they accept.
use mathlib.Core.Bool.{false, not, ◌||◌}
use mathlib.Core.List.{List}
use mathlib.Core.Logic.Iff
use mathlib.Core.Logic.{◌↔◌}
use mathlib.Core.Path.{◌≡◌, ◌∙◌, ap, ap₂, refl, subst, sym}
use Prim.Native.Nat.{◌<◌, ℕ}
use lib.ListN.{length-set}
use borrow.Author.Tests.{not-false}
use Rattle.buffers.proofs.Tabulate.{tabulate-length}
use Rattle.buffers.specs.Refusals.{first_fitting}
use Rattle.calls.specs.PartyStores.{party_return_call, party_save_call}
use Rattle.calls.specs.Parties.{party_lent}
use Rattle.buffers.specs.Calls.{EachOf}
use Rattle.parties.proofs.PartyPassing.{party-passes}
use Rattle.parties.proofs.OwnPlaces.{EightLong, placed-eight-long}
use Rattle.parties.proofs.SharedLines.{save-place}
use Rattle.parties.specs.PartyLines.{party_lines, outsider}
use Rattle.parties.specs.PartyStores.{party_named_lines, party_save_lines, own_places}
use Rattle.parties.specs.Masks.{in_party, masked}
use Rattle.operations.specs.Steps.{complement_of, cz_on, gate_with, measurement_of, Operation, pivot_of}
use Rattle.store.specs.Kept.{save_place}
use Rattle.store.specs.Places.{Store, holds_name, others_held}
use Rattle.operations.proofs.AcceptedSteps.{accepted-step}
use Rattle.operations.proofs.UsedPassing.{used_step_lem}
use Rattle.operations.specs.Used.{UsedRecord}
use Rattle.words.proofs.Flags.{neither}
use Rattle.claims.proofs.PartiesExactly.{party-exactly, own-exactly, with-last}
use Rattle.claims.proofs.UsedExactly.{used-complement, used-cz, used-gate, used-measure}
use Rattle.claims.proofs.families.Shared.{by_lines, table-fills}
use Rattle.claims.specs.Conforming.{Fills, InOrder}
use Rattle.claims.specs.families.Parties.{
  PartyNameFits,
  PartySaveFits,
  PartiesAccepted,
  PartiesConform,
  Own,
  OwnStates,
  TwoParties,
}
use Rattle.claims.specs.families.Records.{ComplementFits, CzFits, GateFits, MeasureFits}

-- ---- demand 1
in_order : (word g : ℕ) (u : UsedRecord) (o : Operation) → InOrder (party_lines word g u o)
in_order word g u (gate_with q k) = refl
in_order word g u (cz_on a b) = refl
in_order word g u (measurement_of pauli q b) = refl
in_order word g u (complement_of a) = refl
in_order word g u (pivot_of j k) = refl

-- the record's two buffers
record-fills : (word g : ℕ) (u : UsedRecord) (o : Operation) (nb' cs' : List ℕ) → first_fitting (party_lines word g u o) ≡
    0
    → EachOf Fills (party_lent word g u o nb' cs')
record-fills word g u o nb' cs' z =
    let A = accepted-step u.held o (used_step_lem u o (party-passes word g u o z).lines) in (
      table-fills u.held.n _ u.held.neighbours A.neighbours-length,
      (table-fills u.held.n _ u.held.codes A.codes-length, tt),
    )

eight-long : (word g : ℕ) (st : Store) → OwnStates word g st → EightLong st
eight-long word g st O = record { heads = O.heads; words = O.neighbours; codes = O.codes }

save-fills : (word g : ℕ) (u : UsedRecord) (name : ℕ) (st : Store) → first_fitting (party_save_lines word g u name st) ≡ 0
    → EachOf Fills (party_save_call word g u name st st.heads st.neighbours st.codes).lent
save-fills word g u name st z =
    let F = ((with-last word g u st 17 (others_held 4 (own_places g st).heads name)).0 z).0 in
    let L = eight-long word g st F.own in
    let low = F.parties.party in
    let E = placed-eight-long g (save_place 4 (own_places g st).heads name) (masked (in_party word g) u) name st low
    (save-place word g u name st z) (tabulate-length u.held.n _ ∙ F.parties.count)
    (tabulate-length u.held.n _ ∙ F.parties.count) L in (
      E.heads ∙ sym L.heads,
      (E.words ∙ sym L.words, (E.codes ∙ sym L.codes, tt)),
    )

return-fills : (word g : ℕ) (u : UsedRecord) (name : ℕ) (st : Store) → first_fitting (party_named_lines word g u name st) ≡
    0
    → EachOf Fills (party_return_call word g u name st u.held.neighbours u.held.codes u.used).lent
return-fills word g u name st z =
    let A = ((with-last word g u st 16 (not (holds_name 4 (own_places g st).heads name))).0 z).0.held.held in (
      table-fills u.held.n _ u.held.neighbours A.neighbours-length,
      (table-fills u.held.n _ u.held.codes A.codes-length, (tt, tt)),
    )

pub parties-conform : PartiesConform
parties-conform =
    record {
      in_place = λ word g u o nb' cs'. record {
        order = in_order word g u o;
        complete = record-fills word g u o nb' cs';
      };
      measurements = λ word g u pauli q b answer determined nb' cs' used' answer' determined'. record {
        order = refl;
        complete = λ z. (tt, (tt, (tt, record-fills word g u (measurement_of pauli q b) nb' cs' z)));
      };
      saves = λ word g u name st heads' nb' cs'. record { order = refl; complete = save-fills word g u name st };
      returns = λ word g u name st nb' cs' used'. record { order = refl; complete = return-fills word g u name st };
      forgets = λ word g u name st heads'. record { order = refl; complete = λ z. (length-set st.heads _ 0, tt) };
    }

-- ---- which arguments they accept
module _ (word g : ℕ) (u : UsedRecord) where
  -- a qubit of the record, among 64
  below : TwoParties word g u → (q : ℕ) → q < u.held.n → q < 64
  below T q l = subst (λ n. q < n) T.count l

  owned : TwoParties word g u → (q : ℕ) → q < u.held.n → (outsider (in_party word g) 64 q ≡ false) ↔ Own word g q
  owned T q l = own-exactly (in_party word g) q (below T q l)

  gate-exactly : (q k : ℕ) → (first_fitting (party_lines word g u (gate_with q k)) ≡ 0)
      ↔ (TwoParties word g u × Own word g q × GateFits u q k)
  gate-exactly q k = (
    (λ e. let h = (party-exactly word g u (gate_with q k)).0 e in let F = (used-gate u q k).0 h.2 in
        (h.0, (owned h.0 q F.1.0).0 h.1, F)),
    (λ h. (party-exactly word g u (gate_with q k)).1
        (h.0, (owned h.0 q h.2.1.0).1 h.1, (used-gate u q k).1 h.2)),
  )

  cz-exactly : (a b : ℕ) → (first_fitting (party_lines word g u (cz_on a b)) ≡ 0)
      ↔ (TwoParties word g u × (Own word g a × Own word g b) × CzFits u a b)
  cz-exactly a b = (
    (λ e. let h = (party-exactly word g u (cz_on a b)).0 e in let F = (used-cz u a b).0 h.2 in
        let n = neither (outsider (in_party word g) 64 a) (outsider (in_party word g) 64 b) h.1 in
        (h.0, ((owned h.0 a F.1.0).0 n.0, (owned h.0 b F.2.0).0 n.1), F)),
    (λ h. (party-exactly word g u (cz_on a b)).1 (
      h.0,
      ap₂ ◌||◌ ((owned h.0 a h.2.1.0).1 h.1.0) ((owned h.0 b h.2.2.0).1 h.1.1),
      (used-cz u a b).1 h.2,
    )),
  )

  measure-exactly : (pauli q b : ℕ) → (first_fitting (party_lines word g u (measurement_of pauli q b)) ≡ 0)
      ↔ (TwoParties word g u × Own word g q × MeasureFits u pauli q b)
  measure-exactly pauli q b = (
    (λ e. let h = (party-exactly word g u (measurement_of pauli q b)).0 e in let F = (used-measure u pauli q b).0 h.2 in
        (h.0, (owned h.0 q F.qubit.0).0 h.1, F)),
    (λ h. (party-exactly word g u (measurement_of pauli q b)).1
        (h.0, (owned h.0 q h.2.qubit.0).1 h.1, (used-measure u pauli q b).1 h.2)),
  )

  complement-exactly : (a : ℕ) → (first_fitting (party_lines word g u (complement_of a)) ≡ 0)
      ↔ (TwoParties word g u × Own word g a × ComplementFits u a)
  complement-exactly a = (
    (λ e. let h = (party-exactly word g u (complement_of a)).0 e in let F = (used-complement u a).0 h.2 in
        (h.0, (owned h.0 a F.1.0).0 h.1, F)),
    (λ h. (party-exactly word g u (complement_of a)).1
        (h.0, (owned h.0 a h.2.1.0).1 h.1, (used-complement u a).1 h.2)),
  )

  save-exactly : (name : ℕ) (st : Store) → (first_fitting (party_save_lines word g u name st) ≡ 0) ↔ PartySaveFits word g u
      name st
  save-exactly name st = with-last word g u st 17 (others_held 4 (own_places g st).heads name)

  named-exactly : (name : ℕ) (st : Store) → (first_fitting (party_named_lines word g u name st) ≡ 0) ↔ PartyNameFits word g
      u name st
  named-exactly name st = (
    (λ e. let h = (with-last word g u st 16 (not (holds_name 4 (own_places g st).heads name))).0 e in
        (h.0, not-false _ h.1)),
    (λ F. (with-last word g u st 16 (not (holds_name 4 (own_places g st).heads name))).1 (F.0, ap not F.1)),
  )

pub parties-accepted : PartiesAccepted
parties-accepted =
    record {
      gate = λ word g u q k nb' cs' r C. Iff.trans (by_lines C) (gate-exactly word g u q k);
      cz = λ word g u a b nb' cs' r C. Iff.trans (by_lines C) (cz-exactly word g u a b);
      measure = λ word g u pauli q b answer determined nb' cs' used' answer' determined' r C.
          Iff.trans (by_lines C) (measure-exactly word g u pauli q b);
      complement = λ word g u a nb' cs' r C. Iff.trans (by_lines C) (complement-exactly word g u a);
      save = λ word g u name st heads' nb' cs' r C. Iff.trans (by_lines C) (save-exactly word g u name st);
      return = λ word g u name st nb' cs' used' r C. Iff.trans (by_lines C) (named-exactly word g u name st);
      forget = λ word g u name st heads' r C. Iff.trans (by_lines C) (named-exactly word g u name st);
    }
