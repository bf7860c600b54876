-- What the documents say of the exported functions of a party, from their contracts.
use mathlib.Core.List.{List}
use mathlib.Core.Path.{subst, sym}
use Rattle.parties.proofs.PartyPassing.{party-accepted}
use Rattle.parties.proofs.SameGroups.{party-rewritten}
use Rattle.record.specs.Lent.{held_record, lent_record}
use Rattle.record.specs.Records.{SameRecord, complement_record}
use Prim.Native.Nat.{ℕ}
use Rattle.calls.specs.PartyStores.{party_forget_call, party_return_call, party_save_call}
use Rattle.calls.specs.Parties.{party_call, party_measure_call}
use Rattle.claims.proofs.families.Parties.{parties-accepted, parties-conform}
use Rattle.claims.proofs.families.Shared.{answered, at_zero}
use Rattle.buffers.specs.Calls.{Call}
use Rattle.operations.specs.Steps.{complement_of, cz_on, gate_with}
use Rattle.store.specs.Places.{Store}
use Rattle.operations.specs.Used.{UsedRecord}
use Rattle.claims_parties.proofs.CallsStand.{party-calls-stand}
use Rattle.claims_parties.proofs.PartyKeepsHold.{
  party-calls-keep,
  party-forgets-keep,
  party-names-refused,
  party-returns-give,
  party-saves-keep,
}
use Rattle.claims_parties.proofs.PartiesReduce.{party-calls-reduce}
use Rattle.claims_parties.specs.Sentences.Parties.{
  GroupComplementSays,
  GroupCzSays,
  GroupForgetSays,
  GroupGateSays,
  GroupMeasureSays,
  GroupReturnSays,
  GroupSaveSays,
}
use Rattle.parties.specs.PartySentences.{
  party_complement_sentences,
  party_cz_sentences,
  party_gate_sentences,
  party_measure_sentences,
  party_named_sentences,
  party_save_sentences,
}
use Rattle.parties.proofs.PartyInWords.{named-in-words, save-in-words}
use Rattle.parties.proofs.PartyCallsInWords.{complement-in-words, cz-in-words, gate-in-words, measure-in-words}
use Rattle.claims.proofs.NumbersHold.{in_words}

module _ (word g : ℕ) (u : UsedRecord) where
  pub group-gate-says : (q k : ℕ) (nb' cs' : List ℕ) (r : ℕ) → Call (party_call word g u (gate_with q k) nb' cs') r →
      GroupGateSays word g u q k nb' cs' r
  group-gate-says q k nb' cs' r C =
      record {
        answered = answered (parties-conform.in_place word g u (gate_with q k) nb' cs') C;
        accepted = parties-accepted.gate word g u q k nb' cs' r C;
        numbers = in_words (party_gate_sentences word g u q k) (gate-in-words word g u q k) C;
        keeps = λ z. party-calls-keep.gate word g u q k nb' cs' (at_zero C z);
        reduces = λ z. party-calls-reduce.gate word g u q k nb' cs' (at_zero C z);
        stands = λ z r'' nb'' cs'' W. party-calls-stand.gate word g u q k nb' cs' r'' nb'' cs'' (at_zero C z) W;
      }

  pub group-cz-says : (a b : ℕ) (nb' cs' : List ℕ) (r : ℕ) → Call (party_call word g u (cz_on a b) nb' cs') r →
      GroupCzSays word g u a b nb' cs' r
  group-cz-says a b nb' cs' r C =
      record {
        answered = answered (parties-conform.in_place word g u (cz_on a b) nb' cs') C;
        accepted = parties-accepted.cz word g u a b nb' cs' r C;
        numbers = in_words (party_cz_sentences word g u a b) (cz-in-words word g u a b) C;
        keeps = λ z. party-calls-keep.cz word g u a b nb' cs' (at_zero C z);
        reduces = λ z. party-calls-reduce.cz word g u a b nb' cs' (at_zero C z);
        stands = λ z r'' nb'' cs'' W. party-calls-stand.cz word g u a b nb' cs' r'' nb'' cs'' (at_zero C z) W;
      }

  pub group-complement-says : (a : ℕ) (nb' cs' : List ℕ) (r : ℕ) → Call (party_call word g u (complement_of a) nb' cs') r
      →
      GroupComplementSays word g u a nb' cs' r
  group-complement-says a nb' cs' r C =
      record {
        answered = answered (parties-conform.in_place word g u (complement_of a) nb' cs') C;
        accepted = parties-accepted.complement word g u a nb' cs' r C;
        numbers = in_words (party_complement_sentences word g u a) (complement-in-words word g u a) C;
        keeps = λ z. party-calls-keep.complement word g u a nb' cs' (at_zero C z);
        rewritten = λ z.
            let D = at_zero C z in
            let e = sym D.number in
            subst (λ l. SameRecord (held_record l) (complement_record (held_record u.held) a))
            (λ j. lent_record u.held.n (sym D.held.0 j) (sym D.held.1.0 j))
            (party-rewritten word g u (party-accepted word g u (complement_of a) e) a e);
        stands = λ z r'' nb'' cs'' W. party-calls-stand.complement word g u a nb' cs' r'' nb'' cs'' (at_zero C z) W;
      }

  pub group-measure-says : (pauli q b answer determined : ℕ) (nb' cs' : List ℕ) (used' answer' determined' r : ℕ) →
      Call (party_measure_call word g u pauli q b answer determined nb' cs' used' answer' determined') r →
      GroupMeasureSays word g u pauli q b answer determined nb' cs' used' answer' determined' r
  group-measure-says pauli q b answer determined nb' cs' used' answer' determined' r C =
      record {
        answered = answered
            (parties-conform.measurements word g u pauli q b answer determined nb' cs' used' answer' determined') C;
        accepted = parties-accepted.measure word g u pauli q b answer determined nb' cs' used' answer' determined' r C;
        numbers = in_words (party_measure_sentences word g u pauli q b) (measure-in-words word g u pauli q b) C;
        keeps = λ z. party-calls-keep.measure word g u pauli q b answer determined nb' cs' used' answer' determined'
            (at_zero C z);
        reduces = λ z. party-calls-reduce.measure word g u pauli q b answer determined nb' cs' used' answer'
            determined'
            (at_zero C z);
        stands = λ z r'' nb'' cs'' used'' answer'' determined'' W. party-calls-stand.measure word g u pauli q b answer
            determined
            nb' cs' used' answer' determined' r'' nb'' cs'' used'' answer'' determined'' (at_zero C z) W;
      }

  pub group-save-says : (name : ℕ) (st : Store) (heads' nb' cs' : List ℕ) (r : ℕ) →
      Call (party_save_call word g u name st heads' nb' cs') r → GroupSaveSays word g u name st heads' nb' cs' r
  group-save-says name st heads' nb' cs' r C =
      record {
        answered = answered (parties-conform.saves word g u name st heads' nb' cs') C;
        accepted = parties-accepted.save word g u name st heads' nb' cs' r C;
        numbers = in_words (party_save_sentences word g u name st) (save-in-words word g u st name) C;
        full = party-names-refused.save word g u name st heads' nb' cs' r C;
        keeps = λ z. party-saves-keep word g u name st heads' nb' cs' (at_zero C z);
      }

  pub group-return-says : (name : ℕ) (st : Store) (nb' cs' : List ℕ) (used' r : ℕ) →
      Call (party_return_call word g u name st nb' cs' used') r → GroupReturnSays word g u name st nb' cs' used' r
  group-return-says name st nb' cs' used' r C =
      record {
        answered = answered (parties-conform.returns word g u name st nb' cs' used') C;
        accepted = parties-accepted.return word g u name st nb' cs' used' r C;
        numbers = in_words (party_named_sentences word g u name st) (named-in-words word g u st name) C;
        not-held = party-names-refused.return-to word g u name st nb' cs' used' r C;
        gives = λ z. party-returns-give word g u name st nb' cs' used' (at_zero C z);
      }

  pub group-forget-says : (name : ℕ) (st : Store) (heads' : List ℕ) (r : ℕ) →
      Call (party_forget_call word g u name st heads') r → GroupForgetSays word g u name st heads' r
  group-forget-says name st heads' r C =
      record {
        answered = answered (parties-conform.forgets word g u name st heads') C;
        accepted = parties-accepted.forget word g u name st heads' r C;
        numbers = in_words (party_named_sentences word g u name st) (named-in-words word g u st name) C;
        not-held = party-names-refused.forget word g u name st heads' r C;
        keeps = λ z. party-forgets-keep word g u name st heads' (at_zero C z);
      }
