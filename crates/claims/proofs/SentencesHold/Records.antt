-- What the demands say of each exported function on records, from its contract.
use mathlib.Core.Bool.{Bool, false, true, true≢false}
use mathlib.Core.List.{List}
use mathlib.Core.Logic.{◌≢◌}
use mathlib.Core.Path.{ap, refl, sym, ◌∙◌, ◌≡◌}
use Prim.Native.Nat.{ℕ}
use Rattle.calls.specs.Cuts.{cut_call}
use Rattle.calls.specs.Expansions.{expand_call}
use Rattle.calls.specs.InPlace.{in_place_call, used_call, used_measure_call}
use Rattle.calls.specs.Images.{image_call}
use Rattle.buffers.specs.Calls.{Call}
use Rattle.operations.specs.Steps.{complement_of, cz_on, gate_with, measurement_of, Operation, pivot_of}
use Rattle.record.specs.Lent.{LentRecord}
use Rattle.operations.specs.Used.{UsedRecord}
use Rattle.claims.proofs.Contradictions.{contradictions-refused}
use Rattle.claims.proofs.CutDemandHolds.{complements-keep-ranks, cuts-answer, cz-keeps-ranks, gates-keep-ranks}
use Rattle.claims.proofs.GatesFollow.{cz-follows, gates-follow}
use Rattle.claims.proofs.ImageDemandHolds.{images-follow}
use Rattle.claims.proofs.MeasurementsFollow.{measurements-follow}
use Rattle.claims.proofs.RewritingsKeep.{complements-keep}
use Rattle.claims.proofs.SecondDemandLists.{expansion-brings-back}
use Rattle.claims.proofs.UsedDemandHolds.{
  accepted-measured-without,
  accepted-without,
  calls-copy,
  measurements-mark,
  second-measurements-refused,
  used-calls-refused,
}
use Rattle.claims.proofs.families.Records.{records-accepted, records-conform}
use Rattle.claims.proofs.families.Shared.{answered, at_zero}
use Rattle.claims.specs.Sentences.Records.{
  ComplementSays,
  CutSays,
  CzSays,
  ExpandSays,
  GateSays,
  ImageSays,
  MeasureSays,
}
use Rattle.operations.proofs.UsedInWords.{complement-in-words, cz-in-words, gate-in-words, measure-in-words}
use Rattle.operations.specs.UsedSentences.{complement_sentences, cz_sentences, gate_sentences, measure_sentences}
use Rattle.claims.proofs.NumbersHold.{cut-words, expand-words, image-words, in_words}
use Rattle.claims.specs.Numbers.{expand_sentences, image_sentences, with_word_sentences}

-- an accepted call in place, without the used word
plainly : (u : UsedRecord) (o : Operation) (nb' cs' : List ℕ) {r : ℕ} → Call (used_call u o nb' cs') r → r ≡ 0 →
    Call (in_place_call u.held o nb' cs') 0
plainly u o nb' cs' C z = accepted-without u o nb' cs' (at_zero C z)

-- no measurement
abbrev measures : Operation → Bool
measures (gate_with q k) = false
measures (cz_on a b) = false
measures (measurement_of pauli q b) = true
measures (complement_of a) = false
measures (pivot_of j k) = false

not-measured : {o : Operation} → (measures o ≡ false) → (pauli q b : ℕ) → o ≢ measurement_of pauli q b
not-measured h pauli q b e = true≢false (sym (ap measures e) ∙ h)

pub expand-says : (u : UsedRecord) (s z x s' z' x' : List ℕ) (r : ℕ) → Call (expand_call u s z x s' z' x') r →
    ExpandSays u s z x s' z' x' r
expand-says u s z x s' z' x' r C =
    record {
      answered = answered (records-conform.expand u s z x s' z' x') C;
      accepted = records-accepted.expand u s z x s' z' x' r C;
      numbers = in_words (expand_sentences u s z x) (expand-words u s z x) C;
      group = λ e. expansion-brings-back u s z x s' z' x' (at_zero C e);
    }

pub gate-says : (u : UsedRecord) (q k : ℕ) (nb' cs' : List ℕ) (r : ℕ) → Call (used_call u (gate_with q k) nb' cs') r →
    GateSays u q k nb' cs' r
gate-says u q k nb' cs' r C =
    record {
      answered = answered (records-conform.in_place u (gate_with q k) nb' cs') C;
      accepted = records-accepted.gate u q k nb' cs' r C;
      numbers = in_words (gate_sentences u q k) (gate-in-words u q k) C;
      group = λ z. gates-follow u.held q k nb' cs' (plainly u (gate_with q k) nb' cs' C z);
      ranks = λ z. gates-keep-ranks u.held q k nb' cs' (plainly u (gate_with q k) nb' cs' C z);
      copied = λ z. calls-copy u (gate_with q k) (not-measured refl) nb' cs' (at_zero C z);
      refused = used-calls-refused u (gate_with q k) nb' cs' r C;
    }

pub cz-says : (u : UsedRecord) (a b : ℕ) (nb' cs' : List ℕ) (r : ℕ) → Call (used_call u (cz_on a b) nb' cs') r →
    CzSays u a b nb' cs' r
cz-says u a b nb' cs' r C =
    record {
      answered = answered (records-conform.in_place u (cz_on a b) nb' cs') C;
      accepted = records-accepted.cz u a b nb' cs' r C;
      numbers = in_words (cz_sentences u a b) (cz-in-words u a b) C;
      group = λ z. cz-follows u.held a b nb' cs' (plainly u (cz_on a b) nb' cs' C z);
      ranks = λ z. cz-keeps-ranks u.held a b nb' cs' (plainly u (cz_on a b) nb' cs' C z);
      copied = λ z. calls-copy u (cz_on a b) (not-measured refl) nb' cs' (at_zero C z);
      refused = used-calls-refused u (cz_on a b) nb' cs' r C;
    }

pub complement-says : (u : UsedRecord) (a : ℕ) (nb' cs' : List ℕ) (r : ℕ) →
    Call (used_call u (complement_of a) nb' cs') r → ComplementSays u a nb' cs' r
complement-says u a nb' cs' r C =
    record {
      answered = answered (records-conform.in_place u (complement_of a) nb' cs') C;
      accepted = records-accepted.complement u a nb' cs' r C;
      numbers = in_words (complement_sentences u a) (complement-in-words u a) C;
      group = λ z. complements-keep u.held a nb' cs' (plainly u (complement_of a) nb' cs' C z);
      ranks = λ z. complements-keep-ranks u.held a nb' cs' (plainly u (complement_of a) nb' cs' C z);
      copied = λ z. calls-copy u (complement_of a) (not-measured refl) nb' cs' (at_zero C z);
      refused = used-calls-refused u (complement_of a) nb' cs' r C;
    }

pub measure-says : (u : UsedRecord) (pauli q b answer determined : ℕ) (nb' cs' : List ℕ)
    (used' answer' determined' r : ℕ) →
    Call (used_measure_call u pauli q b answer determined nb' cs' used' answer' determined') r →
    MeasureSays u pauli q b answer determined nb' cs' used' answer' determined' r
measure-says u pauli q b answer determined nb' cs' used' answer' determined' r C =
    record {
      answered = answered (records-conform.measurements u pauli q b answer determined nb' cs' used' answer'
          determined') C;
      accepted = records-accepted.measure u pauli q b answer determined nb' cs' used' answer' determined' r C;
      numbers = in_words (measure_sentences u pauli q b) (measure-in-words u pauli q b) C;
      group = λ z. measurements-follow u.held pauli q b answer determined nb' cs' answer' determined'
          (accepted-measured-without u pauli q b answer determined nb' cs' used' answer' determined' (at_zero C z));
      contradicted = contradictions-refused u pauli q b answer determined r nb' cs' used' answer' determined' C;
      marked = λ z. measurements-mark u pauli q b answer determined nb' cs' used' answer' determined' (at_zero C z);
      refused = second-measurements-refused u pauli q b answer determined nb' cs' used' answer' determined' r C;
    }

pub image-says : (l : LentRecord) (image signs list : List ℕ) (count : ℕ) (image' signs' list' : List ℕ)
    (count' r : ℕ) → Call (image_call l image signs list count image' signs' list' count') r →
    ImageSays l image signs list count image' signs' list' count' r
image-says l image signs list count image' signs' list' count' r C =
    record {
      answered = answered (records-conform.images l image signs list count image' signs' list' count') C;
      accepted = records-accepted.image l image signs list count image' signs' list' count' r C;
      numbers = in_words (image_sentences l image signs list) (image-words l image signs list) C;
      decided = images-follow l image signs list count r image' signs' list' count' C;
    }

pub cut-says : (u : UsedRecord) (side rank rank' r : ℕ) → Call (cut_call u side rank rank') r →
    CutSays u side rank rank' r
cut-says u side rank rank' r C =
    record {
      answered = answered (records-conform.cuts u side rank rank') C;
      accepted = records-accepted.cut u side rank rank' r C;
      numbers = in_words (with_word_sentences u side) (cut-words u side) C;
      answer = λ z. cuts-answer u side rank rank' (at_zero C z);
    }
