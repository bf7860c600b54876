-- What the documents say of each exported function on records, in one record: demand 1, which arguments it
-- accepts, and the sentences of the demands and of the requests that speak of its answer. That it answers as expanding,
-- changing the list and reducing would, and that it is a step of a job and an action of a session, are theorems of
-- their own
-- (`GatesByExpanding` and the like, `ContractsAreActions`).
use Rattle.std.specs.Prelude.{false, ◌||◌, List, ◌↔◌, ◌≡◌, ℕ}
use Rattle.buffers.specs.Refusals.{first_fitting, other_than}
use Rattle.calls.specs.Cuts.{cut_call}
use Rattle.calls.specs.Expansions.{expand_call}
use Rattle.calls.specs.InPlace.{used_call, used_measure_call}
use Rattle.calls.specs.Images.{image_call}
use Rattle.jobs.specs.Standing.{left}
use Rattle.operations.specs.Steps.{complement_of, cz_on, gate_with, measurement_of}
use Rattle.record.specs.Lent.{held_record, LentRecord, record_lines}
use Rattle.record.specs.Records.{complement_record}
use Rattle.operations.specs.Used.{UsedRecord}
use Rattle.words.specs.Bits.{Word}
use Rattle.claims.specs.Conforming.{Answered}
use Rattle.claims.specs.CutDemand.{CutAnswer, rank_across}
use Rattle.claims.specs.ImageDemand.{ImageDecided}
use Rattle.claims.specs.OperationsDemand.{
  CzStands,
  GateStands,
  MeasurementStands,
  OutcomeContradicted,
  RewrittenAs,
}
use Rattle.claims.specs.SecondDemand.{BroughtBack}
use Rattle.claims.specs.UsedDemand.{SixteenExactly, UsedCopied, UsedMarked}
use Rattle.claims.specs.families.Records.{
  ComplementFits,
  CutFits,
  CzFits,
  ExpandFits,
  GateFits,
  ImageFits,
  MeasureFits,
}
use Rattle.buffers.specs.Sentences.{FirstTrue}
use Rattle.operations.specs.UsedSentences.{complement_sentences, cz_sentences, gate_sentences, measure_sentences}
use Rattle.claims.specs.Numbers.{expand_sentences, image_sentences, with_word_sentences}

-- sukhlent_expand: demands 1 and 2
pub record ExpandSays (u : UsedRecord) (s z x s' z' x' : List ℕ) (r : ℕ) : Type 0 where
  pub answered : Answered (expand_call u s z x s' z' x') r
  pub accepted : (r ≡ 0) ↔ ExpandFits u s z x
  pub numbers : FirstTrue (expand_sentences u s z x) r
  pub group : r ≡ 0 → BroughtBack u.held (record { n = u.held.n; signs = s'; z = z'; x = x' })

-- sukhlent_gate: demands 1 and 2, and ranks across cuts (02, §1)
pub record GateSays (u : UsedRecord) (q k : ℕ) (nb' cs' : List ℕ) (r : ℕ) : Type 0 where
  pub answered : Answered (used_call u (gate_with q k) nb' cs') r
  pub accepted : (r ≡ 0) ↔ GateFits u q k
  pub numbers : FirstTrue (gate_sentences u q k) r
  pub group : r ≡ 0 → GateStands u.held q k (left u.held nb' cs')
  pub ranks : r ≡ 0 → (side : Word) → rank_across side (left u.held nb' cs') ≡ rank_across side u.held
  pub copied : r ≡ 0 → UsedCopied u nb' cs'
  pub refused : SixteenExactly u (gate_with q k) r

-- sukhlent_cz: demands 1 and 2, and ranks across cuts (02, §1)
pub record CzSays (u : UsedRecord) (a b : ℕ) (nb' cs' : List ℕ) (r : ℕ) : Type 0 where
  pub answered : Answered (used_call u (cz_on a b) nb' cs') r
  pub accepted : (r ≡ 0) ↔ CzFits u a b
  pub numbers : FirstTrue (cz_sentences u a b) r
  pub group : r ≡ 0 → CzStands u.held a b (left u.held nb' cs')
  pub ranks : r ≡ 0 → (side : Word) → side a ≡ side b →
      rank_across side (left u.held nb' cs') ≡ rank_across side u.held
  pub copied : r ≡ 0 → UsedCopied u nb' cs'
  pub refused : SixteenExactly u (cz_on a b) r

-- sukhlent_complement: demand 1, the record of the rule with the same group, and ranks across cuts
pub record ComplementSays (u : UsedRecord) (a : ℕ) (nb' cs' : List ℕ) (r : ℕ) : Type 0 where
  pub answered : Answered (used_call u (complement_of a) nb' cs') r
  pub accepted : (r ≡ 0) ↔ ComplementFits u a
  pub numbers : FirstTrue (complement_sentences u a) r
  pub group : r ≡ 0 →
      RewrittenAs u.held (left u.held nb' cs') (complement_record (held_record u.held) a)
  pub ranks : r ≡ 0 → (side : Word) → rank_across side (left u.held nb' cs') ≡ rank_across side u.held
  pub copied : r ≡ 0 → UsedCopied u nb' cs'
  pub refused : SixteenExactly u (complement_of a) r

-- sukhlent_measure: demands 1 and 2, and contradicted outcomes (02, §4)
pub record MeasureSays (u : UsedRecord) (pauli q b answer determined : ℕ) (nb' cs' : List ℕ)
    (used' answer' determined' r : ℕ) : Type 0 where
  pub answered : Answered (used_measure_call u pauli q b answer determined nb' cs' used' answer' determined') r
  pub accepted : (r ≡ 0) ↔ MeasureFits u pauli q b
  pub numbers : FirstTrue (measure_sentences u pauli q b) r
  pub group : r ≡ 0 → MeasurementStands u.held pauli q b (left u.held nb' cs') answer' determined'
  pub contradicted : OutcomeContradicted u pauli q b answer determined r nb' cs' used' answer' determined'
  pub marked : r ≡ 0 → UsedMarked u pauli q b nb' cs' used' answer'
  pub refused : SixteenExactly u (measurement_of pauli q b) r

-- sukhlent_image: demands 1 and 2
pub record ImageSays (l : LentRecord) (image signs list : List ℕ) (count : ℕ) (image' signs' list' : List ℕ)
    (count' r : ℕ) : Type 0 where
  pub answered : Answered (image_call l image signs list count image' signs' list' count') r
  pub accepted : (r ≡ 0) ↔ ImageFits l image signs list
  pub numbers : FirstTrue (image_sentences l image signs list) r
  pub decided : first_fitting (record_lines l (other_than l.n image
      || (other_than l.n signs || other_than 96 list)) false) ≡ 0 → ImageDecided l list r image' signs' list' count'

-- sukhlent_cut: demand 1; the answer is the rank by its contract
pub record CutSays (u : UsedRecord) (side rank rank' r : ℕ) : Type 0 where
  pub answered : Answered (cut_call u side rank rank') r
  pub accepted : (r ≡ 0) ↔ CutFits u side
  pub numbers : FirstTrue (with_word_sentences u side) r
  pub answer : r ≡ 0 → CutAnswer u.held side rank'
