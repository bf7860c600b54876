-- A source that goes on, of the public calls: a measurement with a bit by lot (sukhlent_observe), and a new photon at a
-- used place (sukhlent_renew). A name with a prime is what the buffer, or the lent number, holds at exit.
use Rattle.std.specs.Prelude.{◌&&◌, false, not, true, List, [], ◌++◌, ◌∷◌, ◌↔◌, ◌≢◌, ◌⊎◌, ◌≡◌, ◌*◌, ◌<◌, ℕ, ◌≤◌, eqb, leb, get_or}
use Rattle.buffers.specs.Refusals.{Refusal, first_fitting, line}
use Rattle.buffers.specs.Sentences.{FirstTrue, Sentence, sentence}
use Rattle.calls.specs.InPlace.{used_measure_call}
use Rattle.calls.specs.Sources.{observe_call, renew_call}
use Rattle.claims.specs.Arguments.{Free, IsRecord}
use Rattle.claims.specs.Conforming.{Answered}
use Rattle.claims.specs.OperationsDemand.{IsReduced, signed_pauli}
use Rattle.claims.specs.UsedDemand.{SixteenExactly, UsedMarked, left_used}
use Rattle.claims.specs.families.Records.{MeasureFits}
use Rattle.buffers.specs.Calls.{Call}
use Rattle.jobs.specs.Standing.{StillRecord, left}
use Rattle.operations.specs.Measurement.{Measured}
use Rattle.operations.specs.Steps.{measurement_of}
use Rattle.pauli.specs.Pauli.{Pauli}
use Rattle.record.specs.Lent.{LentRecord, held_rows}
use Rattle.record.specs.RecordSentences.{CodeAbove23, RecordMisfits}
use Rattle.source.specs.Renewal.{Renewed, photon}
use Rattle.stabilizer.specs.Groups.{InGroup, SameGroup}
use Rattle.operations.specs.Used.{UsedRecord, used_code, used_lines}
use Rattle.operations.specs.UsedSentences.{IsUsed, MeasureMisfits, OfSix, StrayBit, in_place_sentences, used_sentences}
use Rattle.words.specs.Bits.{bit, is_odd}

-- ---- observations
-- a Pauli from 1 to 3, a qubit and a bit
pub record ObserveFits (u : UsedRecord) (pauli q b : ℕ) : Type 0 where
  pub held : IsRecord u
  pub positive : 1 ≤ pauli
  pub upto : pauli ≤ 3
  pub qubit : Free u q
  pub bit : b < 2

-- what an accepted observation answers and leaves: document 01's own measurement
pub record ObservationStands (l : LentRecord) (pauli q b : ℕ) (after : LentRecord) (answer' determined' : ℕ) : Type
    0 where
  pub still : StillRecord after
  pub answers : IsReduced after
  pub either : (determined' ≡ 0) ⊎ (determined' ≡ 1)
  pub outcome : (answer' ≡ 0) ⊎ (answer' ≡ 1)
  -- "If the Pauli or its negative is in the group, the answer says determined, gives the sign as outcome, ignores the
  -- bit and keeps the group"
  pub exactly : (determined' ≡ 1) ↔ (InGroup l.n l.n (held_rows l) (signed_pauli pauli q false)
      ⊎ InGroup l.n l.n (held_rows l) (signed_pauli pauli q true))
  pub sign : determined' ≡ 1 → InGroup l.n l.n (held_rows l) (signed_pauli pauli q (is_odd answer'))
  pub kept : determined' ≡ 1 → SameGroup l.n l.n (held_rows l) (held_rows after)
  -- "Otherwise the outcome is the bit (1 means minus), and the group becomes the elements that commute with the Pauli,
  -- joined by the Pauli with that sign"
  pub bit : determined' ≡ 0 → answer' ≡ b
  pub joined : determined' ≡ 0 → (p : Pauli) → InGroup l.n l.n (held_rows after) p
      ↔ Measured l.n (held_rows l) (signed_pauli pauli q (is_odd b)) p

-- its lines: those of a measurement without 14
abbrev pub observe_sentences : UsedRecord → ℕ → ℕ → ℕ → List Sentence
observe_sentences u pauli q b =
    in_place_sentences u (CodeAbove23 u.held ⊎ MeasureMisfits pauli b) (u.held.n ≤ q) (IsUsed u q)

-- sukhlent_observe, in one record
pub record ObserveSays (u : UsedRecord) (pauli q b answer determined : ℕ) (nb' cs' : List ℕ)
    (used' answer' determined' r : ℕ) : Type 0 where
  pub answered : Answered (observe_call u pauli q b answer determined nb' cs' used' answer' determined') r
  pub accepted : (r ≡ 0) ↔ ObserveFits u pauli q b
  pub numbers : FirstTrue (observe_sentences u pauli q b) r
  pub group : r ≡ 0 → ObservationStands u.held pauli q b (left u.held nb' cs') answer' determined'
  -- "where `measure` with the same bit is accepted, both answer and leave the same"
  pub same : MeasureFits u pauli q b →
      Call (used_measure_call u pauli q b answer determined nb' cs' used' answer' determined') r
  -- accepted, it is the measurement with the outcome that it answers
  pub as-measured : r ≡ 0 → Call (used_measure_call u pauli q answer' answer determined nb' cs' used' answer' determined')
      0
  -- "so it never gives 14"
  pub never-14 : r ≡ 14 → ⊥
  -- "Everything else, the used bit too, as for `measure`"
  pub marked : r ≡ 0 → UsedMarked u pauli q b nb' cs' used' answer'
  pub refused : SixteenExactly u (measurement_of pauli q b) r

-- ---- renewals
-- a used qubit, and one of the codes 0, 2, 4, 6, 8 and 10
pub record RenewFits (u : UsedRecord) (q k : ℕ) : Type 0 where
  pub held : IsRecord u
  pub qubit : q < u.held.n
  pub used : bit u.used q ≡ true
  pub code : (i : ℕ) × (i < 6) × (k ≡ 2 * i)

-- what an accepted renewal leaves
pub record RenewalStands (u : UsedRecord) (q k : ℕ) (after : UsedRecord) : Type 0 where
  -- no line refuses it
  pub passes : first_fitting (used_lines after false false false) ≡ 0
  -- "The qubit's bit of `used` becomes 0, its code is `code`, all else stays"
  pub unmarked : (t : ℕ) → bit after.used t ≡ (bit u.used t && not (eqb t q))
  pub code : get_or after.held.codes q 0 ≡ k
  pub codes : (t : ℕ) → t ≢ q → get_or after.held.codes t 0 ≡ get_or u.held.codes t 0
  pub neighbours : after.held.neighbours ≡ u.held.neighbours
  -- the qubit can be named again, and its photon's Pauli is in the group
  pub free : Free after q
  pub new : InGroup u.held.n u.held.n (held_rows after.held) (photon q k)
  -- "The group becomes: the elements with I at the qubit, joined by that Pauli with its sign"
  pub group : (p : Pauli) → InGroup u.held.n u.held.n (held_rows after.held) p
      ↔ Renewed u.held.n (InGroup u.held.n u.held.n (held_rows u.held)) q (photon q k) p
  -- "A reduced record stays reduced"
  pub reduced : IsReduced u.held → IsReduced after.held

-- the lines before 20
abbrev pub lines_before20 : UsedRecord → ℕ → ℕ → List Refusal
lines_before20 u q k = used_lines u false false (not (used_code k)) ++ (line 8 (leb u.held.n q) ∷ [])

-- its lines. 6: the code is none of 0, 2, 4, 6, 8 and 10; 8: "A qubit number is n or more"; 20: "the qubit to renew is
-- not used"
abbrev pub renew_sentences : UsedRecord → ℕ → ℕ → List Sentence
renew_sentences u q k =
    used_sentences u (RecordMisfits u.held) (StrayBit u) (CodeAbove23 u.held ⊎ (OfSix k → ⊥))
    ++ (sentence 8 (u.held.n ≤ q) ∷ sentence 20 (IsUsed u q → ⊥) ∷ [])

-- sukhlent_renew, in one record
pub record RenewSays (u : UsedRecord) (q k : ℕ) (nb' cs' : List ℕ) (used' r : ℕ) : Type 0 where
  pub answered : Answered (renew_call u q k nb' cs' used') r
  pub accepted : (r ≡ 0) ↔ RenewFits u q k
  pub numbers : FirstTrue (renew_sentences u q k) r
  pub stands : r ≡ 0 → RenewalStands u q k (left_used u nb' cs' used')
  -- 20 exactly if no earlier line holds and the qubit is not used
  pub refused : (r ≡ 20) ↔ ((first_fitting (lines_before20 u q k) ≡ 0) × (bit u.used q ≡ false))
