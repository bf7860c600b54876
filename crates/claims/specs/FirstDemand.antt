-- Demand 1, of every public call: "A call that is accepted, on any words, codes, signs and qubit numbers, ends with a
-- complete answer .. A call that is refused .. returns the first fitting number of the published list and changes no
-- lent byte". That a call ends, and touches no other byte, is what a contract of the language means. Of sukhlent_run
-- claims/specs/RunDemand says it, of sukhlent_compare_records claims/specs/RecordPairs, of
-- sukhlent_observe and sukhlent_renew claims/specs/Sources, of sukhlent_write_record and sukhlent_read_record
-- claims/specs/RecordTexts.
use Rattle.buffers.specs.Answers.{EveryCallAnswers}
use Rattle.claims.specs.families.Amplitudes.{AmplitudesConform}
use Rattle.claims.specs.families.Comparisons.{ComparisonBuffersUnread, ComparisonsConform}
use Rattle.claims.specs.families.Expectations.{ExpectationsConform}
use Rattle.claims.specs.families.Generator.{GenerationBuffersUnread, GenerationsConform}
use Rattle.claims.specs.families.Parties.{PartiesConform}
use Rattle.claims.specs.families.Lists.{ListBuffersUnread, ListsConform}
use Rattle.claims.specs.families.Orbits.{OrbitBuffersUnread, OrbitsConform}
use Rattle.claims.specs.families.Records.{RecordBuffersUnread, RecordsConform}
use Rattle.claims.specs.families.Stores.{StoreBuffersUnread, StoresConform}

-- demand 1 of every public call: what any contract of the one shape says, and what is to show of each call, by family
pub record FirstDemand : Type 0 where
  pub every : EveryCallAnswers
  pub lists : ListsConform
  pub records : RecordsConform
  pub comparisons : ComparisonsConform
  pub generator : GenerationsConform
  pub orbits : OrbitsConform
  pub amplitudes : AmplitudesConform
  pub expectations : ExpectationsConform
  pub stores : StoresConform
  pub parties : PartiesConform

-- "What a buffer lent only for the answer holds before the call makes no line true": buffers of equal lengths give
-- equal numbers
pub record AnswerBuffersUnread : Type 0 where
  pub lists : ListBuffersUnread
  pub records : RecordBuffersUnread
  pub comparisons : ComparisonBuffersUnread
  pub generator : GenerationBuffersUnread
  pub orbits : OrbitBuffersUnread
  pub stores : StoreBuffersUnread
