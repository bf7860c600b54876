-- Which calls are accepted, in the documents' words: the number of each exported function is 0 exactly if its arguments
-- fit. Of sukhlent_run claims/specs/RunDemand says it, of sukhlent_compare_records
-- claims/specs/RecordPairs, of sukhlent_observe and sukhlent_renew claims/specs/Sources, of sukhlent_write_record and
-- sukhlent_read_record claims/specs/RecordTexts.
use Rattle.claims.specs.families.Amplitudes.{AmplitudesAccepted}
use Rattle.claims.specs.families.Comparisons.{ComparisonsAccepted}
use Rattle.claims.specs.families.Expectations.{ExpectationsAccepted}
use Rattle.claims.specs.families.Generator.{GenerationsAccepted}
use Rattle.claims.specs.families.Parties.{PartiesAccepted}
use Rattle.claims.specs.families.Lists.{ListsAccepted}
use Rattle.claims.specs.families.Orbits.{OrbitsAccepted}
use Rattle.claims.specs.families.Records.{RecordsAccepted}
use Rattle.claims.specs.families.Stores.{StoresAccepted}

-- of each call, by family: it is accepted exactly if its arguments fit
pub record AcceptedExactly : Type 0 where
  pub lists : ListsAccepted
  pub records : RecordsAccepted
  pub comparisons : ComparisonsAccepted
  pub generator : GenerationsAccepted
  pub orbits : OrbitsAccepted
  pub amplitudes : AmplitudesAccepted
  pub expectations : ExpectationsAccepted
  pub stores : StoresAccepted
  pub parties : PartiesAccepted
