-- Each call is accepted exactly if its arguments fit, from the families.
use Rattle.claims.proofs.families.Amplitudes.{amplitudes-accepted}
use Rattle.claims.proofs.families.Comparisons.{comparisons-accepted}
use Rattle.claims.proofs.families.Expectations.{expectations-accepted}
use Rattle.claims.proofs.families.Generator.{generations-accepted}
use Rattle.claims.proofs.families.Parties.{parties-accepted}
use Rattle.claims.proofs.families.Lists.{lists-accepted}
use Rattle.claims.proofs.families.Orbits.{orbits-accepted}
use Rattle.claims.proofs.families.Records.{records-accepted}
use Rattle.claims.proofs.families.Stores.{stores-accepted}
use Rattle.claims.specs.AcceptedCalls.{AcceptedExactly}

pub accepted-exactly : AcceptedExactly
accepted-exactly =
    record {
      lists = lists-accepted;
      records = records-accepted;
      comparisons = comparisons-accepted;
      generator = generations-accepted;
      orbits = orbits-accepted;
      amplitudes = amplitudes-accepted;
      expectations = expectations-accepted;
      stores = stores-accepted;
      parties = parties-accepted;
    }
