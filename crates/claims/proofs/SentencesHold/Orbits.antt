-- What the demands say of the exported function that lists an orbit, from its contract.
use mathlib.Core.List.{List}
use Prim.Native.Nat.{ℕ}
use Rattle.calls.specs.Orbits.{orbit_call}
use Rattle.buffers.specs.Calls.{Call}
use Rattle.claims.proofs.OrbitDemandHolds.{orbits-listed}
use Rattle.claims.proofs.families.Orbits.{orbits-accepted, orbits-conform}
use Rattle.claims.proofs.families.Shared.{answered, at_zero}
use Rattle.claims.specs.Sentences.Orbits.{OrbitSays}
use Rattle.claims.proofs.NumbersHold.{in_words, orbit-words}
use Rattle.claims.specs.Numbers.{orbit_sentences}

pub orbit-says : (n : ℕ) (neighbours list : List ℕ) (count : ℕ) (list' : List ℕ) (count' r : ℕ) →
    Call (orbit_call n neighbours list count list' count') r → OrbitSays n neighbours list count list' count' r
orbit-says n neighbours list count list' count' r C =
    record {
      answered = answered (orbits-conform.orbits n neighbours list count list' count') C;
      accepted = orbits-accepted.orbit n neighbours list count list' count' r C;
      numbers = in_words (orbit_sentences n neighbours list) (orbit-words n neighbours list) C;
      listed = λ z. orbits-listed n neighbours list count list' count' (at_zero C z);
    }
