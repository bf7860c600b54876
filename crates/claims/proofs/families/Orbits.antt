-- The orbit: its lines and answers are as demand 1 has them, and which arguments it accepts.
use mathlib.Core.Bool.{Bool, not, ◌||◌}
use mathlib.Core.List.{[], List, ◌∷◌}
use mathlib.Core.Logic.Iff
use mathlib.Core.Logic.{◌↔◌}
use mathlib.Core.Path.{ap, refl, subst, ◌≡◌}
use Prim.Native.Nat.{◌<◌, ◌^◌, ℕ}
use native.Mathlib.Omega.{arith}
use borrow.Author.Tests.{le-ltb, ne_eqb}
use lib.Dec.{eqb, ltb}
use Rattle.buffers.specs.Refusals.{first_fitting, line, other_than, reaching, Refusal}
use Rattle.calls.proofs.AcceptedGraphs.{accepted-graph, plain-record, simple-graph}
use Rattle.calls.specs.Orbits.{orbit_call, orbit_lines, orbit_of}
use Rattle.buffers.proofs.Fitting.{none-fits-of}
use Rattle.record.specs.NeighbourWords.{graph_in}
use Rattle.orbits.proofs.OrbitLaws.{orbit-length}
use Rattle.orbits.specs.Numbers.{graph_number}
use Rattle.record.proofs.SimpleVerdict.{simple-exactly}
use Rattle.record.specs.Lent.{not_simple}
use Rattle.stabilizer.proofs.SharedTests.{below-passes}
use Rattle.claims.proofs.LinesExactly.{both-pass, two-fit}
use Rattle.claims.proofs.families.Shared.{by_lines, written-fills}
use Rattle.claims.specs.Conforming.{Conforms}
use Rattle.claims.specs.OrbitDemand.{OrbitFits}
use Rattle.claims.specs.families.Orbits.{OrbitBuffersUnread, OrbitsAccepted, OrbitsConform}

-- orbits
orbit-conforms : (n : ℕ) (neighbours list : List ℕ) (count : ℕ) (list' : List ℕ) (count' : ℕ) →
    Conforms (orbit_call n neighbours list count list' count')
orbit-conforms n neighbours list count list' count' =
    record {
      order = refl;
      complete = λ z. let A = accepted-graph n neighbours list z in (
        written-fills (orbit_of n neighbours) list (omega (
          arith,
          orbit-length n (graph_number n (graph_in neighbours))
              A.few,
          A.places,
        )),
        (tt, tt),
      );
    }

-- orbits
orbit-lines : (n : ℕ) (neighbours list : List ℕ) →
    (first_fitting (orbit_lines n neighbours list) ≡ 0) ↔ OrbitFits n neighbours list
orbit-lines n neighbours list = (
  (λ e. let A = accepted-graph n neighbours list e in
      record {
        positive = A.positive;
        few = A.few;
        words = A.words;
        places = A.places;
        below = λ j l. (plain-record A).words-below j;
        simple = simple-graph A;
      }),
  (λ F. none-fits-of (orbit_lines n neighbours list) (
    both-pass (ne_eqb n 0 (λ z. absurd (omega (arith, F.positive, z)))) (le-ltb 6 n F.few),
    (
      (two-fit n 32768 neighbours list).1 (F.words, F.places),
      (
        below-passes (2 ^ n) neighbours (λ j l. F.below j (subst (λ k. j < k) F.words l)),
        (
          (simple-exactly n (graph_in neighbours)).1
              (record {
                symmetric = λ i j k h. F.simple.symmetric i j;
                loopless = λ i k. F.simple.loopless i;
              }),
          tt,
        ),
      ),
    ),
  )),
)

pub orbits-conform : OrbitsConform
orbits-conform =
    record {
      orbits = orbit-conforms;
    }

pub orbit-buffers-unread : OrbitBuffersUnread
orbit-buffers-unread =
    record {
      orbits = λ n neighbours list list₂ e. ap (λ a. first_fitting (orbit_lines_of n neighbours (not (eqb a 32768)))) e;
    }
  where
    -- those of an orbit, by whether the list has a wrong length
    orbit_lines_of : ℕ → List ℕ → Bool → List Refusal
    orbit_lines_of n neighbours other =
        line 2 (eqb n 0 || ltb 6 n) ∷ line 4 (other_than n neighbours || other)
        ∷ line 5 (reaching (2 ^ n) neighbours) ∷ line 7 (not_simple n (graph_in neighbours)) ∷ []

pub orbits-accepted : OrbitsAccepted
orbits-accepted =
    record {
      orbit = λ n neighbours list count list' count' r C. Iff.trans (by_lines C) (orbit-lines n neighbours list);
    }
