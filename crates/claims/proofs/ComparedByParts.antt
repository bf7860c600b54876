-- The comparison by parts, of the call: equal parts where it is accepted, and each part's choice where the parts agree.
use mathlib.Core.Logic.{◌↔◌}
use mathlib.Core.Path.{◌≡◌, refl}
use Rattle.claims.proofs.families.Comparisons.{comparisons-accepted}
use Rattle.claims.proofs.AcceptedPairs.{accepted-pair}
use Rattle.claims.proofs.LinesExactly.{list-exactly}
use Rattle.claims.proofs.PartsDemandHolds.{equivalent-have-same-parts, parts-decide}
use Rattle.claims.specs.families.Comparisons.{CompareFits}
use Rattle.claims.specs.PartsDemand.{ComparedByParts}

pub compared-by-parts : ComparedByParts
compared-by-parts l m choice list counted r choice' list' counted' C =
    record {
      same = λ z. let F = fits.0 z in
          equivalent-have-same-parts l m
          (record {
            first = (list-exactly l _).1 (F.first, refl);
            second = (list-exactly m _).1 (F.second, refl);
            same_count = F.same_count;
          }) F.equivalent.0 F.equivalent.1;
      each = λ e small small₂ agree. let A = accepted-pair l m choice list e in
          let P = parts-decide l m
          (record { first = A.first; second = A.second; same_count = A.same_count }) agree in (
            (λ z. P.0 (fits.0 z).equivalent),
            (λ h. fits.1 (record {
              first = ((list-exactly l _).0 A.first).0;
              second = ((list-exactly m _).0 A.second).0;
              same_count = A.same_count;
              choice-places = A.choice-places;
              list-places = A.list-places;
              small-first = small;
              small-second = small₂;
              equivalent = P.1 h;
            })),
          );
    }
  where
    fits : (r ≡ 0) ↔ CompareFits l m choice list
    fits = comparisons-accepted.compare l m choice list counted choice' list' counted' r C
