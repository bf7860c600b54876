-- A party's own call on two states that look alike to it: the same number, the same outcome, and what is left looks
-- alike.
use mathlib.Core.Bool.{Bool, cond, false, not, true}
use mathlib.Core.List.{◌++◌, [], ◌∷◌}
use mathlib.Core.Path.{ap, ap₂, refl, sym, ◌∙◌, ◌≡◌}
use Prim.Native.Nat.{◌*◌, ◌+◌, ◌<◌, ℕ}
use native.Mathlib.Omega.{arith}
use lib.Dec.{eqb, ltb}
use lib.ListN.{set}
use borrow.Author.Tests.{le-ltb}
use Rattle.buffers.proofs.Tabulate.{tabulate-length}
use Rattle.buffers.specs.Refusals.{first_fitting, line}
use Rattle.claims.specs.StoreDemand.{Session}
use Rattle.source.proofs.ObservedParties.{like, like-a-gate, like_code, observed-alone}
use Rattle.source.proofs.RenewedMasks.{renew-alone, renewed-own, renewed-passes-party}
use Rattle.source.specs.PartySources.{party_renew_lines}
use Rattle.parties.proofs.AloneNumbers.{party-alone}
use Rattle.parties.proofs.PartyNumbers.{in-party, masked-answer}
use Rattle.parties.proofs.PartyPassing.{party-passes}
use Rattle.parties.proofs.Merging.{masked-merged-own}
use Rattle.parties.proofs.OwnHeads.{freed-own-heads}
use Rattle.parties.proofs.OwnPlaces.{EightLong, place-own, placed-own-places}
use Rattle.parties.proofs.SharedLines.{named_count, named-place, save-place, shared-alone}
use Rattle.parties.specs.PartyLines.{party_after, party_lines}
use Rattle.parties.specs.PartyStores.{party_named_lines, party_returned, party_save_lines, party_saved, own_places}
use Rattle.parties.specs.Masks.{in_party, masked}
use Rattle.parties.specs.internal.Apart.{Apart, PartyOp, complement-op, cz-op, gate-op, measure-op}
use Rattle.operations.specs.Measurement.{determined_number, outcome_number}
use Rattle.operations.specs.Steps.{Operation, complement_of, cz_on, gate_with, leaves, measured_answer, measurement_of}
use Rattle.source.proofs.Observed.{answered}
use Rattle.source.proofs.RenewedRecords.{renew-passes}
use Rattle.source.specs.Renewal.{renewed}
use Rattle.store.specs.Kept.{save_place, with_place}
use Rattle.store.specs.Places.{Store, holds_name, others_held, place_at, place_of}
use Rattle.operations.specs.Used.{UsedRecord, used_after, used_lines_of, used_step}
use Rattle.claims_parties.proofs.Views.{Good}
use Rattle.claims_parties.specs.PartyRuns.{
  SharedCall,
  party_complement,
  party_cz,
  party_forget,
  party_gate,
  party_measure,
  party_observe,
  party_renew,
  party_return,
  party_save,
  measured_numbers,
  shared_left,
  shared_number,
}
use Rattle.claims_parties.specs.PartiesDemand.{LooksAlike}

-- the state that a return finds
pub held_place : (word g : ℕ) → g < 2 → (u : UsedRecord) (name : ℕ) (st : Store) → EightLong st →
    first_fitting (party_named_lines word g u name st) ≡ 0 → place_at st (4 * g + place_of 4 (own_places g st).heads name)
    ≡ place_at (own_places g st) (place_of 4 (own_places g st).heads name)
held_place word g lg u name st L z =
    place-own g (place_of 4 (own_places g st).heads name) st lg (named-place word g u name st z) L
    (omega (arith, named_count word g u name st z))

-- an operation keeps the count
pub step_count : (u : UsedRecord) (o : Operation) → (used_step u o).after.held.n ≡ u.held.n
step_count u o = go (eqb (first_fitting (used_lines_of u o)) 0)
  where
    go : (b : Bool) → (cond b (record { held = leaves u.held o; used = used_after u o }) u).held.n ≡ u.held.n
    go true = refl
    go false = refl

-- what a party's operation leaves at its own vertices
pub operation-left : (word g : ℕ) (u : UsedRecord) (o : Operation) → masked (in_party word g) (party_after word g u o)
    ≡ masked (in_party word g) (used_step (masked (in_party word g) u) o).after
operation-left word g u o = masked-merged-own (in_party word g) (used_step (masked (in_party word g) u) o).after u
    (step_count (masked (in_party word g) u) o)

-- what a renewal leaves there
pub renewal-left : (word g : ℕ) (u : UsedRecord) (q k : ℕ) → Apart word u →
    first_fitting (party_renew_lines word g u q k) ≡ 0 →
    masked (in_party word g) (renewed u q k) ≡ renewed (masked (in_party word g) u) q k
renewal-left word g u q k H z =
    let P = renewed-passes-party word g u q k z in
    let F = renew-passes u q k P.lines in
    renewed-own (in_party word g) u q k F.held.codes-length F.below (in-party word g u H q P.own F.below)

-- what a return leaves there
pub returned-left : (word g : ℕ) → g < 2 → (u : UsedRecord) (name : ℕ) (st : Store) → Apart word u → EightLong st →
    first_fitting (party_named_lines word g u name st) ≡ 0 → masked (in_party word g) (party_returned word g u name st)
    ≡ masked (in_party word g) (place_at (own_places g st) (place_of 4 (own_places g st).heads name))
returned-left word g lg u name st H L z =
    let p = place_of 4 (own_places g st).heads name in
    let same = held_place word g lg u name st L z in
    masked-merged-own (in_party word g) (place_at st (4 * g + p)) u
    (ap (λ v. v.held.n) same ∙ named_count word g u name st z ∙ sym H.count)
    ∙ ap (masked (in_party word g)) same

-- what a save leaves in its places
pub saved-left : (word g : ℕ) → g < 2 → (u : UsedRecord) (name : ℕ) (st : Store) → Apart word u → EightLong st →
    first_fitting (party_save_lines word g u name st) ≡ 0 → own_places g (party_saved word g u name st)
    ≡ with_place (save_place 4 (own_places g st).heads name) (masked (in_party word g) u) name (own_places g st)
saved-left word g lg u name st H L z =
    placed-own-places g (save_place 4 (own_places g st).heads name) (masked (in_party word g) u) name st lg
    (save-place word g u name st z) (tabulate-length u.held.n _ ∙ H.count)
    (tabulate-length u.held.n _ ∙ H.count) L

module _ (word g : ℕ) (lg : g < 2) (s t : Session) (S : Good word s) (T : Good word t)
    (A : LooksAlike word g s t) where
  low : ltb 1 g ≡ false
  low = le-ltb 1 g (omega (arith, lg))

  -- ---- the number
  operation-number : (o : Operation) → PartyOp o →
      first_fitting (party_lines word g s.current o) ≡ first_fitting (party_lines word g t.current o)
  operation-number o G =
      party-alone word g s.current S.apart low o G
      ∙ ap (λ v. first_fitting (party_lines word g v o)) A.vertices
      ∙ sym (party-alone word g t.current T.apart low o G)

  pub own-number : (c : SharedCall) → shared_number word g s c ≡ shared_number word g t c
  own-number (party_gate q k) = operation-number _ (gate-op q k)
  own-number (party_cz a b) = operation-number _ (cz-op a b)
  own-number (party_measure pauli q b) = operation-number _ (measure-op pauli q b)
  own-number (party_complement a) = operation-number _ (complement-op a)
  own-number (party_save name) = λ j. first_fitting
      (shared-alone word g s.current t.current s.store t.store S.apart T.apart S.long T.long
      A.places j
      ++ (line 18 (others_held 4 (A.places j).heads name) ∷ []))
  own-number (party_return name) = λ j. first_fitting
      (shared-alone word g s.current t.current s.store t.store S.apart T.apart S.long T.long
      A.places j
      ++ (line 17 (not (holds_name 4 (A.places j).heads name)) ∷ []))
  own-number (party_forget name) = λ j. first_fitting
      (shared-alone word g s.current t.current s.store t.store S.apart T.apart S.long T.long
      A.places j
      ++ (line 17 (not (holds_name 4 (A.places j).heads name)) ∷ []))
  own-number (party_observe pauli q b) =
      ap first_fitting (like-a-gate word g s.current pauli q b)
      ∙ operation-number (like word g s.current pauli q b) (gate-op q (like_code pauli b))
      ∙ sym (ap first_fitting (like-a-gate word g t.current pauli q b))
  own-number (party_renew q k) =
      renew-alone word g s.current q k S.apart low
      ∙ ap (λ v. first_fitting (party_renew_lines word g v q k)) A.vertices
      ∙ sym (renew-alone word g t.current q k T.apart low)

  -- an observation answers alike
  observed-alike : (pauli q b : ℕ) → shared_number word g s (party_observe pauli q b) ≡ 0 →
      measured_answer s.current.held pauli q b ≡ measured_answer t.current.held pauli q b
  observed-alike pauli q b z =
      observed-alone word g s.current pauli q b z S.apart
      ∙ ap (λ v. measured_answer v.held pauli q b) A.vertices
      ∙ sym (observed-alone word g t.current pauli q b (sym (own-number (party_observe pauli q b)) ∙ z) T.apart)

  -- ---- what is left
  operation-alike : (o : Operation) → LooksAlike word g
      (record { current = party_after word g s.current o; store = s.store })
      (record { current = party_after word g t.current o; store = t.store })
  operation-alike o =
      record {
        vertices = operation-left word g s.current o
            ∙ ap (λ v. masked (in_party word g) (used_step v o).after) A.vertices
            ∙ sym (operation-left word g t.current o);
        places = A.places;
      }

  pub own-left : (c : SharedCall) → shared_number word g s c ≡ 0 →
      LooksAlike word g (shared_left word g s c) (shared_left word g t c)
  own-left (party_gate q k) z = operation-alike (gate_with q k)
  own-left (party_cz a b) z = operation-alike (cz_on a b)
  own-left (party_measure pauli q b) z = operation-alike (measurement_of pauli q b)
  own-left (party_complement a) z = operation-alike (complement_of a)
  own-left (party_save name) z =
      record {
        vertices = A.vertices;
        places = saved-left word g lg s.current name s.store S.apart S.long z
            ∙ (λ j. with_place (save_place 4 (A.places j).heads name) (A.vertices j) name (A.places j))
            ∙ sym (saved-left word g lg t.current name t.store T.apart T.long
            (sym (own-number (party_save name)) ∙ z));
      }
  own-left (party_return name) z =
      record {
        vertices = returned-left word g lg s.current name s.store S.apart S.long z
            ∙ ap (λ own. masked (in_party word g) (place_at own (place_of 4 own.heads name))) A.places
            ∙ sym (returned-left word g lg t.current name t.store T.apart T.long
            (sym (own-number (party_return name)) ∙ z));
        places = A.places;
      }
  own-left (party_forget name) z =
      record {
        vertices = A.vertices;
        places = λ j. record {
          heads = (freed-own-heads g (place_of 4 (own_places g s.store).heads name) lg
              (named-place word g s.current name s.store z) s.store.heads
              ∙ ap (λ own. set own.heads (3 * place_of 4 own.heads name) 0) A.places
              ∙ sym (freed-own-heads g (place_of 4 (own_places g t.store).heads name) lg
              (named-place word g t.current name t.store (sym (own-number (party_forget name)) ∙ z))
              t.store.heads)) j;
          neighbours = (A.places j).neighbours;
          codes = (A.places j).codes;
        };
      }
  own-left (party_observe pauli q b) z =
      record {
        vertices = operation-left word g s.current (measurement_of pauli q (answered s.current pauli q b))
            ∙ ap₂ (λ v o. masked (in_party word g) (used_step v (measurement_of pauli q (outcome_number o))).after)
            A.vertices (observed-alike pauli q b z)
            ∙ sym (operation-left word g t.current (measurement_of pauli q (answered t.current pauli q b)));
        places = A.places;
      }
  own-left (party_renew q k) z =
      record {
        vertices = renewal-left word g s.current q k S.apart z ∙ ap (λ v. renewed v q k) A.vertices
            ∙ sym (renewal-left word g t.current q k T.apart (sym (own-number (party_renew q k)) ∙ z));
        places = A.places;
      }

  -- ---- the outcome
  pub own-measured : (c : SharedCall) → shared_number word g s c ≡ 0 → measured_numbers s c ≡ measured_numbers t c
  own-measured (party_gate q k) z = refl
  own-measured (party_cz a b) z = refl
  own-measured (party_measure pauli q b) z = ap (λ o. outcome_number o ∷ determined_number o ∷ [])
      (alone s S z ∙ ap (λ v. measured_answer v.held pauli q b) A.vertices
      ∙ sym (alone t T (sym (own-number (party_measure pauli q b)) ∙ z)))
    where
      alone : (r : Session) → Good word r → shared_number word g r (party_measure pauli q b) ≡ 0 →
          measured_answer r.current.held pauli q b
          ≡ measured_answer (masked (in_party word g) r.current).held pauli q b
      alone r R e =
          let P = party-passes word g r.current (measurement_of pauli q b) e in
          masked-answer word g r.current R.apart pauli q b P.own P.lines
  own-measured (party_complement a) z = refl
  own-measured (party_save name) z = refl
  own-measured (party_return name) z = refl
  own-measured (party_forget name) z = refl
  own-measured (party_observe pauli q b) z =
      ap (λ o. outcome_number o ∷ determined_number o ∷ []) (observed-alike pauli q b z)
  own-measured (party_renew q k) z = refl
