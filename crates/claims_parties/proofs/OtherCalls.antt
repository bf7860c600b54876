-- A call of the other party leaves what a party sees; a call of either leaves the parties apart; and a call with
-- another party's number, or on a record with an edge between the parties, is refused.
use mathlib.Core.Bool.{false, true}
use mathlib.Core.Path.{ap, refl, sym, ◌∙◌, ◌≡◌}
use Prim.Native.Nat.{◌*◌, ◌+◌, ◌<◌, ◌≤◌, ℕ}
use native.Mathlib.Omega.{arith}
use lib.ListN.{length-set}
use borrow.Author.Tests.{ltb-false}
use Rattle.buffers.proofs.Tabulate.{tabulate-length}
use Rattle.buffers.specs.Refusals.{first_fitting}
use Rattle.claims.specs.StoreDemand.{Session}
use Rattle.source.proofs.ObservedParties.{party-observed, like, like-a-gate}
use Rattle.source.proofs.RenewedMasks.{renewed-apart, renewed-other, renewed-passes-party}
use Rattle.parties.proofs.PartyNumbers.{in-party}
use Rattle.parties.proofs.PartyPassing.{party-passes}
use Rattle.parties.proofs.MergedPasses.{party-apart, merged-apart}
use Rattle.parties.proofs.Merging.{masked-merged-other}
use Rattle.parties.proofs.OwnHeads.{freed-other-heads}
use Rattle.parties.proofs.OwnPlaces.{placed-eight-long, placed-other-places}
use Rattle.parties.proofs.SharedLines.{
  named_count,
  named-inside,
  named-passes,
  named-place,
  named-shared,
  save-place,
  save-shared,
  shared-party,
}
use Rattle.parties.specs.PartyLines.{party_after, party_lines}
use Rattle.parties.specs.PartyStores.{own_places}
use Rattle.parties.specs.Masks.{in_party, masked, reaches_out}
use Rattle.parties.specs.internal.Apart.{PartyOp, complement-op, cz-op, gate-op, measure-op}
use Rattle.operations.specs.Steps.{Operation, complement_of, cz_on, gate_with, measurement_of}
use Rattle.source.proofs.Observed.{answered}
use Rattle.source.proofs.RenewedRecords.{renew-passes}
use Rattle.store.specs.Kept.{save_place}
use Rattle.store.specs.Places.{place_at, place_of}
use Rattle.operations.specs.Used.{used_lines, used_step}
use Rattle.claims_parties.proofs.OwnCalls.{held_place}
use Rattle.claims_parties.proofs.Views.{Good, not-in-both}
use Rattle.claims_parties.specs.PartyRuns.{
  SharedCall,
  party_complement,
  party_cz,
  party_forget,
  party_gate,
  party_measure,
  party_observe,
  party_renew,
  party_return,
  party_save,
  shared_left,
  shared_number,
}
use Rattle.claims_parties.specs.PartiesDemand.{LooksAlike}

-- ---- an accepted call is of party 0 or 1
module _ (word g : ℕ) (s : Session) where
  operation-party : (o : Operation) → first_fitting (party_lines word g s.current o) ≡ 0 → g < 2
  operation-party o z = low (ltb-false 1 g (party-passes word g s.current o z).party)
    where
      low : g ≤ 1 → g < 2
      low l = omega (arith, l)

  pub accepted-party : (c : SharedCall) → shared_number word g s c ≡ 0 → g < 2
  accepted-party (party_gate q k) z = operation-party (gate_with q k) z
  accepted-party (party_cz a b) z = operation-party (cz_on a b) z
  accepted-party (party_measure pauli q b) z = operation-party (measurement_of pauli q b) z
  accepted-party (party_complement a) z = operation-party (complement_of a) z
  accepted-party (party_save name) z =
      shared-party word g s.current s.store (save-shared word g s.current name s.store z)
  accepted-party (party_return name) z =
      shared-party word g s.current s.store (named-shared word g s.current name s.store z)
  accepted-party (party_forget name) z =
      shared-party word g s.current s.store (named-shared word g s.current name s.store z)
  accepted-party (party_observe pauli q b) z = operation-party (like word g s.current pauli q b)
      (sym (ap first_fitting (like-a-gate word g s.current pauli q b)) ∙ z)
  accepted-party (party_renew q k) z =
      let l = ltb-false 1 g (renewed-passes-party word g s.current q k z).group in omega (arith, l)

-- ---- what is left looks the same to the other party
module _ (word g h : ℕ) (lg : g < 2) (lh : h < 2) (ne : h ≡ g → ⊥) (s : Session) (S : Good word s) where
  apart : (q : ℕ) → in_party word g q ≡ true → in_party word h q ≡ false
  apart = not-in-both g h lg lh ne word

  other : g ≡ h → ⊥
  other e = ne (sym e)

  operation-other : (o : Operation) → LooksAlike word g
      (record { current = party_after word h s.current o; store = s.store }) s
  operation-other o =
      record {
        vertices = masked-merged-other (in_party word h) (in_party word g) apart
            (used_step (masked (in_party word h) s.current) o).after s.current;
        places = refl;
      }

  pub other-left : (c : SharedCall) → shared_number word h s c ≡ 0 → LooksAlike word g (shared_left word h s c) s
  other-left (party_gate q k) z = operation-other (gate_with q k)
  other-left (party_cz a b) z = operation-other (cz_on a b)
  other-left (party_measure pauli q b) z = operation-other (measurement_of pauli q b)
  other-left (party_complement a) z = operation-other (complement_of a)
  other-left (party_save name) z =
      record {
        vertices = refl;
        places = placed-other-places h (save_place 4 (own_places h s.store).heads name)
            (masked (in_party word h) s.current) name s.store lh
            (save-place word h s.current name s.store z)
            (tabulate-length s.current.held.n _ ∙ S.apart.count)
            (tabulate-length s.current.held.n _ ∙ S.apart.count) S.long g lg other;
      }
  other-left (party_return name) z =
      record {
        vertices = masked-merged-other (in_party word h) (in_party word g) apart
            (place_at s.store (4 * h + place_of 4 (own_places h s.store).heads name)) s.current;
        places = refl;
      }
  other-left (party_forget name) z =
      record {
        vertices = refl;
        places = λ j. record {
          heads = freed-other-heads h (place_of 4 (own_places h s.store).heads name) lh
              (named-place word h s.current name s.store z) g other s.store.heads j;
          neighbours = (own_places g s.store).neighbours;
          codes = (own_places g s.store).codes;
        };
      }
  other-left (party_observe pauli q b) z = operation-other (measurement_of pauli q (answered s.current pauli q b))
  other-left (party_renew q k) z =
      let P = renewed-passes-party word h s.current q k z in
      let F = renew-passes s.current q k P.lines in
      record {
        vertices = renewed-other (in_party word g) s.current q k F.held.codes-length F.below
            (not-in-both h g lh lg other word q (in-party word h s.current S.apart q P.own F.below));
        places = refl;
      }

-- ---- the parties stay apart
module _ (word g : ℕ) (lg : g < 2) (s : Session) (S : Good word s) where
  operation-good : (o : Operation) → PartyOp o → first_fitting (party_lines word g s.current o) ≡ 0 →
      Good word (record { current = party_after word g s.current o; store = s.store })
  operation-good o G z = record { apart = party-apart word g s.current S.apart o G z; long = S.long }

  pub left-good : (c : SharedCall) → shared_number word g s c ≡ 0 → Good word (shared_left word g s c)
  left-good (party_gate q k) z = operation-good (gate_with q k) (gate-op q k) z
  left-good (party_cz a b) z = operation-good (cz_on a b) (cz-op a b) z
  left-good (party_measure pauli q b) z = operation-good (measurement_of pauli q b) (measure-op pauli q b) z
  left-good (party_complement a) z = operation-good (complement_of a) (complement-op a) z
  left-good (party_save name) z =
      record {
        apart = S.apart;
        long = placed-eight-long g (save_place 4 (own_places g s.store).heads name)
            (masked (in_party word g) s.current) name s.store lg
            (save-place word g s.current name s.store z)
            (tabulate-length s.current.held.n _ ∙ S.apart.count)
            (tabulate-length s.current.held.n _ ∙ S.apart.count) S.long;
      }
  left-good (party_return name) z =
      let same = held_place word g lg s.current name s.store S.long z in
      record {
        apart = merged-apart word g s.current
            (place_at s.store (4 * g + place_of 4 (own_places g s.store).heads name)) S.apart
            (ap (λ v. v.held.n) same ∙ named_count word g s.current name s.store z)
            (ap (λ v. first_fitting (used_lines v false false false)) same
            ∙ named-passes word g s.current name s.store z)
            (ap (reaches_out (in_party word g)) same ∙ named-inside word g s.current name s.store z);
        long = S.long;
      }
  left-good (party_forget name) z =
      record {
        apart = S.apart;
        long = record {
          heads = length-set s.store.heads _ 0 ∙ S.long.heads;
          words = S.long.words;
          codes = S.long.codes;
        };
      }
  left-good (party_observe pauli q b) z =
      operation-good (measurement_of pauli q (answered s.current pauli q b))
      (measure-op pauli q (answered s.current pauli q b)) (party-observed word g s.current pauli q b z)
  left-good (party_renew q k) z =
      record {
        apart = renewed-apart word s.current q k S.apart (renewed-passes-party word g s.current q k z).lines;
        long = S.long;
      }
