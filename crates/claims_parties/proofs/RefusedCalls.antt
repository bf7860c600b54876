-- Calls on a record with an edge between the parties, and calls with the number of neither party: the number, and that
-- nothing changes.
use mathlib.Core.Bool.{Bool, cond, false, not, or-true, true, true≢false, ◌||◌}
use mathlib.Core.Path.{ap, refl, sym, ◌∙◌, ◌≡◌}
use Prim.Native.Nat.{◌<◌, ℕ}
use native.Mathlib.Omega.{arith}
use lib.Dec.{eqb, leb, ltb}
use borrow.Author.Tests.{lt-ltb, ne_eqb}
use Rattle.buffers.specs.Refusals.{first_fitting}
use Rattle.claims.specs.StoreDemand.{Session}
use Rattle.buffers.proofs.Fitting.{decides, none-holds}
use Rattle.buffers.specs.Answers.{here}
use Rattle.source.proofs.ObservedParties.{observed-passes-party}
use Rattle.source.proofs.RenewedMasks.{renewed-passes-party}
use Rattle.source.specs.PartySources.{party_observe_lines, party_renew_lines}
use Rattle.parties.proofs.PartyPassing.{party-passes}
use Rattle.parties.specs.PartyLines.{party_lines, names_other, outsider}
use Rattle.parties.specs.PartyStores.{party_named_lines, party_save_lines, own_lines}
use Rattle.parties.specs.Masks.{crosses, in_party}
use Rattle.operations.specs.Steps.{Operation, complement_of, cz_on, gate_with, measurement_of}
use Rattle.record.specs.Lent.{record_codes}
use Rattle.store.specs.StoreLines.{holds_line, of_record}
use Rattle.operations.specs.Used.{used_code}
use Rattle.claims_parties.proofs.OtherCalls.{accepted-party}
use Rattle.claims_parties.specs.PartyRuns.{
  SharedCall,
  party_complement,
  party_cz,
  party_forget,
  party_gate,
  party_measure,
  party_observe,
  party_renew,
  party_return,
  party_save,
  shared_after,
  shared_call_lines,
  shared_left,
  shared_number,
}
use Rattle.claims_parties.specs.PartiesDemand.{CrossingRefused, NeitherRefused, lines_before}

-- another number than 0: nothing changes
kept : (word g : ℕ) (s : Session) (c : SharedCall) → (shared_number word g s c ≡ 0 → ⊥) → shared_after word g s c ≡ s
kept word g s c h = ap (λ b. cond b (shared_left word g s c) s) (ne_eqb (shared_number word g s c) 0 h)

-- ---- an edge between the parties
module _ (word g : ℕ) (s : Session) (e : crosses word s.current ≡ true) where
  operation-crossing : (o : Operation) →
      (crosses word s.current || names_other (in_party word g) s.current.held.n o) ≡ true
  operation-crossing o = ap (λ b. b || names_other (in_party word g) s.current.held.n o) e

  operation-refused : (o : Operation) → first_fitting (party_lines word g s.current o) ≡ 0 → ⊥
  operation-refused o z = true≢false (sym e ∙ (party-passes word g s.current o z).no-crossing)

  not-accepted : (c : SharedCall) → shared_number word g s c ≡ 0 → ⊥
  not-accepted (party_gate q k) z = operation-refused (gate_with q k) z
  not-accepted (party_cz a b) z = operation-refused (cz_on a b) z
  not-accepted (party_measure pauli q b) z = operation-refused (measurement_of pauli q b) z
  not-accepted (party_complement a) z = operation-refused (complement_of a) z
  not-accepted (party_save name) z = true≢false (sym e
      ∙ (none-holds (party_save_lines word g s.current name s.store) refl z).1.1.1.1.1.0)
  not-accepted (party_return name) z = true≢false (sym e
      ∙ (none-holds (party_named_lines word g s.current name s.store) refl z).1.1.1.1.1.0)
  not-accepted (party_forget name) z = true≢false (sym e
      ∙ (none-holds (party_named_lines word g s.current name s.store) refl z).1.1.1.1.1.0)
  not-accepted (party_observe pauli q b) z =
      true≢false (sym e ∙ (observed-passes-party word g s.current pauli q b z).no-crossing)
  not-accepted (party_renew q k) z =
      true≢false (sym e ∙ (renewed-passes-party word g s.current q k z).no-crossing)

  crossing-at : (q : ℕ) → (crosses word s.current || outsider (in_party word g) s.current.held.n q) ≡ true
  crossing-at q = ap (λ b. b || outsider (in_party word g) s.current.held.n q) e

  by-nineteen : (c : SharedCall) → first_fitting (lines_before 19 (shared_call_lines word g s c)) ≡ 0 →
      19 ≡ shared_number word g s c
  by-nineteen (party_gate q k) z =
      decides (lines_before 19 (party_lines word g s.current (gate_with q k))) refl (sym z) refl
      (here (operation-crossing (gate_with q k)))
  by-nineteen (party_cz a b) z =
      decides (lines_before 19 (party_lines word g s.current (cz_on a b))) refl (sym z) refl
      (here (operation-crossing (cz_on a b)))
  by-nineteen (party_measure pauli q b) z =
      decides (lines_before 19 (party_lines word g s.current (measurement_of pauli q b))) refl (sym z) refl
      (here (operation-crossing (measurement_of pauli q b)))
  by-nineteen (party_complement a) z =
      decides (lines_before 19 (party_lines word g s.current (complement_of a))) refl (sym z) refl
      (here (operation-crossing (complement_of a)))
  by-nineteen (party_save name) z =
      decides (lines_before 19 (party_save_lines word g s.current name s.store)) refl (sym z) refl (here e)
  by-nineteen (party_return name) z =
      decides (lines_before 19 (party_named_lines word g s.current name s.store)) refl (sym z) refl (here e)
  by-nineteen (party_forget name) z =
      decides (lines_before 19 (party_named_lines word g s.current name s.store)) refl (sym z) refl (here e)
  by-nineteen (party_observe pauli q b) z =
      decides (lines_before 19 (party_observe_lines word g s.current pauli q b)) refl (sym z) refl
      (here (crossing-at q))
  by-nineteen (party_renew q k) z =
      decides (lines_before 19 (party_renew_lines word g s.current q k)) refl (sym z) refl (here (crossing-at q))

pub crossing-refused : CrossingRefused
crossing-refused word g s e c =
    record {
      refused = not-accepted word g s e c;
      nineteen = λ z. sym (by-nineteen word g s e c z);
      unchanged = kept word g s c (not-accepted word g s e c);
    }

-- ---- neither party
module _ (word g : ℕ) (above : 1 < g) (s : Session) where
  six-holds : (x : Bool) → ((x || ltb 1 g) || false) ≡ true
  six-holds x = ap (λ b. (x || b) || false) (lt-ltb 1 g above) ∙ ap (λ b. b || false) (or-true x)

  -- line 6 of an operation, whose arguments have the test `six`, and that of a call on the store
  operation-six : (six : Bool) →
      (((((record_codes s.current.held || six) || false) || false) || ltb 1 g) || false) ≡ true
  operation-six six = six-holds (((record_codes s.current.held || six) || false) || false)

  store-six :
      (((of_record s.current 6 || holds_line 6 (own_lines (in_party word g) g s.store)) || ltb 1 g) || false) ≡ true
  store-six = six-holds (of_record s.current 6 || holds_line 6 (own_lines (in_party word g) g s.store))

  by-six : (c : SharedCall) → first_fitting (lines_before 6 (shared_call_lines word g s c)) ≡ 0 → 6 ≡ shared_number word g s
      c
  by-six (party_gate q k) z =
      decides (lines_before 6 (party_lines word g s.current (gate_with q k))) refl (sym z) refl
      (here (operation-six (leb 24 k)))
  by-six (party_cz a b) z =
      decides (lines_before 6 (party_lines word g s.current (cz_on a b))) refl (sym z) refl (here (operation-six false))
  by-six (party_measure pauli q b) z =
      decides (lines_before 6 (party_lines word g s.current (measurement_of pauli q b))) refl (sym z) refl
      (here (operation-six (leb 2 b || (eqb pauli 0 || leb 4 pauli))))
  by-six (party_complement a) z =
      decides (lines_before 6 (party_lines word g s.current (complement_of a))) refl (sym z) refl
      (here (operation-six false))
  by-six (party_save name) z =
      decides (lines_before 6 (party_save_lines word g s.current name s.store)) refl (sym z) refl (here store-six)
  by-six (party_return name) z =
      decides (lines_before 6 (party_named_lines word g s.current name s.store)) refl (sym z) refl (here store-six)
  by-six (party_forget name) z =
      decides (lines_before 6 (party_named_lines word g s.current name s.store)) refl (sym z) refl (here store-six)
  by-six (party_observe pauli q b) z =
      decides (lines_before 6 (party_observe_lines word g s.current pauli q b)) refl (sym z) refl
      (here (operation-six (leb 2 b || (eqb pauli 0 || leb 4 pauli))))
  by-six (party_renew q k) z =
      decides (lines_before 6 (party_renew_lines word g s.current q k)) refl (sym z) refl
      (here (operation-six (not (used_code k))))

pub neither-refused : NeitherRefused
neither-refused word g above s c =
    record {
      six = λ z. sym (by-six word g above s c z);
      unchanged = kept word g s c (λ z. absurd (omega (arith, above, accepted-party word g s c z)));
    }
