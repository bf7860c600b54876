-- A party's gate, cz and measurement leave that party's vertices reduced: they are as the operation leaves them on a
-- record that has these vertices alone, which it answers reduced, and outside the group that record stays as it was.
use mathlib.Core.Bool.{Bool, cond, false, true}
use mathlib.Core.List.{List}
use mathlib.Core.Path.{ap, refl, subst, sym, ◌∙◌, ◌≡◌}
use Prim.Native.Nat.{◌<◌, ℕ}
use lib.ListN.{get_or}
use Rattle.buffers.proofs.Tabulate.{tabulate-is}
use Rattle.buffers.specs.Refusals.{first_fitting}
use Rattle.calls.specs.Parties.{party_call}
use Rattle.claims.proofs.GatesFollow.{cz-follows, gates-follow}
use Rattle.claims.proofs.JobSteps.{call-of}
use Rattle.claims.proofs.MeasurementsFollow.{measurements-follow}
use Rattle.claims.specs.OperationsDemand.{IsReduced}
use Rattle.claims.specs.UsedDemand.{left_used}
use Rattle.buffers.specs.Calls.{Call}
use Rattle.parties.proofs.PartyNumbers.{masked-number}
use Rattle.parties.proofs.PartyPassing.{PartyPasses, party-accepted, party-passes}
use Rattle.parties.proofs.OutsideStays.{AloneIn, after-outside}
use Rattle.parties.specs.PartyLines.{party_after, party_lines}
use Rattle.parties.specs.Masks.{in_party, masked}
use Rattle.parties.specs.internal.Apart.{Apart, PartyOp, cz-op, gate-op, measure-op}
use Rattle.operations.specs.Steps.{Operation, cz_on, gate_with, leaves, lines_of, measurement_of}
use Rattle.record.specs.Accepted.{AcceptedRecord}
use Rattle.record.specs.Lent.{LentRecord}
use Rattle.store.proofs.PassingStores.{held-record}
use Rattle.operations.proofs.LeftRecords.{used-left}
use Rattle.operations.proofs.UsedPassing.{used_step_lem}
use Rattle.operations.specs.Used.{UsedRecord, used_after, used_step}
use Rattle.operations.specs.internal.UsedLaws.{UsedLeft}
use Rattle.words.specs.Bits.{Word}
use Rattle.claims_parties.proofs.ContractSteps.{used-kept}
use Rattle.claims_parties.proofs.OwnCalls.{operation-left}
use Rattle.claims_parties.specs.PartyKeeps.{PartyCallsReduce}

-- an accepted operation of a kind that answers the reduced record
abbrev Reduces : Operation → Type 0
Reduces o = (l : LentRecord) → first_fitting (lines_of l o) ≡ 0 → IsReduced (leaves l o)

gate-reduces : (q k : ℕ) → Reduces (gate_with q k)
gate-reduces q k l z = (gates-follow l q k _ _ (call-of l (gate_with q k) z)).answers

cz-reduces : (a b : ℕ) → Reduces (cz_on a b)
cz-reduces a b l z = (cz-follows l a b _ _ (call-of l (cz_on a b) z)).answers

measure-reduces : (pauli q b : ℕ) → Reduces (measurement_of pauli q b)
measure-reduces pauli q b l z = (measurements-follow l pauli q b 0 0 _ _ _ _
    (record { number = sym z; held = (refl, (refl, (call-of l (measurement_of pauli q b) z).held)) })).answers

module _ (word g : ℕ) (u : UsedRecord) (o : Operation) (G : PartyOp o) (R : Reduces o)
    (z : first_fitting (party_lines word g u o) ≡ 0) where
  abbrev s : Word
  s = in_party word g

  -- what the operation leaves on the party's vertices alone
  abbrev after : UsedRecord
  after = (used_step (masked (in_party word g) u) o).after

  P : PartyPasses word g u o
  P = party-passes word g u o z

  H : Apart word u
  H = party-accepted word g u o z

  number : (used_step (masked (in_party word g) u) o).number ≡ 0
  number = sym (masked-number word g u H o G P.own) ∙ P.lines

  L : UsedLeft (masked (in_party word g) u) o after
  L = used-left (masked (in_party word g) u) o number

  A : AcceptedRecord after.held
  A = held-record after L.passes

  count : after.held.n ≡ 64
  count = ap (λ r. r.n) L.held ∙ H.count

  outside : (q : ℕ) → q < after.held.n → s q ≡ false → AloneIn after q
  outside q l h = after-outside word g u H o G P.own number q (subst (λ n. q < n) count l) h

  -- masked again it is the same
  again : (masked (in_party word g) after).held ≡ after.held
  again = λ j. record {
    n = after.held.n;
    neighbours = sym (tabulate-is after.held.n _ after.held.neighbours A.neighbours-length
        (λ q l. word_at q l (s q) refl)) j;
    codes = sym (tabulate-is after.held.n _ after.held.codes A.codes-length (λ q l. code_at q l (s q) refl))
        j;
  }
    where
      word_at : (q : ℕ) → q < after.held.n → (b : Bool) → s q ≡ b →
          get_or after.held.neighbours q 0 ≡ cond b (get_or after.held.neighbours q 0) 0
      word_at q l true h = refl
      word_at q l false h = (outside q l h).0

      code_at : (q : ℕ) → q < after.held.n → (b : Bool) → s q ≡ b →
          get_or after.held.codes q 0 ≡ cond b (get_or after.held.codes q 0) 8
      code_at q l true h = refl
      code_at q l false h = (outside q l h).1

  after-reduced : IsReduced (masked (in_party word g) (party_after word g u o)).held
  after-reduced = subst IsReduced (sym (ap (λ v. v.held) (operation-left word g u o) ∙ again ∙ L.held))
      (R (masked (in_party word g) u).held (used_step_lem (masked (in_party word g) u) o number))

  operation-reduces : (nb' cs' : List ℕ) (used' : ℕ) → nb' ≡ (party_after word g u o).held.neighbours →
      cs' ≡ (party_after word g u o).held.codes → used' ≡ (party_after word g u o).used →
      IsReduced (masked (in_party word g) (left_used u nb' cs' used')).held
  operation-reduces nb' cs' used' a b c = subst (λ v. IsReduced (masked (in_party word g) v).held)
      (λ j. left_used u (sym a j) (sym b j) (sym c j)) after-reduced

-- a gate or a cz
copying-reduces : (word g : ℕ) (u : UsedRecord) (o : Operation) → PartyOp o → Reduces o →
    ((v : UsedRecord) → used_after v o ≡ v.used) → (nb' cs' : List ℕ) → Call (party_call word g u o nb' cs') 0 →
    IsReduced (masked (in_party word g) (left_used u nb' cs' u.used)).held
copying-reduces word g u o G R copies nb' cs' C =
    operation-reduces word g u o G R (sym C.number) nb' cs' u.used C.held.0 C.held.1.0
    (sym (used-kept word g u o copies (party-accepted word g u o (sym C.number))))

pub party-calls-reduce : PartyCallsReduce
party-calls-reduce =
    record {
      gate = λ word g u q k. copying-reduces word g u (gate_with q k) (gate-op q k) (gate-reduces q k) (λ v. refl);
      cz = λ word g u a b. copying-reduces word g u (cz_on a b) (cz-op a b) (cz-reduces a b) (λ v. refl);
      measure = λ word g u pauli q b answer determined nb' cs' used' answer' determined' C.
          operation-reduces word g u (measurement_of pauli q b) (measure-op pauli q b) (measure-reduces pauli q b)
          (sym C.number) nb' cs' used' C.held.1.1.1.0 C.held.1.1.1.1.0 C.held.0;
    }
