-- The record that a group's call leaves stands for the same group as the one that the call on the whole record leaves.
use mathlib.Core.Bool.{false, true}
use mathlib.Core.Path.{◌≡◌, ap, subst, sym, ◌∙◌}
use Prim.Native.Nat.{ℕ, ◌<◌, ◌≤◌}
use mathlib.Core.Logic.{inl, inr}
use lib.ListN.{get_or-eq_default}
use Rattle.clifford.specs.Clifford.{clifford_of, identity_clifford}
use Rattle.operations.proofs.UnrefusedRecords.{complement-above}
use Rattle.record.specs.Records.{SameRecord, complement_record}
use Rattle.operations.proofs.AcceptedSteps.{complement-arguments}
use Rattle.words.proofs.Sums.{lt-or-ge}
use Rattle.parties.proofs.PartyNumbers.{in-party}
use Rattle.parties.proofs.SameGroupsRewritten.{codes-rewritten, edges-rewritten}
use Rattle.parties.specs.internal.Apart.{complement-op}
use Rattle.buffers.specs.Refusals.{first_fitting}
use Rattle.operations.specs.Steps.{Operation, complement_of, leaves, lines_of, made}
use Rattle.record.proofs.AcceptedRecords.{held-above}
use Rattle.record.specs.Accepted.{AcceptedRecord}
use Rattle.record.specs.Lent.{LentRecord, held_record, held_rows}
use Rattle.record.specs.Records.{rows_of}
use Rattle.stabilizer.specs.Groups.{SameGroup}
use Rattle.store.proofs.PassingStores.{held-record}
use Rattle.operations.proofs.LeftRecords.{used-left}
use Rattle.operations.proofs.UsedPassing.{used_step_lem}
use Rattle.operations.specs.Used.{UsedRecord, used_step}
use Rattle.operations.specs.internal.UsedLaws.{UsedLeft}
use Rattle.words.specs.Bits.{Word}
use Rattle.parties.proofs.PartyNumbers.{masked-number}
use Rattle.parties.proofs.PartyPassing.{PartyPasses, party-passes}
use Rattle.parties.proofs.MaskedRecords.{apart-record}
use Rattle.parties.proofs.MergedPasses.{after-within, party-apart}
use Rattle.parties.proofs.SameGroupsLent.{mask-of, merged-together, within-split}
use Rattle.parties.proofs.SameGroupsMade.{made_held, made-same}
use Rattle.parties.specs.PartyLines.{party_after, party_lines, names_other}
use Rattle.parties.specs.Masks.{in_party, masked}
use Rattle.parties.specs.internal.Apart.{Apart, PartyOp}
use Rattle.parties.specs.internal.Sides.{PutTogether, Split}

module _ (word g : ℕ) (u : UsedRecord) (H : Apart word u) (o : Operation) (G : PartyOp o)
    (e : first_fitting (party_lines word g u o) ≡ 0) where
  abbrev s : Word
  s = in_party word g

  abbrev v : UsedRecord
  v = masked (in_party word g) u

  abbrev n : ℕ
  n = u.held.n

  P : PartyPasses word g u o
  P = party-passes word g u o e

  -- the call is accepted on the whole record and on the party's vertices alone
  whole : first_fitting (lines_of u.held o) ≡ 0
  whole = used_step_lem u o P.lines

  on-own : (used_step v o).number ≡ 0
  on-own = sym (masked-number word g u H o G P.own) ∙ P.lines

  -- what the party's vertices become
  abbrev left : UsedRecord
  left = (used_step v o).after

  L : UsedLeft v o left
  L = used-left v o on-own

  A : AcceptedRecord left.held
  A = held-record left L.passes

  left-made : held_record left.held ≡ made v.held o
  left-made = ap held_record L.held ∙ made_held v.held o G (used_step_lem v o on-own)

  left_split : Split s (made v.held o).graph
  left_split = subst (λ r. Split s r.graph) left-made
      (within-split s left A (after-within word g u H o G P.own on-own))

  -- the record afterwards
  abbrev after : LentRecord
  after = (party_after word g u o).held

  put : PutTogether n s (made v.held o) (held_record u.held) (held_record after)
  put = subst (λ r. PutTogether n s r (held_record u.held) (held_record after)) left-made
      (merged-together s u (apart-record word u H) left (λ i j l. held-above left.held A.neighbours-length i j
      (subst (λ k. k ≤ i) (sym (ap (λ r. r.n) L.held)) l)))

  same : SameGroup n n (held_rows after) (rows_of n (made u.held o))
  same =
      made-same s u (mask-of word g u H) o G whole (subst (λ k. names_other s k o ≡ false) (sym H.count) P.own)
      left_split (held_record after) (apart-record word _ (party-apart word g u H o G e)).simple put

  pub group-same : SameGroup 64 64 (held_rows (party_after word g u o).held) (held_rows (leaves u.held o))
  group-same = subst (λ k. SameGroup k k (held_rows after) (held_rows (leaves u.held o))) H.count
      (subst (λ r. SameGroup n n (held_rows after) (rows_of n r)) (sym (made_held u.held o G whole)) same)

-- ---- audit prototype: a party's complementation leaves the record that document 01's rule makes of the whole record
module _ (word g : ℕ) (u : UsedRecord) (H : Apart word u) (a : ℕ)
    (e : first_fitting (party_lines word g u (complement_of a)) ≡ 0) where
  Q : PartyPasses word g u (complement_of a)
  Q = party-passes word g u (complement_of a) e

  below : a < u.held.n
  below = complement-arguments u.held a (whole word g u H (complement_of a) (complement-op a) e)

  own : in_party word g a ≡ true
  own = in-party word g u H a Q.own below

  code-above : (l : LentRecord) → AcceptedRecord l → (q : ℕ) → l.n ≤ q → (held_record l).codes q ≡ identity_clifford
  code-above l B q h =
      ap clifford_of (get_or-eq_default l.codes 0 (subst (λ m. m ≤ q) (sym B.codes-length) h))

  pub party-rewritten : SameRecord (held_record (party_after word g u (complement_of a)).held)
      (complement_record (held_record u.held) a)
  party-rewritten =
      let o = complement_of a in
      let T = put word g u H o (complement-op a) e in
      let B = apart-record word u H in
      record {
        neighbours = edges-rewritten u.held.n (in_party word g) _ _ (mask-of word g u H) a below own _ T;
        code = λ q. elim (lt-or-ge q u.held.n) [
          | inl l ↦ codes-rewritten u.held.n (in_party word g) _ _ (mask-of word g u H) a below own _ T q l
          | inr l ↦ code-above (party_after word g u o).held
              (apart-record word _ (party-apart word g u H o (complement-op a) e)) q l
              ∙ sym (complement-above u.held.n (held_record u.held) B.simple a below (code-above u.held B) q
              l)
        ];
      }
