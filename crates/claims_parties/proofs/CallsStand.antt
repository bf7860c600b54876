-- An accepted call of a party against the same call on the whole record: that is accepted too, the two records stand
-- for the same group, and a measurement answers the same.
use mathlib.Core.Bool.{◌&&◌, Bool, cond, false, or-false, true, true≢false, ◌||◌}
use mathlib.Core.List.{List}
use mathlib.Core.Path.{ap, refl, subst, sym, ◌∙◌, ◌≡◌}
use Prim.Native.Nat.{◌<◌, ℕ}
use lib.Dec.{eqb}
use borrow.Author.Tests.{eqb-true}
use Rattle.buffers.specs.Buffers.{accepted, accepted_number}
use Rattle.buffers.specs.Refusals.{first_fitting}
use Rattle.parties.proofs.PartyPassing.{PartyPasses, party-accepted, party-passes}
use Rattle.parties.proofs.PartyNumbers.{in-party, masked-number}
use Rattle.parties.proofs.SameGroups.{group-same}
use Rattle.parties.specs.PartyLines.{party_after, party_lines}
use Rattle.parties.specs.Masks.{in_party, masked}
use Rattle.parties.specs.internal.Apart.{Apart, PartyOp, complement-op, cz-op, gate-op, measure-op}
use Rattle.jobs.specs.Standing.{left}
use Rattle.operations.specs.Measurement.{determined_number, outcome_number}
use Rattle.operations.specs.Steps.{
  Operation,
  complement_of,
  cz_on,
  gate_with,
  leaves,
  lines_of,
  made,
  measured_answer,
  measurement_of,
}
use Rattle.record.specs.Lent.{code_numbers, held_rows, lent_record, neighbour_words}
use Rattle.stabilizer.specs.Groups.{SameGroup}
use Rattle.operations.proofs.UsedPassing.{used-passes}
use Rattle.operations.specs.Used.{UsedRecord, used_after, used_lines_of, used_step}
use Rattle.words.proofs.BitLaws.{bit-word_of, word-cong}
use Rattle.words.proofs.Flags.{never_true}
use Rattle.words.specs.Bits.{Word, bit}
use Rattle.claims_parties.specs.PartiesDemand.{PartyCallsStand, StandsAsWhole}

module _ (word g : ℕ) (u : UsedRecord) (o : Operation) (G : PartyOp o)
    (e : first_fitting (party_lines word g u o) ≡ 0) where
  P : PartyPasses word g u o
  P = party-passes word g u o e

  -- the buffers at exit: of the party's call, and of the whole-record call
  module _ (nb' cs' : List ℕ) (r : ℕ) (nb'' cs'' : List ℕ) (a : nb' ≡ (party_after word g u o).held.neighbours)
      (b : cs' ≡ (party_after word g u o).held.codes) (number : r ≡ first_fitting (used_lines_of u o))
      (c : nb'' ≡ accepted r (neighbour_words u.held.n (made u.held o)) u.held.neighbours)
      (d : cs'' ≡ accepted r (code_numbers u.held.n (made u.held o)) u.held.codes) where
    zero : r ≡ 0
    zero = number ∙ P.lines

    plain : r ≡ first_fitting (lines_of u.held o)
    plain = zero ∙ sym ((used-passes u o).0 P.lines).as_before

    whole : left u.held nb'' cs'' ≡ leaves u.held o
    whole = λ j. record {
      n = u.held.n;
      neighbours = (c ∙ ap (λ m. accepted m (neighbour_words u.held.n (made u.held o)) u.held.neighbours)
          plain) j;
      codes = (d ∙ ap (λ m. accepted m (code_numbers u.held.n (made u.held o)) u.held.codes) plain) j;
    }

    own : left u.held nb' cs' ≡ (party_after word g u o).held
    own = λ j. lent_record u.held.n (a j) (b j)

    stands : StandsAsWhole u nb' cs' r nb'' cs''
    stands =
        record {
          accepted = zero;
          elements = subst (λ l. SameGroup 64 64 (held_rows l) (held_rows (left u.held nb'' cs''))) (sym own)
              (subst (λ l. SameGroup 64 64 (held_rows (party_after word g u o).held) (held_rows l)) (sym whole)
              (group-same word g u (party-accepted word g u o e) o G e));
        }

-- ---- the used word of a measurement
module _ (word g : ℕ) (u : UsedRecord) (pauli q b : ℕ)
    (e : first_fitting (party_lines word g u (measurement_of pauli q b)) ≡ 0) where
  abbrev o : Operation
  o = measurement_of pauli q b

  abbrev s : Word
  s = in_party word g

  M : PartyPasses word g u o
  M = party-passes word g u o e

  H : Apart word u
  H = party-accepted word g u o e

  -- the measured qubit is in the party
  measured-own : (t : ℕ) → t < u.held.n → s t ≡ false → eqb t q ≡ false
  measured-own t l h = never_true (eqb t q) (λ k. true≢false
      (sym (in-party word g u H q M.own (subst (λ m. m < u.held.n) (eqb-true t q k) l))
      ∙ ap s (sym (eqb-true t q k)) ∙ h))

  own-accepted : first_fitting (used_lines_of (masked s u) o) ≡ 0
  own-accepted = sym (masked-number word g u H o (measure-op pauli q b) M.own) ∙ M.lines

  own-used : (used_step (masked s u) o).after.used ≡ used_after (masked s u) o
  own-used = ap (λ m. (cond (eqb m 0) (record { held = leaves (masked s u).held o; used = used_after (masked s u) o })
      (masked s u)).used) own-accepted

  used-whole : (party_after word g u o).used ≡ used_after u o
  used-whole = word-cong u.held.n _ _ (λ t l.
      ap (λ x. cond (s t) x (bit u.used t)) (ap (λ w. bit w t) own-used ∙ bit-word_of u.held.n _ t l
      ∙ ap (λ x. x || eqb t q) (bit-word_of u.held.n _ t l))
      ∙ either (s t) (bit u.used t) (eqb t q) (measured-own t l))
    where
      either : (f x y : Bool) → (f ≡ false → y ≡ false) → cond f ((f && x) || y) x ≡ (x || y)
      either true x y h = refl
      either false x y h = sym (ap (λ k. x || k) (h refl) ∙ or-false x)

-- ---- each call
pub party-calls-stand : PartyCallsStand
party-calls-stand =
    record {
      gate = λ word g u q k nb' cs' r nb'' cs'' C D. stands word g u (gate_with q k) (gate-op q k) (sym C.number)
          nb' cs' r nb'' cs'' C.held.0 C.held.1.0 D.number D.held.0 D.held.1.0;
      cz = λ word g u a b nb' cs' r nb'' cs'' C D. stands word g u (cz_on a b) (cz-op a b) (sym C.number)
          nb' cs' r nb'' cs'' C.held.0 C.held.1.0 D.number D.held.0 D.held.1.0;
      complement = λ word g u a nb' cs' r nb'' cs'' C D. stands word g u (complement_of a) (complement-op a)
          (sym C.number)
          nb' cs' r nb'' cs'' C.held.0 C.held.1.0 D.number D.held.0 D.held.1.0;
      measure = λ word g u pauli q b answer determined nb' cs' used' answer' determined' r nb'' cs'' used'' answer''
          determined'' C D.
          let o = measurement_of pauli q b in
          let out = measured_answer u.held pauli q b in
          let z = zero word g u o (measure-op pauli q b) (sym C.number) nb' cs' r nb'' cs'' C.held.1.1.1.0
          C.held.1.1.1.1.0 D.number D.held.1.1.1.0 D.held.1.1.1.1.0 in (
            stands word g u o (measure-op pauli q b) (sym C.number) nb' cs' r nb'' cs'' C.held.1.1.1.0
                C.held.1.1.1.1.0 D.number D.held.1.1.1.0 D.held.1.1.1.1.0,
            C.held.1.0 ∙ sym (D.held.1.0 ∙ ap (λ m. accepted_number m (outcome_number out) answer) z),
            C.held.1.1.0 ∙ sym (D.held.1.1.0 ∙ ap (λ m. accepted_number m (determined_number out) determined) z),
            C.held.0 ∙ used-whole word g u pauli q b (sym C.number)
                ∙ sym (D.held.0 ∙ ap (λ m. accepted_number m (used_after u o) u.used) z),
          );
    }
