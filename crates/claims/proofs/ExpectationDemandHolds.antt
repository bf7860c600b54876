-- The demands of values, from the call's contract, the laws of values, and what the calls do to the group.
use mathlib.Core.Bool.{◌&&◌, Bool, and-false, and-true, false, not, true}
use mathlib.Core.List.{List}
use mathlib.Core.Logic.{◌≢◌, ◌⊎◌, inl, inr}
use mathlib.Core.Path.{◌∙◌, ◌≡◌, ap, refl, subst, sym}
use Prim.Native.Nat.{◌<◌, ◌≤◌, suc, zero, ℕ}
use native.Mathlib.Omega.{arith}
use lib.Dec.{eqb}
use lib.ListN.{length}
use Rattle.calls.proofs.ExpectationLines.{AcceptedRow, accepted-row}
use Rattle.calls.proofs.InPlaceLines.{cz-ready, held-accepted}
use Rattle.clifford.proofs.VectorLaws.{act-anticommute, act-imaginary, act-scaled}
use Rattle.clifford.specs.Clifford.{Clifford, clifford_of}
use Rattle.clifford.specs.Vectors.{act, only}
use Rattle.buffers.specs.Calls.{Call}
use Rattle.expectation.proofs.CarriedValues.{value-carried, value-flipped}
use Rattle.expectation.proofs.ReadWords.{row-of-words}
use Rattle.expectation.proofs.ValueLaws.{value-anticommutes, value-minus, value-neither, value-plus, value-upto}
use Rattle.expectation.specs.Values.{stabilizer_value}
use Rattle.jobs.specs.Standing.{left}
use Rattle.operations.proofs.CzGroups.{cz-within}
use Rattle.operations.proofs.CzLaws.{cz-powers, cz-signed}
use Rattle.operations.proofs.CzValues.{cz-homomorphism, cz-is}
use Rattle.operations.proofs.Homomorphisms.{keeps-anticommute}
use Rattle.operations.specs.Cz.{cz}
use Rattle.operations.specs.Measurement.{pauli_letter, single}
use Rattle.pauli.proofs.PauliLaws.{Pauli-path}
use Rattle.pauli.specs.Pauli.{Pauli, i², signed_row, x_bit, z_bit}
use Rattle.pauli.specs.declared.Letter.{Letter}
use Rattle.record.proofs.AcceptedRecords.{accepted-record}
use Rattle.record.specs.Accepted.{AcceptedRecord}
use Rattle.record.specs.Lent.{held_rows, LentRecord, lent_record}
use Rattle.record.specs.Records.{GraphRecord}
use Rattle.stabilizer.proofs.Accepted.{accepted-list}
use Rattle.stabilizer.proofs.Within.{act-within}
use Rattle.stabilizer.specs.Groups.{InGroup, Proper, SameGroup, Within}
use Rattle.stabilizer.specs.Lists.{rows}
use Rattle.operations.proofs.UsedPassing.{lines-pass}
use Rattle.operations.specs.Used.{UsedRecord}
use Rattle.words.proofs.BitLaws.{bit-single, zero_bit}
use Rattle.words.specs.Bits.{bit, digit, is_odd}
use Rattle.claims.proofs.Contradictions.{contradictions-refused}
use Rattle.claims.proofs.GatesFollow.{cz-follows, gates-follow}
use Rattle.claims.proofs.MeasurementsFollow.{measurements-follow}
use Rattle.claims.proofs.PivotStepsHold.{pivot-fits, pivot-kept, pivot-left}
use Rattle.claims.proofs.RewritingsKeep.{complements-keep}
use Rattle.claims.proofs.SecondDemandLists.{reduction-keeps-group}
use Rattle.claims.proofs.UsedDemandHolds.{accepted-measured-without, reductions-unused}
use Rattle.claims.specs.ExpectationDemand.{
  ComplementsKeepValues,
  ContradictionsAgree,
  CzCarriesValues,
  ExpectationAnswer,
  ExpectationsAnswer,
  GatesCarryValues,
  MeasurementAgrees,
  MeasurementsAgree,
  PivotsKeepValues,
  ReductionsKeepValues,
  RowOn,
  letter_call,
  letter_word,
  value_on,
}
use Rattle.claims.specs.OperationsDemand.{CzStands, GateStands, MeasurementStands, RewrittenAs, signed_pauli}

pub expectations-answer : ExpectationsAnswer
expectations-answer u z x value value' C = subst (ExpectationAnswer l z x) (sym C.held.0) (record {
  value = refl;
  one_of = one_of (stabilizer_value n R p) (value-upto n R p);
  plus = value-plus n R P p refl W;
  minus = value-minus n R P p refl W;
  neither = value-neither n R P p refl W;
  anticommutes = value-anticommutes n R P p refl W;
  negative = value-flipped n R P z x A.z-below A.x_below;
})
  where
    l : LentRecord
    l = u.held

    n : ℕ
    n = l.n

    R : ℕ → Pauli
    R = held_rows l

    p : Pauli
    p = signed_row false z x

    A : AcceptedRow u z x
    A = accepted-row u z x (sym C.number)

    P : Proper n R
    P = A.held.proper

    W : Within n p
    W = row-of-words n z x false A.z-below A.x_below

    one_of : (v : ℕ) → v ≤ 2 → (v ≡ 0) ⊎ ((v ≡ 1) ⊎ (v ≡ 2))
    one_of zero h = inl refl
    one_of (suc zero) h = inr (inl refl)
    one_of (suc (suc zero)) h = inr (inr refl)
    one_of (suc (suc (suc k))) h = absurd (omega arith)

-- ---- single letters
-- the words of a letter at one qubit
pub letter-words : (l : Letter) (q : ℕ) (s : Bool) → signed_row s (letter_word (z_bit l) q) (letter_word (x_bit l) q) ≡
    single l q s
letter-words l q s = Pauli-path refl (λ t. one (z_bit l) t) (λ t. one (x_bit l) t)
  where
    one : (b : Bool) (t : ℕ) → bit (letter_word b q) t ≡ (eqb t q && b)
    one true t = bit-single q t ∙ sym (and-true (eqb t q))
    one false t = zero_bit t ∙ sym (and-false (eqb t q))

module _ (u : UsedRecord) (pauli q value value' : ℕ) (C : Call (letter_call u pauli q value value') 0) where
  abbrev In : Bool → Type 0
  In s = InGroup u.held.n u.held.n (held_rows u.held) (signed_pauli pauli q s)

  as-letter : (s : Bool) → InGroup u.held.n u.held.n (held_rows u.held)
      (signed_row s (letter_word (z_bit (pauli_letter pauli)) q) (letter_word (x_bit (pauli_letter pauli)) q)) → In s
  as-letter s = subst (InGroup u.held.n u.held.n (held_rows u.held)) (letter-words (pauli_letter pauli) q s)

  of-letter : (s : Bool) → In s → InGroup u.held.n u.held.n (held_rows u.held)
      (signed_row s (letter_word (z_bit (pauli_letter pauli)) q) (letter_word (x_bit (pauli_letter pauli)) q))
  of-letter s =
      subst (InGroup u.held.n u.held.n (held_rows u.held)) (sym (letter-words (pauli_letter pauli) q s))

  answer-of : ExpectationAnswer u.held (letter_word (z_bit (pauli_letter pauli)) q)
      (letter_word (x_bit (pauli_letter pauli)) q) value'
  answer-of = expectations-answer u _ _ value value' C

  -- the sign of the letter in the group is the value
  value-of-sign : (s : Bool) → In s → value' ≡ digit s
  value-of-sign false a = answer-of.plus.1 (of-letter false a)
  value-of-sign true a = answer-of.minus.1 (of-letter true a)

  pub agrees : {b : ℕ} (after : LentRecord) (answer' determined' : ℕ)
      → MeasurementStands u.held pauli q b after answer' determined' → MeasurementAgrees value' answer' determined'
  agrees after answer' determined' M =
      record {
        determined = (
          (λ e. elim (M.exactly.0 e) [
            | inl a ↦ inl (value-of-sign false a)
            | inr a ↦ inr (value-of-sign true a)
          ]),
          (λ h. elim h [
            | inl e ↦ M.exactly.1 (inl (as-letter false (answer-of.plus.0 e)))
            | inr e ↦ M.exactly.1 (inr (as-letter true (answer-of.minus.0 e)))
          ]),
        );
        sign = λ e. elim M.outcome [
          | inl z ↦ value-of-sign false (subst (λ k. In (is_odd k)) z (M.sign e)) ∙ sym z
          | inr z ↦ value-of-sign true (subst (λ k. In (is_odd k)) z (M.sign e)) ∙ sym z
        ];
      }

pub measurements-agree : MeasurementsAgree
measurements-agree u pauli q b answer determined nb' cs' used' answer' determined' value value' C D =
    agrees u pauli q value value' C (left u.held nb' cs') answer' determined'
    (measurements-follow u.held pauli q b answer determined nb' cs' answer' determined'
    (accepted-measured-without u pauli q b answer determined nb' cs' used' answer' determined' D))

pub contradictions-agree : ContradictionsAgree
contradictions-agree u pauli q b answer determined nb' cs' used' answer' determined' value value' C D =
    value-of-sign u pauli q value value' C (not (is_odd b))
    ((contradictions-refused u pauli q b answer determined 14 nb' cs' used' answer' determined' D).exactly.0 refl).1

-- ---- gates and CZ
pub gates-carry-values : GatesCarryValues
gates-carry-values l q k nb' cs' C p W =
    value-carried l.n (held_rows l) (held_rows (left l nb' cs')) (held-accepted l _ _ (sym C.number)).proper
    (accepted-record (left l nb' cs') false false G.still).proper (act l.n c) G.group.into
    (λ r. act-scaled l.n c i² r) (act-anticommute l.n c) p W.signed W.within
    (act-imaginary l.n c p ∙ W.signed) (act-within l.n l.n c W.within)
  where
    c : ℕ → Clifford
    c = only q (clifford_of k)

    G : GateStands l q k (left l nb' cs')
    G = gates-follow l q k nb' cs' C

pub cz-carries-values : CzCarriesValues
cz-carries-values l a b nb' cs' C p W =
    value-carried l.n (held_rows l) (held_rows (left l nb' cs')) A.proper
    (accepted-record (left l nb' cs') false false G.still).proper (cz a b)
    (λ r h. (G.group (cz a b r)).1 (r, h, refl)) (λ r. cz-powers a b i² r)
    (keeps-anticommute l.n (cz a b) (cz-homomorphism l.n a b (cz a b) (cz-is l.n a b ha hb ready.2))) p
    W.signed W.within (cz-signed a b p ∙ W.signed) (cz-within l.n a b ha hb p W.within)
  where
    G : CzStands l a b (left l nb' cs')
    G = cz-follows l a b nb' cs' C

    A : AcceptedRecord l
    A = held-accepted l _ _ (sym C.number)

    ready : (a < length l.neighbours) × (b < length l.neighbours) × (a ≢ b)
    ready = (cz-ready l a b (sym C.number)).1

    ha : a < l.n
    ha = subst (λ m. a < m) A.neighbours-length ready.0

    hb : b < l.n
    hb = subst (λ m. b < m) A.neighbours-length ready.1

-- ---- rewritings and reduction: one group, one value
same-values : (n : ℕ) (R S : ℕ → Pauli) → Proper n R → Proper n S → SameGroup n n R S → (p : Pauli) → RowOn n p
    → stabilizer_value n S p ≡ stabilizer_value n R p
same-values n R S P Q G p W = value-carried n R S P Q (λ r. r) G.there (λ r. refl) (λ r s. refl) p W.signed
    W.within W.signed W.within

rewritten-values : (l : LentRecord) (nb cs : List ℕ) (new : GraphRecord) → AcceptedRecord l
    → RewrittenAs l (left l nb cs) new → (p : Pauli) → RowOn l.n p → value_on (left l nb cs) p ≡ value_on l p
rewritten-values l nb cs new A G = same-values l.n (held_rows l) (held_rows (left l nb cs)) A.proper
    (accepted-record (left l nb cs) false false G.still).proper G.group

pub complements-keep-values : ComplementsKeepValues
complements-keep-values l a nb' cs' C =
    rewritten-values l nb' cs' _ (held-accepted l _ _ (sym C.number)) (complements-keep l a nb' cs' C)

pub pivots-keep-values : PivotsKeepValues
pivots-keep-values u a b value e p W =
    ap (λ l. value_on l p) (pivot-left u a b value e)
    ∙ rewritten-values u.held _ _ _ (pivot-fits u a b value e).0.held (pivot-kept u a b value e) p W

pub reductions-keep-values : ReductionsKeepValues
reductions-keep-values l nb cs used nb' cs' used' C =
    same-values l.n (rows l) (held_rows after) (accepted-list l _ (sym C.number)).proper
    (accepted-record after false false
    ((lines-pass (record { held = after; used = used' }) false false false).0
    (reductions-unused l nb cs used nb' cs' used' C).passes).0).proper
    (reduction-keeps-group l nb cs used nb' cs' used' C)
  where
    after : LentRecord
    after = lent_record l.n nb' cs'
