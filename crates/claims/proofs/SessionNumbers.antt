-- The request on faster sessions: the number of a call whose arguments are in order is that of expanding the record,
-- and of a measurement the list's besides.
use mathlib.Core.Bool.{◌&&◌, Bool, cond, false, or-false, true, ◌||◌}
use mathlib.Core.List.{◌++◌, List, [], ◌∷◌}
use mathlib.Core.Path.{ap, ap₂, subst, sym, ◌∙◌, ◌≡◌}
use Prim.Native.Nat.{◌<◌, ◌^◌, ℕ}
use native.Mathlib.Decide.{ℕ_discrete}
use native.Mathlib.Omega.{arith}
use lib.Dec.{eqb, leb}
use borrow.Author.Tests.{lt-leb, ne_eqb}
use Rattle.buffers.proofs.Lines.{more-refused}
use Rattle.buffers.specs.Refusals.{Refusal, first_fitting, line, with_test}
use Rattle.buffers.specs.Calls.{Call}
use Rattle.calls.specs.Expansions.{expand_call, expand_lines}
use Rattle.operations.specs.Measurement.{contradicts, pauli_letter, single}
use Rattle.operations.specs.Steps.{in_place_lines}
use Rattle.pauli.specs.Pauli.{Pauli}
use Rattle.pauli.specs.declared.Letter.{Letter}
use Rattle.record.proofs.ExpansionBack.{expansion-back}
use Rattle.record.specs.Accepted.{AcceptedRecord}
use Rattle.record.specs.Lent.{held_rows, record_lines}
use Rattle.stabilizer.proofs.EqualRows.{product-equal}
use Rattle.stabilizer.specs.Lists.{rows}
use Rattle.stabilizer.specs.Membership.{equal_below, member}
use Rattle.operations.specs.Used.{UsedRecord, used_lines, used_stray, used_wrong, with_used}
use Rattle.words.specs.Bits.{◌⊕◌, bit, is_odd}
use Rattle.words.specs.Search.{some}
use Rattle.claims.proofs.LinesExactly.{three-fit}
use Rattle.claims.proofs.SecondDemandLists.{holds-expanded}
use Rattle.claims.proofs.UsedExactly.{used-exactly}
use Rattle.claims.specs.SessionDemand.{
  CzNumbersByExpanding,
  GateNumbersByExpanding,
  MeasureNumbersByExpanding,
  list_in,
}

-- ---- lines
-- where no line holds of the further arguments, the record's lines decide, and those after them
record-decides : (u : UsedRecord) {six eight named others : Bool} → six ≡ false → eight ≡ false → named ≡ false →
    others ≡ false → (after : List Refusal) →
    first_fitting (with_used u named (in_place_lines u.held six eight) ++ after)
    ≡ first_fitting (used_lines u others false false ++ after)
unfolding first_fitting
record-decides u a b c d after =
    (λ i. first_fitting (with_used u (c i) (in_place_lines u.held (a i) (b i)) ++ after))
    ∙ (λ i. first_fitting (with_test 7 (used_wrong u) (with_test 5 (sym (or-false (used_stray u)) i)
    (record_lines u.held (sym d i) false)) ++ after))

-- ---- the expanded list: its generators are the record's, and so are its elements
pub expanded-rows : (u : UsedRecord) → AcceptedRecord u.held → (s z x s' z' x' : List ℕ) →
    Call (expand_call u s z x s' z' x') 0 → (j : ℕ) → j < u.held.n →
    held_rows u.held j ≡ rows (list_in u.held.n s' z' x') j
expanded-rows u A s z x s' z' x' D j k =
    sym ((expansion-back u.held A).generators j k) ∙ ap (λ m. rows m j) (sym (holds-expanded u s z x s' z' x' D))

module _ (n : ℕ) (R S : ℕ → Pauli) (h : (j : ℕ) → j < n → R j ≡ S j) where
  pub member-equal : (p : Pauli) → member n R p ≡ member n S p
  unfolding member
  member-equal p = λ i. some (2 ^ n) (λ v. equal_below n p (product-equal n R S h (bit v) i))

  contradicts-equal : (L : Letter) (q : ℕ) (b : Bool) → contradicts n R L q b ≡ contradicts n S L q b
  contradicts-equal L q b = ap₂ (λ u v. (u || v) && (cond (u || v) v b ⊕ b)) (member-equal (single L q false))
      (member-equal (single L q true))

-- ---- gates and CZ
pub gate-numbers-by-expanding : GateNumbersByExpanding
gate-numbers-by-expanding u q k r nb' cs' hq hk C = record {
  equal = λ s z x s' z' x' e a b c D. let n = u.held.n in
      C.number ∙ record-decides u (lt-leb 24 k hk) (lt-leb n q hq.0) hq.1 ((three-fit n n n s z x).1 (a, b, c)) []
      ∙ sym D.number;
}

pub cz-numbers-by-expanding : CzNumbersByExpanding
cz-numbers-by-expanding u a b r nb' cs' ha hb ab C = record {
  equal = λ s z x s' z' x' e d f g D. let n = u.held.n in
      C.number ∙ record-decides u (λ i. false)
      (ap₂ ◌||◌ (lt-leb n a ha.0) (ap₂ ◌||◌ (lt-leb n b hb.0) (ne_eqb a b ab)))
      (ap₂ ◌||◌ ha.1 hb.1) ((three-fit n n n s z x).1 (d, f, g)) []
      ∙ sym D.number;
}

-- ---- measurements
pub measure-numbers-by-expanding : MeasureNumbersByExpanding
measure-numbers-by-expanding u pauli q b answer determined r nb' cs' used' answer' determined' hp hp₂ hq hb C = record {
  equal = λ s z x s' z' x' e c d g D. C.number
      ∙ record-decides u six (lt-leb u.held.n q hq.0) hq.1
      ((three-fit u.held.n u.held.n u.held.n s z x).1 (c, d, g))
      (line 14 ((against (held_rows u.held) || false) || false) ∷ [])
      ∙ ap (λ t. first_fitting (expand_lines u s z x ++ (line 14 t ∷ [])))
      (or-false (against (held_rows u.held) || false) ∙ or-false (against (held_rows u.held)))
      ∙ by-list s z x s' z' x' e D (ℕ_discrete (first_fitting (expand_lines u s z x)) 0);
}
  where
    six : (leb 2 b || (eqb pauli 0 || leb 4 pauli)) ≡ false
    six = ap₂ ◌||◌ (lt-leb 2 b hb)
        (ap₂ ◌||◌ (ne_eqb pauli 0 (λ z. absurd (omega (arith, hp, z)))) (lt-leb 4 pauli (omega (arith, hp₂))))

    against : (ℕ → Pauli) → Bool
    against R = contradicts u.held.n R (pauli_letter pauli) q (is_odd b)

    after : (ℕ → Pauli) → List Refusal
    after R = line 14 (against R) ∷ []

    by-list : (s z x s' z' x' : List ℕ) (e : ℕ) → Call (expand_call u s z x s' z' x') e →
        Dec (first_fitting (expand_lines u s z x) ≡ 0) →
        first_fitting (expand_lines u s z x ++ after (held_rows u.held))
        ≡ first_fitting (expand_lines u s z x ++ after (rows (list_in u.held.n s' z' x')))
    by-list s z x s' z' x' e D (yes h) =
        ap (λ t. first_fitting (expand_lines u s z x ++ (line 14 t ∷ [])))
        (contradicts-equal u.held.n (held_rows u.held) (rows (list_in u.held.n s' z' x'))
        (expanded-rows u ((used-exactly u _ false false).0 h).0.held s z x s' z' x'
        (subst (Call (expand_call u s z x s' z' x')) (D.number ∙ h) D)) (pauli_letter pauli) q (is_odd b))
    by-list s z x s' z' x' e D (no h) =
        more-refused (expand_lines u s z x) (after (held_rows u.held)) h
        ∙ sym (more-refused (expand_lines u s z x) (after (rows (list_in u.held.n s' z' x'))) h)
