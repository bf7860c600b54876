-- A step of a job whose op is pivot runs as complement at a, b, a where it is accepted, and changes nothing where it is
-- refused.
use mathlib.Core.Bool.{Bool, cond, false, not, true}
use mathlib.Core.List.{List, [], ◌∷◌}
use mathlib.Core.Path.{◌∙◌, ◌≡◌, ap, ap₂, refl, subst, sym}
use Prim.Native.Nat.{◌<◌, ℕ}
use native.Mathlib.Omega.{arith}
use lib.Dec.{eqb, lit<}
use borrow.Author.Tests.{eq-eqb, eqb-true, not-false}
use Rattle.buffers.proofs.Lines.{first_below}
use Rattle.buffers.specs.Refusals.{first_fitting, with_test}
use Rattle.calls.specs.InPlace.{used_call}
use Rattle.buffers.specs.Calls.{Call}
use Rattle.jobs.proofs.Numbers.{
  accepted-leaves,
  accepted-number,
  accepted-unset,
  left-by-operation,
  number-of-operation,
  refused-keeps,
  set-refuses,
}
use Rattle.jobs.specs.Asked.{number_of}
use Rattle.jobs.specs.Runs.{after_step, run}
use Rattle.operations.specs.Steps.{complement_of, leaves, lines_of, pivot_of, pivot_record}
use Rattle.record.proofs.Unique.{record-path}
use Rattle.record.proofs.WrittenRecords.{written_record}
use Rattle.record.specs.Lent.{held_record}
use Rattle.record.specs.Records.{complement_record}
use Rattle.operations.proofs.AcceptedSteps.{after-made}
use Rattle.operations.proofs.LeftRecords.{used-left}
use Rattle.operations.proofs.UsedPassing.{used_step_lem}
use Rattle.operations.proofs.UsedRefusing.{edge-unused, pivot-never}
use Rattle.operations.specs.Used.{UsedRecord, used_lines, used_lines_of, used_step}
use Rattle.operations.specs.UsedLaws.{UsedStay}
use Rattle.operations.specs.internal.UsedLaws.{UsedLeft}
use Rattle.words.proofs.Flags.{neither}
use Rattle.words.specs.Bits.{bit}
use Rattle.claims.proofs.CutDemandHolds.{rewritten-ranks}
use Rattle.claims.proofs.JobSteps.{call-of}
use Rattle.claims.proofs.RewritingsKeep.{complements-keep, pivots-keep}
use Rattle.claims.proofs.UsedDemandHolds.{left_is}
use Rattle.claims.proofs.UsedExactly.{no_stray, none-wrong, used-complement, used-exactly, used-pivot}
use Rattle.claims.specs.Arguments.{Free}
use Rattle.claims.specs.families.Records.{ComplementFits}
use Rattle.claims.specs.CutDemand.{rank_across}
use Rattle.claims.specs.OperationsDemand.{RewrittenAs}
use Rattle.claims.specs.PivotSteps.{
  AsComplements,
  PivotFits,
  PivotLeaves,
  PivotNever16,
  PivotsAccepted,
  PivotsAnswer,
  PivotsRefused,
  PivotsRun,
  complement_step,
  pivot_step,
}
use Rattle.claims.specs.UsedDemand.{left_used}

-- ---- one complement
-- what it leaves
abbrev complemented : UsedRecord → ℕ → UsedRecord
complemented u a = (used_step u (complement_of a)).after

module _ (u : UsedRecord) (a : ℕ) (F : ComplementFits u a) where
  accepted : (used_step u (complement_of a)).number ≡ 0
  accepted = (used-complement u a).1 F

  L : UsedLeft u (complement_of a) (complemented u a)
  L = used-left u (complement_of a) accepted

  qubits : (complemented u a).held.n ≡ u.held.n
  qubits = ap (λ l. l.n) L.held

  -- the record of the rule, in buffers
  written : (complemented u a).held ≡ written_record u.held.n (complement_record (held_record u.held) a)
  written = L.held ∙ after-made u.held (complement_of a) (used_step_lem u (complement_of a) accepted)

  -- and as it is read again
  held-again : held_record (complemented u a).held ≡ complement_record (held_record u.held) a
  held-again = ap held_record L.held ∙ record-path _ _
      (complements-keep u.held a _ _ (call-of u.held (complement_of a)
      (used_step_lem u (complement_of a) accepted))).holds

  -- a qubit that is not used may be complemented next
  again : (b : ℕ) → Free u b → ComplementFits (complemented u a) b
  again b free = (
    ((used-exactly (complemented u a) false false false).0 L.passes).0,
    (subst (λ n. b < n) (sym qubits) free.0, ap (λ w. bit w b) L.used ∙ free.1),
  )

  -- as a step of a job
  as_step : after_step u (complement_step a) ≡ complemented u a
  as_step = left-by-operation u (complement_step a) (complement_of a) refl refl

  step-number : number_of u (complement_step a) ≡ 0
  step-number = number-of-operation u (complement_step a) (complement_of a) refl refl ∙ accepted

  -- as a call
  as_call : (nb cs : List ℕ) (r : ℕ) → Call (used_call u (complement_of a) nb cs) r
      → (r ≡ 0) × (left_used u nb cs u.used ≡ complemented u a)
  as_call nb cs r C =
      let z = C.number ∙ accepted in
      (z, left_is u (complement_of a) nb cs u.used (subst (Call (used_call u (complement_of a) nb cs)) z C) refl)

-- ---- an accepted pivot
module _ (u : UsedRecord) (a b value : ℕ) (e : number_of u (pivot_step a b value) ≡ 0) where
  number : (used_step u (pivot_of a b)).number ≡ 0
  number = accepted-number u (pivot_step a b value) e

  pub pivot-fits : PivotFits u a b
  pivot-fits = (used-pivot u a b).0 number

  -- neither end is used
  ends : (bit u.used a ≡ false) × (bit u.used b ≡ false)
  ends = neither (bit u.used a) (bit u.used b)
      (edge-unused u pivot-fits.0.held (no_stray u pivot-fits.0) (none-wrong u pivot-fits.0) a b
      pivot-fits.3)

  free-a : Free u a
  free-a = (pivot-fits.1, ends.0)

  free-b : Free u b
  free-b = (pivot-fits.2, ends.1)

  -- the three complements
  F₁ : ComplementFits u a
  F₁ = (pivot-fits.0, free-a)

  F₂ : ComplementFits (complemented u a) b
  F₂ = again u a F₁ b free-b

  F₃ : ComplementFits (complemented (complemented u a) b) a
  F₃ = again (complemented u a) b F₂ a (again u a F₁ a free-a).1

  abbrev last : UsedRecord
  last = complemented (complemented (complemented u a) b) a

  before : first_fitting (lines_of u.held (pivot_of a b)) ≡ 0
  before = used_step_lem u (pivot_of a b) number

  P : UsedLeft u (pivot_of a b) (used_step u (pivot_of a b)).after
  P = used-left u (pivot_of a b) number

  held_same : last.held ≡ (used_step u (pivot_of a b)).after.held
  held_same =
      written (complemented (complemented u a) b) a F₃
      ∙ ap₂ (λ n g. written_record n (complement_record g a))
      (qubits (complemented u a) b F₂ ∙ qubits u a F₁)
      (held-again (complemented u a) b F₂ ∙ ap (λ g. complement_record g b) (held-again u a F₁))
      ∙ sym (P.held ∙ after-made u.held (pivot_of a b) before)

  used-same : last.used ≡ (used_step u (pivot_of a b)).after.used
  used-same = (L (complemented (complemented u a) b) a F₃).used ∙ (L (complemented u a) b F₂).used ∙ (L u a F₁).used
      ∙ sym P.used

  same : last ≡ after_step u (pivot_step a b value)
  same = (λ i. record { held = held_same i; used = used-same i }) ∙ sym (accepted-leaves u (pivot_step a b value) e)

  -- as steps
  first_run : run u (complement_step a ∷ []) ≡ complemented u a
  unfolding run
  first_run = as_step u a F₁

  second_run : run u (complement_step a ∷ complement_step b ∷ []) ≡ complemented (complemented u a) b
  unfolding run
  second_run = ap (λ v. after_step v (complement_step b)) (as_step u a F₁) ∙ as_step (complemented u a) b F₂

  third-run : run u (complement_step a ∷ complement_step b ∷ complement_step a ∷ []) ≡ last
  unfolding run
  third-run =
      ap (λ v. after_step v (complement_step a))
      (ap (λ v. after_step v (complement_step b)) (as_step u a F₁) ∙ as_step (complemented u a) b F₂)
      ∙ as_step (complemented (complemented u a) b) a F₃

  -- as calls
  three-calls : (nb₁ cs₁ nb₂ cs₂ nb₃ cs₃ : List ℕ) (r₁ r₂ r₃ : ℕ)
      → Call (used_call u (complement_of a) nb₁ cs₁) r₁
      → Call (used_call (left_used u nb₁ cs₁ u.used) (complement_of b) nb₂ cs₂) r₂
      → Call (used_call (left_used u nb₂ cs₂ u.used) (complement_of a) nb₃ cs₃) r₃
      → (r₁ ≡ 0) × (r₂ ≡ 0) × (r₃ ≡ 0) × (left_used u nb₃ cs₃ u.used ≡ after_step u (pivot_step a b value))
  three-calls nb₁ cs₁ nb₂ cs₂ nb₃ cs₃ r₁ r₂ r₃ C₁ C₂ C₃ = (c₁.0, c₂.0, c₃.0, p₃ ∙ same)
    where
      v₁ : UsedRecord
      v₁ = left_used u nb₁ cs₁ u.used

      v₂ : UsedRecord
      v₂ = left_used u nb₂ cs₂ u.used

      c₁ : (r₁ ≡ 0) × (v₁ ≡ complemented u a)
      c₁ = as_call u a F₁ nb₁ cs₁ r₁ C₁

      c₂ : (r₂ ≡ 0) × (v₂ ≡ complemented v₁ b)
      c₂ = as_call v₁ b (subst (λ v. ComplementFits v b) (sym c₁.1) F₂) nb₂ cs₂ r₂ C₂

      p₂ : v₂ ≡ complemented (complemented u a) b
      p₂ = c₂.1 ∙ ap (λ v. complemented v b) c₁.1

      c₃ : (r₃ ≡ 0) × (left_used u nb₃ cs₃ u.used ≡ complemented v₂ a)
      c₃ = as_call v₂ a (subst (λ v. ComplementFits v a) (sym p₂) F₃) nb₃ cs₃ r₃ C₃

      p₃ : left_used u nb₃ cs₃ u.used ≡ last
      p₃ = c₃.1 ∙ ap (λ v. complemented v a) p₂

  as-complements : AsComplements u a b (after_step u (pivot_step a b value))
  as-complements =
      record {
        first = step-number u a F₁;
        second = ap (λ v. number_of v (complement_step b)) first_run ∙ step-number (complemented u a) b F₂;
        third = ap (λ v. number_of v (complement_step a)) second_run
            ∙ step-number (complemented (complemented u a) b) a F₃;
        leave = third-run ∙ same;
        calls = three-calls;
      }

  pub pivot-kept : RewrittenAs u.held (leaves u.held (pivot_of a b)) (pivot_record (held_record u.held) a b)
  pivot-kept = pivots-keep u.held a b _ _ (call-of u.held (pivot_of a b) before)

  pub pivot-left : (after_step u (pivot_step a b value)).held ≡ leaves u.held (pivot_of a b)
  pivot-left = ap (λ v. v.held) (accepted-leaves u (pivot_step a b value) e) ∙ P.held

  leaves-so : PivotLeaves u a b (after_step u (pivot_step a b value))
  leaves-so =
      record {
        rewritten = subst (λ l. RewrittenAs u.held l (pivot_record (held_record u.held) a b)) (sym pivot-left)
            pivot-kept;
        ranks = λ side. ap (rank_across side) pivot-left ∙ rewritten-ranks u.held _ _ _ pivot-fits.0.held
            pivot-kept side;
        stay = subst (λ v. UsedStay u v.held) (sym (accepted-leaves u (pivot_step a b value) e)) P.stay;
        copied = ap (λ v. v.used) (accepted-leaves u (pivot_step a b value) e) ∙ P.used;
      }

pub pivots-run : PivotsRun
pivots-run u a b value e = (as-complements u a b value e, leaves-so u a b value e)

pub pivots-accepted : PivotsAccepted
pivots-accepted u a b value = (
  (λ e. (
    eqb-true value 0 (not-false (eqb value 0) (accepted-unset u (pivot_step a b value) e)),
    pivot-fits u a b value
        e,
  )),
  (λ h. number-of-operation u (pivot_step a b value) (pivot_of a b) refl (ap not (eq-eqb value 0 h.0)) ∙ (used-pivot u a
      b).1 h.1),
)

pub pivots-refused : PivotsRefused
pivots-refused u a b value h = refused-keeps u (pivot_step a b value) h

pub pivots-answer : PivotsAnswer
pivots-answer u a b value = λ i. record {
  refusal = number_of u (pivot_step a b value);
  outcome = none (eqb (number_of u (pivot_step a b value)) 0) i;
  determined = none (eqb (number_of u (pivot_step a b value)) 0) i;
}
  where
    none : (t : Bool) → ◌≡◌ {A = ℕ} (cond t 0 0) 0
    none true = refl
    none false = refl

pub pivot-never-16 : PivotNever16
pivot-never-16 u a b value e = go (not (eqb value 0)) refl
  where
    early : first_fitting (used_lines u false false true) < 8
    early = first_below 8 (used_lines u false false true) (lit< tt)
        (lit< tt, (lit< tt, (lit< tt, (lit< tt, (lit< tt, tt)))))

    go : (t : Bool) → not (eqb value 0) ≡ t → ⊥
    go true h = omega (
      arith,
      early,
      sym (set-refuses u (pivot_of a b))
          ∙ sym (ap (λ t. first_fitting (with_test 6 t (used_lines_of u (pivot_of a b)))) h) ∙ e,
    )
    go false h = pivot-never u a b (sym (number-of-operation u (pivot_step a b value) (pivot_of a b) refl h) ∙ e)
