-- The number of a step: by its fields alone, or the number of its operation; and the record that it leaves.
use mathlib.Core.Bool.{Bool, cond, false, not, or-true, true, true≢false, ◌||◌}
use mathlib.Core.List.{◌++◌, List}
use mathlib.Core.Path.{◌∙◌, ◌≡◌, ap, ap₂, refl, sym}
use Prim.Native.Nat.{ℕ}
use lib.Dec.{eqb, leb}
use lib.ListN.{drop}
use borrow.Author.Tests.{eq-eqb, ne_eqb}
use Rattle.buffers.proofs.AddedLines.{without-test}
use Rattle.buffers.proofs.Lines.{not-held}
use Rattle.buffers.specs.Refusals.{Refusal, bad_count, first_fitting, with_test}
use Rattle.operations.specs.Steps.{
  Operation,
  argument_lines,
  complement_lines,
  complement_of,
  cz_lines,
  cz_on,
  gate_lines,
  gate_with,
  measure_lines,
  measurement_of,
  pivot_lines,
  pivot_of,
}
use Rattle.record.specs.Lent.{record_codes, record_lengths, record_lines, record_stray}
use Rattle.operations.proofs.UsedPassing.{lines-pass}
use Rattle.source.specs.Renewal.{renew_lines}
use Rattle.operations.specs.Used.{
  UsedRecord,
  names_used,
  used_arguments_of,
  used_code,
  used_lines,
  used_lines_of,
  used_step,
  used_stray,
  with_used,
}
use Rattle.jobs.specs.Asked.{
  Request,
  asked,
  carry_out,
  number_of,
  observation_of,
  renewal_of,
  request_lines,
  unused_set,
}
use Rattle.jobs.specs.GroupsAfter.{request_arguments}
use Rattle.jobs.specs.Runs.{after_step, request_leaves}
use Rattle.jobs.specs.declared.Step.{Step}

-- where line 6 holds of an argument or by the further test, no later line matters
pub with-six : (u : UsedRecord) (named six b : Bool) (rest : List Refusal) → (six || b) ≡ true
    → first_fitting (with_test 6 b (with_used u named (record_lines u.held false six ++ rest)))
    ≡ first_fitting (used_lines u false false true)
unfolding first_fitting
with-six u named six b rest e =
    go (bad_count u.held.n) (record_lengths u.held) (record_stray u.held) (used_stray u) (record_codes u.held)
    six b e _ _
  where
    go : (two four five stray code six b : Bool) → (six || b) ≡ true → (m m' : ℕ)
        → cond (((two || false) || false) || false) 2 (cond ((((four || false) || false) || false) || false) 4
        (cond (((five || stray) || false) || false) 5 (cond ((((code || six) || false) || false) || b) 6 m)))
        ≡ cond ((two || false) || false) 2 (cond (((four || false) || false) || false) 4
        (cond ((five || (stray || false)) || false) 5 (cond (((code || true) || false) || false) 6 m')))
    go true four five stray code six b e m m' = refl
    go false true five stray code six b e m m' = refl
    go false false true stray code six b e m m' = refl
    go false false false true code six b e m m' = refl
    go false false false false true six b e m m' = refl
    go false false false false false true b e m m' = refl
    go false false false false false false b e m m' = ap (λ v. cond v 6 m) e

-- the same of lines behind those of the record
pub with-six-after : (u : UsedRecord) (six b : Bool) (rest : List Refusal) → (six || b) ≡ true
    → first_fitting (with_test 6 b (used_lines u false false six ++ rest)) ≡ first_fitting (used_lines u false false true)
unfolding first_fitting
with-six-after u six b rest e =
    go (bad_count u.held.n) (record_lengths u.held) (record_stray u.held) (used_stray u || false)
    (record_codes u.held) six b e _ _
  where
    go : (two four five stray code six b : Bool) → (six || b) ≡ true → (m m' : ℕ)
        → cond (((two || false) || false) || false) 2 (cond ((((four || false) || false) || false) || false) 4
        (cond (((five || stray) || false) || false) 5 (cond ((((code || six) || false) || false) || b) 6 m)))
        ≡ cond ((two || false) || false) 2 (cond (((four || false) || false) || false) 4
        (cond ((five || stray) || false) 5 (cond (((code || true) || false) || false) 6 m')))
    go true four five stray code six b e m m' = refl
    go false true five stray code six b e m m' = refl
    go false false true stray code six b e m m' = refl
    go false false false true code six b e m m' = refl
    go false false false false true six b e m m' = refl
    go false false false false false true b e m m' = refl
    go false false false false false false b e m m' = ap (λ v. cond v 6 m) e

-- line 6 of a further argument refuses
pub six-refuses : (u : UsedRecord) → first_fitting (used_lines u false false true) ≡ 0 → ⊥
six-refuses u e =
    let h4 = not-held 3 _ _ (not-held 1 _ _ ((lines-pass u false false true).0 e).0).1 in
    let h6 = not-held 5 _ _ (not-held 4 _ _ h4.1).1 in
    true≢false (sym (or-true (record_codes u.held)) ∙ h6.0)

-- ---- a step with an unused field set: the lines of the record, and then 6
pub set-refuses : (u : UsedRecord) (o : Operation)
    → first_fitting (with_test 6 true (used_lines_of u o)) ≡ first_fitting (used_lines u false false true)
set-refuses u (gate_with q k) =
    with-six u (names_used u (gate_with q k)) (leb 24 k) true (drop 5 (gate_lines u.held q k)) (or-true (leb 24 k))
set-refuses u (cz_on a b) = with-six u (names_used u (cz_on a b)) false true (drop 5 (cz_lines u.held a b)) refl
set-refuses u (measurement_of pauli q b) =
    with-six u (names_used u (measurement_of pauli q b)) (leb 2 b || (eqb pauli 0 || leb 4 pauli)) true
    (drop 5 (measure_lines u.held pauli q b)) (or-true (leb 2 b || (eqb pauli 0 || leb 4 pauli)))
set-refuses u (complement_of a) =
    with-six u (names_used u (complement_of a)) false true (drop 5 (complement_lines u.held a)) refl
set-refuses u (pivot_of j k) =
    with-six u (names_used u (pivot_of j k)) false true (drop 5 (pivot_lines u.held j k)) refl

-- the same before the outcome of a measurement is looked at
pub set-refuses-fields : (u : UsedRecord) (o : Operation)
    → first_fitting (with_test 6 true (used_arguments_of u o)) ≡ first_fitting (used_lines u false false true)
set-refuses-fields u (gate_with q k) = set-refuses u (gate_with q k)
set-refuses-fields u (cz_on a b) = set-refuses u (cz_on a b)
set-refuses-fields u (measurement_of pauli q b) =
    with-six u (names_used u (measurement_of pauli q b)) (leb 2 b || (eqb pauli 0 || leb 4 pauli)) true
    (drop 5 (argument_lines u.held pauli q b)) (or-true (leb 2 b || (eqb pauli 0 || leb 4 pauli)))
set-refuses-fields u (complement_of a) = set-refuses u (complement_of a)
set-refuses-fields u (pivot_of j k) = set-refuses u (pivot_of j k)

-- the same of what a step asks
pub set-refuses-request : (u : UsedRecord) (r : Request)
    → first_fitting (with_test 6 true (request_lines u r)) ≡ first_fitting (used_lines u false false true)
set-refuses-request u (carry_out o) = set-refuses u o
set-refuses-request u (observation_of pauli q b) = set-refuses-fields u (measurement_of pauli q b)
set-refuses-request u (renewal_of q k) =
    with-six-after u (not (used_code k)) true (drop 5 (renew_lines u q k)) (or-true (not (used_code k)))

pub set-refuses-arguments : (u : UsedRecord) (r : Request)
    → first_fitting (with_test 6 true (request_arguments u r)) ≡ first_fitting (used_lines u false false true)
set-refuses-arguments u (carry_out o) = set-refuses-fields u o
set-refuses-arguments u (observation_of pauli q b) = set-refuses-fields u (measurement_of pauli q b)
set-refuses-arguments u (renewal_of q k) = set-refuses-request u (renewal_of q k)

-- ---- a step with no unused field set is what it asks
module _ (u : UsedRecord) (s : Step) where
  abbrev set : Bool
  set = unused_set s.op s.b s.value

  pub number-of-request : set ≡ false → number_of u s ≡ first_fitting (request_lines u (asked s))
  number-of-request e =
      ap (λ b. first_fitting (with_test 6 b (request_lines u (asked s)))) e ∙ without-test 6 (request_lines u (asked s))

  -- that of an operation
  module _ (o : Operation) (r : asked s ≡ carry_out o) (e : set ≡ false) where
    pub number-of-operation : number_of u s ≡ (used_step u o).number
    number-of-operation = number-of-request e ∙ ap (λ r. first_fitting (request_lines u r)) r

    pub left-by-operation : after_step u s ≡ (used_step u o).after
    left-by-operation =
        ap₂ (λ k v. cond (eqb k 0) v u) number-of-operation (ap (request_leaves u) r)
        ∙ kept (eqb (first_fitting (used_lines_of u o)) 0) _
      where
        -- a refused operation leaves the record
        kept : (b : Bool) (v : UsedRecord) → cond b (cond b v u) u ≡ cond b v u
        kept true v = refl
        kept false v = refl

  -- "A refused step changes nothing"
  pub refused-keeps : (number_of u s ≡ 0 → ⊥) → after_step u s ≡ u
  refused-keeps h = ap (λ b. cond b (request_leaves u (asked s)) u) (ne_eqb (number_of u s) 0 h)

  -- an accepted one has no unused field set
  pub accepted-unset : number_of u s ≡ 0 → set ≡ false
  accepted-unset z = go set z
    where
      go : (b : Bool) → first_fitting (with_test 6 b (request_lines u (asked s))) ≡ 0 → b ≡ false
      go true e = absurd (six-refuses u (sym (set-refuses-request u (asked s)) ∙ e))
      go false e = refl

  pub accepted-number : number_of u s ≡ 0 → first_fitting (request_lines u (asked s)) ≡ 0
  accepted-number z = sym (number-of-request (accepted-unset z)) ∙ z

  pub accepted-leaves : number_of u s ≡ 0 → after_step u s ≡ request_leaves u (asked s)
  accepted-leaves z = ap (λ b. cond b (request_leaves u (asked s)) u) (eq-eqb (number_of u s) 0 z)
