-- Line 6 of a step by its fields alone.
use mathlib.Core.Bool.{◌&&◌, Bool, false, not, or-true, true, true≢false, ◌||◌}
use mathlib.Core.Logic.{◌⊎◌, inl, inr, ⊎_elim}
use mathlib.Core.Path.{◌∙◌, ◌≡◌, ap, ap₂, sym}
use Prim.Native.Nat.{◌%◌, ◌+◌, ◌/◌, ◌<◌, ◌≤◌, ℕ}
use native.Mathlib.Omega.{arith}
use lib.Dec.{eqb, leb}
use lib.ListN.{drop}
use borrow.Author.Tests.{le-leb, le-ltb, lt-leb, ne_eqb}
use Rattle.buffers.specs.Refusals.{first_fitting, with_test}
use Rattle.jobs.proofs.Numbers.{with-six, with-six-after}
use Rattle.jobs.specs.Asked.{request_lines, request_of, unused_set}
use Rattle.jobs.specs.internal.Asked.{wrong_value}
use Rattle.jobs.specs.declared.Op.{Op}
use Rattle.jobs.specs.declared.Op.TheVariants.{Complement, Cz, Gate, Measure, Observe, Pivot, Renew}
use Rattle.operations.specs.Steps.{
  argument_lines,
  complement_lines,
  complement_of,
  cz_lines,
  cz_on,
  gate_lines,
  gate_with,
  measure_lines,
  measurement_of,
  pivot_lines,
  pivot_of,
}
use Rattle.operations.specs.Used.{UsedRecord, names_used, used_code, used_lines}
use Rattle.source.specs.Renewal.{renew_lines}
use Rattle.words.proofs.Sums.{lt-or-ge}
use Rattle.words.specs.Bits.{is_odd}

-- a measurement's value gives a Pauli 1 to 3 and an outcome, unless it is 6 or more
pub measure-six : (v : ℕ) → (leb 2 (v % 2) || (eqb (v / 2 + 1) 0 || leb 4 (v / 2 + 1))) ≡ leb 6 v
measure-six v = ap₂ ◌||◌ (lt-leb 2 (v % 2) (omega arith))
    (ap₂ ◌||◌ (ne_eqb (v / 2 + 1) 0 (λ e. omega arith)) same)
  where
    same : leb 4 (v / 2 + 1) ≡ leb 6 v
    same = ⊎_elim (λ h. lt-leb 4 (v / 2 + 1) (omega arith) ∙ sym (lt-leb 6 v h))
        (λ h. le-leb 4 (v / 2 + 1) (omega arith) ∙ sym (le-leb 6 v h)) (lt-or-ge v 6)

swapped : (a b : Bool) → (a || b) ≡ true → (b || a) ≡ true
swapped true b e = or-true b
swapped false b e = ap (λ v. v || false) e

-- the lines of the record decide, and then 6
pub fields-refuse : (u : UsedRecord) (op : Op) (a b v : ℕ) → (unused_set op b v || wrong_value op v) ≡ true
    → first_fitting (with_test 6 (unused_set op b v) (request_lines u (request_of op a b v)))
    ≡ first_fitting (used_lines u false false true)
fields-refuse u Gate a b v e =
    with-six u (names_used u (gate_with a v)) (leb 24 v) (not (eqb b 0)) (drop 5 (gate_lines u.held a v))
    (swapped (not (eqb b 0)) (leb 24 v) e)
fields-refuse u Cz a b v e =
    with-six u (names_used u (cz_on a b)) false (not (eqb v 0)) (drop 5 (cz_lines u.held a b))
    (swapped (not (eqb v 0)) false e)
fields-refuse u Measure a b v e =
    with-six u (names_used u (measurement_of (v / 2 + 1) a (v % 2)))
    (leb 2 (v % 2) || (eqb (v / 2 + 1) 0 || leb 4 (v / 2 + 1))) (not (eqb b 0))
    (drop 5 (measure_lines u.held (v / 2 + 1) a (v % 2)))
    (ap (λ c. c || not (eqb b 0)) (measure-six v) ∙ swapped (not (eqb b 0)) (leb 6 v) e)
fields-refuse u Complement a b v e =
    with-six u (names_used u (complement_of a)) false (not (eqb b 0) || not (eqb v 0))
    (drop 5 (complement_lines u.held a)) (swapped (not (eqb b 0) || not (eqb v 0)) false e)
fields-refuse u Pivot a b v e =
    with-six u (names_used u (pivot_of a b)) false (not (eqb v 0)) (drop 5 (pivot_lines u.held a b))
    (swapped (not (eqb v 0)) false e)
fields-refuse u Observe a b v e =
    with-six u (names_used u (measurement_of (v / 2 + 1) a (v % 2)))
    (leb 2 (v % 2) || (eqb (v / 2 + 1) 0 || leb 4 (v / 2 + 1))) (not (eqb b 0))
    (drop 5 (argument_lines u.held (v / 2 + 1) a (v % 2)))
    (ap (λ c. c || not (eqb b 0)) (measure-six v) ∙ swapped (not (eqb b 0)) (leb 6 v) e)
fields-refuse u Renew a b v e =
    with-six-after u (not (used_code v)) (not (eqb b 0)) (drop 5 (renew_lines u a v))
    (six (not (eqb b 0)) (lt-or-ge v 12) e)
  where
    six : (t : Bool) → (v < 12) ⊎ (12 ≤ v) → (t || leb 12 v) ≡ true → (not (used_code v) || t) ≡ true
    six true h e = or-true (not (used_code v))
    six false (inl h) e = absurd (true≢false (sym e ∙ lt-leb 12 v h))
    six false (inr h) e = ap (λ c. not (c && not (is_odd v)) || false) (le-ltb v 12 h)
