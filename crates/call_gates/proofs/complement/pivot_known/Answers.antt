-- `pivot_known` meets its contract: a pivot on an edge; the record is not reduced.
use mathlib.Core.Path.{refl, sym, ◌∙◌}
use native.Mathlib.Omega.{arith}
use borrow.Author.Rules.{rules}
use borrow.Author.Tests.{not-false}
use Rattle.calls.proofs.InPlaceCalls.{in-place-done}
use Rattle.calls.proofs.InPlaceLines.{pair-below, pair-ready}
use Rattle.calls.proofs.UsedInPlace.{edge-accepts, no-edge-refuses, pair-before, pair-refused}
use Rattle.buffers.proofs.Calling.{refused}
use Rattle.buffers.proofs.RefusalLaws.{passed_on}
use Rattle.operations.specs.Steps.{pivot_of}
use Rattle.operations.specs.Used.{UsedRecord, used_record}
use Rattle.call_gates.proofs.complement.pivot_known.Goals as goal

pub returns-in_err-in_place_refusal : goal.returns-in_err-in_place_refusal
returns-in_err-in_place_refusal c =
    let a = c.args in
    let u : UsedRecord = used_record a.n a.neighbours.now a.codes.now a.used in
    let R = passed_on _ _ c.from_residual.ensures.1 c.in_err-in_place_refusal.ensures in
    refused _ (pair-refused u a.j a.k R.0 R.1) R.1 (refl, (refl, tt))

pub offset_bounds-neighbours-j : goal.offset_bounds-neighbours-j
offset_bounds-neighbours-j c =
    let a = c.args in
    let u : UsedRecord = used_record a.n a.neighbours.now a.codes.now a.used in
    let below = pair-below u.held a.j a.k (pair-before u a.j a.k c.in_ok-in_place_refusal.ensures refl) in
    search (rules, below.0)

pub bounds-neighbours-j : goal.bounds-neighbours-j
bounds-neighbours-j c =
    let a = c.args in
    let u : UsedRecord = used_record a.n a.neighbours.now a.codes.now a.used in
    (pair-ready u.held a.j a.k (pair-before u a.j a.k c.in_ok-in_place_refusal.ensures refl)).1.0

pub has-requires : goal.has-requires
has-requires c =
    let a = c.args in
    let u : UsedRecord = used_record a.n a.neighbours.now a.codes.now a.used in
    (pair-below u.held a.j a.k (pair-before u a.j a.k c.in_ok-in_place_refusal.ensures refl)).1

pub returns-then-not-has : goal.returns-then-not-has
returns-then-not-has c =
    let a = c.args in
    let u : UsedRecord = used_record a.n a.neighbours.now a.codes.now a.used in
    refused _ (no-edge-refuses u a.j a.k c.in_ok-in_place_refusal.ensures refl _ c.has.ensures c.if-not-has.true-raw)
    (λ e. absurd (omega (arith, e))) (refl, (refl, tt))

pub pivot_record-requires : goal.pivot_record-requires
pivot_record-requires c =
    let a = c.args in
    let u : UsedRecord = used_record a.n a.neighbours.now a.codes.now a.used in
    let ready = pair-ready u.held a.j a.k (pair-before u a.j a.k c.in_ok-in_place_refusal.ensures refl) in
    record {
      unrefused = ready.0;
      j_in_bounds = ready.1;
      k_value = sym c.has.ensures ∙ not-false _ c.if-not-has.false-raw;
    }

pub returns : goal.returns
returns c =
    let a = c.args in
    let u : UsedRecord = used_record a.n a.neighbours.now a.codes.now a.used in
    in-place-done u (pivot_of a.j a.k)
    (edge-accepts u a.j a.k c.in_ok-in_place_refusal.ensures refl _ c.has.ensures c.if-not-has.false-raw)
    refl c.pivot_record.ensures.neighbours c.pivot_record.ensures.numbers
