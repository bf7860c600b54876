-- `forget` meets its contract: the place of the name made free.
use mathlib.Core.Path.{refl}
use native.Mathlib.Omega.{arith}
use Rattle.buffers.proofs.RefusalLaws.{passed_on}
use Rattle.store.specs.Places.{Store}
use Rattle.call_store.proofs.Named.{forget-done, forget-not-held, forget-refused, head-inside}
use Rattle.call_store.proofs.forget.Goals as goal

pub returns-in_err-store_refusal : goal.returns-in_err-store_refusal
returns-in_err-store_refusal c =
    let a = c.args in
    let st : Store = record { heads = a.heads.now; neighbours = a.held_neighbours.now; codes = a.held_codes.now } in
    let R = passed_on _ _ c.from_residual.ensures.1 c.in_err-store_refusal.ensures in
    forget-refused _ st _ R.0 R.1

pub returns-in_default : goal.returns-in_default
returns-in_default c =
    let a = c.args in
    let st : Store = record { heads = a.heads.now; neighbours = a.held_neighbours.now; codes = a.held_codes.now } in
    forget-not-held _ st _ c.in_ok-store_refusal.ensures refl _ c.in_default.ensures.place (omega arith)

pub bounds-heads-place : goal.bounds-heads-place
bounds-heads-place c =
    let a = c.args in
    let st : Store = record { heads = a.heads.now; neighbours = a.held_neighbours.now; codes = a.held_codes.now } in
    head-inside a.name st _ c.in_ok-store_refusal.ensures refl _ c.in-Some.ensures.place c.in-Some.ensures.within

pub returns : goal.returns
returns c =
    let a = c.args in
    let st : Store = record { heads = a.heads.now; neighbours = a.held_neighbours.now; codes = a.held_codes.now } in
    forget-done _ st _ c.in_ok-store_refusal.ensures refl _ c.in-Some.ensures.place c.in-Some.ensures.within
