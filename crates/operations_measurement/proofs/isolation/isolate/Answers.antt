-- `isolate` meets its contract: isolates vertex q, whose Z before the code has the sign t.
use mathlib.Core.Path.{refl, subst, sym}
use Prim.Native.Nat.{◌<◌}
use Rattle.operations.proofs.UnrefusedRecords.{unrefused-codes, unrefused-place, unrefused-short, unrefused-simple}
use Rattle.operations_measurement.proofs.IsolatedBuffers.{isolated-alone, isolated-turning}
use Rattle.operations_measurement.proofs.isolation.isolate.Goals as goal

pub bounds-codes-q : goal.bounds-codes-q
bounds-codes-q c =
    let start = c.requires in
    unrefused-place _ _ start.0 _ start.1

pub with_hadamard-own-requires : goal.with_hadamard-own-requires
with_hadamard-own-requires c = (unrefused-codes _ _ c.requires.0).1 _

pub bounds-codes-q-then-t : goal.bounds-codes-q-then-t
bounds-codes-q-then-t c =
    subst (λ m. c.args.q < m) (sym c.remove_turning.auto.codes)
    (unrefused-place _ _ c.requires.0 _ c.requires.1)

pub returns-then-t : goal.returns-then-t
returns-then-t c =
    let start = c.requires in
    let known = c.remove_turning in
    isolated-turning _ _ start.0 c.args.q c.args.t c.if-t.true _ _ _ _
    (unrefused-place _ _ start.0 _ start.1) c.remove_turning.ensures.codes_after c.with_hadamard-own.ensures refl
    c.remove_turning.auto.neighbours c.remove_turning.ensures.same_graph

pub remove_edges-requires : goal.remove_edges-requires
remove_edges-requires c = let start = c.requires in record { neighbours_len_bound = (unrefused-short _ _ start.0, start.1); simple = unrefused-simple _ _ start.0 }

pub bounds-codes-q-2 : goal.bounds-codes-q-2
bounds-codes-q-2 c =
    let start = c.requires in
    unrefused-place _ _ start.0 _ start.1

pub returns : goal.returns
returns c =
    let start = c.requires in
    isolated-alone _ _ start.0 c.args.q c.args.t c.if-t.false _ _ _
    (unrefused-place _ _ start.0 _ start.1) c.with_hadamard-own.ensures refl
    c.remove_edges.auto.neighbours c.remove_edges.ensures
