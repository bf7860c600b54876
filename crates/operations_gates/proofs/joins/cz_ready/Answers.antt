-- `cz_ready` meets its contract: CZ on a and b.
use native.Mathlib.Omega.{arith}
use lib.Dec.{lit<}
use Rattle.operations.proofs.UnrefusedRecords.{unrefused-codes, unrefused-place, unrefused-short}
use Rattle.operations.specs.internal.InPlace.{record_in}
use Rattle.record.specs.Lent.{held_record}
use Rattle.operations_gates.proofs.CzBuffers.{cz-written, reach-fits, turned-by-calls, turned-fits}
use Rattle.operations_gates.proofs.joins.cz_ready.Goals as goal

pub bounds-codes-a : goal.bounds-codes-a
bounds-codes-a c =
    unrefused-place _ _ c.requires.unrefused _ c.requires.a_in_bounds.0

pub bounds-codes-b : goal.bounds-codes-b
bounds-codes-b c =
    unrefused-place _ _ c.requires.unrefused _ c.requires.a_in_bounds.1

pub reach_word-to_a-requires : goal.reach_word-to_a-requires
reach_word-to_a-requires c =
    ((unrefused-codes _ _ c.requires.unrefused).1 _, omega (arith, c.requires.a_in_bounds.0, unrefused-short _ _ c.requires.unrefused))

pub reach_word-to_b-requires : goal.reach_word-to_b-requires
reach_word-to_b-requires c =
    ((unrefused-codes _ _ c.requires.unrefused).1 _, omega (arith, c.requires.a_in_bounds.1, unrefused-short _ _ c.requires.unrefused))

pub reach_minus-requires : goal.reach_minus-requires
reach_minus-requires c =
    (unrefused-codes _ _ c.requires.unrefused).1 _

pub reach_minus-requires-2 : goal.reach_minus-requires-2
reach_minus-requires-2 c =
    (unrefused-codes _ _ c.requires.unrefused).1 _

pub join_sets-requires : goal.join_sets-requires
join_sets-requires c = (
  unrefused-short _ _ c.requires.unrefused,
  reach-fits _ _ c.requires.unrefused _ c.requires.a_in_bounds.0 _ c.reach_word-to_a.ensures,
  reach-fits _ _ c.requires.unrefused _ c.requires.a_in_bounds.1 _ c.reach_word-to_b.ensures,
)

pub put_before-requires : goal.put_before-requires
put_before-requires c =
    record {
      codes_len_bound = unrefused-codes _ _ c.requires.unrefused;
      word_bound = (
        turned-fits _ _ c.requires.unrefused _ _ c.requires.a_in_bounds.0 c.requires.a_in_bounds.1 c.requires.a_in_bounds.2 c.requires.ready _
            (turned-by-calls (held_record (record_in c.args.neighbours.now c.args.codes.now))
            c.args.a c.args.b _ _ _ c.reach_word-to_a.ensures c.reach_word-to_b.ensures
            c.reach_minus.ensures c.reach_minus-2.ensures c.turned_word-turned.ensures),
        lit< tt,
      );
    }

pub returns : goal.returns
returns c =
    cz-written _ _ c.requires.unrefused _ _ c.requires.a_in_bounds.0 c.requires.a_in_bounds.1 c.requires.a_in_bounds.2 c.requires.ready _ _ _ _ _
    c.reach_word-to_a.ensures c.reach_word-to_b.ensures
    (turned-by-calls (held_record (record_in c.args.neighbours.now c.args.codes.now))
    c.args.a c.args.b _ _ _ c.reach_word-to_a.ensures c.reach_word-to_b.ensures
    c.reach_minus.ensures c.reach_minus-2.ensures c.turned_word-turned.ensures)
    c.join_sets.auto.neighbours c.join_sets.ensures c.put_before.ensures
