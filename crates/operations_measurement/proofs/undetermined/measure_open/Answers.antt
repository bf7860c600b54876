-- `measure_open` meets its contract: the group after a measurement of l at q that is not determined.
use Rattle.clifford.specs.Vectors.{codes_of}
use Rattle.operations.proofs.UnrefusedRecords.{unrefused-codes, unrefused-place}
use Rattle.operations_measurement.proofs.MeasuredGroups.{measured-letter, open-neighbour}
use Rattle.operations_measurement.proofs.SentLetters.{third-by-calls}
use Rattle.operations_measurement.proofs.undetermined.measure_open.Goals as goal

pub bounds-codes-q : goal.bounds-codes-q
bounds-codes-q c =
    unrefused-place _ _ c.requires.unrefused.0 _ c.requires.unrefused.1

pub sends-requires : goal.sends-requires
sends-requires c = (unrefused-codes _ _ c.requires.unrefused.0).1 _

pub measure_x-requires : goal.measure_x-requires
measure_x-requires c =
    record {
      unrefused = c.requires.unrefused;
      fact = open-neighbour _ _ c.requires.unrefused.0 c.args.q c.requires.unrefused.1 c.args.l c.requires.fact c.requires.q_value
          (c.sends.ensures.0 c.if-sends.true);
    }

pub returns-then-sends : goal.returns-then-sends
returns-then-sends c =
    measured-letter (c.sends.ensures.0 c.if-sends.true) c.measure_x.ensures

pub bounds-codes-q-2 : goal.bounds-codes-q-2
bounds-codes-q-2 c =
    unrefused-place _ _ c.requires.unrefused.0 _ c.requires.unrefused.1

pub sends-requires-2 : goal.sends-requires-2
sends-requires-2 c = (unrefused-codes _ _ c.requires.unrefused.0).1 _

pub returns-then-sends-2 : goal.returns-then-sends-2
returns-then-sends-2 c =
    measured-letter (c.sends-2.ensures.0 c.if-sends-2.true) c.measure_z.ensures

pub returns : goal.returns
returns c =
    measured-letter
    (third-by-calls (codes_of c.args.codes.now c.args.q) c.args.l c.requires.fact
    c.sends.ensures c.if-sends.false
    c.sends-2.ensures c.if-sends-2.false)
    c.measure_y.ensures
