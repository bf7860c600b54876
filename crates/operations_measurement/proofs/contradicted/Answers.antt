-- `contradicted` meets its contract: whether a determined outcome contradicts the supplied bit.
use Rattle.operations_measurement.proofs.MeasuredBuffers.{contradicted-as-read}
use Rattle.operations_measurement.proofs.contradicted.Goals as goal

pub returns : goal.returns
returns c =
    contradicted-as-read _ _ _ _ _ _ c.read_off-known.ensures _
