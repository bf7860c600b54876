-- `sends` meets its contract: whether the code sends a letter to plus or minus another.
use Rattle.operations_measurement.proofs.SentLetters.{sent-by-calls}
use Rattle.operations_measurement.proofs.undetermined.sends.Goals as goal

pub returns : goal.returns
returns c = sent-by-calls c.image.ensures.letter_value c.eq.ensures
