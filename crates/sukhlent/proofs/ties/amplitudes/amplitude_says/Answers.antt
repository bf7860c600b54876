-- `amplitude_says` meets its contract.
use Rattle.claims.proofs.SentencesHold.Amplitudes.{amplitude-says}
use Rattle.sukhlent.proofs.ties.amplitudes.amplitude_says.Goals as goal

pub returns : goal.returns
returns c = amplitude-says _ _ _ _ _ _ _ _ _ c.sukhlent_amplitude.ensures
