-- `gate_says` meets its contract.
use Rattle.claims.proofs.SentencesHold.Records.{gate-says}
use Rattle.sukhlent.proofs.ties.records.gate_says.Goals as goal

pub returns : goal.returns
returns c = gate-says _ _ _ _ _ _ c.sukhlent_gate.ensures
