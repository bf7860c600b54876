-- `group_gate_says` meets its contract.
use Rattle.claims_parties.proofs.SentencesHold.Parties.{group-gate-says}
use Rattle.sukhlent.proofs.ties.groups.group_gate_says.Goals as goal

pub returns : goal.returns
returns c = group-gate-says _ _ _ _ _ _ _ _ c.sukhlent_group_gate.ensures
