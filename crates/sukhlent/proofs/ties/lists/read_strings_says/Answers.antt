-- `read_strings_says` meets its contract.
use Rattle.claims.proofs.SentencesHold.Lists.{read-strings-says}
use Rattle.sukhlent.proofs.ties.lists.read_strings_says.Goals as goal

pub returns : goal.returns
returns c =
    read-strings-says _ _ _ _ _ _ _ _
    c.sukhlent_read_strings.ensures
