-- `write_strings_says` meets its contract.
use Rattle.claims.proofs.SentencesHold.Lists.{write-strings-says}
use Rattle.sukhlent.proofs.ties.lists.write_strings_says.Goals as goal

pub returns : goal.returns
returns c = write-strings-says _ _ _ _ c.sukhlent_write_strings.ensures
