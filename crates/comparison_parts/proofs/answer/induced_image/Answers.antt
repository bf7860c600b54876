-- `induced_image` meets its contract: the image rule on the first record's graph, under the codes that the choice
-- induces between two records; with room for these codes.
use mathlib.Core.Path.{sym, ◌∙◌}
use Rattle.comparison_parts.proofs.InducedRecords.{made-accepted, made-answer}
use Rattle.comparison_parts.proofs.answer.induced_image.Goals as goal

pub induced_codes-requires : goal.induced_codes-requires
induced_codes-requires c =
    let L = c.requires.choice_len in record {
      first_len = (c.requires.accepted_record.codes-length ∙ sym L.2, L.0 ∙ sym L.2);
      second_len = L.1 ∙ sym L.2;
      codes = (c.requires.accepted_record.codes-below, c.requires.codes.0, c.requires.codes.1);
    }

pub image_list-requires : goal.image_list-requires
image_list-requires c =
    let a = c.args in record {
      accepted = made-accepted a.n a.neighbours.now a.codes.now a.choice.now a.codes2.now c.requires.accepted_record
          a.induced.now _ c.requires.choice_len.2 c.induced_codes.ensures;
      list_len = c.requires.choice_len.3;
    }

pub returns : goal.returns
returns c =
    let a = c.args in
    made-answer a.n a.neighbours.now a.codes.now a.choice.now a.codes2.now c.requires.accepted_record
    a.induced.now _ c.requires.choice_len.2 c.induced_codes.ensures _ _ c.image_list.ensures
