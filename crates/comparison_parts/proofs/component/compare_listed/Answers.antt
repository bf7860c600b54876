-- `compare_listed` meets its contract: the least choice of a part, with room for its two records, by a table
-- without equations, which it leaves so.
use mathlib.Core.Path.{sym, ◌∙◌}
use native.Mathlib.Omega.{arith}
use lib.ListN.{length}
use Rattle.comparison_parts.proofs.PartBuffers.{first-connected, first-sound, part-answered, second-sound}
use Rattle.comparison_parts.proofs.component.compare_listed.Goals as goal

pub extract-requires : goal.extract-requires
extract-requires c =
    let G = c.requires.numbered_pair in
    let F = G.pair.first in record {
      at_len_bound = G.few;
      words_len = c.requires.words_len;
      neighbours_len_bound = (
        omega (arith, F.neighbours-long, G.pair.upto),
        F.codes-long ∙ sym F.neighbours-long,
        λ i l. omega (arith, F.neighbours-long, G.numbers.below i l),
      );
    }

pub extract-requires-2 : goal.extract-requires-2
extract-requires-2 c =
    let G = c.requires.numbered_pair in
    let F = G.pair.second in record {
      at_len_bound = G.few;
      words_len = c.requires.words2_len;
      neighbours_len_bound = (
        omega (arith, F.neighbours-long, G.pair.upto),
        F.codes-long ∙ sym F.neighbours-long,
        λ i l. omega (arith, F.neighbours-long, G.numbers.below i l),
      );
    }

pub search_records-requires : goal.search_records-requires
search_records-requires c =
    let a = c.args in
    let at = a.at.now in
    let G = c.requires.numbered_pair in
    let ew = c.extract-2.ensures.0 in
    let en = c.extract-2.ensures.1 in record {
      n_bound = (
        G.few,
        first-sound a.n a.neighbours.now a.codes.now a.neighbours2.now a.codes2.now
            a.component (length at) at G _ _ _ _ c.extract.ensures.0 c.extract.ensures.1 ew en,
      );
      sound_record = (
        second-sound a.n a.neighbours.now a.codes.now a.neighbours2.now a.codes2.now a.component
            (length at) at G _ _ _ _ c.extract.ensures.0 c.extract.ensures.1 ew en,
        first-connected a.n a.neighbours.now a.codes.now a.neighbours2.now a.codes2.now
            a.component (length at) at G _ _ _ _ c.extract.ensures.0 c.extract.ensures.1 ew en,
      );
      empty_from = c.requires.empty_from;
    }

pub returns : goal.returns
returns c =
    let a = c.args in
    let at = a.at.now in
    record {
      part_answer = part-answered a.n a.neighbours.now a.codes.now a.neighbours2.now a.codes2.now a.component
          (length at) at c.requires.numbered_pair _ _ _ _ c.extract.ensures.0 c.extract.ensures.1
          c.extract-2.ensures.0 c.extract-2.ensures.1 _ _ c.search_records.ensures.least_answer;
      empty_from_2 = c.search_records.ensures.empty_from_2;
    }
