-- `search_records` meets its contract: the least choice that carries the group of the first record onto that of the
-- second, by a table without equations, which it leaves so.
use mathlib.Core.List.{[]}
use Rattle.std.specs.Option.{is_some, unwrap_or}
use Rattle.comparison.specs.internal.Setting.{generators_in}
use Rattle.comparison.proofs.ComparedRecords.{records-answer, records-setting}
use Rattle.comparison_search.proofs.search_records.Goals as goal

pub least_choice-requires : goal.least_choice-requires
least_choice-requires c =
    let a = c.args in record {
      setting = records-setting a.n c.requires.n_bound.0 a.neighbours.now a.codes.now a.neighbours2.now
          a.codes2.now c.requires.n_bound.1 c.requires.sound_record.0 (generators_in c.generators.new.rows)
          (generators_in c.generators-2.new.rows) c.inverses-frame.result c.generators.ensures
          c.generators-2.ensures c.inverses-frame.ensures.0 c.inverses-frame.ensures.1 c.requires.sound_record.1;
      empty_from = c.requires.empty_from;
    }

pub returns : goal.returns
returns c =
    let a = c.args in record {
      least_answer = records-answer a.n c.requires.n_bound.0 a.neighbours.now a.codes.now a.neighbours2.now
          a.codes2.now c.requires.n_bound.1 c.requires.sound_record.0 (generators_in c.generators.new.rows)
          (generators_in c.generators-2.new.rows) c.inverses-frame.result c.generators.ensures
          c.generators-2.ensures (is_some c.least_choice.result) (unwrap_or c.least_choice.result [])
          c.least_choice.ensures.least_answer;
      empty_from_2 = c.least_choice.ensures.empty_from_2;
    }
