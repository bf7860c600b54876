-- `compare_component` meets its contract: one part compared: none, where an edge of the second graph leaves it or it has
-- no choice; else its least choice beside those of other parts; by a table without equations, which it leaves so.
use mathlib.Core.Bool.{false, true}
use mathlib.Core.List.{[]}
use mathlib.Core.Path.{refl, sym, ◌∙◌, ◌≡◌}
use native.Mathlib.Omega.{arith}
use lib.ListN.{length, take}
use Rattle.buffers.proofs.Parts.{part-long}
use Rattle.words.specs.Bits.{bit}
use Rattle.comparison_parts.proofs.ComponentLaws.{kept-closed, leaves-refused, numbered-pair, part-accepted, part-refused}
use Rattle.comparison_parts.proofs.Listing.{first-numbers}
use Rattle.comparison_parts.proofs.compare_component.Goals as goal

pub returns-then-spread-component : goal.returns-then-spread-component
returns-then-spread-component c =
    let a = c.args in record {
      component_answer = leaves-refused a.n a.neighbours.now a.codes.now a.neighbours2.now a.codes2.now a.component
          c.requires.sound_pair c.requires.component.0 _ c.spread.ensures
          c.if-spread-component.true a.choice.now;
      empty_from = c.requires.component.1;
    }

pub compare_listed-requires : goal.compare_listed-requires
compare_listed-requires c =
    let a = c.args in
    let V = c.vertices-listed in
    let few = V.ensures.0 in
    let at = take V.result.count V.result.at in
    let long : length V.result.at ≡ 64 = omega arith in
    let as_many = sym (part-long V.result.count V.result.at few long) in
    record {
      numbered_pair = numbered-pair a.n a.neighbours.now a.codes.now a.neighbours2.now a.codes2.now
          a.component c.requires.sound_pair c.requires.component.0 (length at) at (omega (arith, as_many, few))
          (first-numbers (bit a.component) V.result.count V.result.at long few V.ensures.1)
          (kept-closed a.n a.neighbours.now a.codes.now a.neighbours2.now a.codes2.now a.component
          c.requires.sound_pair c.requires.component.0 _ c.spread.ensures c.if-spread-component.false);
      words_len = (part-long _ _ few refl ∙ as_many, part-long _ _ few refl ∙ as_many);
      words2_len = (part-long _ _ few refl ∙ as_many, part-long _ _ few refl ∙ as_many);
      empty_from = c.requires.component.1;
    }

pub place-requires : goal.place-requires
place-requires c =
    let V = c.vertices-listed in
    let few = V.ensures.0 in
    let long : length V.result.at ≡ 64 = omega arith in
    let as_many = part-long V.result.count V.result.at few long in
    let N = first-numbers (bit c.args.component) V.result.count V.result.at long few V.ensures.1 in
    (omega (arith, as_many, few), N.below, N.rising)

pub returns-in_err-chosen : goal.returns-in_err-chosen
returns-in_err-chosen c =
    let a = c.args in
    let V = c.vertices-listed in
    let few = V.ensures.0 in
    let at = take V.result.count V.result.at in
    let long : length V.result.at ≡ 64 = omega arith in
    let as_many = part-long V.result.count V.result.at few long in record {
      component_answer = rw c.from_residual.ensures
          (part-refused a.n a.neighbours.now a.codes.now a.neighbours2.now a.codes2.now a.component
          c.requires.sound_pair c.requires.component.0 (length at) at (omega (arith, as_many, few))
          (first-numbers (bit a.component) V.result.count V.result.at long few V.ensures.1)
          (kept-closed a.n a.neighbours.now a.codes.now a.neighbours2.now a.codes2.now a.component
          c.requires.sound_pair c.requires.component.0 _ c.spread.ensures c.if-spread-component.false)
          false [] c.in_err-chosen.ensures.part_answer refl a.choice.now);
      empty_from = c.in_err-chosen.ensures.empty_from_2;
    }

pub returns : goal.returns
returns c =
    let a = c.args in
    let V = c.vertices-listed in
    let few = V.ensures.0 in
    let at = take V.result.count V.result.at in
    let long : length V.result.at ≡ 64 = omega arith in
    let as_many = part-long V.result.count V.result.at few long in record {
      component_answer = part-accepted a.n a.neighbours.now a.codes.now a.neighbours2.now a.codes2.now a.component
          c.requires.sound_pair c.requires.component.0 (length at) at (omega (arith, as_many, few))
          (first-numbers (bit a.component) V.result.count V.result.at long few V.ensures.1)
          (kept-closed a.n a.neighbours.now a.codes.now a.neighbours2.now a.codes2.now a.component
          c.requires.sound_pair c.requires.component.0 _ c.spread.ensures c.if-spread-component.false)
          true c.in_ok-chosen.chosen c.in_ok-chosen.ensures.part_answer refl a.choice.now _ c.place.ensures.0
          c.place.ensures.1;
      empty_from = c.in_ok-chosen.ensures.empty_from_2;
    }
