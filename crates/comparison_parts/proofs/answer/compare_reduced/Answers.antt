-- `compare_reduced` meets its contract: the comparison of two reduced records: 3 where there is a limit and a part of
-- either has more than 20 vertices, 13, or the least choice, the complementation list and its count.
use mathlib.Core.Bool.{false, true}
use mathlib.Core.List.{[]}
use mathlib.Core.Path.{ap, refl, subst, sym, ◌∙◌, ◌≡◌}
use native.Mathlib.Omega.{arith}
use lib.ListN.{length}
use Rattle.std.specs.Option.{is_some, ok_or, unwrap_or}
use Rattle.buffers.specs.internal.Numbers.{number_of}
use Rattle.buffers.specs.declared.refusals.Refusal.TheVariants.{Inequivalent}
use Rattle.buffers.proofs.RefusalLaws.{passed_on}
use Rattle.buffers.proofs.Parts.{part-long}
use Rattle.comparison.specs.internal.ComparedPairs.{PairAnswered}
use Rattle.comparison.specs.internal.Searches.{LeastAnswer}
use Rattle.comparison.specs.internal.Setting.{held_generators}
use Rattle.record.specs.Graph.{Simple}
use Rattle.record.specs.NeighbourWords.{graph_in}
use Rattle.comparison_parts.proofs.ReducedPairs.{accepted-pair, choice-long, choice-written, chosen-codes, large-tests, pair-accepted, pair-large, pair-refused}
use Rattle.comparison_parts.proofs.answer.compare_reduced.Goals as goal

pub too_large-requires : goal.too_large-requires
too_large-requires c =
    let F = c.requires.accepted_record in
    let G = c.requires.accepted_record_2 in record {
      neighbours_len_bound = (
        omega (arith, F.neighbours-length, F.upto),
        subst (λ m. Simple m (graph_in c.args.neighbours.now)) (sym F.neighbours-length) F.simple,
      );
      neighbours2_len_bound = (
        omega (arith, G.neighbours-length, G.upto),
        subst (λ m. Simple m (graph_in c.args.neighbours2.now)) (sym G.neighbours-length) G.simple,
      );
    }

pub returns-then-too_large : goal.returns-then-too_large
returns-then-too_large c =
    let a = c.args in
    λ R R₂ H H₂. pair-large a.limited a.n a.neighbours.now a.codes.now a.neighbours2.now
    a.codes2.now
    (large-tests a.limited a.n a.neighbours.now a.neighbours2.now _ _ c.requires.accepted_record.neighbours-length
    c.requires.accepted_record_2.neighbours-length c.too_large.ensures c.if-too_large.true) R R₂ H H₂ a.choice.now
    a.list.now a.count.now

pub compare_parts-requires : goal.compare_parts-requires
compare_parts-requires c =
    let a = c.args in (
      c.requires.accepted_record.positive,
      accepted-pair a.n a.neighbours.now a.codes.now a.neighbours2.now
          a.codes2.now c.requires.accepted_record c.requires.accepted_record_2,
    )

pub returns-in_err-least : goal.returns-in_err-least
returns-in_err-least c =
    let a = c.args in
    let small = (large-tests a.limited a.n a.neighbours.now a.neighbours2.now _ _
    c.requires.accepted_record.neighbours-length
    c.requires.accepted_record_2.neighbours-length c.too_large.ensures c.if-too_large.false) in
    let none = c.in_err-least.ensures.ok_part in
    let L = subst (λ r. LeastAnswer a.n (held_generators a.n a.neighbours.now a.codes.now)
    (held_generators a.n a.neighbours2.now a.codes2.now) (is_some r) (unwrap_or r [])) none c.compare_parts.ensures in
    let P = passed_on _ _ c.from_residual.ensures.1
    (ap number_of (c.in_err-least.ensures.value ∙ ap (λ r. ok_or r Inequivalent) none)) in
    λ R R₂ H H₂. subst (λ k. PairAnswered a.limited a.n R R₂ a.choice.now a.list.now a.count.now k a.choice.now a.list.now
    a.count.now) (sym P.0)
    (pair-refused a.limited a.n a.neighbours.now a.codes.now a.neighbours2.now
    a.codes2.now c.requires.accepted_record c.requires.accepted_record_2 small
    false [] L R R₂ H H₂ a.choice.now a.list.now a.count.now refl)

pub induced_image-listed-requires : goal.induced_image-listed-requires
induced_image-listed-requires c =
    let a = c.args in
    let small = (large-tests a.limited a.n a.neighbours.now a.neighbours2.now _ _
    c.requires.accepted_record.neighbours-length
    c.requires.accepted_record_2.neighbours-length c.too_large.ensures c.if-too_large.false) in
    let least = c.in_ok-least.least in
    let L = subst (λ r. LeastAnswer a.n (held_generators a.n a.neighbours.now a.codes.now)
    (held_generators a.n a.neighbours2.now a.codes2.now) (is_some r) (unwrap_or r []))
    c.in_ok-least.ensures.ok_part c.compare_parts.ensures in
    let long : length least ≡ 64 = omega arith in
    let e = choice-written a.n least a.choice.now _ c.requires.choice_len.0
    (omega (arith, long, c.requires.accepted_record.upto)) c.copy_first.ensures in
    record {
      accepted_record = c.requires.accepted_record;
      choice_len = (
        choice-long a.n least _ e,
        c.requires.accepted_record_2.codes-length,
        part-long _ _ c.requires.accepted_record.upto refl,
        refl,
      );
      codes = (
        chosen-codes a.limited a.n a.neighbours.now a.codes.now a.neighbours2.now a.codes2.now
            c.requires.accepted_record c.requires.accepted_record_2 small true least L refl _ e,
        c.requires.accepted_record_2.codes-below,
      );
    }

pub returns : goal.returns
returns c =
    let a = c.args in
    let small = (large-tests a.limited a.n a.neighbours.now a.neighbours2.now _ _
    c.requires.accepted_record.neighbours-length
    c.requires.accepted_record_2.neighbours-length c.too_large.ensures c.if-too_large.false) in
    let least = c.in_ok-least.least in
    let L = subst (λ r. LeastAnswer a.n (held_generators a.n a.neighbours.now a.codes.now)
    (held_generators a.n a.neighbours2.now a.codes2.now) (is_some r) (unwrap_or r []))
    c.in_ok-least.ensures.ok_part c.compare_parts.ensures in
    let long : length least ≡ 64 = omega arith in
    let e = choice-written a.n least a.choice.now _ c.requires.choice_len.0
    (omega (arith, long, c.requires.accepted_record.upto)) c.copy_first.ensures in
    λ R R₂ H H₂. pair-accepted a.limited a.n a.neighbours.now a.codes.now a.neighbours2.now
    a.codes2.now c.requires.accepted_record c.requires.accepted_record_2 small true least L R R₂ H H₂
    refl _ e _ _ c.induced_image-listed.ensures a.choice.now a.list.now _ a.count.now _
    c.copy_front.ensures refl
