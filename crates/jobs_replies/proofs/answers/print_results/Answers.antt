-- `print_results` meets its contract: prints the names, and the line of each step by what it answered.
use mathlib.Core.List.{List}
use mathlib.Core.Path.{◌∙◌, refl, subst}
use Prim.Native.Nat.{◌%◌, ◌/◌, ◌<◌, ◌≤◌, ℕ}
use native.Mathlib.Omega.{arith}
use lib.ListN.{length, take}
use lib.Seq.{get_or-take, length-take-le}
use Rattle.buffers.specs.Writing.{Printed}
use Rattle.jobs.specs.Results.{result_line}
use Rattle.jobs_replies.proofs.Lines.{all_lines, line-fits, no_line, one_line}
use Rattle.jobs_replies.specs.internal.Room.{result_in}
use Rattle.jobs_replies.proofs.answers.print_results.Goals as goal

-- a place among the first `count`
inside : (count : ℕ) (answers : List ℕ) (k : ℕ) → count ≤ length answers → k < length (take count answers) → k < count
inside count answers k long l = omega (arith, l, length-take-le count answers long)

pub loop-k-init : goal.loop-k-init
loop-k-init c = (no_line _ _ _ _ c.requires.2 c.print_result_names-at.ensures, refl)

pub print_result-at-requires : goal.print_result-at-requires
print_result-at-requires c =
    let l : c.loop-k.k < c.args.count = inside c.args.count c.args.answers.now c.loop-k.k c.requires.1 c.loop-k-test.true
    in (
      omega (arith, l, c.requires.0),
      omega arith,
      omega arith,
      omega arith,
      line-fits (result_in c.args.answers.now) _ _ _ c.requires.2 c.print_result_names-at.ensures c.loop-k.k
          (omega (arith, l, c.requires.0)) _ _ c.loop-k.invariant.0,
    )

pub loop-k-preserved : goal.loop-k-preserved
loop-k-preserved c =
    let k = c.loop-k.k in
    let l : k < c.args.count = inside c.args.count c.args.answers.now k c.requires.1 c.loop-k-test.true in (
      one_line (result_in c.args.answers.now) _ _ _ c.requires.2 c.print_result_names-at.ensures k
          (omega (arith, l, c.requires.0)) _ _ c.loop-k.invariant.0 _ _
          (subst (λ p. Printed (result_line k (record {
            refusal = p / 4 % 32;
            outcome = p / 2 % 2;
            determined = p % 2;
          })) c.loop-k.at c.loop-k.out c.print_result-at.new.out c.print_result-at.result)
          (get_or-take c.args.count c.args.answers.now k 0 l) c.print_result-at.ensures),
      c.print_result-at.auto.out ∙ c.loop-k.invariant.1,
    )

pub returns : goal.returns
returns c =
    let long = length-take-le c.args.count c.args.answers.now c.requires.1 in
    all_lines _ _ _ _ c.requires.2 c.print_result_names-at.ensures _ c.loop-k.k _ _
    (omega (arith, long, c.loop-k.auto)) (omega (arith, long, c.loop-k-test.false))
    c.loop-k.invariant.0
