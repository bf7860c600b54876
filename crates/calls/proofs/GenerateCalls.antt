-- The generator's call, from what the functions below it answer.
use mathlib.Core.List.{List, ◌++◌}
use mathlib.Core.Path.{ap, refl, ◌∙◌, ◌≡◌}
use Prim.Native.Nat.{◌<◌, ℕ, ◌≤◌}
use native.Mathlib.Nat.{zero-add}
use lib.ListN.{drop, length}
use borrow.Author.Tests.{ltb-false}
use Rattle.buffers.specs.Refusals.{first_fitting}
use Rattle.buffers.proofs.Calling.{done}
use Rattle.buffers.proofs.Fitting.{none-holds}
use Rattle.buffers.specs.Calls.{Call}
use Rattle.jobs.specs.Drawn.{generated_text}
use Rattle.jobs.specs.GeneratedLines.{generate_lines, room}
use Rattle.stabilizer.proofs.SharedTests.{counted, has-length}
use Rattle.buffers.specs.Writing as print
use Rattle.calls.specs.Generation.{generate_call}

-- what it means that the call is accepted
pub accepted-job : (n count seed : ℕ) (text : List ℕ) → first_fitting (generate_lines n count seed text) ≡ 0
    → (0 < n) × (n ≤ 64) × (count ≤ 4096) × (length text ≡ room)
accepted-job n count seed text e =
    let h = none-holds (generate_lines n count seed text) refl e in
    let between = counted n h.1.0 in
    (between.0, between.1, ltb-false 4096 count h.0, has-length room text h.1.1.0)

pub generate-accepted : (n count seed : ℕ) (text : List ℕ) {size k : ℕ} → k ≡ first_fitting
    (generate_lines n count seed text)
    → k ≡ 0 → (text' : List ℕ) (r : ℕ) → print.Printed (generated_text n count seed) 0 text text' r
    → Call (generate_call n count seed text size text' r) 0
unfolding print.overwritten
generate-accepted n count seed text e z text' r p =
    let t = generated_text n count seed in
    done _ e z (p.out ∙ ap (λ j. t ++ drop j text) (zero-add (length t)), (p.end ∙ zero-add (length t), tt))
