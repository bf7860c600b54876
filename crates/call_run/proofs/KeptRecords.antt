-- A step leaves a record that no line refuses, if it found one; and so do steps one after the other.
use mathlib.Core.List.{List, [], ◌∷◌}
use mathlib.Core.Path.{◌≡◌, subst, sym}
use native.Mathlib.Decide.{ℕ_discrete}
use Rattle.jobs.proofs.KeptRequests.{request-left}
use Rattle.jobs.proofs.Numbers.{accepted-leaves, accepted-number, refused-keeps}
use Rattle.jobs.specs.Asked.{asked, number_of}
use Rattle.jobs.specs.Runs.{after_step, run}
use Rattle.jobs.specs.declared.Step.{Step}
use Rattle.operations.specs.Used.{UsedRecord, UsedUnrefused}

after-unrefused : (u : UsedRecord) → UsedUnrefused u → (s : Step) → UsedUnrefused (after_step u s)
after-unrefused u U s = go (ℕ_discrete (number_of u s) 0)
  where
    go : Dec (number_of u s ≡ 0) → UsedUnrefused (after_step u s)
    go (yes z) = subst UsedUnrefused (sym (accepted-leaves u s z)) (request-left u (asked s) (accepted-number u s z))
    go (no h) = subst UsedUnrefused (sym (refused-keeps u s h)) U

pub run-unrefused : (u : UsedRecord) → UsedUnrefused u → (steps : List Step) → UsedUnrefused (run u steps)
unfolding run
run-unrefused u U [] = U
run-unrefused u U (s ∷ rest) = run-unrefused (after_step u s) (after-unrefused u U s) rest
