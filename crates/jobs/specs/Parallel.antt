-- Steps as parallel lists of numbers: the operations, the first and the second qubits, the values.
use Rattle.std.specs.Prelude.{cond, List, [], ◌∷◌, suc, zero, ℕ, eqb, get_or, length}
use Rattle.jobs.specs.declared.Op.{Op}
use Rattle.jobs.specs.declared.Op.TheVariants.{Complement, Cz, Gate, Measure, Observe, Pivot, Renew}
use Rattle.jobs.specs.declared.Step.{Step}

-- the operation of a number: 0 gate, 1 cz, 2 measure, 3 complement, 4 pivot, 5 observe, 6 renew; where numbers above 6
-- are not refused, they are a renewal's
unfoldable pub numbered_op : ℕ → Op
numbered_op k =
    cond (eqb k 0) Gate (cond (eqb k 1) Cz (cond (eqb k 2) Measure (cond (eqb k 3) Complement
    (cond (eqb k 4) Pivot (cond (eqb k 5) Observe Renew)))))

-- a step of four numbers
abbrev pub numbered : ℕ → ℕ → ℕ → ℕ → Step
numbered op a b value = record { op = numbered_op op; a = a; b = b; value = value }

-- f 0, f 1 .. f (n - 1)
unfoldable pub steps_below : ℕ → (ℕ → Step) → List Step
steps_below zero f = []
steps_below (suc n) f = f 0 ∷ steps_below n (λ k. f (suc k))

-- step k of the lists
abbrev pub step_in : List ℕ → List ℕ → List ℕ → List ℕ → ℕ → Step
step_in ops a b value k = numbered (get_or ops k 0) (get_or a k 0) (get_or b k 0) (get_or value k 0)

-- the steps that the lists hold
abbrev pub steps_in : List ℕ → List ℕ → List ℕ → List ℕ → List Step
steps_in ops a b value = steps_below (length ops) (step_in ops a b value)
