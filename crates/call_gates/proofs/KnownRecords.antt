-- A record that no line refuses: what a further argument makes of it, and the word that is handed on.
use mathlib.Core.Bool.{Bool, cond, false, or-true, true, ◌||◌}
use mathlib.Core.List.{List}
use mathlib.Core.Path.{ap, refl, subst, sym, ◌≡◌}
use Prim.Native.Nat.{ℕ}
use Rattle.buffers.specs.Refusals.{first_fitting, reaching}
use Rattle.buffers.proofs.Fitting.{first-is, none-holds}
use Rattle.buffers.specs.Answers.{here, later}
use Rattle.operations_gates.proofs.SuspectCodes.{suspects-held, suspects-watched}
use Rattle.operations_gates.specs.internal.Watching.{Suspected, Watched}
use Rattle.operations_gates.specs.internal.Suspects.{Marked}
use Rattle.operations.specs.internal.InPlace.{Unrefused, record_in}
use Rattle.record.specs.Lent.{record_codes}
use Rattle.operations.specs.Used.{UsedRecord, UsedUnrefused, used_lines}
use Rattle.words.proofs.Flags.{neither}
use Rattle.call_gates.specs.internal.Knowing.{Known}

pub known-true : (u : UsedRecord) {known : Bool} → Known known u → known ≡ true → UsedUnrefused u
known-true u K e = subst (λ b. Known b u) e K

pub six-alone : (u : UsedRecord) → UsedUnrefused u → (six : Bool)
    → cond six 6 0 ≡ first_fitting (used_lines u false false six)
six-alone u U false = sym U.no_line
six-alone u U true =
    let h = none-holds (used_lines u false false false) refl U.no_line in
    first-is (later h.0 (later h.1.0 (later h.1.1.0
    (here (ap (λ b. (b || false) || false) (or-true (record_codes u.held)))))))

-- no code is 24 or more
pub known-codes : (u : UsedRecord) {known : Bool} → Known known u → known ≡ true → reaching 24 u.held.codes ≡ false
known-codes u K e =
    let h = none-holds (used_lines u false false false) refl (known-true u K e).no_line in
    (neither _ _ (neither _ _ (neither _ _ h.1.1.1.0).0).0).0

-- ---- the word of a look
pub marked-words : (words codes : List ℕ) (word : ℕ) → Unrefused (record_in words codes) → Marked codes word
    → Suspected words codes word × Watched words codes word
marked-words words codes word U M = (suspects-held words codes word U M, suspects-watched words codes word U M)
