-- The loop that tells the parts of kept answers: the places that it has passed, and the tables that it comes to.
use mathlib.Core.List.{List}
use mathlib.Core.Path.{◌≡◌, ap}
use Prim.Native.Nat.{◌%◌, ◌+◌, ◌/◌, ◌<◌, ℕ, ◌≤◌}
use native.Mathlib.Nat.{le_refl}
use native.Mathlib.Omega.{arith}
use lib.ListN.{get_or, length, set}
use Rattle.buffers.proofs.Filling.{Filled, fill_end, fill_start, fill_step}
use Rattle.buffers.proofs.Mapping.{Mapped, mapped-start, mapped-store}
use Rattle.buffers.proofs.Tabulate.{tabulate-is}
use Rattle.buffers.specs.Buffers.{tabulate}

-- the parts of what place k holds: the number of the refusal, the outcome, and whether it was determined
abbrev pub refusal_at : List ℕ → ℕ → ℕ
refusal_at kept k = get_or kept k 0 / 4 % 32

abbrev pub outcome_at : List ℕ → ℕ → ℕ
outcome_at kept k = get_or kept k 0 / 2 % 2

abbrev pub determined_at : List ℕ → ℕ → ℕ
determined_at kept k = get_or kept k 0 % 2

-- after k places; the first list is written over what was kept
pub record Told (kept refusals outcomes determined : List ℕ) (k : ℕ) : Type 0 where
  pub numbers : Mapped (λ j v. v ≡ refusal_at kept j) kept refusals k
  pub bits : Filled (length kept) (outcome_at kept) outcomes k
  pub marks : Filled (length kept) (determined_at kept) determined k

module _ (kept : List ℕ) where
  pub told_none : (outcomes determined : List ℕ) → length outcomes ≡ length kept → length determined ≡ length kept
      → Told kept kept outcomes determined 0
  told_none outcomes determined e f =
      record {
        numbers = mapped-start (λ j v. v ≡ refusal_at kept j) kept;
        bits = fill_start (length kept) (outcome_at kept) outcomes e;
        marks = fill_start (length kept) (determined_at kept) determined f;
      }

  module _ (refusals outcomes determined : List ℕ) (k : ℕ) (T : Told kept refusals outcomes determined k) where
    -- a place more
    pub told-next : k < length kept → Told kept (set refusals k (get_or refusals k 0 / 4 % 32))
        (set outcomes k (get_or refusals k 0 / 2 % 2)) (set determined k (get_or refusals k 0 % 2)) (k + 1)
    told-next inside =
        let same = T.numbers.rest k (le_refl k) in
        record {
          numbers = mapped-store (λ j v. v ≡ refusal_at kept j) kept refusals k _ T.numbers inside
              (ap (λ p. p / 4 % 32) same);
          bits = fill_step (length kept) (outcome_at kept) outcomes k _ T.bits inside (ap (λ p. p / 2 % 2) same);
          marks = fill_step (length kept) (determined_at kept) determined k _ T.marks inside (ap (λ p. p % 2) same);
        }

    -- all of them
    pub told-all : length refusals ≤ k → (refusals ≡ tabulate (length kept) (refusal_at kept))
        × (outcomes ≡ tabulate (length kept) (outcome_at kept))
        × (determined ≡ tabulate (length kept) (determined_at kept))
    told-all end =
        let all : length kept ≤ k = omega (arith, T.numbers.long, end) in (
          tabulate-is (length kept) (refusal_at kept) refusals T.numbers.long
              (λ j l. T.numbers.done j (omega (arith, l, all))),
          fill_end (length kept) (outcome_at kept) outcomes k T.bits all,
          fill_end (length kept) (determined_at kept) determined k T.marks all,
        )
