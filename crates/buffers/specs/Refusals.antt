-- Refusals: the lines of a call in checking order, and the number of the first that holds.
use Rattle.std.specs.Prelude.{◌&&◌, Bool, cond, not, ◌||◌, List, [], ◌∷◌, ℕ, eqb, leb, ltb, get_or, length}
use Rattle.words.specs.Search.{some}

-- a line of the published list: its number, and whether it is true of the arguments
pub record Refusal : Type 0 where
  pub number : ℕ
  pub holds : Bool

-- a line with its number and its test
abbrev pub line : ℕ → Bool → Refusal
line k b = record { number = k; holds = b }

-- "the first in checking order"; 0 where none holds
unfoldable pub first_fitting : List Refusal → ℕ
first_fitting [] = 0
first_fitting (l ∷ ls) = cond l.holds l.number (first_fitting ls)

-- ---- lines made of others
-- lines with a further test joined into the one with number k
abbrev pub with_test : ℕ → Bool → List Refusal → List Refusal
with_test k b [] = []
with_test k b (l ∷ ls) = line l.number (l.holds || (eqb l.number k && b)) ∷ with_test k b ls

-- the line put in directly after the one with number k
abbrev pub inserted_after : ℕ → Refusal → List Refusal → List Refusal
inserted_after k new [] = []
inserted_after k new (l ∷ ls) = l ∷ cond (eqb l.number k) (new ∷ inserted_after k new ls) (inserted_after k new ls)

-- the line put in directly before the one with number k
abbrev pub inserted_before : ℕ → Refusal → List Refusal → List Refusal
inserted_before k new [] = []
inserted_before k new (l ∷ ls) =
    cond (eqb l.number k) (new ∷ l ∷ inserted_before k new ls) (l ∷ inserted_before k new ls)

-- ---- tests that several lines share
-- 2: "n is 0 or above 64"
abbrev pub bad_count : ℕ → Bool
bad_count n = eqb n 0 || ltb 64 n

-- 4: "A buffer's length is not what n or this paper requires"
abbrev pub other_than : ℕ → List ℕ → Bool
other_than k buffer = not (eqb (length buffer) k)

-- 5, 6: some number of the buffer is b or above. "A word has a bit at or above n" where b is 2 ^ n
unfoldable pub reaching : ℕ → List ℕ → Bool
reaching b buffer = some (length buffer) (λ j. leb b (get_or buffer j 0))
