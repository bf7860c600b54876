-- Demand 1, of one call: what its contract has to be, whatever the call. A call that is accepted ends with a complete
-- answer; one that is refused returns the first fitting number of the published list and changes no lent byte.
use Rattle.std.specs.Prelude.{Bool, cond, false, true, [], List, map, ◌∷◌, ◌≡◌, ℕ, eqb, length}
use Rattle.buffers.specs.Refusals.{first_fitting, Refusal}
use Rattle.buffers.specs.Answers.{CallAnswers}
use Rattle.buffers.specs.Calls.{buffer, Call, Contract, EachOf, Lent, number}

-- "the published list": the numbers in checking order; a call tests some of them, in that order. 14 is "checked after
-- 10" (02, §4), and so is 3 (02, §9), 15 "directly after 1 and so before 2" (02, §5), 16 "directly after 8" (02, §8);
-- 17 and 18 are "both checked after 8" (02, §12), 19 "directly before 8" (02, §13), 20 directly after 16
abbrev pub published : List ℕ
published = 1 ∷ 15 ∷ 2 ∷ 4 ∷ 5 ∷ 6 ∷ 7 ∷ 19 ∷ 8 ∷ 16 ∷ 20 ∷ 17 ∷ 18 ∷ 9 ∷ 10 ∷ 3 ∷ 14 ∷ 11 ∷ 12 ∷ 13 ∷ []

-- whether the numbers stand in the order of a list, some of its numbers left out
abbrev pub is_subsequence : List ℕ → List ℕ → Bool
is_subsequence order [] = true
is_subsequence [] (k ∷ ks) = false
is_subsequence (o ∷ order) (k ∷ ks) = cond (eqb o k) (is_subsequence order ks) (is_subsequence order (k ∷ ks))

-- "in checking order": a call's lines stand in the order of the published list
abbrev pub InOrder : List Refusal → Type 0
InOrder lines = is_subsequence published (map (λ l. l.number) lines) ≡ true

-- "a complete answer": it fills the buffer
abbrev pub Fills : Lent → Type 0
Fills (buffer before answer after) = length answer ≡ length before
Fills (number before answer after) = Unit

-- what is to show of each call apart
pub record Conforms (c : Contract) : Type 0 where
  pub order : InOrder c.lines
  pub complete : first_fitting c.lines ≡ 0 → EachOf Fills c.lent

-- demand 1 of a call that answers r
pub record Answered (c : Contract) (r : ℕ) : Type 0 where
  pub answers : CallAnswers c r
  pub conforms : Conforms c

-- what a call answers is all that its contract says: a sentence about two calls with these contracts is one about any
-- two functions of which demand 1 holds
abbrev pub AnswersSayAll : Type 0
AnswersSayAll = (c : Contract) (r : ℕ) → CallAnswers c r → Call c r
