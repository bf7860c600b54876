-- What a call of any contract answers, in words: the number is that of the first line that holds; refused, nothing lent
-- is changed; accepted, each answer is written.
use Rattle.std.specs.Prelude.{false, true, List, [], ◌∷◌, ◌≡◌, ℕ}
use Rattle.buffers.specs.Refusals.{Refusal}
use Rattle.buffers.specs.Calls.{Call, Contract, EachOf, Lent, buffer, number}

-- "the first fitting number": that of a line that holds where none before it does; 0 where none holds
pub data FirstFits : List Refusal → ℕ → Type 0 where
  none : FirstFits [] 0
  here : {l : Refusal} {ls : List Refusal} → l.holds ≡ true → FirstFits (l ∷ ls) l.number
  later : {l : Refusal} {ls : List Refusal} {r : ℕ} → l.holds ≡ false → FirstFits ls r → FirstFits (l ∷ ls) r

-- "changes no lent byte"
abbrev pub Unchanged : Lent → Type 0
Unchanged (buffer before answer after) = after ≡ before
Unchanged (number before answer after) = after ≡ before

-- it holds the answer
abbrev pub HoldsAnswer : Lent → Type 0
HoldsAnswer (buffer before answer after) = after ≡ answer
HoldsAnswer (number before answer after) = after ≡ answer

-- the three together: which number, what a refused call leaves, what an accepted one does
pub record CallAnswers (c : Contract) (r : ℕ) : Type 0 where
  pub first : FirstFits c.lines r
  pub refused : (r ≡ 0 → ⊥) → EachOf Unchanged c.lent
  pub accepted : r ≡ 0 → EachOf HoldsAnswer c.lent

-- of every call
abbrev pub EveryCallAnswers : Type 0
EveryCallAnswers = (c : Contract) (r : ℕ) → Call c r → CallAnswers c r
