-- The one shape of the contracts of the public calls: the lines of the call in checking order, and the buffers lent for
-- its answer.
use Rattle.std.specs.Prelude.{List, [], ◌∷◌, ◌≡◌, ℕ}
use Rattle.buffers.specs.Buffers.{accepted, accepted_number}
use Rattle.buffers.specs.Refusals.{Refusal, first_fitting}

-- what is lent for an answer, a buffer or one number: what it holds before the call, the answer for it, and what it
-- holds after
pub data Lent : Type 0 where
  buffer : List ℕ → List ℕ → List ℕ → Lent
  number : ℕ → ℕ → ℕ → Lent

-- P holds of each that is lent
abbrev pub EachOf : (Lent → Type 0) → List Lent → Type 0
EachOf P [] = Unit
EachOf P (b ∷ bs) = P b × EachOf P bs

-- after a call that answers r: the answer where r is 0, else what was there
abbrev pub Held : ℕ → Lent → Type 0
Held r (buffer before answer after) = after ≡ accepted r answer before
Held r (number before answer after) = after ≡ accepted_number r answer before

-- the lines and the buffers of a call with its arguments
pub record Contract : Type 0 where
  pub lines : List Refusal
  pub lent : List Lent

-- a contract with these lines and these buffers
abbrev pub contract_of : List Refusal → List Lent → Contract
contract_of lines lent = record { lines = lines; lent = lent }

-- the call answers r
pub record Call (c : Contract) (r : ℕ) : Type 0 where
  pub number : r ≡ first_fitting c.lines
  pub held : EachOf (Held r) c.lent
