-- What a caller knows of the codes of a record before its lines are tested.
use Rattle.std.specs.Prelude.{Bool, List, Option, None, Some, ◌≡◌, ℕ}
use Prim.{Unit}
use Rattle.buffers.specs.Refusals.{reaching}

-- nothing, or whether one is 24 or more
abbrev pub Looked : Option Bool → List ℕ → Type 0
Looked None codes = Unit
Looked (Some over) codes = over ≡ reaching 24 codes
