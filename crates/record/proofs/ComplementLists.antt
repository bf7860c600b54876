-- Complementing at each vertex of a list: the graph stays simple and the group is kept, signs included.
use mathlib.Core.List.{List, [], ◌∷◌}
use Prim.Native.Nat.{◌<◌, ℕ}
use Rattle.record.proofs.Complement.{complement-simple}
use Rattle.record.specs.Graph.{Simple}
use Rattle.stabilizer.proofs.GroupLaws.{same_refl, same-trans}
use Rattle.stabilizer.specs.Groups.{SameGroup}
use Rattle.record.proofs.Complementing.{complement-same}
use Rattle.record.specs.Records.{GraphRecord, complement_all, complement_record, rows_of}

-- every vertex of the list is below n
pub data VerticesBelow (n : ℕ) : List ℕ → Type 0 where
  nil : VerticesBelow n []
  add : (v : ℕ) {vs : List ℕ} → v < n → VerticesBelow n vs → VerticesBelow n (v ∷ vs)

pub complement-all-simple : (n : ℕ) (r : GraphRecord) → Simple n r.graph → (vs : List ℕ)
    → Simple n (complement_all r vs).graph
complement-all-simple n r S [] = S
complement-all-simple n r S (a ∷ rest) =
    complement-all-simple n (complement_record r a) (complement-simple n r.graph S a) rest

pub complement-all-same : (n : ℕ) (r : GraphRecord) → Simple n r.graph → {vs : List ℕ} → VerticesBelow n vs
    → SameGroup n n (rows_of n r) (rows_of n (complement_all r vs))
complement-all-same n r S nil = same_refl
complement-all-same n r S (add a l rest) =
    same-trans (complement-same n r S a l)
    (complement-all-same n (complement_record r a) (complement-simple n r.graph S a) rest)
