-- A choice vertex by vertex: at each vertex it depends on the vertex's part of the first graph alone whether the choice
-- works there, and is the least.
use Rattle.std.specs.Prelude.{true, ◌≡◌, ◌<◌, ◌≤◌, ℕ}
use Rattle.clifford.specs.Clifford.{Clifford}
use Rattle.clifford.specs.Vectors.{act}
use Rattle.comparison.specs.Parts.{part_of}
use Rattle.record.specs.Records.{GraphRecord, rows_of}
use Rattle.stabilizer.specs.Carries.{Carries}
use Rattle.stabilizer.specs.Groups.{InGroup}
use Rattle.comparison.specs.Choices.{class_key, sign_key}

pub record LeastAt (n : ℕ) (r t : GraphRecord) (c : ℕ → Clifford) (q : ℕ) : Type 0 where
  -- generator q goes into the second group
  pub sent : InGroup n n (rows_of n t) (act n c (rows_of n r q))
  -- a choice that works and has the classes of c at the earlier vertices of the part has no smaller class here
  pub class-least : (d : ℕ → Clifford) → Carries n d (rows_of n r) (rows_of n t)
      → ((u : ℕ) → u < q → part_of n r.graph q u ≡ true → class_key (c u) ≡ class_key (d u))
      → class_key (c q) ≤ class_key (d q)
  -- .. and one that has all classes of c in the part, and its signs at the earlier vertices, no smaller sign
  pub sign-least : (d : ℕ → Clifford) → Carries n d (rows_of n r) (rows_of n t)
      → ((u : ℕ) → u < n → part_of n r.graph q u ≡ true → class_key (c u) ≡ class_key (d u))
      → ((u : ℕ) → u < q → part_of n r.graph q u ≡ true → sign_key (c u) ≡ sign_key (d u))
      → sign_key (c q) ≤ sign_key (d q)
