-- The comparison of two lists: the codes that a choice induces between the reduced graphs, and the lines: what only the
-- proofs name.
use Rattle.std.specs.Prelude.{List, ℕ}
use Rattle.clifford.specs.Clifford.{code_of, inverse, then}
use Rattle.clifford.specs.Vectors.{codes_of}

-- the same of buffers of codes; 0 at and above their length
abbrev pub induced_code : List ℕ → List ℕ → List ℕ → ℕ → ℕ
induced_code first choice second q =
    code_of (then (then (codes_of first q) (codes_of choice q)) (inverse (codes_of second q)))
