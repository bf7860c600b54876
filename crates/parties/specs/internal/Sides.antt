-- The two sides of a set of qubits: rows that act on one side alone, and records put together of the vertices of each.
use Rattle.std.specs.Prelude.{Bool, cond, false, not, ◌≡◌, ◌<◌, ℕ}
use Rattle.clifford.specs.Clifford.{clifford_of}
use Rattle.record.specs.Graph.{Graph, Simple}
use Rattle.pauli.specs.Pauli.{Pauli}
use Rattle.record.specs.Records.{GraphRecord}
use Rattle.stabilizer.specs.Groups.{InGroup}
use Rattle.words.specs.Bits.{Word}

-- I at every qubit q below n where s q is b
pub record Free (n : ℕ) (s : Word) (b : Bool) (p : Pauli) : Type 0 where
  pub no-x : (q : ℕ) → q < n → s q ≡ b → p.x q ≡ false
  pub no-z : (q : ℕ) → q < n → s q ≡ b → p.z q ≡ false

-- no edge between the sides
pub record Split (s : Word) (θ : Graph) : Type 0 where
  pub none : (b : Bool) (i j : ℕ) → s i ≡ b → s j ≡ not b → θ i j ≡ false

-- t has the vertices of s as a has them, the others as r has them
pub record PutTogether (n : ℕ) (s : Word) (a r t : GraphRecord) : Type 0 where
  pub edges : (i j : ℕ) → t.graph i j ≡ cond (s i) (a.graph i j) (r.graph i j)
  pub codes : (q : ℕ) → q < n → t.codes q ≡ cond (s q) (a.codes q) (r.codes q)

-- every vertex alone in +Z
abbrev pub blank : GraphRecord
blank = record { graph = λ i j. false; codes = λ q. clifford_of 8 }

-- m has the vertices of s as r has them and every other one alone in +Z; no edge of r leaves s
pub record MaskOf (n : ℕ) (s : Word) (r m : GraphRecord) : Type 0 where
  pub simple : Simple n r.graph
  pub split : Split s r.graph
  pub own-simple : Simple n m.graph
  pub put : PutTogether n s r blank m

-- an operation on the qubits of s leads from `rows` to `new`, and from the rows of s, with +Z elsewhere, to `left`: an
-- element of `left` with I outside s is one of `new`, and so is each row of a vertex outside s
pub record Followed (n : ℕ) (s : Word) (rows new left : ℕ → Pauli) : Type 0 where
  pub inner : (p : Pauli) → InGroup n n left p → Free n s false p → InGroup n n new p
  pub outer : (j : ℕ) → j < n → s j ≡ false → InGroup n n new (rows j)
