-- A record with another code at one vertex: what only the proofs name.
use Rattle.std.specs.Prelude.{ℕ}
use Rattle.clifford.specs.Clifford.{Clifford}
use Rattle.record.specs.Records.{GraphRecord}
use Rattle.words.specs.Bits.{put}

-- the same graph, and the code k at q
abbrev pub recoded_at : GraphRecord → ℕ → Clifford → GraphRecord
recoded_at r q k = record { graph = r.graph; codes = put r.codes q k }
