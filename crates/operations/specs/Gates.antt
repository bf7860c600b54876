-- Gates: a code applied after the code held at one vertex.
use Rattle.std.specs.Prelude.{ℕ}
use Rattle.clifford.specs.Clifford.{Clifford, then}
use Rattle.record.specs.Records.{GraphRecord}
use Rattle.words.specs.Bits.{put}

-- "A gate applies a code after the code already held"
abbrev pub gated : GraphRecord → ℕ → Clifford → GraphRecord
gated r q k = record { graph = r.graph; codes = put r.codes q (then (r.codes q) k) }
