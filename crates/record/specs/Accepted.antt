-- Records that no line refuses.
use Rattle.std.specs.Prelude.{◌≡◌, ◌<◌, ◌^◌, ℕ, ◌≤◌, get_or, length}
use Rattle.record.specs.Graph.{Simple}
use Rattle.stabilizer.specs.Groups.{Proper}
use Rattle.record.specs.Lent.{LentRecord, held_record, held_rows}

-- none of lines 2 to 7 holds of the record
pub record AcceptedRecord (l : LentRecord) : Type 0 where
  pub positive : 1 ≤ l.n
  pub upto : l.n ≤ 64
  pub neighbours-length : length l.neighbours ≡ l.n
  pub codes-length : length l.codes ≡ l.n
  pub words-below : (j : ℕ) → get_or l.neighbours j 0 < 2 ^ l.n
  pub codes-below : (q : ℕ) → get_or l.codes q 0 < 24
  pub simple : Simple l.n (held_record l).graph
  pub proper : Proper l.n (held_rows l)
