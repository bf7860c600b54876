-- What the lines of a record say where they do not hold.
use mathlib.Core.Bool.{Bool, false, ◌||◌}
use mathlib.Core.Path.{◌≡◌}
use Prim.Native.Nat.{◌≤◌}
use lib.Dec.{lit<}
use lib.ListN.{length}
use Rattle.buffers.proofs.Lines.{Numbered}
use Rattle.buffers.specs.Refusals.{bad_count, other_than}
use Rattle.stabilizer.proofs.SharedTests.{counted, has-length}
use Rattle.words.proofs.Flags.{neither}
use Rattle.record.specs.Lent.{LentRecord, record_lengths, record_lines}

-- line 4 does not hold: each buffer has n places
pub record-lengths-are : (l : LentRecord) → record_lengths l ≡ false →
    (length l.neighbours ≡ l.n) × (length l.codes ≡ l.n)
record-lengths-are l e =
    let h = neither (other_than l.n l.neighbours) (other_than l.n l.codes) e in
    (has-length l.n l.neighbours h.0, has-length l.n l.codes h.1)

-- what the test of line 7 asks for
pub square-tested : (l : LentRecord) (others : Bool) → bad_count l.n ≡ false → (record_lengths l || others) ≡ false
    → (1 ≤ l.n) × (l.n ≤ 64) × (length l.neighbours ≡ l.n)
square-tested l others h2 h4 = (
  (counted l.n h2).0,
  (counted l.n h2).1,
  (record-lengths-are l (neither (record_lengths l) others h4).0).0,
)

-- no line of a record has number 0
pub record-numbered : (l : LentRecord) (others six : Bool) → Numbered (record_lines l others six)
record-numbered l others six = (lit< tt, (lit< tt, (lit< tt, (lit< tt, (lit< tt, tt)))))
