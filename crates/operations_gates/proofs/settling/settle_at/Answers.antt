-- `settle_at` meets its contract: one step at the smallest vertex out of place: where C = 1, D = 0 and it has a larger
-- neighbour, a pivot with the largest; with another code from 12, a complementation; else the code is odd, and its sign
-- is moved.
use native.Mathlib.Omega.{arith}
use Rattle.operations.proofs.Keeping.{complement-nearer, pivot-nearer}
use Rattle.operations.proofs.OutOfPlace.{complement-less, larger-below, pivot-less, sign-less, word-reaches}
use Rattle.operations.proofs.UnrefusedRecords.{unrefused-place, unrefused-short}
use Rattle.operations_gates.proofs.SignBuffers.{sign-nearer}
use Rattle.operations_gates.proofs.Untouched.{complement-touches, pivot-touches, sign-touches}
use Rattle.operations_gates.proofs.settling.settle_at.Goals as goal

pub bounds-codes-j : goal.bounds-codes-j
bounds-codes-j c =
    unrefused-place _ _ c.requires.unrefused.0 _ c.requires.unrefused.1

pub overflow_shr-word : goal.overflow_shr-word
overflow_shr-word c =
    omega (arith, c.requires.unrefused.1, unrefused-short _ _ c.requires.unrefused.0)

pub largest-k-requires : goal.largest-k-requires
largest-k-requires c =
    word-reaches _ _ c.requires.unrefused.0 _ c.requires.unrefused.1 c.requires.j_value c.if-code-word.true

pub offset_bounds-neighbours-k : goal.offset_bounds-neighbours-k
offset_bounds-neighbours-k c =
    let top = c.largest-k.ensures in
    omega (
      arith,
      unrefused-short _ _ c.requires.unrefused.0,
      larger-below _ _ c.requires.unrefused.0 _ c.requires.unrefused.1 c.requires.j_value c.if-code-word.true _ top.0 top.1,
    )

pub bounds-neighbours-k : goal.bounds-neighbours-k
bounds-neighbours-k c =
    let top = c.largest-k.ensures in
    larger-below _ _ c.requires.unrefused.0 _ c.requires.unrefused.1 c.requires.j_value c.if-code-word.true _ top.0 top.1

pub pivot_record-requires : goal.pivot_record-requires
pivot_record-requires c =
    let top = c.largest-k.ensures in
    let below = larger-below _ _ c.requires.unrefused.0 _ c.requires.unrefused.1 c.requires.j_value c.if-code-word.true _ top.0 top.1 in record { unrefused = c.requires.unrefused.0; j_in_bounds = (c.requires.unrefused.1, below); k_value = top.0 }

pub single-requires : goal.single-requires
single-requires c =
    omega (arith, c.requires.unrefused.1, unrefused-short _ _ c.requires.unrefused.0)

pub single-requires-then-code-word : goal.single-requires-then-code-word
single-requires-then-code-word c =
    let top = c.largest-k.ensures in
    omega (
      arith,
      unrefused-short _ _ c.requires.unrefused.0,
      larger-below _ _ c.requires.unrefused.0 _ c.requires.unrefused.1 c.requires.j_value c.if-code-word.true _ top.0 top.1,
    )

pub single-own-requires : goal.single-own-requires
single-own-requires c =
    omega (arith, c.requires.unrefused.1, unrefused-short _ _ c.requires.unrefused.0)

pub single-own-requires-else-code-ge12 : goal.single-own-requires-else-code-ge12
single-own-requires-else-code-ge12 c =
    omega (arith, c.requires.unrefused.1, unrefused-short _ _ c.requires.unrefused.0)

pub returns-then-code-word : goal.returns-then-code-word
returns-then-code-word c =
    let top = c.largest-k.ensures in record {
      nearer = pivot-nearer _ _ c.requires.unrefused.0 _ _ _ _ c.requires.unrefused.1
          (larger-below _ _ c.requires.unrefused.0 _ c.requires.unrefused.1 c.requires.j_value c.if-code-word.true _ top.0 top.1)
          c.pivot_record.ensures
          (pivot-less _ _ c.requires.unrefused.0 _ c.requires.unrefused.1 c.requires.j_value c.if-code-word.true _ top.0 top.1);
      elsewhere = pivot-touches _ _ c.requires.unrefused.0 _ _ _ _ top.0 _ _ c.single.ensures c.single-then-code-word.ensures
          c.pivot_record.ensures;
    }

pub returns-then-code-ge12 : goal.returns-then-code-ge12
returns-then-code-ge12 c =
    record {
      nearer = complement-nearer _ _ c.requires.unrefused.0 _ _ _ c.requires.unrefused.1 c.complement_record.ensures
          (complement-less _ _ c.requires.unrefused.0 _ c.requires.unrefused.1 c.requires.j_value c.if-code-word.false
          c.if-code-ge12.true);
      elsewhere = complement-touches _ _ c.requires.unrefused.0 _ _ _ c.requires.unrefused.1 _ c.single-own.ensures
          c.complement_record.ensures;
    }

pub returns-else-code-ge12 : goal.returns-else-code-ge12
returns-else-code-ge12 c =
    record {
      nearer = sign-nearer _ _ c.requires.unrefused.0 _ c.requires.unrefused.1 _ c.move_sign.ensures
          (sign-less _ _ c.requires.unrefused.0 _ c.requires.unrefused.1 c.requires.j_value c.if-code-word.false c.if-code-ge12.false);
      elsewhere = sign-touches _ _ c.requires.unrefused.0 _ _ _ c.requires.unrefused.1 _ c.single-own-else-code-ge12.ensures c.move_sign.ensures;
    }
