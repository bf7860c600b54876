-- The numbers of a place as a part of a store's buffer.
use mathlib.Core.List.{List, ◌++◌}
use mathlib.Core.Path.{◌∙◌, ◌≡◌, ap, ap₂, sym}
use Prim.Native.Nat.{◌*◌, ◌+◌, ◌-◌, ◌≤◌, ℕ}
use native.Mathlib.Omega.{arith}
use lib.ListN.{drop, length, length-drop, take}
use lib.Seq.{drop-drop, length-take-le}
use Rattle.buffers.specs.Buffers.{written}
use Rattle.store.specs.Kept.{placed_at}
use Rattle.store.specs.Places.{part_at}

-- n numbers from a on
taken : (a n : ℕ) → a + n - a ≡ n
taken a n = omega arith

pub from_place : (a n : ℕ) (buffer : List ℕ) → take (a + n - a) (drop a buffer) ≡ take n (drop a buffer)
from_place a n buffer = ap (λ m. take m (drop a buffer)) (taken a n)

pub part_count : (i n : ℕ) (buffer : List ℕ) → 64 * i + n ≤ length buffer
    → length (take (64 * i + n - 64 * i) (drop (64 * i) buffer)) ≡ n
part_count i n buffer l =
    length-take-le (64 * i + n - 64 * i) (drop (64 * i) buffer) (simp length-drop (omega (arith, l))) ∙ taken (64 * i) n

-- a part put back
pub placed : (i count : ℕ) (new part old : List ℕ) → length new ≡ count → part ≡ new
    → take (64 * i) old ++ (part ++ drop (64 * i + count - 64 * i) (drop (64 * i) old)) ≡ placed_at i new old
placed i count new part old long e =
    ap₂ (λ p m. take (64 * i) old ++ (p ++ drop m (drop (64 * i) old))) e (taken (64 * i) count ∙ sym long)
    ∙ ap (λ d. take (64 * i) old ++ (new ++ d)) (drop-drop (length new) (64 * i) old)

-- the first places taken from a part
pub taken_out : (i n : ℕ) (buffer part old : List ℕ) → 64 * i + n ≤ length buffer
    → part ≡ take (64 * i + n - 64 * i) (drop (64 * i) buffer) → part ++ drop n old ≡ written (part_at i n buffer) old
taken_out i n buffer part old l e =
    ap₂ (λ p m. p ++ drop m old) (e ∙ from_place (64 * i) n buffer)
    (sym (ap length (sym (from_place (64 * i) n buffer)) ∙ part_count i n buffer l))
