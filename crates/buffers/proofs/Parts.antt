-- Parts of local arrays.
use mathlib.Core.List.{List}
use mathlib.Core.Path.{◌≡◌}
use Prim.Native.Nat.{ℕ, ◌≤◌}
use native.Mathlib.Omega.{arith}
use lib.ListN.{length, length-take, take}

-- the first n places of a local array of k
pub part-long : {k : ℕ} (n : ℕ) (buffer : List ℕ) → n ≤ k → length buffer ≡ k → length (take n buffer) ≡ n
part-long n buffer l e = simp length-take (omega (arith, l, e))
