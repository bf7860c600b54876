-- What the tests say that the lines of lists and records share: the number of qubits, and a buffer's length.
use mathlib.Core.Bool.{false, not, ◌||◌}
use mathlib.Core.List.{List}
use mathlib.Core.Path.{ap, ap₂, subst, sym, ◌≡◌}
use Prim.Native.Nat.{◌<◌, zero-le, ℕ, ◌≤◌}
use native.Mathlib.Nat.{le_refl}
use native.Mathlib.Omega.{arith}
use lib.Arith.{lt_of_le-ne}
use lib.Dec.{eqb, ltb}
use lib.ListN.{get_or, length}
use borrow.Author.Tests.{eq-eqb, eqb-false, eqb-true, le-ltb, lt-leb, ltb-false, ne_eqb, not-false}
use Rattle.buffers.proofs.Reaching.{reaches-not}
use Rattle.buffers.proofs.Tabulate.{tabulate-at, tabulate-length}
use Rattle.buffers.specs.Buffers.{tabulate}
use Rattle.buffers.specs.Refusals.{bad_count, other_than, reaching}
use Rattle.words.proofs.Flags.{neither}

-- line 2 does not hold: n is 1 to 64
pub counted : (n : ℕ) → bad_count n ≡ false → (1 ≤ n) × (n ≤ 64)
counted n e =
    let h = neither (eqb n 0) (ltb 64 n) e in
    (lt_of_le-ne zero-le (λ z. eqb-false n 0 h.0 (sym z)), ltb-false 64 n h.1)

pub count-passes : (n : ℕ) → 1 ≤ n → n ≤ 64 → bad_count n ≡ false
count-passes n l h = ap₂ ◌||◌ (ne_eqb n 0 (λ e. absurd (omega (arith, e)))) (le-ltb 64 n h)

-- line 4 does not hold: a buffer has k places
pub has-length : (k : ℕ) (buffer : List ℕ) → other_than k buffer ≡ false → length buffer ≡ k
has-length k buffer e = eqb-true (length buffer) k (not-false (eqb (length buffer) k) e)

pub length-passes : (k : ℕ) (buffer : List ℕ) → length buffer ≡ k → other_than k buffer ≡ false
length-passes k buffer e = ap not (eq-eqb (length buffer) k e)

-- lines 5 and 6 do not hold
pub below-passes : (b : ℕ) (buffer : List ℕ) → ((j : ℕ) → j < length buffer → get_or buffer j 0 < b) →
    reaching b buffer ≡ false
below-passes b buffer h =
    reaches-not b buffer (length buffer) (le_refl (length buffer)) (λ j l. lt-leb b (get_or buffer j 0) (h j l))

pub table-passes : (b n : ℕ) (f : ℕ → ℕ) → ((j : ℕ) → j < n → f j < b) → reaching b (tabulate n f) ≡ false
table-passes b n f h = below-passes b (tabulate n f) (λ j l.
    let m = subst (λ k. j < k) (tabulate-length n f) l in
    subst (λ v. v < b) (sym (tabulate-at n f j m)) (h j m))
