-- The constant table of the source, and its rule, by one computed test over the whole table.
use mathlib.Core.Bool.{◌&&◌, Bool, true}
use mathlib.Core.List.{List, [], ◌∷◌}
use mathlib.Core.Path.{ap₂, subst, ◌∙◌, ◌≡◌}
use Prim.Native.Nat.{◌%◌, ◌*◌, ◌+◌, ◌/◌, ◌<◌, suc, zero, ℕ}
use native.Mathlib.Nat.{add-suc, add-zero, le_of_suc-le-suc, not-suc-le-zero, suc-add, zero-add}
use native.Mathlib.Omega.{arith}
use lib.Dec.{T, eqb, eqb→eq}
use lib.ListN.{get_or, length}
use Rattle.words.proofs.Finite.{and_l, and_r}
use Rattle.clifford.specs.Clifford.{clifford_of, code_of, then}

-- ---- any table of numbers: a test at each entry and its place
abbrev test_from : (ℕ → ℕ → Bool) → ℕ → List ℕ → Bool
test_from f i [] = true
test_from f i (v ∷ vs) = f i v && test_from f (suc i) vs

entry-from : (f : ℕ → ℕ → Bool) (vs : List ℕ) (i : ℕ) → T (test_from f i vs) → (k : ℕ) → k < length vs →
    T (f (i + k) (get_or vs k 0))
entry-from f [] i t k h = absurd (not-suc-le-zero h)
entry-from f (v ∷ vs) i t zero h = rw add-zero (and_l (f i v) (test_from f (suc i) vs) t)
entry-from f (v ∷ vs) i t (suc k) h =
    rw (add-suc, ← suc-add)
    (entry-from f vs (suc i) (and_r (f i v) (test_from f (suc i) vs) t) k (le_of_suc-le-suc h))

-- entry k is g k
pub entry : (g : ℕ → ℕ) (vs : List ℕ) → T (test_from (λ k v. eqb v (g k)) 0 vs) → (k : ℕ) → k < length vs →
    get_or vs k 0 ≡ g k
entry g vs t k h = eqb→eq _ _
    (subst (λ i. T (eqb (get_or vs k 0) (g i))) (zero-add k) (entry-from (λ k v. eqb v (g k)) vs 0 t k h))

-- ---- composition: entry 24 a + b is 'first a, then b'
unfoldable pub then_table : List ℕ
then_table =
    0 ∷ 1 ∷ 2 ∷ 3 ∷ 4 ∷ 5 ∷ 6 ∷ 7 ∷ 8 ∷ 9 ∷ 10 ∷ 11 ∷ 12 ∷ 13 ∷ 14 ∷ 15 ∷ 16 ∷ 17 ∷ 18 ∷ 19 ∷ 20 ∷ 21 ∷ 22
    ∷ 23 ∷
    1 ∷ 0 ∷ 3 ∷ 2 ∷ 5 ∷ 4 ∷ 7 ∷ 6 ∷ 9 ∷ 8 ∷ 11 ∷ 10 ∷ 13 ∷ 12 ∷ 15 ∷ 14 ∷ 17 ∷ 16 ∷ 19 ∷ 18 ∷ 21 ∷ 20 ∷ 23
    ∷ 22 ∷
    2 ∷ 3 ∷ 0 ∷ 1 ∷ 6 ∷ 7 ∷ 4 ∷ 5 ∷ 10 ∷ 11 ∷ 8 ∷ 9 ∷ 14 ∷ 15 ∷ 12 ∷ 13 ∷ 18 ∷ 19 ∷ 16 ∷ 17 ∷ 22 ∷ 23 ∷ 20
    ∷ 21 ∷
    3 ∷ 2 ∷ 1 ∷ 0 ∷ 7 ∷ 6 ∷ 5 ∷ 4 ∷ 11 ∷ 10 ∷ 9 ∷ 8 ∷ 15 ∷ 14 ∷ 13 ∷ 12 ∷ 19 ∷ 18 ∷ 17 ∷ 16 ∷ 23 ∷ 22 ∷ 21
    ∷ 20 ∷
    4 ∷ 7 ∷ 6 ∷ 5 ∷ 2 ∷ 1 ∷ 0 ∷ 3 ∷ 18 ∷ 17 ∷ 16 ∷ 19 ∷ 22 ∷ 21 ∷ 20 ∷ 23 ∷ 8 ∷ 11 ∷ 10 ∷ 9 ∷ 12 ∷ 15 ∷ 14
    ∷ 13 ∷
    5 ∷ 6 ∷ 7 ∷ 4 ∷ 3 ∷ 0 ∷ 1 ∷ 2 ∷ 19 ∷ 16 ∷ 17 ∷ 18 ∷ 23 ∷ 20 ∷ 21 ∷ 22 ∷ 9 ∷ 10 ∷ 11 ∷ 8 ∷ 13 ∷ 14 ∷ 15
    ∷ 12 ∷
    6 ∷ 5 ∷ 4 ∷ 7 ∷ 0 ∷ 3 ∷ 2 ∷ 1 ∷ 16 ∷ 19 ∷ 18 ∷ 17 ∷ 20 ∷ 23 ∷ 22 ∷ 21 ∷ 10 ∷ 9 ∷ 8 ∷ 11 ∷ 14 ∷ 13 ∷ 12
    ∷ 15 ∷
    7 ∷ 4 ∷ 5 ∷ 6 ∷ 1 ∷ 2 ∷ 3 ∷ 0 ∷ 17 ∷ 18 ∷ 19 ∷ 16 ∷ 21 ∷ 22 ∷ 23 ∷ 20 ∷ 11 ∷ 8 ∷ 9 ∷ 10 ∷ 15 ∷ 12 ∷ 13
    ∷ 14 ∷
    8 ∷ 10 ∷ 9 ∷ 11 ∷ 20 ∷ 22 ∷ 21 ∷ 23 ∷ 0 ∷ 2 ∷ 1 ∷ 3 ∷ 16 ∷ 18 ∷ 17 ∷ 19 ∷ 12 ∷ 14 ∷ 13 ∷ 15 ∷ 4 ∷ 6 ∷ 5
    ∷ 7 ∷
    9 ∷ 11 ∷ 8 ∷ 10 ∷ 21 ∷ 23 ∷ 20 ∷ 22 ∷ 1 ∷ 3 ∷ 0 ∷ 2 ∷ 17 ∷ 19 ∷ 16 ∷ 18 ∷ 13 ∷ 15 ∷ 12 ∷ 14 ∷ 5 ∷ 7 ∷ 4
    ∷ 6 ∷
    10 ∷ 8 ∷ 11 ∷ 9 ∷ 22 ∷ 20 ∷ 23 ∷ 21 ∷ 2 ∷ 0 ∷ 3 ∷ 1 ∷ 18 ∷ 16 ∷ 19 ∷ 17 ∷ 14 ∷ 12 ∷ 15 ∷ 13 ∷ 6 ∷ 4 ∷ 7
    ∷ 5 ∷
    11 ∷ 9 ∷ 10 ∷ 8 ∷ 23 ∷ 21 ∷ 22 ∷ 20 ∷ 3 ∷ 1 ∷ 2 ∷ 0 ∷ 19 ∷ 17 ∷ 18 ∷ 16 ∷ 15 ∷ 13 ∷ 14 ∷ 12 ∷ 7 ∷ 5 ∷ 6
    ∷ 4 ∷
    12 ∷ 13 ∷ 15 ∷ 14 ∷ 17 ∷ 16 ∷ 18 ∷ 19 ∷ 21 ∷ 20 ∷ 22 ∷ 23 ∷ 1 ∷ 0 ∷ 2 ∷ 3 ∷ 4 ∷ 5 ∷ 7 ∷ 6 ∷ 8 ∷ 9 ∷ 11
    ∷ 10 ∷
    13 ∷ 12 ∷ 14 ∷ 15 ∷ 16 ∷ 17 ∷ 19 ∷ 18 ∷ 20 ∷ 21 ∷ 23 ∷ 22 ∷ 0 ∷ 1 ∷ 3 ∷ 2 ∷ 5 ∷ 4 ∷ 6 ∷ 7 ∷ 9 ∷ 8 ∷ 10
    ∷ 11 ∷
    14 ∷ 15 ∷ 13 ∷ 12 ∷ 19 ∷ 18 ∷ 16 ∷ 17 ∷ 23 ∷ 22 ∷ 20 ∷ 21 ∷ 3 ∷ 2 ∷ 0 ∷ 1 ∷ 6 ∷ 7 ∷ 5 ∷ 4 ∷ 10 ∷ 11 ∷ 9
    ∷ 8 ∷
    15 ∷ 14 ∷ 12 ∷ 13 ∷ 18 ∷ 19 ∷ 17 ∷ 16 ∷ 22 ∷ 23 ∷ 21 ∷ 20 ∷ 2 ∷ 3 ∷ 1 ∷ 0 ∷ 7 ∷ 6 ∷ 4 ∷ 5 ∷ 11 ∷ 10 ∷ 8
    ∷ 9 ∷
    16 ∷ 18 ∷ 19 ∷ 17 ∷ 14 ∷ 12 ∷ 13 ∷ 15 ∷ 6 ∷ 4 ∷ 5 ∷ 7 ∷ 10 ∷ 8 ∷ 9 ∷ 11 ∷ 20 ∷ 22 ∷ 23 ∷ 21 ∷ 0 ∷ 2 ∷ 3
    ∷ 1 ∷
    17 ∷ 19 ∷ 18 ∷ 16 ∷ 15 ∷ 13 ∷ 12 ∷ 14 ∷ 7 ∷ 5 ∷ 4 ∷ 6 ∷ 11 ∷ 9 ∷ 8 ∷ 10 ∷ 21 ∷ 23 ∷ 22 ∷ 20 ∷ 1 ∷ 3 ∷ 2
    ∷ 0 ∷
    18 ∷ 16 ∷ 17 ∷ 19 ∷ 12 ∷ 14 ∷ 15 ∷ 13 ∷ 4 ∷ 6 ∷ 7 ∷ 5 ∷ 8 ∷ 10 ∷ 11 ∷ 9 ∷ 22 ∷ 20 ∷ 21 ∷ 23 ∷ 2 ∷ 0 ∷ 1
    ∷ 3 ∷
    19 ∷ 17 ∷ 16 ∷ 18 ∷ 13 ∷ 15 ∷ 14 ∷ 12 ∷ 5 ∷ 7 ∷ 6 ∷ 4 ∷ 9 ∷ 11 ∷ 10 ∷ 8 ∷ 23 ∷ 21 ∷ 20 ∷ 22 ∷ 3 ∷ 1 ∷ 0
    ∷ 2 ∷
    20 ∷ 23 ∷ 21 ∷ 22 ∷ 9 ∷ 10 ∷ 8 ∷ 11 ∷ 13 ∷ 14 ∷ 12 ∷ 15 ∷ 5 ∷ 6 ∷ 4 ∷ 7 ∷ 0 ∷ 3 ∷ 1 ∷ 2 ∷ 16 ∷ 19 ∷ 17
    ∷ 18 ∷
    21 ∷ 22 ∷ 20 ∷ 23 ∷ 8 ∷ 11 ∷ 9 ∷ 10 ∷ 12 ∷ 15 ∷ 13 ∷ 14 ∷ 4 ∷ 7 ∷ 5 ∷ 6 ∷ 1 ∷ 2 ∷ 0 ∷ 3 ∷ 17 ∷ 18 ∷ 16
    ∷ 19 ∷
    22 ∷ 21 ∷ 23 ∷ 20 ∷ 11 ∷ 8 ∷ 10 ∷ 9 ∷ 15 ∷ 12 ∷ 14 ∷ 13 ∷ 7 ∷ 4 ∷ 6 ∷ 5 ∷ 2 ∷ 1 ∷ 3 ∷ 0 ∷ 18 ∷ 17 ∷ 19
    ∷ 16 ∷
    23 ∷ 20 ∷ 22 ∷ 21 ∷ 10 ∷ 9 ∷ 11 ∷ 8 ∷ 14 ∷ 13 ∷ 15 ∷ 12 ∷ 6 ∷ 5 ∷ 7 ∷ 4 ∷ 3 ∷ 0 ∷ 2 ∷ 1 ∷ 19 ∷ 16 ∷ 18
    ∷ 17 ∷ []

pub then-entry : (a b : ℕ) → a < 24 → b < 24
    → get_or then_table (24 * a + b) 0 ≡ code_of (then (clifford_of a) (clifford_of b))
unfolding then_table
then-entry a b ha hb =
    let quotient : (24 * a + b) / 24 ≡ a = omega arith in
    let rest : (24 * a + b) % 24 ≡ b = omega arith in
    entry (λ k. code_of (then (clifford_of (k / 24)) (clifford_of (k % 24)))) then_table tt (24 * a
    + b) (omega arith)
    ∙ ap₂ (λ u v. code_of (then (clifford_of u) (clifford_of v))) quotient rest
