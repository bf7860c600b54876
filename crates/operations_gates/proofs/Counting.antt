-- The steps to the reduced form are few: each lowers the distance, which is at most (n + 1)⁴.
use mathlib.Core.Bool.{Bool, cond, false, true}
use mathlib.Core.List.{List}
use mathlib.Core.Path.{ap, refl, subst, ◌∙◌, ◌≡◌}
use Prim.Native.Nat.{◌*◌, ◌+◌, ◌-◌, ◌<◌, suc, zero, ℕ, ◌≤◌}
use native.Mathlib.Nat.{le_trans, mul-add, mul_assoc, mul-le-mul_left, mul-le-mul_right, suc-mul}
use native.Mathlib.Omega.{arith}
use lib.ListN.{length}
use Rattle.operations.specs.internal.KeptGroups.{Nearer}
use Rattle.operations.specs.internal.Settling.{code_weight, distance, total}
use Rattle.operations.proofs.Totals.{total-le}
use Rattle.operations.specs.internal.InPlace.{record_in}
use Rattle.record.specs.Lent.{held_record}
use Rattle.record.specs.Records.{GraphRecord}
use Rattle.words.specs.Bits.{Word, fold}
use Rattle.operations_gates.specs.internal.Counting.{FewSteps, NearerIn, more, none}

-- weights that are at most b: m of them make at most m b
total-below : (weight : ℕ → ℕ) (b : ℕ) → ((q : ℕ) → weight q ≤ b) → (m : ℕ) (f : Word) → total weight m f ≤ m * b
unfolding total fold
total-below weight b h zero f = omega arith
total-below weight b h (suc m) f = step (f m) (total-below weight b h m f)
  where
    step : (c : Bool) → total weight m f ≤ m * b → total weight m f + cond c (weight m) 0 ≤ suc m * b
    step false l = omega (arith, l, suc-mul m b)
    step true l = omega (arith, l, suc-mul m b, h m)

next-times : (n m : ℕ) → (n + 1) * m ≡ n * m + m
next-times n m = omega (arith, suc-mul n m)

-- a number below n times m, and n besides, is at most (n + 1) m where m is at least n
with-last : (n m t c : ℕ) → t ≤ n * m → c ≤ n → n ≤ m → t + c ≤ (n + 1) * m
with-last n m t c h l k = omega (arith, h, l, k, suc-mul n m)

-- a number below n times n m, and n besides, is at most n times the next m
with-next : (n m t c : ℕ) → t ≤ n * (n * m) → c ≤ n → 1 ≤ m → t + c ≤ n * ((n + 1) * m)
with-next n m t c h l k =
    let apart : n * ((n + 1) * m) ≡ n * (n * m) + n * m = ap (λ v. n * v) (next-times n m) ∙ mul-add n (n * m) m in
    let some : n * 1 ≤ n * m = mul-le-mul_left n k in
    omega (arith, h, l, apart, some)

distance-below : (n : ℕ) (r : GraphRecord) → distance n r ≤ (n + 1) * ((n + 1) * ((n + 1) * (n + 1)))
unfolding distance code_weight
distance-below n r = below _ _ _ (total-below (λ q. n - q) n (λ q. omega arith) n _) (total-le n _) (total-le n _)
  where
    below : (t c d : ℕ) → t ≤ n * n → c ≤ n → d ≤ n
        → (t * (n + 1) + c) * (n + 1) + d ≤ (n + 1) * ((n + 1) * ((n + 1) * (n + 1)))
    below t c d ht hc hd =
        let first : t * (n + 1) ≤ n * (n * (n + 1)) = subst (λ v. t * (n + 1) ≤ v) (mul_assoc n n (n + 1))
        (mul-le-mul_right (n + 1) ht) in
        let weight : t * (n + 1) + c ≤ n * ((n + 1) * (n + 1)) =
        with-next n (n + 1) (t * (n + 1)) c first hc (omega arith) in
        let all : (t * (n + 1) + c) * (n + 1) ≤ n * ((n + 1) * (n + 1) * (n + 1)) =
        subst (λ v. (t * (n + 1) + c) * (n + 1) ≤ v) (mul_assoc n ((n + 1) * (n + 1)) (n + 1))
        (mul-le-mul_right (n + 1) weight) in
        let large : n ≤ (n + 1) * ((n + 1) * (n + 1)) =
        omega (arith, suc-mul n ((n + 1) * (n + 1)), suc-mul n (n + 1)) in
        with-last n ((n + 1) * ((n + 1) * (n + 1))) ((t * (n + 1) + c) * (n + 1)) d
        (subst (λ v. (t * (n + 1) + c) * (n + 1) ≤ n * v) (mul_assoc (n + 1) (n + 1) (n + 1)) all) hd large

-- each step leaves a smaller distance
one_more : (n k : ℕ) (words codes words₁ codes₁ : List ℕ) → length words ≡ n → Nearer words codes words₁ codes₁
    → k ≤ distance n (held_record (record_in words₁ codes₁)) → suc k ≤ distance n (held_record (record_in words codes))
one_more n k words codes words₁ codes₁ e N rest =
    let step : distance n (held_record (record_in words₁ codes₁)) < distance n (held_record (record_in words codes)) =
    subst (λ m. distance m (held_record (record_in words₁ codes₁)) < distance m (held_record (record_in words codes))) e
    N.less in
    omega (arith, rest, step)

counted : (n : ℕ) {k : ℕ} {words codes words' codes' : List ℕ} → length words ≡ n
    → NearerIn k words codes words' codes' → k ≤ distance n (held_record (record_in words codes))
counted n e none = omega arith
counted n e (more N R) = one_more n _ _ _ _ _ e N (counted n (N.kept.long ∙ e) R)

pub few-steps : FewSteps
few-steps k words codes words' codes' S =
    le_trans (counted (length words) refl S) (distance-below (length words) (held_record (record_in words codes)))
