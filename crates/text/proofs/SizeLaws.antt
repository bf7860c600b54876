-- The length of a text of n lines: it fits a word exactly where n is below 2 ^ 32; where each line starts.
use mathlib.Core.List.{List}
use mathlib.Core.Path.{subst, sym, ◌≡◌}
use Prim.Native.Nat.{◌*◌, ◌+◌, ◌<◌, ◌^◌, ℕ, ◌≤◌}
use native.Mathlib.Nat.{mul-le-mul, mul-le-mul_right, suc-mul}
use native.Mathlib.Numerals.{add-one}
use native.Mathlib.Omega.{arith}
use lib.ListN.{length}
use Rattle.text.specs.Strings.{text_size}

pub size_fits : (n : ℕ) → n ≤ 4294967295 → text_size n < 2 ^ 64
size_fits n l =
    let most : n * (n + 2) ≤ 4294967295 * 4294967297 = mul-le-mul {m₁ = n + 2} {m₂ = 4294967297} l (omega arith) in
    omega (arith, most)

pub size-exceeds : (k n : ℕ) → k < 2 ^ 64 → 4294967295 < n → k ≡ text_size n → ⊥
size-exceeds k n h l e =
    let least : 4294967296 * 4294967296 ≤ n * (n + 2) = mul-le-mul {m₁ = 4294967296} {m₂ = n + 2} l (omega arith) in
    omega (arith, least, e, h)

-- line j starts at j * (n + 2); it ends within the text, where the next one starts
pub line-inside : (t : List ℕ) (n j : ℕ) → length t ≡ text_size n → j < n → j * (n + 2) + (n + 2) ≤ length t
line-inside t n j e l =
    subst (λ k. j * (n + 2) + (n + 2) ≤ k) (sym e)
    (subst (λ k. k ≤ n * (n + 2)) (suc-mul j (n + 2)) (mul-le-mul_right (n + 2) l))

pub next-line : (n j : ℕ) → j * (n + 2) + (n + 2) ≡ (j + 1) * (n + 2)
next-line n j = sym (rw add-one (suc-mul j (n + 2)))
