-- The least choice in a buffer: the codes that it holds.
use mathlib.Core.Bool.{cond}
use mathlib.Core.List.{List}
use mathlib.Core.Logic.{inl, inr, ◌⊎◌}
use mathlib.Core.Path.{ap, sym, ◌∙◌, ◌≡◌}
use Prim.Native.Nat.{◌%◌, ◌*◌, ◌+◌, ◌/◌, ◌<◌, ◌^◌, ℕ, ◌≤◌}
use lib.ListN.{get_or}
use borrow.Author.Tests.{le-ltb}
use Rattle.buffers.proofs.Tabulate.{tabulate-at}
use Rattle.buffers.specs.Buffers.{tabulate}
use Rattle.clifford.specs.Clifford.{clifford_of}
use Rattle.clifford.specs.Vectors.{codes_of}
use Rattle.pauli.specs.Pauli.{Pauli}
use Rattle.stabilizer.proofs.ReadBack.{table-past}
use Rattle.words.proofs.Sums.{lt-or-ge}
use Rattle.comparison.specs.Choices.{choice, digit_at, least_code, least_number}

-- the least choice in a buffer of n places
pub least-held : (n : ℕ) (R S : ℕ → Pauli) (choice' : List ℕ) → choice' ≡ tabulate n (least_code n R S)
    → (q : ℕ)
    → codes_of choice' q ≡ clifford_of (least_code n R S q)
unfolding choice
least-held n R S choice' e q = ap (λ v. clifford_of (get_or v q 0)) e ∙ ap clifford_of (go (lt-or-ge q n))
  where
    above : n ≤ q → least_code n R S q ≡ 0
    above l = ap (λ b. cond b (4 * digit_at 6 n (least_number n R S / 4 ^ n) q
        + digit_at 4 n (least_number n R S % 4 ^ n) q) 0) (le-ltb q n l)

    go : (q < n) ⊎ (n ≤ q) → get_or (tabulate n (least_code n R S)) q 0 ≡ least_code n R S q
    go (inl l) = tabulate-at n (least_code n R S) q l
    go (inr l) = table-past n (least_code n R S) q l ∙ sym (above l)
