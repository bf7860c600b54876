-- Line 9 by pairs: each generator is tested against the ones before it, on whole words.
use mathlib.Core.Bool.{Bool, false}
use mathlib.Core.List.{List}
use mathlib.Core.Path.{subst, sym, ◌∙◌, ◌≡◌}
use Prim.Native.Nat.{◌<◌, ◌^◌, ℕ, ◌≤◌}
use native.Mathlib.Nat.{lt_trans}
use lib.ListN.{get_or, length}
use Rattle.buffers.proofs.Reaching.{below_all}
use Rattle.buffers.specs.Refusals.{reaching}
use Rattle.pauli.proofs.PauliLaws.{anticommute-self, anticommute-swap}
use Rattle.pauli.specs.Pauli.{Pauli, Phase, anticommute, i⁰, row}
use Rattle.words.proofs.BitLaws.{bit-above}
use Rattle.words.proofs.SearchLaws.{some-ext, some_pairs}
use Rattle.words.specs.Search.{some}
use Rattle.stabilizer.proofs.Within.{anticommute-wide}
use Rattle.stabilizer.specs.Groups.{Within}
use Rattle.stabilizer.specs.Lists.{clashing}

-- the letters of generator j
abbrev pub letters_of : List ℕ → List ℕ → ℕ → Pauli
letters_of z x j = row i⁰ (get_or z j 0) (get_or x j 0)

-- generators i and j do not commute, on words of 64 bits
abbrev pub clashes_with : List ℕ → List ℕ → ℕ → ℕ → Bool
clashes_with z x i j = anticommute 64 (letters_of z x i) (letters_of z x j)

-- words of n bits
pub word-within : (n : ℕ) (t : Phase) (z x : ℕ) → z < 2 ^ n → x < 2 ^ n → Within n (row t z x)
word-within n t z x hz hx = record { no-x = bit-above n x hx; no-z = bit-above n z hz }

pub clashing-pairs : (n : ℕ) (z x : List ℕ) → n ≤ 64 → ((j : ℕ) → j < n → Within n (letters_of z x j)) →
    clashing n (letters_of z x) ≡ some n (λ i. some i (clashes_with z x i))
unfolding clashing
clashing-pairs n z x l W =
    some_pairs n (λ i j. anticommute n (letters_of z x i) (letters_of z x j))
    (λ i j. anticommute-swap n (letters_of z x i) (letters_of z x j))
    (λ i. anticommute-self n (letters_of z x i))
    ∙ some-ext n _ _ (λ i k. some-ext i _ _
    (λ j h. sym (anticommute-wide n 64 l (W i k) (W j (lt_trans h k)))))

-- generator i does not commute with one before it
abbrev pub clashes_earlier : List ℕ → List ℕ → ℕ → Bool
clashes_earlier z x i = some i (clashes_with z x i)

pub clashing-words : (n : ℕ) (z x : List ℕ) → n ≤ 64 → length z ≡ n → length x ≡ n →
    reaching (2 ^ n) z ≡ false → reaching (2 ^ n) x ≡ false →
    some n (clashes_earlier z x) ≡ clashing n (letters_of z x)
clashing-words n z x l lz lx hz hx =
    sym (clashing-pairs n z x l (λ j k. word-within n i⁰ (get_or z j 0) (get_or x j 0)
    (below_all (2 ^ n) z hz j (subst (λ m. j < m) (sym lz) k))
    (below_all (2 ^ n) x hx j (subst (λ m. j < m) (sym lx) k))))
