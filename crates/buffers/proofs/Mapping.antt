-- Loops that write one place of an array after another.
use mathlib.Core.List.{List}
use mathlib.Core.Logic.{inl, inr}
use mathlib.Core.Path.{refl, subst, sym, ◌∙◌, ◌≡◌}
use Prim.Native.Nat.{◌+◌, ◌<◌, ℕ, ◌≤◌}
use native.Mathlib.Nat.{le_of_eq, le_trans, not-suc-le-zero}
use native.Mathlib.Omega.{arith}
use lib.ListN.{
  get_or-eq_default,
  get_or,
  get_or-replicate,
  length,
  length-replicate,
  length-set,
  replicate,
  set,
}
use lib.Seq.{get_or-set_other, get_or-set_same}
use borrow.Author.Count.{below_more}
use Rattle.words.proofs.Sums.{lt-or-ge}

-- the places of ys below k are as wanted, the others are those of xs
pub record Mapped (P : ℕ → ℕ → Type 0) (xs ys : List ℕ) (k : ℕ) : Type 0 where
  pub long : length ys ≡ length xs
  pub done : (i : ℕ) → i < k → P i (get_or ys i 0)
  pub rest : (i : ℕ) → k ≤ i → get_or ys i 0 ≡ get_or xs i 0

module _ (P : ℕ → ℕ → Type 0) (xs : List ℕ) where
  pub mapped-start : Mapped P xs xs 0
  mapped-start = record { long = refl; done = λ i l. absurd (not-suc-le-zero l); rest = λ i l. refl }

  pub mapped-store : (ys : List ℕ) (k v : ℕ) → Mapped P xs ys k → k < length xs → P k v →
      Mapped P xs (set ys k v) (k + 1)
  mapped-store ys k v M l h =
      record {
        long = length-set ys k v ∙ M.long;
        done = below_more (λ i. P i (get_or (set ys k v) i 0)) k
            (λ i m. subst (P i) (sym (get_or-set_other ys k i v 0 (λ e. absurd (omega (arith, e, m)))))
            (M.done i m))
            (subst (P k) (sym (get_or-set_same ys k v 0 (omega (arith, M.long)))) h);
        rest = λ i m. get_or-set_other ys k i v 0 (λ e. absurd (omega (arith, e, m))) ∙ M.rest i (omega arith);
      }

  -- where the loop went to n and nothing was to be changed from there on
  pub mapped_end : (ys : List ℕ) (n k : ℕ) → Mapped P xs ys k → n ≤ k → k ≤ n
      → ((i : ℕ) → n ≤ i → P i (get_or xs i 0)) →
      (i : ℕ) → P i (get_or ys i 0)
  mapped_end ys n k M a b h i = elim (lt-or-ge i k) [
    | inl l ↦ M.done i l
    | inr l ↦ subst (P i) (sym (M.rest i l)) (h i (omega arith))
  ]

-- ---- arrays that start with zeros
unfoldable pub zeros : ℕ → List ℕ
zeros n = replicate n 0

pub zeros-long : (n : ℕ) → length (zeros n) ≡ n
unfolding zeros
zeros-long n = length-replicate n 0

pub zeros-at : (n i : ℕ) → get_or (zeros n) i 0 ≡ 0
unfolding zeros
zeros-at n i = elim (lt-or-ge i n) [
  | inl l ↦ get_or-replicate n i 0 0 l
  | inr l ↦ get_or-eq_default (replicate n 0) 0 (le_trans (le_of_eq (length-replicate n 0)) l)
]
