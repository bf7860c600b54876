-- An array filled place by place: the loop's invariant, and what it comes to.
use mathlib.Core.List.{List}
use mathlib.Core.Path.{subst, sym, ◌∙◌, ◌≡◌}
use Prim.Native.Nat.{◌+◌, ◌<◌, ℕ, ◌≤◌}
use native.Mathlib.Nat.{lt_of_lt_of_le, ne_of_lt, not-suc-le-zero}
use lib.ListN.{get_or, length, length-set, set}
use lib.Seq.{get_or-set_other, get_or-set_same}
use borrow.Author.Count.{below_more}
use Rattle.buffers.proofs.Tabulate.{tabulate-is}
use Rattle.buffers.specs.Buffers.{tabulate}

-- of an array of n elements, those below i are as they should be
pub record FilledBy {A : Type 0} (none : A) (n : ℕ) (P : ℕ → A → Type 0) (xs : List A) (i : ℕ) : Type 0 where
  pub long : length xs ≡ n
  pub done : (j : ℕ) → j < i → P j (get_or xs j none)

module _ {A : Type 0} (none : A) (n : ℕ) (P : ℕ → A → Type 0) where
  pub none_filled : (xs : List A) → length xs ≡ n → FilledBy none n P xs 0
  none_filled xs e = record { long = e; done = λ j l. absurd (not-suc-le-zero l) }

  pub one-filled : (xs : List A) (i : ℕ) (v : A) → FilledBy none n P xs i → i < n → P i v
      → FilledBy none n P (set xs i v) (i + 1)
  one-filled xs i v F l p =
      record {
        long = length-set xs i v ∙ F.long;
        done = below_more _ i (λ j k. subst (P j) (sym (get_or-set_other xs i j v none (ne_of_lt k))) (F.done j k))
            (subst (P i) (sym (get_or-set_same xs i v none (subst (λ m. i < m) (sym F.long) l))) p);
      }

  pub all-filled : (xs : List A) (i k : ℕ) → FilledBy none n P xs i → k ≤ i → (j : ℕ) → j < k → P j (get_or xs j none)
  all-filled xs i k F l j m = F.done j (lt_of_lt_of_le m l)

-- ---- a buffer of numbers, filled with the values of f: it comes to their table
abbrev pub Filled : ℕ → (ℕ → ℕ) → List ℕ → ℕ → Type 0
Filled n f buffer i = FilledBy 0 n (λ j v. v ≡ f j) buffer i

pub fill_start : (n : ℕ) (f : ℕ → ℕ) (buffer : List ℕ) → length buffer ≡ n → Filled n f buffer 0
fill_start n f buffer e = none_filled 0 n (λ j v. v ≡ f j) buffer e

pub fill_step : (n : ℕ) (f : ℕ → ℕ) (buffer : List ℕ) (i v : ℕ) → Filled n f buffer i → i < n → v ≡ f i →
    Filled n f (set buffer i v) (i + 1)
fill_step n f buffer i v F l e = one-filled 0 n (λ j w. w ≡ f j) buffer i v F l e

pub fill_end : (n : ℕ) (f : ℕ → ℕ) (buffer : List ℕ) (i : ℕ) → Filled n f buffer i → n ≤ i
    → buffer ≡ tabulate n f
fill_end n f buffer i F l =
    tabulate-is n f buffer F.long (all-filled 0 n (λ j v. v ≡ f j) buffer i n F l)
