-- "equivalent states have the same parts": no edge leaves a set of vertices exactly if the rank across its cut is 0,
-- and a choice of codes keeps every rank.
use mathlib.Core.Bool.{◌&&◌, Bool, and-false, false, not, true, true≢false}
use mathlib.Core.Logic.{inl, inr, ◌⊎◌}
use mathlib.Core.Path.{ap, ap₂, refl, sym, ◌∙◌, ◌≡◌}
use Prim.Native.Nat.{◌+◌, ◌<◌, ◌≤◌, suc, zero, ℕ}
use native.Mathlib.Nat.{le_refl, not-suc-le-zero}
use native.Mathlib.Omega.{arith}
use borrow.Author.Tests.{not-false}
use Rattle.clifford.specs.Clifford.{Clifford}
use Rattle.cut.proofs.CutKept.{carried-cut}
use Rattle.cut.proofs.Sides.{no_edges}
use Rattle.cut.specs.Cut.{crossing, cut_rank}
use Rattle.cut.specs.Kernel.{count}
use Rattle.cut.specs.Rank.{rank}
use Rattle.record.specs.Graph.{Graph, Simple}
use Rattle.record.proofs.ColumnLaws.{column-dependent}
use Rattle.record.specs.Columns.{is_column_dependent}
use Rattle.record.specs.Records.{GraphRecord, rows_of}
use Rattle.stabilizer.specs.Carries.{Carries}
use Rattle.words.proofs.Sums.{bit_monoid, fold-unit, last_or}
use Rattle.words.specs.Bits.{Word, digit, fold, ◌⊕◌}
use Rattle.comparison.proofs.PartLaws.{same_parts}
use Rattle.comparison.specs.internal.Parts.{Closed}
use Rattle.comparison.specs.Parts.{part_of}

-- none is counted where the count is 0
count-zero : (b : ℕ) (f : ℕ → Bool) → count b f ≡ 0 → (v : ℕ) → v < b → f v ≡ false
unfolding fold
count-zero zero f e v l = absurd (not-suc-le-zero l)
count-zero (suc b) f e v l = go (f b) refl (last_or l) (λ h. count-zero b f h v)
  where
    go : (s : Bool) → f b ≡ s → (v ≡ b) ⊎ (v < b) → (count b f ≡ 0 → v < b → f v ≡ false) → f v ≡ false
    go true h k ih = absurd (more (count b f) (ap (λ s. count b f + digit s) (sym h) ∙ e))
      where
        more : (a : ℕ) → a + 1 ≡ 0 → ⊥
        more a x = omega (arith, x)
    go false h (inl p) ih = ap f p ∙ h
    go false h (inr k) ih = ih (less (count b f) (ap (λ s. count b f + digit s) (sym h) ∙ e)) k
      where
        less : (a : ℕ) → a + 0 ≡ 0 → a ≡ 0
        less a x = omega (arith, x)

-- a matrix of rank 0 has no 1
module _ (m n : ℕ) (M : ℕ → Word) (e : rank m n M ≡ 0) where
  dependent : (q : ℕ) → q < n → is_column_dependent m M q ≡ true
  dependent q l = not-false (is_column_dependent m M q) (count-zero n (λ q. not (is_column_dependent m M q)) e q l)

  upto : (b : ℕ) → b ≤ n → (q : ℕ) → q < b → (j : ℕ) → j < m → M j q ≡ false
  upto zero h q l j k = absurd (not-suc-le-zero l)
  upto (suc b) h q l j k = go (upto b (omega arith)) (last_or l)
    where
      go : ((q : ℕ) → q < b → (j : ℕ) → j < m → M j q ≡ false) → (q ≡ b) ⊎ (q < b) → M j q ≡ false
      go ih (inl p) =
          let D = (column-dependent m M b).0 (dependent b (omega arith)) in
          ap (M j) p ∙ D.1 j k
          ∙ fold-unit false ◌⊕◌ bit_monoid b (λ t l. ap (λ v. D.0 t && v) (ih t l j k) ∙ and-false (D.0 t))
      go ih (inr l) = ih q l j k

  pub no-entry : (q : ℕ) → q < n → (j : ℕ) → j < m → M j q ≡ false
  no-entry = upto n (le_refl n)

module _ (n : ℕ) (θ : Graph) (s : Word) where
  pub rank-closed : cut_rank n s θ ≡ 0 → Closed n θ s
  rank-closed e i j k l a b = go (s j) refl
    where
      go : (v : Bool) → s j ≡ v → v ≡ true
      go true h = refl
      go false h = absurd (true≢false (sym (ap₂ ◌&&◌ (ap₂ (λ u v. u && not v) a h) b)
          ∙ no-entry n n (crossing s θ) e j l i k))

  pub closed-rank : Closed n θ s → cut_rank n s θ ≡ 0
  closed-rank C = no_edges n s θ (λ j q k l. none (s j) (s q) (θ j q) (C j q k l))
    where
      none : (a b e : Bool) → (a ≡ true → e ≡ true → b ≡ true) → ((a && not b) && e) ≡ false
      none false b e h = refl
      none true true e h = refl
      none true false false h = refl
      none true false true h = sym (h refl refl)

-- a choice of codes keeps closed sets, and so the parts
module _ (n : ℕ) (r s : GraphRecord) (R : Simple n r.graph) (S : Simple n s.graph) (c : ℕ → Clifford)
    (C : Carries n c (rows_of n r) (rows_of n s)) where
  pub carried-closed : (t : Word) → Closed n r.graph t → Closed n s.graph t
  carried-closed t K = rank-closed n s.graph t
      (sym (carried-cut n t r s R S c C) ∙ closed-rank n r.graph t K)

  pub carried-back : (t : Word) → Closed n s.graph t → Closed n r.graph t
  carried-back t K = rank-closed n r.graph t (carried-cut n t r s R S c C ∙ closed-rank n s.graph t K)

  pub carried-parts : (q t : ℕ) → part_of n r.graph q t ≡ part_of n s.graph q t
  carried-parts = same_parts n r.graph s.graph carried-closed carried-back
