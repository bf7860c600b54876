-- A part of a graph is connected in its own numbers.
use mathlib.Core.Bool.{◌&&◌, true}
use mathlib.Core.Path.{ap, subst, ◌∙◌, ◌≡◌}
use Prim.Native.Nat.{◌<◌, ℕ}
use native.Mathlib.Nat.{lt_of_le_of_lt}
use Prim.Native.Nat.{zero-le}
use lib.Dec.{eqb}
use borrow.Author.Tests.{eq-eqb, eqb-true, lt-ltb}
use Rattle.record.specs.Graph.{Graph}
use Rattle.comparison.proofs.PartLaws.{both, part-within}
use Rattle.comparison.proofs.PlacedRows.{same_number}
use Rattle.comparison.specs.internal.Numbered.{Numbers, part_graph}
use Rattle.comparison.specs.internal.Parts.{Closed}
use Rattle.comparison.specs.Parts.{part_of}
use Rattle.words.proofs.Flags.{both_true}
use Rattle.words.proofs.SearchLaws.{some_in, some-true}
use Rattle.words.specs.Bits.{Word}
use Rattle.words.specs.Search.{first, some}
use Rattle.comparison.specs.internal.Setting.{Connected}

module _ (n : ℕ) (θ : Graph) (s : Word) (k : ℕ) (e : ℕ → ℕ) (N : Numbers n s k e) (C : Closed n θ s)
    (together : (i j : ℕ) → i < k → j < k → part_of n θ (e i) (e j) ≡ true) where
  -- the vertices with the numbers of a set
  placed_at : Word → Word
  placed_at u t = some k (λ i. eqb (e i) t && u i)

  placed-in : (u : Word) (i t : ℕ) → i < k → e i ≡ t → u i ≡ true → placed_at u t ≡ true
  unfolding placed_at
  placed-in u i t l p h = some_in k (λ i. eqb (e i) t && u i) i l (both (eq-eqb (e i) t p) h)

  placed-number : (u : Word) (t : ℕ) → placed_at u t ≡ true → (i : ℕ) × (i < k) × (e i ≡ t) × (u i ≡ true)
  unfolding placed_at
  placed-number u t h =
      let F = some-true k (λ i. eqb (e i) t && u i) h in
      let i = first k (λ i. eqb (e i) t && u i) in
      let b = both_true (eqb (e i) t) (u i) F.passes in
      (i, F.below, eqb-true (e i) t b.0, b.1)

  placed-closed : (u : Word) → Closed k (part_graph k e θ) u → Closed n θ (placed_at u)
  placed-closed u D i j l m a b =
      let I = placed-number u i a in
      let joined : θ (e I.0) j ≡ true = ap (λ t. θ t j) I.2 ∙ b in
      let J = N.onto j m (C (e I.0) j (N.below I.0 I.1) m (N.inside I.0 I.1) joined) in
      placed-in u J.0 j J.1 J.2
      (D I.0 J.0 I.1 J.1 I.3
      (both (lt-ltb I.0 k I.1) (both (lt-ltb J.0 k J.1) (ap (θ (e I.0)) J.2 ∙ joined))))

  pub part-connected : Connected k (part_graph k e θ)
  part-connected u D h q l =
      let first : 0 < k = lt_of_le_of_lt zero-le l in
      let Q = placed-number u (e q)
      (part-within n θ (placed_at u) (placed-closed u D) (e 0) (e q) (N.below 0 first) (N.below q l)
      (placed-in u 0 (e 0) first (λ i. e 0) h) (together 0 q first l)) in
      subst (λ i. u i ≡ true) (same_number n s k e N Q.0 q Q.1 l Q.2) Q.3
