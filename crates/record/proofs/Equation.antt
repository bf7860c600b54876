-- The reduced record that document 01's text describes, found by search, is any record that is reduced.
use mathlib.Core.Bool.{◌&&◌, Bool, and-false, false, not, true, true≢false}
use mathlib.Core.Logic.{inl, inr, ◌⊎◌}
use mathlib.Core.Path.{ap, ap₂, fun_ext, refl, subst, sym, ◌∙◌, ◌≡◌}
use Prim.Native.Nat.{◌<◌, ◌^◌, ℕ, ◌≤◌}
use lib.Dec.{eqb, ltb}
use borrow.Author.Tests.{le-ltb, lt-ltb}
use Rattle.clifford.specs.Vectors.{act}
use Rattle.record.proofs.GraphGroups.{no_loop}
use Rattle.record.specs.Graph.{Graph, graph_generator}
use Rattle.pauli.proofs.PhaseLaws.{sign-minus}
use Rattle.pauli.specs.Pauli.{Pauli, identity, mul, sign_bit}
use Rattle.stabilizer.proofs.Carried.{act-same, same_rows}
use Rattle.stabilizer.proofs.GroupLaws.{in_row}
use Rattle.stabilizer.specs.Groups.{InGroup, SameGroup, chosen}
use Rattle.words.proofs.BitLaws.{bit-word_of, word_of-lt}
use Rattle.words.proofs.Flags.{same-by-both, same_bit-true, true-same_bit}
use Rattle.words.proofs.Places.{same_place}
use Rattle.words.proofs.SearchLaws.{every-at, every_in, some_in, some-true}
use Rattle.words.proofs.Sums.{fold-ext, lt-or-ge}
use Rattle.words.specs.Bits.{bit, word_of, ◌⊕◌}
use Rattle.words.specs.Search.{first}
use Rattle.record.proofs.ColumnLaws.{column-dependent}
use Rattle.record.proofs.PlainRows.{
  hadamards-last,
  hadamards-twice,
  plain-determined,
  plain-phase,
  plain-x,
  plain-z,
  plain_row,
}
use Rattle.record.specs.Columns.{is_column_dependent}
use Rattle.record.specs.Records.{GraphRecord, SameRecord, rows_of}
use Rattle.record.specs.Reduced.{
  ReductionOf,
  graph_of,
  hadamard_where,
  minuses_of,
  needs_hadamard,
  plain_code,
  reduced,
  reduced_code,
  reduced_graph,
  reduced_row,
  rotated_rows,
  with_hadamard,
  x_only_at,
  x_words,
  ys_of,
}

module _ (n : ℕ) (rows : ℕ → Pauli) (r : GraphRecord) (R : ReductionOf n rows r) where
  -- the qubits that get a Hadamard
  hadamards-are : (q : ℕ) → needs_hadamard n rows q ≡ R.hadamards q
  hadamards-are q = go (lt-or-ge q n)
    where
      go : (q < n) ⊎ (n ≤ q) → needs_hadamard n rows q ≡ R.hadamards q
      go (inl l) = ap (λ b. b && is_column_dependent n (x_words rows) q) (lt-ltb q n l)
          ∙ same-by-both (is_column_dependent n (x_words rows) q) (R.hadamards q)
          (λ e. (R.rotated q l).1 ((column-dependent n (x_words rows) q).0 e))
          (λ e. (column-dependent n (x_words rows) q).1 ((R.rotated q l).0 e))
      go (inr l) = ap (λ b. b && is_column_dependent n (x_words rows) q) (le-ltb q n l) ∙ sym (R.above q l).0

  abbrev plain : ℕ → Pauli
  plain = plain_row n r.graph R.ys R.minuses

  -- the Hadamards undone, the list has the group of the plain rows
  rotated-same : SameGroup n n (rotated_rows n rows) plain
  rotated-same =
      subst (λ h. SameGroup n n (λ j. act n (hadamard_where h) (rows j)) plain)
      (fun_ext λ q. sym (hadamards-are q))
      (same_rows n n _ (λ j. act n (hadamard_where R.hadamards) (rows_of n r j)) plain
      (λ j l. ap (act n (hadamard_where R.hadamards))
      (hadamards-last n r R.hadamards R.ys R.minuses R.code j)
      ∙ hadamards-twice n R.hadamards (plain j))
      (act-same n n (hadamard_where R.hadamards) rows (rows_of n r) R.group))

  -- so the search finds plain row j
  found : ℕ → ℕ
  found j = first (2 ^ n) (x_only_at n (rotated_rows n rows) j)

  found-is : (j : ℕ) → j < n → x_only_at n (rotated_rows n rows) j (found j) ≡ true
  unfolding found
  found-is j l = (some-true (2 ^ n) (x_only_at n (rotated_rows n rows) j)
      (some_in (2 ^ n) _ (word_of n m.0) (word_of-lt n m.0) there)).passes
    where
      m : InGroup n n (rotated_rows n rows) (plain j)
      m = rotated-same.back (plain j) (in_row n n plain j l)

      there : x_only_at n (rotated_rows n rows) j (word_of n m.0) ≡ true
      there = every_in n _ (λ q k. same_bit-true (ap (λ p. p.x q) (fold-ext identity (mul n) n
          (λ i o. ap (λ b. chosen b (rotated_rows n rows i)) (bit-word_of n m.0 i o)) ∙ sym m.1)
          ∙ plain-x n R.ys R.minuses (graph_generator r.graph j) q))

  pub row-equation : (j : ℕ) → j < n → reduced_row n rows j ≡ plain_row n r.graph R.ys R.minuses j
  unfolding reduced_row found
  row-equation j l = plain-determined n r.graph R.simple R.ys R.minuses (reduced_row n rows j)
      (rotated-same.there (reduced_row n rows j) (bit (found j), refl)) j l
      (λ q k. true-same_bit ((reduced_row n rows j).x q) (eqb q j) (every-at n _ (found-is j l) q k))

  neighbours-are : (j q : ℕ) → reduced_graph n rows j q ≡ r.graph j q
  unfolding graph_of
  neighbours-are j q = go (lt-or-ge j n) (lt-or-ge q n)
    where
      θ : Graph
      θ = r.graph

      tidy : (t e y : Bool) → (e && t) ≡ false → ((t ⊕ (e && y)) && not e) ≡ t
      tidy false false y h = refl
      tidy true false y h = refl
      tidy false true y h = and-false y
      tidy true true y h = absurd (true≢false h)

      go : (j < n) ⊎ (n ≤ j) → (q < n) ⊎ (n ≤ q)
          → ((ltb j n && ltb q n) && ((reduced_row n rows j).z q && not (eqb q j))) ≡ θ j q
      go (inl l) (inl k) =
          ap₂ (λ a b. (a && b) && ((reduced_row n rows j).z q && not (eqb q j))) (lt-ltb j n l) (lt-ltb q n k)
          ∙ ap (λ b. b && not (eqb q j)) (ap (λ p. p.z q) (row-equation j l)
          ∙ plain-z n θ R.ys R.minuses j q)
          ∙ tidy (θ j q) (eqb q j) (R.ys q) (no_loop n θ R.simple j q)
      go (inl l) (inr k) =
          ap (λ b. (ltb j n && b) && ((reduced_row n rows j).z q && not (eqb q j))) (le-ltb q n k)
          ∙ ap (λ b. b && ((reduced_row n rows j).z q && not (eqb q j))) (and-false (ltb j n))
          ∙ sym (R.simple.below j q k)
      go (inr l) k = ap (λ a. (a && ltb q n) && ((reduced_row n rows j).z q && not (eqb q j))) (le-ltb j n l)
          ∙ sym (R.simple.symmetric j q ∙ R.simple.below q j l)

  code_is : (q : ℕ) → reduced_code n rows q ≡ r.codes q
  unfolding ys_of minuses_of
  code_is q = ap₂ (λ h k. with_hadamard h k) (hadamards-are q)
      (ap₂ plain_code (y-is (lt-or-ge q n)) (s-is (lt-or-ge q n))) ∙ sym (R.code q)
    where
      y-is : (q < n) ⊎ (n ≤ q) → (ltb q n && (reduced_row n rows q).z q) ≡ R.ys q
      y-is (inl l) = ap₂ ◌&&◌ (lt-ltb q n l) (ap (λ p. p.z q) (row-equation q l)
          ∙ plain-z n r.graph R.ys R.minuses q q
          ∙ ap₂ (λ a b. a ⊕ (b && R.ys q)) (R.simple.loopless q) (same_place q))
      y-is (inr l) = ap (λ b. b && (reduced_row n rows q).z q) (le-ltb q n l) ∙ sym (R.above q l).1

      s-is : (q < n) ⊎ (n ≤ q) → (ltb q n && sign_bit (reduced_row n rows q).phase) ≡ R.minuses q
      s-is (inl l) = ap₂ ◌&&◌ (lt-ltb q n l) (ap (λ p. sign_bit p.phase) (row-equation q l)
          ∙ ap sign_bit (plain-phase n r.graph R.simple R.ys R.minuses q l)
          ∙ sign-minus (R.minuses q))
      s-is (inr l) = ap (λ b. b && sign_bit (reduced_row n rows q).phase) (le-ltb q n l)
          ∙ sym (R.above q l).2

  pub equation : SameRecord (reduced n rows) r
  equation = record { neighbours = neighbours-are; code = code_is }
