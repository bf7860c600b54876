-- The number of two lists together is the earlier of their numbers.
use mathlib.Core.Bool.{Bool, false, not, ◌||◌}
use mathlib.Core.List.{List, [], ◌∷◌}
use mathlib.Core.Path.{ap, ap₂, refl, sym, ◌∙◌, ◌≡◌}
use Prim.Native.Nat.{ℕ, ◌≤◌}
use lib.Dec.{eqb, eqb→eq, lit<}
use lib.ListN.{length}
use borrow.Author.Tests.{eq-eqb}
use Rattle.buffers.proofs.Lines.{Numbered, passed}
use Rattle.buffers.specs.Refusals.{Refusal, bad_count, first_fitting, line}
use Rattle.comparison.specs.Compared.{pair_lines}
use Rattle.stabilizer.proofs.SharedTests.{count-passes, length-passes}
use Rattle.stabilizer.specs.Lists.{
  GeneratorList,
  clashing,
  dependent,
  list_lengths,
  list_lines,
  list_signs,
  list_stray,
  rows,
}
use Rattle.words.proofs.Finite.{Law, Of, law}
use Rattle.buffers.specs.internal.Earlier.{earlier_of}

-- lines 4 to 10 of each list, and those of the pair
module _ (a₄ a₅ a₆ a₉ a₁₀ : Bool) where
  abbrev later_lines : List Refusal
  later_lines = line 4 (a₄ || false) ∷ line 5 a₅ ∷ line 6 a₆ ∷ line 9 a₉ ∷ line 10 a₁₀ ∷ []

abbrev later_of : Of 10 ℕ
later_of a b c d e f g h i j =
    earlier_of (first_fitting (later_lines a b c d e)) (first_fitting (later_lines f g h i j))

abbrev later_both : Of 10 ℕ
later_both a b c d e f g h i j =
    first_fitting
    (line 4 (a || (f || false)) ∷ line 5 (b || g) ∷ line 6 (c || h) ∷ line 9 (d || i) ∷ line 10 (e || j) ∷ [])

earlier-later : Law ℕ 10 later_both later_of
unfolding first_fitting
earlier-later = law eqb eqb→eq 10 later_both later_of tt

-- ---- two lists on n qubits, n from 1 to 64, with buffers of the right lengths
module _ (n : ℕ) (s z x s₂ z₂ x₂ choice list : List ℕ) (positive : 1 ≤ n) (few : n ≤ 64)
    (long : length choice ≡ n) (room : length list ≡ 96) where
  abbrev pub first_list : GeneratorList
  first_list = record { n = n; signs = s; z = z; x = x }

  abbrev pub second_list : GeneratorList
  second_list = record { n = n; signs = s₂; z = z₂; x = x₂ }

  counts : bad_count n ≡ false
  counts = count-passes n positive few

  single-number : (l : GeneratorList) (others : Bool) → others ≡ false → bad_count l.n ≡ false →
      first_fitting (list_lines l others) ≡ first_fitting
      (later_lines (list_lengths l) (list_stray l) (list_signs l) (clashing l.n (rows l))
      (dependent l.n (rows l)))
  single-number l others o b = ap (λ v. first_fitting (list_lines l v)) o ∙ passed 2 _ b

  pub pair-number : (o o₂ : Bool) → o ≡ false → o₂ ≡ false →
      first_fitting (pair_lines first_list second_list choice list)
      ≡ earlier_of (first_fitting (list_lines first_list o)) (first_fitting (list_lines second_list o₂))
  pair-number o o₂ e e₂ =
      passed 2 _ (ap₂ ◌||◌ counts (ap₂ ◌||◌ counts (ap not (eq-eqb n n refl))))
      ∙ ap (λ v. first_fitting
      (line 4 (list_lengths first_list || (list_lengths second_list || v))
      ∷ line 5 (list_stray first_list || list_stray second_list)
      ∷ line 6 (list_signs first_list || list_signs second_list)
      ∷ line 9 (clashing n (rows first_list) || clashing n (rows second_list))
      ∷ line 10 (dependent n (rows first_list) || dependent n (rows second_list)) ∷ []))
      (ap₂ ◌||◌ (length-passes n choice long) (length-passes 96 list room))
      ∙ earlier-later (list_lengths first_list) (list_stray first_list) (list_signs first_list)
      (clashing n (rows first_list)) (dependent n (rows first_list)) (list_lengths second_list)
      (list_stray second_list)
      (list_signs second_list) (clashing n (rows second_list)) (dependent n (rows second_list))
      ∙ sym (ap₂ earlier_of (single-number first_list o e counts) (single-number second_list o₂ e₂ counts))

-- ---- the lines of two lists
pub pair-numbered : (l m : GeneratorList) (choice list : List ℕ) → Numbered (pair_lines l m choice list)
pair-numbered l m choice list =
    (lit< tt, (lit< tt, (lit< tt, (lit< tt, (lit< tt, (lit< tt, tt))))))
