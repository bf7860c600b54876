-- A number comes back from the lines of a list only where its line is true.
use mathlib.Core.Bool.{Bool, or-false, true, ◌||◌}
use mathlib.Core.Path.{sym, ◌∙◌, ◌≡◌}
use Prim.Native.Nat.{ℕ}
use lib.Dec.{lit<}
use Rattle.buffers.proofs.Lines.{only-where-true}
use Rattle.buffers.specs.Refusals.{bad_count, first_fitting}
use Rattle.stabilizer.specs.Lists.{
  GeneratorList,
  clashing,
  dependent,
  list_lengths,
  list_lines,
  list_signs,
  list_stray,
  rows,
}

-- the lines of a list
pub record ListNumbers (l : GeneratorList) (others : Bool) (r : ℕ) : Type 0 where
  pub count : r ≡ 2 → bad_count l.n ≡ true
  pub lengths : r ≡ 4 → (list_lengths l || others) ≡ true
  pub strays : r ≡ 5 → list_stray l ≡ true
  pub signs : r ≡ 6 → list_signs l ≡ true
  pub clash : r ≡ 9 → clashing l.n (rows l) ≡ true
  pub dependence : r ≡ 10 → dependent l.n (rows l) ≡ true

pub list-numbers : (l : GeneratorList) (others : Bool)
    → ListNumbers l others (first_fitting (list_lines l others))
list-numbers l others =
    record {
      count = λ e. sym (or-false (bad_count l.n)) ∙ only-where-true (list_lines l others) 2 (lit< tt) e;
      lengths =
          λ e. sym (or-false (list_lengths l || others)) ∙ only-where-true (list_lines l others) 4 (lit< tt) e;
      strays = λ e. sym (or-false (list_stray l)) ∙ only-where-true (list_lines l others) 5 (lit< tt) e;
      signs = λ e. sym (or-false (list_signs l)) ∙ only-where-true (list_lines l others) 6 (lit< tt) e;
      clash = λ e. sym (or-false (clashing l.n (rows l)))
          ∙ only-where-true (list_lines l others) 9 (lit< tt) e;
      dependence =
          λ e. sym (or-false (dependent l.n (rows l)))
          ∙ only-where-true (list_lines l others) 10 (lit< tt) e;
    }
