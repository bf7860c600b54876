-- Parts of the table: the four equations of a qubit tested, and the rows before an end wiped.
use mathlib.Core.Bool.{Bool, false, true, false≢true, true≢false}
use mathlib.Core.List.{List, [], ◌++◌}
use mathlib.Core.Logic.{inl, inr, ◌⊎◌}
use mathlib.Core.Path.{ap, subst, sym, ◌∙◌, ◌≡◌}
use Prim.Native.Nat.{◌*◌, ◌+◌, ◌-◌, ◌<◌, ◌≤◌, ℕ}
use native.Mathlib.Omega.{arith}
use lib.ListN.{drop, get_or, length, length-drop, length-take, take}
use lib.Seq.{get_or-take}
use Rattle.std.proofs.lemmas.List.{get_or-append_right, get_or-drop, get_or_append_left, length-append, length-map}
use Rattle.words.proofs.Sums.{lt-or-ge}
use Rattle.std.specs.Bool.{MatchBool}
use Rattle.std.specs.List.{AllWithin, HoldsAt}
use Rattle.comparison.specs.internal.Equations.{
  Assignment,
  EmptyFrom,
  QubitTested,
  empty_equation,
  equation_at,
  equation_of,
  equations_in,
  fails,
}
use Rattle.comparison.proofs.QubitEquations.{row_at}

module _ (rows : List (List ℕ)) (q : ℕ) (w : Assignment) (part : List (List ℕ))
    (is : part ≡ take (4 * q + 4 - 4 * q) (drop (4 * q) rows)) (long : 4 * q + 4 ≤ length rows) where
  abbrev pub Fails : List ℕ → Type 0
  Fails e = true ≡ fails (equation_of e) w

  abbrev pub Holds : List ℕ → Type 0
  Holds e = false ≡ fails (equation_of e) w

  four : length part ≡ 4
  four = ap length is ∙ simp (length-take, length-drop) (omega (arith, long))

  row : (k : ℕ) → k < 4 → get_or part k [] ≡ get_or rows (4 * q + k) []
  row k l =
      ap (λ v. get_or v k []) is ∙ get_or-take (4 * q + 4 - 4 * q) (drop (4 * q) rows) k [] (omega (arith, l))
      ∙ get_or-drop (4 * q) rows k []

  at : (k : ℕ) → k < 4 → equation_at (equations_in rows) (4 * q + k) ≡ equation_of (get_or part k [])
  at k l = row_at rows (4 * q + k) ∙ ap equation_of (sym (row k l))

  pub rows-tested : (b : Bool) → MatchBool b ((k : ℕ) × (k < length part) × HoldsAt Fails part k)
      (AllWithin Holds part 0 (length part)) → QubitTested (equations_in rows) q w b
  rows-tested true (k, l, h) =
      let l' : k < 4 = omega (arith, four, l) in
      record {
        found = λ _. (4 * q + k, omega arith, omega (arith, l'), ap (λ e. fails e w) (at k l') ∙ sym (h []));
        hold = λ p. absurd (true≢false p);
      }
  rows-tested false h =
      record {
        found = λ p. absurd (false≢true p);
        hold = λ _ i l m. hold i (i - 4 * q) (omega (arith, l)) (omega (arith, l, m));
      }
    where
      hold : (i k : ℕ) → i ≡ 4 * q + k → k < 4 → fails (equation_at (equations_in rows) i) w ≡ false
      hold i k e l =
          ap (λ i. fails (equation_at (equations_in rows) i) w) e ∙ ap (λ e. fails e w) (at k l)
          ∙ sym (h k [] (omega arith) (omega (arith, four, l)))

-- the rows before an end without unknowns, and those from it on as they were
pub all-wiped : (rows items : List (List ℕ)) (end : ℕ) → EmptyFrom end (equations_in rows) → length items ≡ end
    → ((k : ℕ) → k < end → equation_of (get_or items k []) ≡ empty_equation)
    → end ≤ 256 → EmptyFrom 0 (equations_in (items ++ drop end rows))
all-wiped rows items end E long wiped few =
    record {
      long = length-map (items ++ drop end rows) equation_of ∙ length-append items (drop end rows)
          ∙ all (length items) (length (drop end rows)) long (length-drop end rows);
      empty = λ i _. row_at (items ++ drop end rows) i ∙ at i (lt-or-ge i end);
    }
  where
    whole : length rows ≡ 256
    whole = sym (length-map rows equation_of) ∙ E.long

    all : (a b : ℕ) → a ≡ end → b ≡ length rows - end → a + b ≡ 256
    all a b p q = omega (arith, p, q, whole, few)

    at : (i : ℕ) → (i < end) ⊎ (end ≤ i) → equation_of (get_or (items ++ drop end rows) i []) ≡ empty_equation
    at i (inl l) =
        ap equation_of (get_or_append_left items (drop end rows) [] i (subst (λ n. i < n) (sym long) l)) ∙ wiped i l
    at i (inr l) =
        ap equation_of (get_or-append_right items (drop end rows) end i [] long l
        ∙ get_or-drop end rows (i - end) [] ∙ ap (λ k. get_or rows k []) (omega (arith, l)))
        ∙ sym (row_at rows i) ∙ E.empty i l
