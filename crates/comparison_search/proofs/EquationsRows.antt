-- Equations of a table added to an equation, and to later ones of the table.
use mathlib.Core.Bool.{false, true, true≢false}
use mathlib.Core.List.{List}
use mathlib.Core.Logic.{inl, inr, ◌⊎◌}
use mathlib.Core.Path.{ap, ap₂, refl, subst, sym, ◌∙◌, ◌≡◌}
use Prim.Native.Nat.{◌%◌, ◌+◌, ◌/◌, ◌<◌, ◌^◌, suc, zero, ℕ}
use native.Mathlib.Decide.{ℕ_discrete}
use native.Mathlib.Omega.{arith}
use lib.Bits.{bit_xor}
use lib.Count.{count_trailing_zeros}
use lib.ListN.{get_or, length-set, set}
use lib.Seq.{get_or-set_other, get_or-set_same}
use Rattle.words.proofs.BitLaws.{flip-less}
use Rattle.words.proofs.Finite.{⊕-zero}
use Rattle.words.proofs.Trailing.{trailing-set}
use Rattle.words.specs.Bits.{bit, ◌⊕◌}
use Rattle.comparison.specs.internal.Equations.{
  Assignment,
  Equation,
  Inserted,
  Solves,
  Triangular,
  added,
  empty_equation,
  equation_at,
  equation_of,
  fails,
  unknown,
  word_at,
}
use Rattle.comparison.proofs.EquationLaws.{empty-unknown, fails-added, no-unknowns, unknown-added}
use Rattle.comparison_search.specs.internal.Rewriting.{Rewritten, Summed}

-- the word of an unknown
pub word-index : (row : List ℕ) (l : ℕ) → l < 4
    → get_or row l 0 ≡ word_at l (get_or row 0 0) (get_or row 1 0) (get_or row 2 0) (get_or row 3 0)
word-index row zero k = refl
word-index row (suc zero) k = refl
word-index row (suc (suc zero)) k = refl
word-index row (suc (suc (suc zero))) k = refl
word-index row (suc (suc (suc (suc l)))) k = absurd (omega (arith, k))

pub unknown-in : (row : List ℕ) (i : ℕ) → bit (get_or row (i % 4) 0) (i / 4) ≡ unknown (equation_of row) i
unknown-in row i = ap (λ w. bit w (i / 4)) (word-index row (i % 4) (omega arith))

-- ---- the qubits of a word, one after the other
module _ (w : ℕ) (fits : w < 2 ^ 64) (some : (w ≡ 0 → ⊥)) where
  pub next-qubit : (q : ℕ) → q ≡ count_trailing_zeros 64 w → q < 64
  next-qubit q e = subst (λ m. m < 64) (sym e) (trailing-set 64 w fits some).below

  pub fewer-qubits : (r : ℕ) → r ≡ bit_xor w (2 ^ count_trailing_zeros 64 w) → r < w
  fewer-qubits r e =
      subst (λ m. m < w) (sym e) (flip-less w (count_trailing_zeros 64 w) (trailing-set 64 w fits some).passes)

-- ---- an equation of the table added
pub sum_more : (table : List Equation) (e left p r : Equation) (i : ℕ) → Summed table e left → p ≡ equation_at table i
    → r ≡ added left p → Summed table e r
sum_more table e left p r i S hp hr w s =
    ap (λ f. fails f w) hr ∙ fails-added left p w
    ∙ ap (λ b. fails left w ⊕ b) (ap (λ f. fails f w) hp ∙ s i) ∙ ⊕-zero (fails left w) ∙ S w s

-- ---- .. to a later one of the table
rewritten-again : (table : List Equation) → Triangular table → Rewritten table table
rewritten-again table T = record { triangular = T; same = λ w. ((λ s. s), (λ s. s)) }

module _ (table : List Equation) (T : Triangular table) (i k : ℕ) (after : i < k) (few : k < 256)
    (here : unknown (equation_at table k) i ≡ true) where
  abbrev r : Equation
  r = added (equation_at table k) (equation_at table i)

  abbrev next : List Equation
  next = set table k r

  at-k : equation_at next k ≡ r
  at-k = get_or-set_same table k r empty_equation (subst (λ n. k < n) (sym T.long) few)

  others : (j : ℕ) → (j ≡ k → ⊥) → equation_at next j ≡ equation_at table j
  others j o = get_or-set_other table k j r empty_equation o

  other : i ≡ k → ⊥
  other e = omega (arith, after, e)

  pub row_kept : equation_at next i ≡ equation_at table i
  row_kept = others i other

  triangular : Triangular next
  triangular =
      record {
        long = length-set table k r ∙ T.long;
        above = λ j m l. above j m l (ℕ_discrete j k);
        leading = λ j. leading j (ℕ_discrete j k);
      }
    where
      above : (j m : ℕ) → j < m → Dec (j ≡ k) → unknown (equation_at next j) m ≡ false
      above j m l (no o) = ap (λ f. unknown f m) (others j o) ∙ T.above j m l
      above j m l (yes e) =
          ap (λ j. unknown (equation_at next j) m) e ∙ ap (λ f. unknown f m) at-k
          ∙ unknown-added (equation_at table k) (equation_at table i) m
          ∙ ap₂ ◌⊕◌ (T.above k m (omega (arith, l, e))) (T.above i m (omega (arith, l, e, after)))

      leads : (unknown (equation_at table k) k ≡ true) ⊎ (equation_at table k ≡ empty_equation)
          → unknown (equation_at table k) k ≡ true
      leads (inl t) = t
      leads (inr t) = absurd (true≢false (sym here ∙ ap (λ f. unknown f i) t ∙ empty-unknown i))

      leading : (j : ℕ) → Dec (j ≡ k) → (unknown (equation_at next j) j ≡ true) ⊎ (equation_at next j ≡ empty_equation)
      leading j (no o) = subst (λ f. (unknown f j ≡ true) ⊎ (f ≡ empty_equation)) (sym (others j o)) (T.leading j)
      leading j (yes e) =
          inl (ap (λ j. unknown (equation_at next j) j) e ∙ ap (λ f. unknown f k) at-k
          ∙ unknown-added (equation_at table k) (equation_at table i) k
          ∙ ap₂ ◌⊕◌ (leads (T.leading k)) (T.above i k after))

  forth : (w : Assignment) → Solves table w → Solves next w
  forth w s j = go (ℕ_discrete j k)
    where
      go : Dec (j ≡ k) → fails (equation_at next j) w ≡ false
      go (no o) = ap (λ f. fails f w) (others j o) ∙ s j
      go (yes e) =
          ap (λ j. fails (equation_at next j) w) e ∙ ap (λ f. fails f w) at-k
          ∙ fails-added (equation_at table k) (equation_at table i) w ∙ ap₂ ◌⊕◌ (s k) (s i)

  back : (w : Assignment) → Solves next w → Solves table w
  back w s j = go (ℕ_discrete j k)
    where
      first : fails (equation_at table i) w ≡ false
      first = ap (λ f. fails f w) (sym row_kept) ∙ s i

      go : Dec (j ≡ k) → fails (equation_at table j) w ≡ false
      go (no o) = ap (λ f. fails f w) (sym (others j o)) ∙ s j
      go (yes e) =
          ap (λ j. fails (equation_at table j) w) e ∙ sym (⊕-zero (fails (equation_at table k) w))
          ∙ ap (λ b. fails (equation_at table k) w ⊕ b) (sym first)
          ∙ sym (fails-added (equation_at table k) (equation_at table i) w)
          ∙ ap (λ f. fails f w) (sym at-k) ∙ s k

  row-added : Rewritten table next
  row-added = record { triangular = triangular; same = λ w. (forth w, back w) }

-- the state of a clearing: rows from k on are as they were, and row i is
pub record Clearing (table₀ table : List Equation) (i k : ℕ) (p : Equation) : Type 0 where
  pub after : i < k
  pub so_far : Rewritten table₀ table
  pub row : p ≡ equation_at table i

pub clear-start : (table : List Equation) → Triangular table → (i : ℕ) (p : Equation) → p ≡ equation_at table i
    → Clearing table table i (i + 1) p
clear-start table T i p e = record { after = omega arith; so_far = rewritten-again table T; row = e }

module _ (table₀ table : List Equation) (i k : ℕ) (p : Equation) (S : Clearing table₀ table i k p) where
  pub clear_kept : Clearing table₀ table i (k + 1) p
  clear_kept = record { after = further S.after; so_far = S.so_far; row = S.row }
    where
      further : i < k → i < k + 1
      further l = omega (arith, l)

  pub clear-added : k < 256 → (e r : Equation) → e ≡ equation_at table k → unknown e i ≡ true → r ≡ added e p
      → Clearing table₀ (set table k r) i (k + 1) p
  clear-added few e r he here hr =
      subst (λ r. Clearing table₀ (set table k r) i (k + 1) p) (sym (hr ∙ ap₂ added he S.row))
      (record {
        after = clear_kept.after;
        so_far = record {
          triangular = R.triangular;
          same = λ w. (
            (λ s. (R.same w).0 ((S.so_far.same w).0 s)),
            (λ s. (S.so_far.same w).1 ((R.same w).1 s)),
          );
        };
        row = S.row ∙ sym (row_kept table T i k S.after few at);
      })
    where
      T : Triangular table
      T = S.so_far.triangular

      at : unknown (equation_at table k) i ≡ true
      at = ap (λ f. unknown f i) (sym he) ∙ here

      R : Rewritten table (set table k (added (equation_at table k) (equation_at table i)))
      R = row-added table T i k S.after few at

-- ---- all steps of an insertion
pub nothing_left : (table : List Equation) (e left : Equation) → Triangular table → Summed table e left
    → ((j : ℕ) → unknown left j ≡ false) → Inserted table e table
nothing_left table e left T S none =
    record {
      triangular = T;
      kept = λ w f s. s;
      older = λ w s. s;
      asked = λ w s. sym (S w s) ∙ no-unknowns left none w;
    }

pub stored-and-cleared : (table : List Equation) (e left : Equation) (stored result : List Equation)
    → Summed table e left → Inserted table left stored → Rewritten stored result → Inserted table e result
stored-and-cleared table e left stored result S I R =
    record {
      triangular = R.triangular;
      kept = λ w f s. (R.same w).0 (I.kept w (S w s ∙ f) s);
      older = λ w s. I.older w ((R.same w).1 s);
      asked = λ w s. let before = (R.same w).1 s in sym (S w (I.older w before)) ∙ I.asked w before;
    }
