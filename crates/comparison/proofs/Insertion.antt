-- A triangular table with an equation inserted.
use mathlib.Core.Bool.{false, true, true≢false}
use mathlib.Core.List.{List}
use mathlib.Core.Logic.{inl, inr, ◌⊎◌}
use mathlib.Core.Path.{ap, ap₂, refl, subst, sym, ◌∙◌, ◌≡◌}
use Prim.Native.Nat.{◌-◌, ◌<◌, ◌≤◌, suc, zero-le, ℕ}
use native.Mathlib.Decide.{ℕ_discrete}
use native.Mathlib.Omega.{arith}
use lib.Arith.{lt_of_le-ne}
use lib.ListN.{length-set, set}
use lib.Seq.{get_or-set_other, get_or-set_same}
use Rattle.words.proofs.Finite.{⊕-zero}
use Rattle.words.specs.Bits.{◌⊕◌}
use Rattle.comparison.specs.internal.Equations.{
  Assignment,
  Equation,
  Inserted,
  Solves,
  Triangular,
  added,
  empty_equation,
  equation_at,
  fails,
  unknown,
}
use Rattle.comparison.proofs.EquationLaws.{fails-added, no-unknowns, unknown-added, empty_holds, empty-unknown}

-- the state of an insertion: no unknown from i on is left, and on the table's solutions what is left is the equation
pub record Inserting (table₀ : List Equation) (e : Equation) (table : List Equation) (left : Equation) (i : ℕ) : Type
    0 where
  pub same : table ≡ table₀
  pub above : (j : ℕ) → i ≤ j → unknown left j ≡ false
  pub rest : (w : Assignment) → Solves table w → fails left w ≡ fails e w

pub insert-start : (table : List Equation) (e : Equation) (m : ℕ) → ((j : ℕ) → m ≤ j → unknown e j ≡ false) → Inserting
    table e table e m
insert-start table e m h = record { same = refl; above = h; rest = λ w s. refl }

-- .. seen from another number that is above all unknowns left
pub insert-from : {table₀ : List Equation} {e : Equation} {table : List Equation} {left : Equation} {k : ℕ}
    → Inserting table₀ e table left k → (i : ℕ) → ((j : ℕ) → i ≤ j → unknown left j ≡ false)
    → Inserting table₀ e table left i
insert-from S i h = record { same = S.same; above = h; rest = S.rest }

module _ (table₀ : List Equation) (e : Equation) (T₀ : Triangular table₀) (table : List Equation) (left : Equation)
    (k : ℕ) (more : 0 < k) (inv : Inserting table₀ e table left k) where
  abbrev i : ℕ
  i = k - 1

  S : Inserting table₀ e table left (suc i)
  S = subst (Inserting table₀ e table left) (omega (arith, more)) inv

  T : Triangular table
  T = subst Triangular (sym S.same) T₀

  down : (r : Equation) → unknown r i ≡ false → ((j : ℕ) → suc i ≤ j → unknown r j ≡ false)
      → (j : ℕ) → i ≤ j → unknown r j ≡ false
  down r h k j l = go (ℕ_discrete j i)
    where
      go : Dec (j ≡ i) → unknown r j ≡ false
      go (yes p) = ap (unknown r) p ∙ h
      go (no p) = k j (lt_of_le-ne l (λ q. p (sym q)))

  pub insert-added : unknown left i ≡ true → (p r : Equation) → p ≡ equation_at table i
      → (((j : ℕ) → unknown p j ≡ false) → ⊥) → r ≡ added left p → Inserting table₀ e table r i
  insert-added h p r hp some hr =
      record {
        same = S.same;
        above = down r (ap (λ f. unknown f i) hr ∙ unknown-added left p i ∙ ap₂ ◌⊕◌ h (leads (T.leading i)))
            (λ j l. ap (λ f. unknown f j) hr ∙ unknown-added left p j
            ∙ ap₂ ◌⊕◌ (S.above j l) (ap (λ f. unknown f j) hp ∙ T.above i j l));
        rest = λ w s. ap (λ f. fails f w) hr ∙ fails-added left p w
            ∙ ap (λ b. fails left w ⊕ b) (ap (λ f. fails f w) hp ∙ s i) ∙ ⊕-zero (fails left w) ∙ S.rest w s;
      }
    where
      leads : (unknown (equation_at table i) i ≡ true) ⊎ (equation_at table i ≡ empty_equation) → unknown p i ≡ true
      leads (inl t) = ap (λ f. unknown f i) hp ∙ t
      leads (inr t) = absurd (some (λ j. ap (λ f. unknown f j) (hp ∙ t) ∙ empty-unknown j))

  pub insert-stored : i < 256 → unknown left i ≡ true → (p : Equation) → p ≡ equation_at table i
      → ((j : ℕ) → unknown p j ≡ false) → Inserted table₀ e (set table i left)
  insert-stored l h p hp none =
      record {
        triangular = record {
          long = length-set table i left ∙ T.long;
          above = λ j k m. above j k m (ℕ_discrete j i);
          leading = λ j. leading j (ℕ_discrete j i);
        };
        kept = λ w f s j. holds w (S.rest w (now w s) ∙ f) (now w s) j (ℕ_discrete j i);
        older = λ w s. subst (λ t. Solves t w) S.same (before w s);
        asked = asked;
      }
    where
      here : equation_at (set table i left) i ≡ left
      here = get_or-set_same table i left empty_equation (subst (λ n. i < n) (sym T.long) l)

      there : (j : ℕ) → (j ≡ i → ⊥) → equation_at (set table i left) j ≡ equation_at table j
      there j o = get_or-set_other table i j left empty_equation o

      now : (w : Assignment) → Solves table₀ w → Solves table w
      now w s = subst (λ t. Solves t w) (sym S.same) s

      at : (j : ℕ) → j ≡ i → equation_at (set table i left) j ≡ left
      at j q = ap (equation_at (set table i left)) q ∙ here

      above : (j k : ℕ) → j < k → Dec (j ≡ i) → unknown (equation_at (set table i left) j) k ≡ false
      above j k m (yes q) = ap (λ f. unknown f k) (at j q) ∙ S.above k (subst (λ t. suc t ≤ k) q m)
      above j k m (no q) = ap (λ f. unknown f k) (there j q) ∙ T.above j k m

      leading : (j : ℕ) → Dec (j ≡ i) → (unknown (equation_at (set table i left) j) j ≡ true)
          ⊎ (equation_at (set table i left) j ≡ empty_equation)
      leading j (yes q) = inl (ap (λ f. unknown f j) (at j q) ∙ ap (unknown left) q ∙ h)
      leading j (no q) =
          subst (λ f. (unknown f j ≡ true) ⊎ (f ≡ empty_equation)) (sym (there j q)) (T.leading j)

      holds : (w : Assignment) → fails left w ≡ false → Solves table w → (j : ℕ) → Dec (j ≡ i)
          → fails (equation_at (set table i left) j) w ≡ false
      holds w f s j (yes q) = ap (λ f. fails f w) (at j q) ∙ f
      holds w f s j (no q) = ap (λ f. fails f w) (there j q) ∙ s j

      empty : (unknown (equation_at table i) i ≡ true) ⊎ (equation_at table i ≡ empty_equation)
          → equation_at table i ≡ empty_equation
      empty (inr t) = t
      empty (inl t) = absurd (true≢false (sym t ∙ ap (λ f. unknown f i) (sym hp) ∙ none i))

      before : (w : Assignment) → Solves (set table i left) w → Solves table w
      before w s j = go (ℕ_discrete j i)
        where
          go : Dec (j ≡ i) → fails (equation_at table j) w ≡ false
          go (yes q) = ap (λ f. fails f w) (ap (equation_at table) q ∙ empty (T.leading i)) ∙ empty_holds w
          go (no q) = ap (λ f. fails f w) (sym (there j q)) ∙ s j

      asked : (w : Assignment) → Solves (set table i left) w → fails e w ≡ false
      asked w s = sym (S.rest w (before w s)) ∙ ap (λ f. fails f w) (sym here) ∙ s i

-- nothing is left
pub insert-nothing : (table₀ : List Equation) (e : Equation) → Triangular table₀ → (table : List Equation)
    (left : Equation) → Inserting table₀ e table left 0 → Inserted table₀ e table
insert-nothing table₀ e T₀ table left S =
    record {
      triangular = subst Triangular (sym S.same) T₀;
      kept = λ w f s. subst (λ t. Solves t w) (sym S.same) s;
      older = λ w s. subst (λ t. Solves t w) S.same s;
      asked = λ w s. sym (S.rest w s) ∙ no-unknowns left (λ j. S.above j zero-le) w;
    }
