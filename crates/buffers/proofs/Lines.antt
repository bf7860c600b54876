-- The first fitting line.
use mathlib.Core.Bool.{◌&&◌, Bool, and-false, cond, false, true, ◌||◌}
use mathlib.Core.List.{◌++◌, List, [], ◌∷◌}
use mathlib.Core.Path.{ap, refl, subst, sym, ◌∙◌, ◌≡◌}
use Prim.Native.Nat.{◌<◌, suc, ℕ}
use native.Mathlib.Nat.{lt_irrefl}
use native.Mathlib.Omega.{arith}
use lib.Dec.{eqb}
use borrow.Author.Tests.{eq-eqb}
use Rattle.buffers.specs.Refusals.{Refusal, first_fitting, line}

-- a line that holds gives its number, one that does not is passed over
pub fits : (k : ℕ) {b : Bool} (ls : List Refusal) → b ≡ true → first_fitting (line k b ∷ ls) ≡ k
unfolding first_fitting
fits k ls e = ap (λ b. cond b k (first_fitting ls)) e

pub passed : (k : ℕ) {b : Bool} (ls : List Refusal) → b ≡ false → first_fitting (line k b ∷ ls) ≡ first_fitting ls
unfolding first_fitting
passed k ls e = ap (λ b. cond b k (first_fitting ls)) e

pub none-fits : first_fitting [] ≡ 0
unfolding first_fitting
none-fits = refl

-- where a later number comes back, the lines before do not hold: a line whose number is not 0
pub not-held : (k : ℕ) (b : Bool) (ls : List Refusal) → first_fitting (line (suc k) b ∷ ls) ≡ 0 →
    (b ≡ false) × (first_fitting ls ≡ 0)
unfolding first_fitting
not-held k true ls e = absurd (suc-not-zero e)
  where
    suc-not-zero : suc k ≡ 0 → ⊥
    suc-not-zero e = omega arith
not-held k false ls e = (refl, e)

-- ---- more lines after these
-- a number that came back stays
pub more-refused : (ls ms : List Refusal) → (first_fitting ls ≡ 0 → ⊥) → first_fitting (ls ++ ms) ≡ first_fitting ls
unfolding first_fitting
more-refused [] ms h = absurd (h refl)
more-refused (l ∷ ls) ms h = go l.holds h (more-refused ls ms)
  where
    go : (b : Bool) → (cond b l.number (first_fitting ls) ≡ 0 → ⊥) →
        ((first_fitting ls ≡ 0 → ⊥) → first_fitting (ls ++ ms) ≡ first_fitting ls) →
        cond b l.number (first_fitting (ls ++ ms)) ≡ cond b l.number (first_fitting ls)
    go true h rest = refl
    go false h rest = rest h

-- the lines have numbers other than 0
abbrev pub Numbered : List Refusal → Type 0
Numbered [] = Unit
Numbered (l ∷ ls) = (0 < l.number) × Numbered ls

-- where none of these holds, the later ones decide
pub more-accepted : (ls ms : List Refusal) → Numbered ls → first_fitting ls ≡ 0 →
    first_fitting (ls ++ ms) ≡ first_fitting ms
unfolding first_fitting
more-accepted [] ms n e = refl
more-accepted (l ∷ ls) ms n e = go l.holds e (more-accepted ls ms n.1)
  where
    go : (b : Bool) → cond b l.number (first_fitting ls) ≡ 0 →
        (first_fitting ls ≡ 0 → first_fitting (ls ++ ms) ≡ first_fitting ms) →
        cond b l.number (first_fitting (ls ++ ms)) ≡ first_fitting ms
    go true e rest = absurd (lt_irrefl 0 (subst (λ k. 0 < k) e n.0))
    go false e rest = rest e

-- where none of all holds, none of the first and none of the later ones does
pub none-of-all : (ls ms : List Refusal) → Numbered ls → first_fitting (ls ++ ms) ≡ 0 →
    (first_fitting ls ≡ 0) × (first_fitting ms ≡ 0)
unfolding first_fitting
none-of-all [] ms n e = (refl, e)
none-of-all (l ∷ ls) ms n e = go l.holds e (none-of-all ls ms n.1)
  where
    go : (b : Bool) → cond b l.number (first_fitting (ls ++ ms)) ≡ 0 →
        (first_fitting (ls ++ ms) ≡ 0 → (first_fitting ls ≡ 0) × (first_fitting ms ≡ 0)) →
        (cond b l.number (first_fitting ls) ≡ 0) × (first_fitting ms ≡ 0)
    go true e rest = absurd (lt_irrefl 0 (subst (λ k. 0 < k) e n.0))
    go false e rest = rest e

-- ---- the number is one of the lines'
abbrev pub AllBelow : ℕ → List Refusal → Type 0
AllBelow b [] = Unit
AllBelow b (l ∷ ls) = (l.number < b) × AllBelow b ls

pub first_below : (b : ℕ) (ls : List Refusal) → 0 < b → AllBelow b ls → first_fitting ls < b
unfolding first_fitting
first_below b [] p h = p
first_below b (l ∷ ls) p h = go l.holds (first_below b ls p h.1)
  where
    go : (v : Bool) → first_fitting ls < b → cond v l.number (first_fitting ls) < b
    go true rest = h.0
    go false rest = rest

-- ---- "a number comes back only where its line below is true"
-- some line with this number is true
abbrev pub true_of : ℕ → List Refusal → Bool
true_of k [] = false
true_of k (l ∷ ls) = (eqb l.number k && l.holds) || true_of k ls

pub only-where-true : (ls : List Refusal) (k : ℕ) → 0 < k → first_fitting ls ≡ k → true_of k ls ≡ true
unfolding first_fitting
only-where-true [] k h e = absurd (lt_irrefl 0 (subst (λ m. 0 < m) (sym e) h))
only-where-true (l ∷ ls) k h e = go l.holds e (only-where-true ls k h)
  where
    go : (b : Bool) → cond b l.number (first_fitting ls) ≡ k → (first_fitting ls ≡ k → true_of k ls ≡ true) →
        ((eqb l.number k && b) || true_of k ls) ≡ true
    go true e rest = ap (λ v. (v && true) || true_of k ls) (eq-eqb l.number k e)
    go false e rest = ap (λ v. v || true_of k ls) (and-false (eqb l.number k)) ∙ rest e
