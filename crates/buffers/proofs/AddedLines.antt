-- Lines with a further test, and lines with one put in: none holds exactly if none held and the new test is false.
use mathlib.Core.Bool.{◌&&◌, Bool, cond, false, true, true≢false, ◌||◌}
use mathlib.Core.List.{List, [], ◌∷◌}
use mathlib.Core.Logic.{◌↔◌}
use mathlib.Core.Path.{ap, ap₂, refl, subst, sym, ◌∙◌, ◌≡◌}
use Prim.Native.Nat.{◌<◌, suc, ℕ}
use native.Mathlib.Nat.{lt_irrefl}
use native.Mathlib.Omega.{arith}
use lib.Dec.{eqb}
use Rattle.buffers.proofs.Lines.{Numbered}
use Rattle.buffers.specs.Refusals.{Refusal, first_fitting, inserted_after, inserted_before, line, with_test}

-- some line has the number k
abbrev pub has_number : ℕ → List Refusal → Bool
has_number k [] = false
has_number k (l ∷ ls) = eqb l.number k || has_number k ls

not-zero : (k : ℕ) → 0 < k → k ≡ 0 → ⊥
not-zero k p e = lt_irrefl 0 (subst (λ m. 0 < m) e p)

-- ---- a further test
-- it changes no number
pub test-numbered : (k : ℕ) (b : Bool) (ls : List Refusal) → Numbered ls → Numbered (with_test k b ls)
test-numbered k b [] N = tt
test-numbered k b (l ∷ ls) N = (N.0, test-numbered k b ls N.1)

pub test_has : (j k : ℕ) (b : Bool) (ls : List Refusal) → has_number j (with_test k b ls) ≡ has_number j ls
test_has j k b [] = refl
test_has j k b (l ∷ ls) = ap (λ v. eqb l.number j || v) (test_has j k b ls)

-- one that does not hold changes nothing
pub without-test : (k : ℕ) (ls : List Refusal) → first_fitting (with_test k false ls) ≡ first_fitting ls
unfolding first_fitting
without-test k [] = refl
without-test k (l ∷ ls) =
    ap₂ (λ b m. cond b l.number m) (flag l.holds (eqb l.number k)) (without-test k ls)
  where
    flag : (h e : Bool) → (h || (e && false)) ≡ h
    flag true e = refl
    flag false true = refl
    flag false false = refl

-- one that holds refuses
test-refuses : (k : ℕ) (ls : List Refusal) → Numbered ls → has_number k ls ≡ true
    → first_fitting (with_test k true ls) ≡ 0 → ⊥
unfolding first_fitting
test-refuses k [] N h e = true≢false (sym h)
test-refuses k (l ∷ ls) N h e = go l.holds (eqb l.number k) h e (test-refuses k ls N.1)
  where
    go : (v t : Bool) → (t || has_number k ls) ≡ true
        → cond (v || (t && true)) l.number (first_fitting (with_test k true ls)) ≡ 0
        → (has_number k ls ≡ true → first_fitting (with_test k true ls) ≡ 0 → ⊥) → ⊥
    go true t h e rest = not-zero l.number N.0 e
    go false true h e rest = not-zero l.number N.0 e
    go false false h e rest = rest h e

pub test-passes : (k : ℕ) (b : Bool) (ls : List Refusal) → Numbered ls → has_number k ls ≡ true
    → (first_fitting (with_test k b ls) ≡ 0) ↔ ((first_fitting ls ≡ 0) × (b ≡ false))
test-passes k true ls N h = (
  (λ e. absurd (test-refuses k ls N h e)),
  (λ p. absurd (true≢false p.1)),
)
test-passes k false ls N h = (
  (λ e. (sym (without-test k ls) ∙ e, refl)),
  (λ p. without-test k ls ∙ p.0),
)

-- ---- a line put in after another
-- one that does not hold changes nothing
pub inserted-none : (k m : ℕ) (ls : List Refusal) → first_fitting (inserted_after k (line m false) ls) ≡ first_fitting ls
unfolding first_fitting
inserted-none k m [] = refl
inserted-none k m (l ∷ ls) =
    ap (cond l.holds l.number) (go (eqb l.number k) ∙ inserted-none k m ls)
  where
    go : (t : Bool) → first_fitting (cond t (line m false ∷ inserted_after k (line m false) ls)
        (inserted_after k (line m false) ls)) ≡ first_fitting (inserted_after k (line m false) ls)
    go true = refl
    go false = refl

-- one that holds refuses
inserted-refuses : (k m : ℕ) (ls : List Refusal) → Numbered ls → has_number k ls ≡ true
    → first_fitting (inserted_after k (line (suc m) true) ls) ≡ 0 → ⊥
unfolding first_fitting
inserted-refuses k m [] N h e = true≢false (sym h)
inserted-refuses k m (l ∷ ls) N h e = go l.holds (eqb l.number k) h e (inserted-refuses k m ls N.1)
  where
    go : (v t : Bool) → (t || has_number k ls) ≡ true
        → cond v l.number (first_fitting (cond t (line (suc m) true ∷ inserted_after k (line (suc m) true) ls)
        (inserted_after k (line (suc m) true) ls))) ≡ 0
        → (has_number k ls ≡ true → first_fitting (inserted_after k (line (suc m) true) ls) ≡ 0 → ⊥) → ⊥
    go true t h e rest = not-zero l.number N.0 e
    go false true h e rest = not-zero (suc m) (omega arith) e
    go false false h e rest = rest h e

pub inserted-passes : (k m : ℕ) (b : Bool) (ls : List Refusal) → Numbered ls → has_number k ls ≡ true
    → (first_fitting (inserted_after k (line (suc m) b) ls) ≡ 0) ↔ ((first_fitting ls ≡ 0) × (b ≡ false))
inserted-passes k m true ls N h = (
  (λ e. absurd (inserted-refuses k m ls N h e)),
  (λ p. absurd (true≢false p.1)),
)
inserted-passes k m false ls N h = (
  (λ e. (sym (inserted-none k (suc m) ls) ∙ e, refl)),
  (λ p. inserted-none k (suc m) ls ∙ p.0),
)

-- ---- a line put in before another
-- one that does not hold changes nothing
pub before-none : (k m : ℕ) (ls : List Refusal) → first_fitting (inserted_before k (line m false) ls) ≡ first_fitting ls
unfolding first_fitting
before-none k m [] = refl
before-none k m (l ∷ ls) = go (eqb l.number k) ∙ ap (cond l.holds l.number) (before-none k m ls)
  where
    go : (t : Bool) → first_fitting (cond t (line m false ∷ l ∷ inserted_before k (line m false) ls)
        (l ∷ inserted_before k (line m false) ls)) ≡ first_fitting (l ∷ inserted_before k (line m false) ls)
    go true = refl
    go false = refl

-- one that holds refuses
before-refuses : (k m : ℕ) (ls : List Refusal) → Numbered ls → has_number k ls ≡ true
    → first_fitting (inserted_before k (line (suc m) true) ls) ≡ 0 → ⊥
unfolding first_fitting
before-refuses k m [] N h e = true≢false (sym h)
before-refuses k m (l ∷ ls) N h e = go l.holds (eqb l.number k) h e (before-refuses k m ls N.1)
  where
    go : (v t : Bool) → (t || has_number k ls) ≡ true
        → first_fitting (cond t (line (suc m) true ∷ line l.number v ∷ inserted_before k (line (suc m) true) ls)
        (line l.number v ∷ inserted_before k (line (suc m) true) ls)) ≡ 0
        → (has_number k ls ≡ true → first_fitting (inserted_before k (line (suc m) true) ls) ≡ 0 → ⊥) → ⊥
    go v true h e rest = not-zero (suc m) (omega arith) e
    go true false h e rest = not-zero l.number N.0 e
    go false false h e rest = rest h e

pub before-passes : (k m : ℕ) (b : Bool) (ls : List Refusal) → Numbered ls → has_number k ls ≡ true
    → (first_fitting (inserted_before k (line (suc m) b) ls) ≡ 0) ↔ ((first_fitting ls ≡ 0) × (b ≡ false))
before-passes k m true ls N h = (
  (λ e. absurd (before-refuses k m ls N h e)),
  (λ p. absurd (true≢false p.1)),
)
before-passes k m false ls N h = (
  (λ e. (sym (before-none k (suc m) ls) ∙ e, refl)),
  (λ p. before-none k (suc m) ls ∙ p.0),
)
