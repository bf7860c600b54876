-- Steps as parallel lists of numbers: how many, which, and what a store changes.
use mathlib.Core.List.{List}
use mathlib.Core.Path.{◌∙◌, ◌≡◌, ap, refl, subst, sym}
use Prim.Native.Nat.{◌<◌, ◌+◌, ◌≤◌, suc, zero, ℕ}
use native.Mathlib.Decide.{ℕ_discrete}
use native.Mathlib.Nat.{le_of_suc-le-suc, not-suc-le-zero}
use native.Mathlib.Omega.{arith}
use lib.ListN.{drop, get_or, get_or-replicate, length, length-drop, length-replicate, length-set, replicate, set, take}
use lib.Seq.{ext_get_or, get_or-drop, get_or-set_other, get_or-set_same, get_or-take, length-take-le}
use Rattle.jobs.specs.declared.Op.{Op}
use Rattle.jobs.specs.declared.Op.TheVariants.{Complement, Cz, Gate, Measure, Observe, Pivot, Renew}
use Rattle.jobs.specs.declared.Step.{Step}
use Rattle.jobs.specs.Parallel.{steps_below, numbered, numbered_op, step_in, steps_in}
use Rattle.jobs.specs.internal.Parallel.{op_number}

pub op-back : (op : Op) → numbered_op (op_number op) ≡ op
unfolding numbered_op
op-back Gate = refl
op-back Cz = refl
op-back Measure = refl
op-back Complement = refl
op-back Pivot = refl
op-back Observe = refl
op-back Renew = refl

-- ---- steps_below steps
listed-long : (n : ℕ) (f : ℕ → Step) → length (steps_below n f) ≡ n
unfolding steps_below
listed-long zero f = refl
listed-long (suc n) f = ap suc (listed-long n (λ k. f (suc k)))

listed_at : (n : ℕ) (f : ℕ → Step) (i : ℕ) (other : Step) → i < n → get_or (steps_below n f) i other ≡ f i
unfolding steps_below
listed_at zero f i other l = absurd (not-suc-le-zero l)
listed_at (suc n) f zero other l = refl
listed_at (suc n) f (suc i) other l = listed_at n (λ k. f (suc k)) i other (le_of_suc-le-suc l)

module _ (ops a b value : List ℕ) where
  pub steps-long : length (steps_in ops a b value) ≡ length ops
  steps-long = listed-long (length ops) (step_in ops a b value)

  pub steps-at : (k : ℕ) (other : Step) → k < length ops
      → get_or (steps_in ops a b value) k other ≡ step_in ops a b value k
  steps-at k other l = listed_at (length ops) (step_in ops a b value) k other l

  -- a list that holds them, by its places
  pub steps-are : (steps : List Step) (other : Step) → length steps ≡ length ops
      → ((k : ℕ) → k < length ops → get_or steps k other ≡ step_in ops a b value k) → steps ≡ steps_in ops a b value
  steps-are steps other e h = ext_get_or other steps (steps_in ops a b value) (e ∙ sym steps-long)
      (λ k l. h k (subst (λ m. k < m) e l) ∙ sym (steps-at k other (subst (λ m. k < m) e l)))

  -- the first steps of a block are those of the lists from a place on
  pub block-is : (steps : List Step) (other : Step) (from count : ℕ) → from + count ≤ length ops → count ≤ length steps
      → ((k : ℕ) → k < count → get_or steps k other ≡ step_in ops a b value (from + k))
      → take count steps ≡ take count (drop from (steps_in ops a b value))
  block-is steps other from count room few h =
      ext_get_or other (take count steps) (take count (drop from (steps_in ops a b value))) (left ∙ sym right)
      (λ k l. let small = subst (λ m. k < m) left l in
      get_or-take count steps k other small ∙ h k small
      ∙ sym (get_or-take count (drop from (steps_in ops a b value)) k other small
      ∙ get_or-drop from (steps_in ops a b value) k other ∙ steps-at (from + k) other (omega arith)))
    where
      left : length (take count steps) ≡ count
      left = length-take-le count steps few

      right : length (take count (drop from (steps_in ops a b value))) ≡ count
      right = length-take-le count (drop from (steps_in ops a b value))
          (omega (arith, length-drop from (steps_in ops a b value), steps-long))

-- zeros
pub steps-zero : (n : ℕ) → replicate n (numbered 0 0 0 0) ≡ steps_in (replicate n 0) (replicate n 0) (replicate n 0)
    (replicate n 0)
steps-zero n = steps-are (replicate n 0) (replicate n 0) (replicate n 0) (replicate n 0)
    (replicate n (numbered 0 0 0 0))
    (numbered 0 0 0 0) (length-replicate n (numbered 0 0 0 0) ∙ sym (length-replicate n 0))
    (λ k l. let small = subst (λ m. k < m) (length-replicate n 0) l in
    get_or-replicate n k (numbered 0 0 0 0) (numbered 0 0 0 0) small
    ∙ sym (ap (λ v. numbered v v v v) (get_or-replicate n k 0 0 small)))

-- a step stored
pub steps-set : (ops a b value : List ℕ) (k o x y z : ℕ) → k < length ops → length a ≡ length ops → length b ≡ length
    ops
    → length value ≡ length ops
    → set (steps_in ops a b value) k (numbered o x y z) ≡ steps_in (set ops k o) (set a k x) (set b k y) (set value k z)
steps-set ops a b value k o x y z inside ea eb ev =
    steps-are (set ops k o) (set a k x) (set b k y) (set value k z) (set (steps_in ops a b value) k (numbered o x y z))
    other
    (length-set (steps_in ops a b value) k (numbered o x y z) ∙ steps-long ops a b value ∙ sym (length-set ops k o))
    (λ j l. go j (subst (λ m. j < m) (length-set ops k o) l) (ℕ_discrete j k))
  where
    other : Step
    other = numbered 0 0 0 0

    go : (j : ℕ) → j < length ops → Dec (j ≡ k) → get_or (set (steps_in ops a b value) k (numbered o x y z)) j other
        ≡ step_in (set ops k o) (set a k x) (set b k y) (set value k z) j
    go j l (yes e) = subst (λ j. get_or (set (steps_in ops a b value) k (numbered o x y z)) j other
        ≡ step_in (set ops k o) (set a k x) (set b k y) (set value k z) j) (sym e)
        (get_or-set_same (steps_in ops a b value) k (numbered o x y z) other
        (subst (λ m. k < m) (sym (steps-long ops a b value)) inside)
        ∙ sym ((λ i. numbered (get_or-set_same ops k o 0 inside i)
        (get_or-set_same a k x 0 (subst (λ m. k < m) (sym ea) inside) i)
        (get_or-set_same b k y 0 (subst (λ m. k < m) (sym eb) inside) i)
        (get_or-set_same value k z 0 (subst (λ m. k < m) (sym ev) inside) i))))
    go j l (no h) = get_or-set_other (steps_in ops a b value) k j (numbered o x y z) other h ∙ steps-at ops a b value j
        other l
        ∙ sym ((λ i. numbered (get_or-set_other ops k j o 0 h i) (get_or-set_other a k j x 0 h i)
        (get_or-set_other b k j y 0 h i) (get_or-set_other value k j z 0 h i)))
