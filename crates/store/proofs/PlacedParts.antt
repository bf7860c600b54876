-- Words and parts of a store's buffers after a place is written: its own, and those of other places.
use mathlib.Core.List.{List, ◌++◌, append_assoc}
use mathlib.Core.Logic.{inl, inr, ◌≢◌}
use mathlib.Core.Path.{◌∙◌, ◌≡◌, ap, ap₂, refl, sym}
use Prim.Native.Nat.{◌*◌, ◌+◌, ◌-◌, ◌<◌, ◌≤◌, ℕ}
use native.Mathlib.Nat.{eq-or-lt_of_le}
use native.Mathlib.Omega.{arith}
use lib.ListN.{drop, get_or, length, length-append, length-drop, length-set, set, take, take-append-drop}
use lib.Seq.{
  drop-append-add,
  drop-append-le,
  drop_at,
  drop-drop,
  get_or-set_other,
  get_or-set_same,
  length-take-le,
  take-append-le,
  take_at,
}
use Rattle.words.proofs.Sums.{lt-or-ge}
use Rattle.store.specs.Kept.{headed, placed_at}
use Rattle.store.specs.Places.{count_at, name_at, part_at}

-- a part of the front of a list
pub part-front : (a m : ℕ) (front back : List ℕ) → a + m ≤ length front
    → take m (drop a (front ++ back)) ≡ take m (drop a front)
part-front a m front back l =
    ap (take m) (drop-append-le a front back (omega (arith, l)))
    ∙ take-append-le m (drop a front) back (simp length-drop (omega (arith, l)))

-- ---- heads
module _ (p n name used : ℕ) (heads : List ℕ) (l : 3 * p + 3 ≤ length heads) where
  pub headed-long : length (headed p n name used heads) ≡ length heads
  headed-long = simp length-set

  pub headed-count : count_at (headed p n name used heads) p ≡ n
  headed-count =
      get_or-set_other (set (set heads (3 * p) n) (3 * p + 1) name) (3 * p + 2) (3 * p) used 0 (λ e. omega (arith, e))
      ∙ get_or-set_other (set heads (3 * p) n) (3 * p + 1) (3 * p) name 0 (λ e. omega (arith, e))
      ∙ get_or-set_same heads (3 * p) n 0 (omega (arith, l))

  pub headed-name : name_at (headed p n name used heads) p ≡ name
  headed-name =
      get_or-set_other (set (set heads (3 * p) n) (3 * p + 1) name) (3 * p + 2) (3 * p + 1) used 0 (λ e. omega (arith, e))
      ∙ get_or-set_same (set heads (3 * p) n) (3 * p + 1) name 0 (simp length-set (omega (arith, l)))

  pub headed-used : get_or (headed p n name used heads) (3 * p + 2) 0 ≡ used
  headed-used = get_or-set_same (set (set heads (3 * p) n) (3 * p + 1) name) (3 * p + 2) used 0
      (simp length-set (omega (arith, l)))

pub headed-other : (p n name used : ℕ) (heads : List ℕ) (j : ℕ) → j ≢ 3 * p → j ≢ 3 * p + 1 → j ≢ 3 * p + 2
    → get_or (headed p n name used heads) j 0 ≡ get_or heads j 0
headed-other p n name used heads j a b c =
    get_or-set_other (set (set heads (3 * p) n) (3 * p + 1) name) (3 * p + 2) j used 0 c
    ∙ get_or-set_other (set heads (3 * p) n) (3 * p + 1) j name 0 b ∙ get_or-set_other heads (3 * p) j n 0 a

-- ---- parts
module _ (p : ℕ) (new old : List ℕ) (few : length new ≤ 64) (l : 64 * p + 64 ≤ length old) where
  before-long : length (take (64 * p) old) ≡ 64 * p
  before-long = length-take-le (64 * p) old (omega (arith, l))

  pub placed-long : length (placed_at p new old) ≡ length old
  placed-long =
      length-append (take (64 * p) old) (new ++ drop (64 * p + length new) old)
      ∙ ap₂ ◌+◌ before-long (length-append new (drop (64 * p + length new) old)
      ∙ ap (λ m. length new + m) (length-drop (64 * p + length new) old)) ∙ sum (length new) few
    where
      sum : (m : ℕ) → m ≤ 64 → 64 * p + (m + (length old - (64 * p + m))) ≡ length old
      sum m h = omega (arith, h, l)

  pub placed-own : part_at p (length new) (placed_at p new old) ≡ new
  placed-own =
      ap (take (length new)) (drop_at (take (64 * p) old) (new ++ drop (64 * p + length new) old) (64 * p) before-long)
      ∙ take_at new (drop (64 * p + length new) old) (length new) refl

  pub placed-before : (i m : ℕ) → i < p → m ≤ 64 → part_at i m (placed_at p new old) ≡ part_at i m old
  placed-before i m h few' =
      part-front (64 * i) m (take (64 * p) old) (new ++ drop (64 * p + length new) old) fits
      ∙ sym (part-front (64 * i) m (take (64 * p) old) (drop (64 * p) old) fits)
      ∙ ap (λ b. take m (drop (64 * i) b)) (take-append-drop (64 * p) old)
    where
      fits : 64 * i + m ≤ length (take (64 * p) old)
      fits = omega (arith, h, few', before-long)

  -- one that begins after
  pub placed-after : (i m : ℕ) → p < i → part_at i m (placed_at p new old) ≡ part_at i m old
  placed-after i m h = ap (take m)
      (ap (drop (64 * i)) (sym (append_assoc (take (64 * p) old) new (drop (64 * p + length new) old)))
      ∙ ap (λ j. drop j ((take (64 * p) old ++ new) ++ drop (64 * p + length new) old)) (sym at)
      ∙ drop-append-add (take (64 * p) old ++ new) (drop (64 * p + length new) old) (64 * i - (64 * p + length new))
      ∙ drop-drop (64 * i - (64 * p + length new)) (64 * p + length new) old
      ∙ ap (λ j. drop j old) back)
    where
      seam : length (take (64 * p) old ++ new) ≡ 64 * p + length new
      seam = length-append (take (64 * p) old) new ∙ ap (λ m. m + length new) before-long

      back : 64 * p + length new + (64 * i - (64 * p + length new)) ≡ 64 * i
      back = whole (length new) few
        where
          whole : (m : ℕ) → m ≤ 64 → 64 * p + m + (64 * i - (64 * p + m)) ≡ 64 * i
          whole m few' = omega (arith, h, few')

      at : length (take (64 * p) old ++ new) + (64 * i - (64 * p + length new)) ≡ 64 * i
      at = ap (λ m. m + (64 * i - (64 * p + length new))) seam ∙ back

  pub placed-other : (i m : ℕ) → (i ≡ p → ⊥) → m ≤ 64 → part_at i m (placed_at p new old) ≡ part_at i m old
  placed-other i m h few' = elim (lt-or-ge i p) [
    | inl a ↦ placed-before i m a few'
    | inr a ↦ elim (eq-or-lt_of_le a) [ inl e ↦ absurd (h (sym e)) | inr b ↦ placed-after i m b ]
  ]
