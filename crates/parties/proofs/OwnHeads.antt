-- The heads of a party's four places in a store of eight, after a place of the eight is written or made free; a party
-- above
-- 1 has none.
use mathlib.Core.List.{[], List}
use mathlib.Core.Logic.{inl, inr, ◌⊎◌}
use mathlib.Core.Path.{ap, sym, ◌∙◌, ◌≡◌}
use Prim.Native.Nat.{◌*◌, ◌+◌, ◌-◌, ◌<◌, ◌≤◌, min, ℕ}
use native.Mathlib.Nat.{eq-or-lt_of_le, min-le_left}
use native.Mathlib.Omega.{arith}
use lib.ListN.{drop, drop_of_length-le, get_or, length, length-drop, length-take, set, take}
use lib.Seq.{
  drop-set-add,
  drop-set-lt,
  get_or-drop,
  get_or-take,
  length-take-le,
  take_all,
  take-nil,
  take-set-le,
  take-set-lt,
}
use Rattle.store.specs.Kept.{headed}
use Rattle.words.proofs.Sums.{lt-or-ge}
use Rattle.parties.specs.PartyStores.{own_heads}

-- ---- a part of a list
pub part-long : (a m : ℕ) (buffer : List ℕ) → a + m ≤ length buffer → length (take m (drop a buffer)) ≡ m
part-long a m buffer l = length-take-le m (drop a buffer) (simp length-drop (omega (arith, l)))

-- ---- the heads of a party's places
-- the 24 words are all that a store has
pub own-heads-of : (g : ℕ) (heads : List ℕ) → length heads ≡ 24 → own_heads g heads ≡ take 12 (drop (12 * g) heads)
own-heads-of g heads e = ap (λ l. take 12 (drop (12 * g) l)) (take_all 24 heads (omega (arith, e)))

pub own-heads-long : (g : ℕ) (heads : List ℕ) → g < 2 → length heads ≡ 24 → length (own_heads g heads) ≡ 12
own-heads-long g heads lg e = ap length (own-heads-of g heads e) ∙ part-long (12 * g) 12 heads (omega (arith, lg, e))

-- a party above 1 has none
pub no-heads : (g : ℕ) (heads : List ℕ) → 1 < g → own_heads g heads ≡ []
no-heads g heads l =
    ap (take 12) (drop_of_length-le (take 24 heads) (few (length (take 24 heads)) (length-take 24 heads))) ∙ take-nil 12
  where
    few : (k : ℕ) → k ≡ min 24 (length heads) → k ≤ 12 * g
    few k e = omega (arith, l, e, min-le_left 24 (length heads))

pub own-head : (g : ℕ) (heads : List ℕ) (j : ℕ) → g < 2 → j < 12
    → get_or (own_heads g heads) j 0 ≡ get_or heads (12 * g + j) 0
own-head g heads j lg l =
    get_or-take 12 (drop (12 * g) (take 24 heads)) j 0 l ∙ get_or-drop (12 * g) (take 24 heads) j 0
    ∙ get_or-take 24 heads (12 * g + j) 0 (omega (arith, lg, l))

-- one word of the 24 written
module _ (g : ℕ) (heads : List ℕ) (i v : ℕ) (inside : i < 24) where
  abbrev part : List ℕ → List ℕ
  part l = take 12 (drop (12 * g) l)

  front : own_heads g (set heads i v) ≡ part (set (take 24 heads) i v)
  front = ap part (take-set-lt 24 heads i v inside)

  own-set : (j : ℕ) → i ≡ 12 * g + j → j < 12 → own_heads g (set heads i v) ≡ set (own_heads g heads) j v
  own-set j e l =
      front ∙ ap (λ k. part (set (take 24 heads) k v)) e
      ∙ ap (take 12) (drop-set-add (12 * g) (take 24 heads) j v)
      ∙ take-set-lt 12 (drop (12 * g) (take 24 heads)) j v l

  before-set : i < 12 * g → own_heads g (set heads i v) ≡ own_heads g heads
  before-set l = front ∙ ap (take 12) (drop-set-lt (12 * g) (take 24 heads) i v l)

  after-set : 12 * g + 12 ≤ i → own_heads g (set heads i v) ≡ own_heads g heads
  after-set l =
      front ∙ ap (λ k. part (set (take 24 heads) k v)) there
      ∙ ap (take 12) (drop-set-add (12 * g) (take 24 heads) (i - 12 * g) v)
      ∙ take-set-le 12 (drop (12 * g) (take 24 heads)) (i - 12 * g) v (omega (arith, l))
    where
      there : i ≡ 12 * g + (i - 12 * g)
      there = omega (arith, l)

-- before or after
pub side : (g h : ℕ) → (g ≡ h → ⊥) → (g < h) ⊎ (h < g)
side g h ne = elim (lt-or-ge g h) [
  | inl l ↦ inl l
  | inr l ↦ elim (eq-or-lt_of_le l) [ inl e ↦ absurd (ne (sym e)) | inr k ↦ inr k ]
]

-- word d of place p of party h
module _ (h p d : ℕ) (lh : h < 2) (lp : p < 4) (ld : d < 3) (heads : List ℕ) (i v : ℕ) (e : i ≡ 3 * (4 * h + p) + d)
  where
    inside : i < 24
    inside = omega (arith, lh, lp, ld, e)

    own-word : (j : ℕ) → j ≡ 3 * p + d → own_heads h (set heads i v) ≡ set (own_heads h heads) j v
    own-word j f = own-set h heads i v inside j (omega (arith, e, f)) (omega (arith, lp, ld, f))

    other_word : (g : ℕ) → (g ≡ h → ⊥) → own_heads g (set heads i v) ≡ own_heads g heads
    other_word g ne = elim (side g h ne) [
      | inl l ↦ after-set g heads i v inside (omega (arith, l, e))
      | inr l ↦ before-set g heads i v inside (omega (arith, l, lp, ld, e))
    ]

-- ---- the three words of a place
module _ (g p n name used : ℕ) (heads : List ℕ) (lg : g < 2) (lp : p < 4) where
  abbrev at : ℕ
  at = 3 * (4 * g + p)

  pub headed-own : own_heads g (headed (4 * g + p) n name used heads) ≡ headed p n name used (own_heads g heads)
  headed-own =
      own-word g p 2 lg lp (omega arith) (set (set heads at n) (at + 1) name) (at + 2) used (omega arith)
      (3 * p + 2) (omega arith)
      ∙ ap (λ l. set l (3 * p + 2) used) (own-word g p 1 lg lp (omega arith) (set heads at n) (at + 1) name
      (omega arith)
      (3 * p + 1) (omega arith)
      ∙ ap (λ l. set l (3 * p + 1) name) (own-word g p 0 lg lp (omega arith) heads at n (omega arith) (3 * p)
      (omega arith)))

  pub headed-other : (h : ℕ) → (h ≡ g → ⊥) → own_heads h (headed (4 * g + p) n name used heads) ≡ own_heads h heads
  headed-other h ne =
      other_word g p 2 lg lp (omega arith) (set (set heads at n) (at + 1) name) (at + 2) used (omega arith) h ne
      ∙ other_word g p 1 lg lp (omega arith) (set heads at n) (at + 1) name (omega arith) h ne
      ∙ other_word g p 0 lg lp (omega arith) heads at n (omega arith) h ne

-- the first word of a place
pub freed-own-heads : (g p : ℕ) → g < 2 → p < 4 → (heads : List ℕ)
    → own_heads g (set heads (3 * (4 * g + p)) 0) ≡ set (own_heads g heads) (3 * p) 0
freed-own-heads g p lg lp heads =
    own-word g p 0 lg lp (omega arith) heads (3 * (4 * g + p)) 0 (omega arith) (3 * p) (omega arith)

pub freed-other-heads : (g p : ℕ) → g < 2 → p < 4 → (h : ℕ) → (h ≡ g → ⊥) → (heads : List ℕ)
    → own_heads h (set heads (3 * (4 * g + p)) 0) ≡ own_heads h heads
freed-other-heads g p lg lp h ne heads = other_word g p 0 lg lp (omega arith) heads (3 * (4 * g + p)) 0 (omega arith) h
    ne
