-- Whether some number of a buffer is b or above, by a loop over its places.
use mathlib.Core.Bool.{Bool, ◌||◌, false, true}
use mathlib.Core.List.{List}
use mathlib.Core.Path.{ap, ◌≡◌, refl, subst, sym, ◌∙◌}
use Prim.Native.Nat.{◌+◌, ◌<◌, ◌^◌, zero-le, ℕ, ◌≤◌}
use native.Mathlib.Nat.{add-suc, add-zero, lt_of_lt_of_le}
use native.Mathlib.Omega.{arith}
use lib.Bits.{and_le_l, and_le_r, bit_or, or_add_and, or_lt}
use lib.Dec.{leb}
use lib.ListN.{get_or, length}
use lib.Pow.{pow_pos}
use borrow.Author.Tests.{le-leb, leb-false, leb-true, lt-leb}
use Rattle.words.specs.Search.{some}
use Rattle.words.proofs.SearchLaws.{some-false, some-none}
use Rattle.buffers.specs.Refusals.{reaching}

-- no place has it
pub reaches-not : (b : ℕ) (buffer : List ℕ) (i : ℕ) → length buffer ≤ i →
    ((j : ℕ) → j < i → leb b (get_or buffer j 0) ≡ false) → reaching b buffer ≡ false
unfolding reaching
reaches-not b buffer i l h =
    some-none (length buffer) (λ j. leb b (get_or buffer j 0)) (λ j k. h j (lt_of_lt_of_le k l))

-- what it means that none does
pub below_all : (b : ℕ) (buffer : List ℕ) → reaching b buffer ≡ false → (i : ℕ) → i < length buffer →
    get_or buffer i 0 < b
unfolding reaching
below_all b buffer e i l =
    leb-false b (get_or buffer i 0) (some-false (length buffer) (λ j. leb b (get_or buffer j 0)) e i l)

-- the invariant of a loop without exit: whether one of the places below i has it
pub record SomeBelow (b : ℕ) (buffer : List ℕ) (found : Bool) (i : ℕ) : Type 0 where
  pub upto : i ≤ length buffer
  pub held : found ≡ some i (λ j. leb b (get_or buffer j 0))

pub some-yet : (b : ℕ) (buffer : List ℕ) → SomeBelow b buffer false 0
unfolding some
some-yet b buffer = record { upto = zero-le; held = refl }

pub some-here : (b : ℕ) (buffer : List ℕ) (found : Bool) (i : ℕ) → SomeBelow b buffer found i → i < length buffer →
    SomeBelow b buffer (found || leb b (get_or buffer i 0)) (i + 1)
unfolding some
some-here b buffer found i S l = record {
  upto = omega arith;
  held = rw (add-suc, add-zero) (ap (λ v. v || leb b (get_or buffer i 0)) S.held);
}

pub some-all : (b : ℕ) (buffer : List ℕ) (found : Bool) (i : ℕ) → SomeBelow b buffer found i → length buffer ≤ i →
    found ≡ reaching b buffer
unfolding reaching
some-all b buffer found i S l =
    let upto : i ≤ length buffer = S.upto in
    let whole : i ≡ length buffer = omega arith in
    S.held ∙ ap (λ k. some k (λ j. leb b (get_or buffer j 0))) whole

-- the union of words reaches 2 ^ n exactly if one of them does
pub or-reaches : (n a b : ℕ) → leb (2 ^ n) (bit_or a b) ≡ (leb (2 ^ n) a || leb (2 ^ n) b)
or-reaches n a b = go (leb (2 ^ n) a) (leb (2 ^ n) b) refl refl
  where
    go : (u v : Bool) → leb (2 ^ n) a ≡ u → leb (2 ^ n) b ≡ v → leb (2 ^ n) (bit_or a b) ≡ (u || v)
    go true v e f = le-leb (2 ^ n) (bit_or a b) (omega (arith, leb-true (2 ^ n) a e, or_add_and a b, and_le_r a b))
    go false true e f = le-leb (2 ^ n) (bit_or a b) (omega (arith, leb-true (2 ^ n) b f, or_add_and a b, and_le_l a b))
    go false false e f = lt-leb _ _ (or_lt n a b (leb-false _ _ e) (leb-false _ _ f))

-- no word is 2 ^ n or above before the first
pub zero-reaches : (n : ℕ) → false ≡ leb (2 ^ n) 0
zero-reaches n = sym (lt-leb _ _ (pow_pos n))

-- the invariant of that loop for the union of the words
pub some-yet-or : (n : ℕ) (buffer : List ℕ) → SomeBelow (2 ^ n) buffer (leb (2 ^ n) 0) 0
some-yet-or n buffer = subst (λ v. SomeBelow (2 ^ n) buffer v 0) (zero-reaches n) (some-yet (2 ^ n) buffer)

pub some-here-or : (n : ℕ) (buffer : List ℕ) (all i : ℕ) → SomeBelow (2 ^ n) buffer (leb (2 ^ n) all) i →
    i < length buffer → SomeBelow (2 ^ n) buffer (leb (2 ^ n) (bit_or all (get_or buffer i 0))) (i + 1)
some-here-or n buffer all i S l = subst (λ v. SomeBelow (2 ^ n) buffer v (i + 1))
    (sym (or-reaches n all (get_or buffer i 0))) (some-here (2 ^ n) buffer (leb (2 ^ n) all) i S l)
