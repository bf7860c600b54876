-- A pivot: complementing at j, k, j, where j and k are joined, flips the edges between the closed neighbourhoods of j
-- and k.
use mathlib.Core.Bool.{◌&&◌, Bool, cond, false, not, true, ◌||◌}
use mathlib.Core.Path.{ap, ap₂, sym, ◌∙◌, ◌≡◌}
use Prim.Native.Nat.{ℕ}
use lib.Dec.{eqb}
use borrow.Author.Tests.{eqb-true}
use Rattle.words.proofs.Finite.{bits}
use Rattle.words.proofs.Flags.{implies, same_bit-true}
use Rattle.words.proofs.Places.{place-comm}
use Rattle.words.specs.Bits.{same_bit, ◌⊕◌}
use Rattle.record.proofs.Complement.{under}
use Rattle.record.specs.Graph.{Graph, Simple, complement}
use Rattle.record.specs.internal.Joined.{closed, joined_by}
use Rattle.record.specs.internal.NeighbourWords.{SameGraph}

-- ---- at two places x and y; the bits say: J and K, x is j, k; J' and K', y is; E, x is y; t, they are joined; a and
-- b, j is joined to x, y; c and d, k is. In a simple graph where j and k are joined:
abbrev at_end : Bool → Bool → Bool → Bool → Bool → Bool → Bool → Bool
at_end J a c t b E H = not J || (not a && (c && (same_bit t b && same_bit E H)))

abbrev known : Bool → Bool → Bool → Bool → Bool → Bool → Bool → Bool → Bool → Bool → Bool
known J K J' K' E t a b c d =
    at_end J a c t b E J'
    && (at_end K c a t d E K'
    && (at_end J' b d t a E J
    && (at_end K' d b t c E K
    && (not E || (not t && (same_bit a b && same_bit c d))))))

-- the edge after each of the three; jj, jk and kj say which of j and k are joined, e whether they are the same
abbrev once : Bool → Bool → Bool → Bool → Bool
once E t a b = t ⊕ ((a && b) && not E)

abbrev thrice : Bool → Bool → Bool → Bool → Bool → Bool → Bool → Bool → Bool → Bool → Bool → Bool → Bool → Bool → Bool
thrice jj jk kj e J K J' K' E t a b c d =
    once E (once E (once E t a b) (once K c jk a) (once K' d jk b))
    (once J (once J a jj a) (once e kj jk jj) (once K c jk a))
    (once J' (once J' b jj b) (once e kj jk jj) (once K' d jk b))

abbrev between : Bool → Bool → Bool → Bool → Bool → Bool → Bool → Bool → Bool → Bool → Bool
between J K J' K' E t a b c d = t ⊕ (((a || J) && (d || K')) ⊕ ((c || K) && (b || J')))

edge_at : (jj jk kj e J K J' K' E t a b c d : Bool) → jj ≡ false → jk ≡ true → kj ≡ true
    → known J K J' K' E t a b c d ≡ true
    → thrice jj jk kj e J K J' K' E t a b c d ≡ between J K J' K' E t a b c d
edge_at jj jk kj e J K J' K' E t a b c d hjj hjk hkj h =
    ap (λ v. thrice v jk kj e J K J' K' E t a b c d) hjj
    ∙ ap₂ (λ v w. thrice false v w e J K J' K' E t a b c d) hjk hkj
    ∙ under (known J K J' K' E t a b c d) (thrice false true true e J K J' K' E t a b c d)
    (between J K J' K' E t a b c d) h
    (bits 10 (λ J K J' K' E t a b c d. cond (known J K J' K' E t a b c d)
    (thrice false true true e J K J' K' E t a b c d)
    (between J K J' K' E t a b c d)) between tt J K J' K' E t a b c d)

module _ (n : ℕ) (θ : Graph) (S : Simple n θ) (j k : ℕ) (edge : θ j k ≡ true) where
  back : θ k j ≡ true
  back = S.symmetric k j ∙ edge

  -- what is known of x where x is one end v of the edge, and w the other
  at-end : (v w x y : ℕ) → θ w v ≡ true
      → at_end (eqb x v) (θ v x) (θ w x) (θ x y) (θ v y) (eqb y x) (eqb y v) ≡ true
  at-end v w x y h = implies (eqb x v) _ (λ d. let e = eqb-true x v d in
      ap₂ (λ s t. not s && t) (ap (θ v) e ∙ S.loopless v)
      (ap₂ ◌&&◌ (ap (θ w) e ∙ h)
      (ap₂ ◌&&◌ (same_bit-true (ap (λ m. θ m y) e)) (same_bit-true (ap (eqb y) e)))))

  -- the same with the places exchanged
  at_other : (v w x y : ℕ) → θ w v ≡ true
      → at_end (eqb y v) (θ v y) (θ w y) (θ x y) (θ v x) (eqb y x) (eqb x v) ≡ true
  at_other v w x y h =
      ap₂ (λ s t. at_end (eqb y v) (θ v y) (θ w y) s (θ v x) t (eqb x v)) (S.symmetric x y) (place-comm y x)
      ∙ at-end v w y x h

  possible : (x y : ℕ)
      → known (eqb x j) (eqb x k) (eqb y j) (eqb y k) (eqb y x) (θ x y) (θ j x) (θ j y) (θ k x) (θ k y) ≡ true
  possible x y =
      ap₂ ◌&&◌ (at-end j k x y back)
      (ap₂ ◌&&◌ (at-end k j x y edge)
      (ap₂ ◌&&◌ (at_other j k x y back)
      (ap₂ ◌&&◌ (at_other k j x y edge) same)))
    where
      same : (not (eqb y x) || (not (θ x y) && (same_bit (θ j x) (θ j y) && same_bit (θ k x) (θ k y)))) ≡ true
      same = implies (eqb y x) _ (λ d. let e = eqb-true y x d in
          ap₂ (λ s t. not s && t) (ap (θ x) e ∙ S.loopless x)
          (ap₂ ◌&&◌ (same_bit-true (ap (θ j) (sym e))) (same_bit-true (ap (θ k) (sym e)))))

  pub pivot-between : SameGraph (complement (complement (complement θ j) k) j) (joined_by θ (closed θ j) (closed θ k))
  pivot-between x y =
      edge_at (θ j j) (θ j k) (θ k j) (eqb j k) (eqb x j) (eqb x k) (eqb y j) (eqb y k) (eqb y x) (θ x y) (θ j x)
      (θ j y) (θ k x) (θ k y) (S.loopless j) edge back (possible x y)
