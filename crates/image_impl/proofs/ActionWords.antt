-- The words of a record's codes: no bit at or above n, for a property that code 0 does not have.
use mathlib.Core.Bool.{◌&&◌, Bool, false}
use mathlib.Core.List.{List}
use mathlib.Core.Logic.{inl, inr}
use mathlib.Core.Path.{ap, ap₂, refl, sym, ◌∙◌, ◌≡◌}
use Prim.Native.Nat.{◌<◌, ◌^◌, ℕ, ◌≤◌}
use native.Mathlib.Nat.{le_of_eq, le_trans}
use native.Mathlib.Omega.{arith}
use lib.Bits.{bit_and}
use lib.ListN.{get_or-eq_default, length}
use Rattle.clifford.specs.Clifford.{Clifford, clifford_of, image}
use Rattle.clifford.specs.Vectors.{codes_of}
use Rattle.clifford_impl.specs.declared.rows.Action.{Action}
use Rattle.clifford_impl.specs.internal.Actions.{ActsAs}
use Rattle.image.specs.Image.{is_y}
use Rattle.pauli.specs.Pauli.{z_bit}
use Rattle.pauli.specs.declared.Letter.TheVariants.{X}
use Rattle.words.proofs.BitLaws.{bit-above, bit-and}
use Rattle.words.proofs.Sums.{lt-or-ge}
use Rattle.words.specs.Bits.{bit}

module _ (codes : List ℕ) (n : ℕ) (long : length codes ≡ n) (small : n ≤ 64) where
  -- at and above n stands code 0
  no_code : (q : ℕ) → n ≤ q → codes_of codes q ≡ clifford_of 0
  no_code q m = ap clifford_of (get_or-eq_default codes 0 (le_trans (le_of_eq long) m))

  module _ (f : Clifford → Bool) (none : f (clifford_of 0) ≡ false) (w : ℕ) (below : w < 2 ^ 64)
      (acts : (q : ℕ) → q < 64 → bit w q ≡ f (codes_of codes q)) where
    pub word-is : (q : ℕ) → bit w q ≡ f (codes_of codes q)
    word-is q = elim (lt-or-ge q 64) [
      | inl l ↦ acts q l
      | inr l ↦ bit-above 64 w below q l ∙ sym (ap f (no_code q (le_trans small l)) ∙ none)
    ]

    pub word-above : (q : ℕ) → n ≤ q → bit w q ≡ false
    word-above q m = word-is q ∙ ap f (no_code q m) ∙ none

  module _ (k : Action) (A : ActsAs (codes_of codes) k) where
    -- X goes to Y
    pub y-here : (q : ℕ) → q < n → bit (bit_and k.b k.d) q ≡ is_y (image (codes_of codes q) X)
    y-here q l =
        bit-and k.b k.d q ∙ ap₂ ◌&&◌ (A.B q (omega (arith, l, small))) (A.D q (omega (arith, l, small)))

    pub y-above : k.b < 2 ^ 64 → (q : ℕ) → n ≤ q → bit (bit_and k.b k.d) q ≡ false
    y-above below q m =
        bit-and k.b k.d q
        ∙ ap (λ b. b && bit k.d q) (word-above (λ c. z_bit (image c X)) refl k.b below A.B q m)

    pub sx-here : (q : ℕ) → q < n → bit k.sx q ≡ (codes_of codes q).sx
    sx-here q l = A.SX q (omega (arith, l, small))

    pub sz-here : (q : ℕ) → q < n → bit k.sz q ≡ (codes_of codes q).sz
    sz-here q l = A.SZ q (omega (arith, l, small))

    pub sz-above : k.sz < 2 ^ 64 → (q : ℕ) → n ≤ q → bit k.sz q ≡ false
    sz-above below = word-above (λ c. c.sz) refl k.sz below A.SZ
