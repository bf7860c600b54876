-- The action of codes from their digits, each block and each sign by one test over the 24 codes.
use mathlib.Core.Bool.{◌&&◌, Bool, ◌||◌, true}
use mathlib.Core.List.{List}
use mathlib.Core.Path.{ap₂, refl, subst, sym, ◌∙◌, ◌≡◌}
use Prim.Native.Nat.{◌<◌, ℕ}
use lib.Bits.{bit_and, bit_or, bit_xor}
use lib.Dec.{T}
use lib.ListN.{get_or}
use Rattle.clifford.specs.Clifford.{Clifford, bit_c, bit_d, clifford_of, image, image_phase}
use Rattle.clifford.specs.Vectors.{codes_of}
use Rattle.pauli.specs.Pauli.{sign_bit, z_bit}
use Rattle.pauli.specs.declared.Letter.TheVariants.{X, Y, Z}
use Rattle.words.proofs.BitLaws.{bit-and, bit_mask, bit-or, bit-xor}
use Rattle.words.proofs.Finite.{same_bit→≡}
use Rattle.words.proofs.SearchLaws.{every-at}
use Rattle.words.specs.Bits.{◌⊕◌, bit, same_bit}
use Rattle.words.specs.Search.{every}
use Rattle.clifford_impl.specs.internal.Actions.{ActsAs}

-- ---- one code
-- a property of a code, from its five digits
abbrev by_digits : (Bool → Bool → Bool → Bool → Bool → Bool) → ℕ → Bool
by_digits f c = f (bit c 0) (bit c 1) (bit c 2) (bit c 3) (bit c 4)

module _ (f : Bool → Bool → Bool → Bool → Bool → Bool) (p : Clifford → Bool) where
  every-by_digits : every 24 (λ c. same_bit (by_digits f c) (p (clifford_of c))) ≡ true → (c : ℕ) → c < 24
      → by_digits f c ≡ p (clifford_of c)
  every-by_digits e c l =
      same_bit→≡ _ _ (subst T (sym (every-at 24 (λ c. same_bit (by_digits f c) (p (clifford_of c))) e c l)) tt)

abbrev bits_a : Bool → Bool → Bool → Bool → Bool → Bool
bits_a sz sx low middle high = true ⊕ ((middle || high) ⊕ ((middle || high) && low))

abbrev bits_b : Bool → Bool → Bool → Bool → Bool → Bool
bits_b sz sx low middle high = high || (low ⊕ middle)

abbrev bits_c : Bool → Bool → Bool → Bool → Bool → Bool
bits_c sz sx low middle high = middle || high

abbrev bits_d : Bool → Bool → Bool → Bool → Bool → Bool
bits_d sz sx low middle high = true ⊕ (middle ⊕ (low && (middle ⊕ high)))

abbrev bits_y : Bool → Bool → Bool → Bool → Bool → Bool
bits_y sz sx low middle high = (sx ⊕ sz) ⊕ ((low || middle) ⊕ (low && high))

module _ (c : ℕ) (l : c < 24) where
  digits-A : by_digits bits_a c ≡ z_bit (image (clifford_of c) Z)
  unfolding every bit
  digits-A = every-by_digits bits_a (λ k. z_bit (image k Z)) refl c l

  digits-B : by_digits bits_b c ≡ z_bit (image (clifford_of c) X)
  unfolding every bit
  digits-B = every-by_digits bits_b (λ k. z_bit (image k X)) refl c l

  digits-C : by_digits bits_c c ≡ bit_c (clifford_of c)
  unfolding every bit
  digits-C = every-by_digits bits_c bit_c refl c l

  digits-D : by_digits bits_d c ≡ bit_d (clifford_of c)
  unfolding every bit
  digits-D = every-by_digits bits_d bit_d refl c l

  digits-SX : bit c 1 ≡ (clifford_of c).sx
  unfolding every bit
  digits-SX = every-by_digits (λ sz sx low middle high. sx) (λ k. k.sx) refl c l

  digits-SY : by_digits bits_y c ≡ sign_bit (image_phase (clifford_of c) Y)
  unfolding every bit
  digits-SY = every-by_digits bits_y (λ k. sign_bit (image_phase k Y)) refl c l

  digits-SZ : bit c 0 ≡ (clifford_of c).sz
  unfolding every bit
  digits-SZ = every-by_digits (λ sz sx low middle high. sz) (λ k. k.sz) refl c l

-- ---- all codes, as the code has it
module _ (cs : List ℕ) (below : (q : ℕ) → get_or cs q 0 < 24) (sz sx low middle high : ℕ)
    (at-sz : (q : ℕ) → bit sz q ≡ bit (get_or cs q 0) 0) (at-sx : (q : ℕ) → bit sx q ≡ bit (get_or cs q 0) 1)
    (at_low : (q : ℕ) → bit low q ≡ bit (get_or cs q 0) 2) (at-middle : (q : ℕ) → bit middle q ≡ bit (get_or cs q 0) 3)
    (at_high : (q : ℕ) → bit high q ≡ bit (get_or cs q 0) 4) where
  -- two words joined, from what is known of each
  both-xor : (u v q : ℕ) {a b : Bool} → bit u q ≡ a → bit v q ≡ b → bit (bit_xor u v) q ≡ a ⊕ b
  both-xor u v q ea eb = bit-xor u v q ∙ ap₂ ◌⊕◌ ea eb

  both-and : (u v q : ℕ) {a b : Bool} → bit u q ≡ a → bit v q ≡ b → bit (bit_and u v) q ≡ (a && b)
  both-and u v q ea eb = bit-and u v q ∙ ap₂ ◌&&◌ ea eb

  both-or : (u v q : ℕ) {a b : Bool} → bit u q ≡ a → bit v q ≡ b → bit (bit_or u v) q ≡ (a || b)
  both-or u v q ea eb = bit-or u v q ∙ ap₂ ◌||◌ ea eb

  at_c : (q : ℕ) → bit (bit_or middle high) q ≡ (bit (get_or cs q 0) 3 || bit (get_or cs q 0) 4)
  at_c q = both-or middle high q (at-middle q) (at_high q)

  pub acts-by-digits : ActsAs (codes_of cs) (record {
    a = bit_xor 18446744073709551615 (bit_xor (bit_or middle high) (bit_and (bit_or middle high) low));
    b = bit_or high (bit_xor low middle);
    c = bit_or middle high;
    d = bit_xor 18446744073709551615 (bit_xor middle (bit_and low (bit_xor middle high)));
    sx = sx;
    sy = bit_xor (bit_xor sx sz) (bit_xor (bit_or low middle) (bit_and low high));
    sz = sz;
  })
  acts-by-digits =
      record {
        A = λ q l. both-xor _ _ q (bit_mask 64 q l) (both-xor _ _ q (at_c q) (both-and _ _ q (at_c q) (at_low q)))
            ∙ digits-A (get_or cs q 0) (below q);
        B = λ q l. both-or _ _ q (at_high q) (both-xor _ _ q (at_low q) (at-middle q))
            ∙ digits-B (get_or cs q 0) (below q);
        C = λ q l. at_c q ∙ digits-C (get_or cs q 0) (below q);
        D = λ q l. both-xor _ _ q (bit_mask 64 q l)
            (both-xor _ _ q (at-middle q) (both-and _ _ q (at_low q) (both-xor _ _ q (at-middle q) (at_high q))))
            ∙ digits-D (get_or cs q 0) (below q);
        SX = λ q l. at-sx q ∙ digits-SX (get_or cs q 0) (below q);
        SY = λ q l. both-xor _ _ q (both-xor _ _ q (at-sx q) (at-sz q))
            (both-xor _ _ q (both-or _ _ q (at_low q) (at-middle q)) (both-and _ _ q (at_low q) (at_high q)))
            ∙ digits-SY (get_or cs q 0) (below q);
        SZ = λ q l. at-sz q ∙ digits-SZ (get_or cs q 0) (below q);
      }
