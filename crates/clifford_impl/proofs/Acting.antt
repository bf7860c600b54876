-- A row sent through its codes on words: the letters by the blocks of the codes' matrix, the sign by a count of ones.
use mathlib.Core.Bool.{◌&&◌, Bool, beq, false, not}
use mathlib.Core.Logic.{inl, inr, ◌⊎◌}
use mathlib.Core.Path.{ap, ap₂, refl, sym, ◌∙◌, ◌≡◌}
use Prim.Native.Nat.{◌<◌, ◌^◌, ℕ, ◌≤◌}
use lib.Bits.{bit_and, bit_xor}
use lib.Count.{ones}
use Rattle.clifford.proofs.CliffordLaws.{from_five, on_clifford, x_after, z_after}
use Rattle.clifford.specs.Clifford.{Clifford, bit_c, bit_d, image, image_phase}
use Rattle.clifford.specs.Vectors.{act}
use Rattle.pauli.proofs.PauliLaws.{Pauli-path}
use Rattle.pauli.proofs.PhaseLaws.{minus-⊕, phases}
use Rattle.pauli.specs.Pauli.{◌+ᵖ◌, i⁰, letter, minus, sign_bit, signed_row, sum_phase, z_bit}
use Rattle.pauli.specs.declared.Letter.TheVariants.{X, Y, Z}
use Rattle.words.proofs.BitLaws.{bit-above, bit-and, bit-xor}
use Rattle.words.proofs.Finite.{bits, unequal}
use Rattle.words.proofs.OnesLaws.{parity-ones}
use Rattle.words.proofs.Sums.{fold-ext, fold-hom, lt-or-ge}
use Rattle.words.specs.Bits.{◌⊕◌, bit, is_odd}
use Rattle.clifford_impl.specs.declared.rows.Action.{Action}
use Rattle.clifford_impl.specs.internal.Actions.{ActsAs, SignsOf}

-- ---- one place
after-z : (k : Clifford) (z x : Bool) → (z && z_bit (image k Z)) ⊕ (x && z_bit (image k X)) ≡ z_after k z x
after-z = on_clifford _
    (bits 7 (λ a b c d e z x. (z && z_bit (image (from_five a b c d e) Z)) ⊕ (x && z_bit (image (from_five a b c d e) X)))
    (λ a b c d e. z_after (from_five a b c d e)) tt)

after-x : (k : Clifford) (z x : Bool) → (z && bit_c k) ⊕ (x && bit_d k) ≡ x_after k z x
after-x = on_clifford _
    (bits 7 (λ a b c d e z x. (z && bit_c (from_five a b c d e)) ⊕ (x && bit_d (from_five a b c d e)))
    (λ a b c d e. x_after (from_five a b c d e)) tt)

-- the sign of the image of a letter, from those of X, Z and Y: the places of a Y are neither of X nor of Z
abbrev sign_bits : Bool → Bool → Bool → Bool → Bool → Bool
sign_bits z x sx sz sy = (((x ⊕ (z && x)) && sx) ⊕ ((z ⊕ (z && x)) && sz)) ⊕ ((z && x) && sy)

after-sign : (k : Clifford) (z x : Bool)
    → image_phase k (letter z x) ≡ minus (sign_bits z x k.sx k.sz (sign_bit (image_phase k Y)))
after-sign = on_clifford _
    (phases 7 (λ a b c d e z x. image_phase (from_five a b c d e) (letter z x))
    (λ a b c d e z x. minus (sign_bits z x d e (sign_bit (image_phase (from_five a b c d e) Y)))) tt)

-- ---- all places
abbrev sign_word : Action → ℕ → ℕ → ℕ
sign_word w z x = bit_xor (bit_xor (bit_and (bit_xor x (bit_and z x)) w.sx) (bit_and (bit_xor z (bit_and z x)) w.sz))
    (bit_and (bit_and z x) w.sy)

module _ (k : ℕ → Clifford) (w : Action) (W : ActsAs k w) (z x : ℕ) where
  sign-bits : (q : ℕ) → bit (sign_word w z x) q
      ≡ sign_bits (bit z q) (bit x q) (bit w.sx q) (bit w.sz q) (bit w.sy q)
  sign-bits q =
      bit-xor _ _ q
      ∙ ap₂ ◌⊕◌ (bit-xor _ _ q ∙ ap₂ ◌⊕◌ (at x w.sx) (at z w.sz))
      (bit-and _ _ q ∙ ap (λ b. b && bit w.sy q) (bit-and z x q))
    where
      at : (u s : ℕ) → bit (bit_and (bit_xor u (bit_and z x)) s) q ≡ ((bit u q ⊕ (bit z q && bit x q)) && bit s q)
      at u s = bit-and _ _ q ∙ ap (λ b. b && bit s q) (bit-xor _ _ q ∙ ap (λ b. bit u q ⊕ b) (bit-and z x q))

  pub signs-sent : SignsOf k z x (sign_word w z x)
  signs-sent q l = ap minus (sign-bits q ∙ own) ∙ sym (after-sign (k q) (bit z q) (bit x q))
    where
      own : sign_bits (bit z q) (bit x q) (bit w.sx q) (bit w.sz q) (bit w.sy q)
          ≡ sign_bits (bit z q) (bit x q) (k q).sx (k q).sz (sign_bit (image_phase (k q) Y))
      own = ap₂ (λ a b. sign_bits (bit z q) (bit x q) a b (bit w.sy q)) (W.SX q l) (W.SZ q l)
          ∙ ap (sign_bits (bit z q) (bit x q) (k q).sx (k q).sz) (W.SY q l)

  -- two words, each at the places of another
  mixed : (u v q : ℕ) → bit (bit_xor (bit_and z u) (bit_and x v)) q ≡ (bit z q && bit u q) ⊕ (bit x q && bit v q)
  mixed u v q = bit-xor (bit_and z u) (bit_and x v) q ∙ ap₂ ◌⊕◌ (bit-and z u q) (bit-and x v q)

  module _ (hz : z < 2 ^ 64) (hx : x < 2 ^ 64) where
    -- there is no letter at or above 64
    past : (f g : Bool → Bool → Bool) → f false false ≡ g false false → (q : ℕ) → 64 ≤ q
        → f (bit z q) (bit x q) ≡ g (bit z q) (bit x q)
    past f g e q l =
        ap₂ f (bit-above 64 z hz q l) (bit-above 64 x hx q l) ∙ e
        ∙ sym (ap₂ g (bit-above 64 z hz q l) (bit-above 64 x hx q l))

    z-sent : (q : ℕ) → bit (bit_xor (bit_and z w.a) (bit_and x w.b)) q ≡ z_after (k q) (bit z q) (bit x q)
    z-sent q = mixed w.a w.b q ∙ go (lt-or-ge q 64)
      where
        go : (q < 64) ⊎ (64 ≤ q)
            → (bit z q && bit w.a q) ⊕ (bit x q && bit w.b q) ≡ z_after (k q) (bit z q) (bit x q)
        go (inl l) =
            ap₂ (λ a b. (bit z q && a) ⊕ (bit x q && b)) (W.A q l) (W.B q l) ∙ after-z (k q) (bit z q) (bit x q)
        go (inr l) = past (λ u v. (u && bit w.a q) ⊕ (v && bit w.b q)) (z_after (k q)) refl q l

    x-sent : (q : ℕ) → bit (bit_xor (bit_and z w.c) (bit_and x w.d)) q ≡ x_after (k q) (bit z q) (bit x q)
    x-sent q = mixed w.c w.d q ∙ go (lt-or-ge q 64)
      where
        go : (q < 64) ⊎ (64 ≤ q)
            → (bit z q && bit w.c q) ⊕ (bit x q && bit w.d q) ≡ x_after (k q) (bit z q) (bit x q)
        go (inl l) =
            ap₂ (λ a b. (bit z q && a) ⊕ (bit x q && b)) (W.C q l) (W.D q l) ∙ after-x (k q) (bit z q) (bit x q)
        go (inr l) = past (λ u v. (u && bit w.c q) ⊕ (v && bit w.d q)) (x_after (k q)) refl q l

    -- as the code has it
    pub acted : (s m : Bool) (signs : ℕ) → signs < 2 ^ 64 → SignsOf k z x signs → m ≡ is_odd (ones signs) →
        signed_row (not (beq s m)) (bit_xor (bit_and z w.a) (bit_and x w.b))
        (bit_xor (bit_and z w.c) (bit_and x w.d)) ≡ act 64 k (signed_row s z x)
    unfolding act
    acted s m signs few each e =
        Pauli-path (ap minus (unequal s m) ∙ minus-⊕ s m ∙ ap (λ t. minus s +ᵖ t) (ap minus e ∙ total)) z-sent x-sent
      where
        total : minus (is_odd (ones signs)) ≡ sum_phase 64 (λ q. image_phase (k q) (letter (bit z q) (bit x q)))
        total =
            ap minus (parity-ones 64 signs few) ∙ fold-hom false ◌⊕◌ i⁰ ◌+ᵖ◌ minus refl minus-⊕ 64 (bit signs)
            ∙ fold-ext i⁰ ◌+ᵖ◌ 64 each
