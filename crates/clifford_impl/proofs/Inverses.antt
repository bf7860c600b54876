-- The action that undoes another: the inverse of each block of two bits, and the signs of the letters sent to X, Y and
-- Z.
use mathlib.Core.Bool.{Bool}
use mathlib.Core.Path.{ap, ap₂, sym, ◌∙◌, ◌≡◌}
use Prim.Native.Nat.{◌<◌, ℕ}
use lib.Bits.{bit_xor}
use lib.Dec.{T}
use Rattle.clifford.proofs.CliffordLaws.{from_five, inverse-is, on_clifford, undone}
use Rattle.clifford.specs.Clifford.{Clifford, bit_c, bit_d, image, image_phase, inverse}
use Rattle.pauli.proofs.PhaseLaws.{sign-minus}
use Rattle.pauli.specs.Pauli.{letter, sign_bit, z_bit}
use Rattle.pauli.specs.declared.Letter.TheVariants.{X, Y, Z}
use Rattle.words.proofs.BitLaws.{bit-xor}
use Rattle.words.proofs.Finite.{bits, test}
use Rattle.words.specs.Bits.{◌⊕◌, bit, same_bit}
use Rattle.clifford_impl.specs.declared.rows.Action.{Action}
use Rattle.clifford_impl.specs.internal.Actions.{ActsAs, SignsOf}

-- ---- one code
-- a property of the inverse, by one test over the cliffords
of-inverse : (f g : Clifford → Bool)
    → T (test same_bit 5 (λ a b c d e. f (undone (from_five a b c d e))) (λ a b c d e. g (from_five a b c d e)))
    → (k : Clifford) → f (inverse k) ≡ g k
of-inverse f g t k =
    ap f (inverse-is k) ∙ on_clifford (λ k. f (undone k) ≡ g k)
    (bits 5 (λ a b c d e. f (undone (from_five a b c d e))) (λ a b c d e. g (from_five a b c d e)) t) k

-- the blocks A and B
abbrev bit_a : Clifford → Bool
bit_a k = z_bit (image k Z)

abbrev bit_b : Clifford → Bool
bit_b k = z_bit (image k X)

-- the sign of the image of a letter
abbrev sign_of : Clifford → Bool → Bool → Bool
sign_of k z x = sign_bit (image_phase k (letter z x))

-- ---- all codes
module _ (k : ℕ → Clifford) (w : Action) (W : ActsAs k w) where
  sign_at : (signs z x : ℕ) → SignsOf k z x signs → (q : ℕ) → q < 64 → {a b : Bool} → bit z q ≡ a → bit x q ≡ b
      → bit signs q ≡ sign_of (k q) a b
  sign_at signs z x each q l ea eb =
      sym (sign-minus (bit signs q)) ∙ ap sign_bit (each q l) ∙ ap₂ (sign_of (k q)) ea eb

  -- .. from what the code's calls answer
  pub undone-acts : (sx sy sz : ℕ) → SignsOf k w.b w.a sx
      → SignsOf k (bit_xor w.b w.d) (bit_xor w.a w.c) sy → SignsOf k w.d w.c sz
      → ActsAs (λ q. inverse (k q)) (record { a = w.d; b = w.b; c = w.c; d = w.a; sx = sx; sy = sy; sz = sz })
  undone-acts sx sy sz of-x of-y of-z =
      record {
        A = λ q l. W.D q l ∙ sym (of-inverse bit_a bit_d tt (k q));
        B = λ q l. W.B q l ∙ sym (of-inverse bit_b bit_b tt (k q));
        C = λ q l. W.C q l ∙ sym (of-inverse bit_c bit_c tt (k q));
        D = λ q l. W.A q l ∙ sym (of-inverse bit_d bit_a tt (k q));
        SX = λ q l. sign_at sx w.b w.a of-x q l (W.B q l) (W.A q l)
            ∙ sym (of-inverse (λ k. k.sx) (λ k. sign_of k (bit_b k) (bit_a k)) tt (k q));
        SY = λ q l. sign_at sy (bit_xor w.b w.d) (bit_xor w.a w.c) of-y q l
            (bit-xor w.b w.d q ∙ ap₂ ◌⊕◌ (W.B q l) (W.D q l))
            (bit-xor w.a w.c q ∙ ap₂ ◌⊕◌ (W.A q l) (W.C q l))
            ∙ sym (of-inverse (λ k. sign_bit (image_phase k Y)) (λ k. sign_of k (bit_b k ⊕ bit_d k) (bit_a k ⊕ bit_c k)) tt
            (k q));
        SZ = λ q l. sign_at sz w.d w.c of-z q l (W.D q l) (W.C q l)
            ∙ sym (of-inverse (λ k. k.sz) (λ k. sign_of k (bit_d k) (bit_c k)) tt (k q));
      }
