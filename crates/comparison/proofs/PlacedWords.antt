-- The words of a choice with the class, or the signs, of one qubit put in.
use mathlib.Core.Bool.{Bool, false}
use mathlib.Core.List.{List}
use mathlib.Core.Logic.{inl, inr, ◌≢◌, ◌⊎◌}
use mathlib.Core.Path.{ap, sym, ◌∙◌, ◌≡◌}
use Prim.Native.Nat.{◌%◌, ◌*◌, ◌+◌, ◌/◌, ◌<◌, ℕ, ◌≤◌}
use native.Mathlib.Omega.{arith}
use lib.Dec.{eqb}
use lib.ListN.{get_or, length}
use Rattle.clifford.specs.Clifford.{class_of, clifford_of, image_x, image_z}
use Rattle.clifford.specs.Vectors.{codes_of}
use Rattle.pauli.specs.Pauli.{x_bit, z_bit}
use Rattle.pauli.specs.declared.Letter.{Letter}
use Rattle.words.proofs.BitLaws.{bit-above, bit-ext∞, bit-word_of, word_of-lt}
use Rattle.words.proofs.Places.{put_all}
use Rattle.words.proofs.Sums.{lt-or-ge}
use Rattle.words.specs.Bits.{Word, bit, is_odd, put, word_of}
use Rattle.comparison.specs.internal.Equations.{Assignment, class_assignment, sign_assignment}
use Rattle.comparison.specs.internal.Searches.{with_class, with_signs}
use Rattle.comparison.proofs.NextChoice.{code_here, code_other}

word-put : (n : ℕ) (f g : Word) (w r q : ℕ) (b : Bool) → w ≡ word_of n f → q < n → b ≡ g q
    → ((j : ℕ) → j ≢ q → f j ≡ g j) → ((j : ℕ) → bit r j ≡ put (bit w) q b j) → r ≡ word_of n g
word-put n f g w r q b hw l hb same hr =
    bit-ext∞ r (word_of n g)
    (λ j. hr j ∙ put_all (λ j v. v ≡ bit (word_of n g) j) (bit w) q b here j (λ o. other j o))
  where
    here : b ≡ bit (word_of n g) q
    here = hb ∙ sym (bit-word_of n g q l)

    beyond : (f : Word) (j : ℕ) → n ≤ j → bit (word_of n f) j ≡ false
    beyond f j m = bit-above n (word_of n f) (word_of-lt n f) j m

    other : (j : ℕ) → j ≢ q → bit w j ≡ bit (word_of n g) j
    other j o = ap (λ u. bit u j) hw ∙ go (lt-or-ge j n)
      where
        go : (j < n) ⊎ (n ≤ j) → bit (word_of n f) j ≡ bit (word_of n g) j
        go (inl m) = bit-word_of n f j m ∙ same j o ∙ sym (bit-word_of n g j m)
        go (inr m) = beyond f j m ∙ sym (beyond g j m)

module _ (n : ℕ) (choice : List ℕ) (q v : ℕ) (long : q < length choice) (l : q < n) (w : Assignment) where
  pub class-put : w ≡ class_assignment n (codes_of choice) → {x z : Letter} → x ≡ image_x (class_of v)
      → z ≡ image_z (class_of v) → {ba bb bc bd : Bool} (a b c d : ℕ)
      → ba ≡ z_bit z → ((j : ℕ) → bit a j ≡ put (bit w.a) q ba j)
      → bb ≡ z_bit x → ((j : ℕ) → bit b j ≡ put (bit w.b) q bb j)
      → bc ≡ x_bit z → ((j : ℕ) → bit c j ≡ put (bit w.c) q bc j)
      → bd ≡ x_bit x → ((j : ℕ) → bit d j ≡ put (bit w.d) q bd j)
      → ◌≡◌ {A = Assignment} (record { a = a; b = b; c = c; d = d })
      (class_assignment n (codes_of (with_class choice q v)))
  unfolding class_assignment
  class-put hw hx hz a b c d ea pa eb pb ec pc ed pd =
      λ i. record {
        a = word-put n _ _ w.a a q _ (ap (λ w. w.a) hw) l (ea ∙ ap z_bit (hz ∙ ap image_z here))
            (λ j o. ap (λ k. z_bit (image_z k.class)) (sym (other j o))) pa i;
        b = word-put n _ _ w.b b q _ (ap (λ w. w.b) hw) l (eb ∙ ap z_bit (hx ∙ ap image_x here))
            (λ j o. ap (λ k. z_bit (image_x k.class)) (sym (other j o))) pb i;
        c = word-put n _ _ w.c c q _ (ap (λ w. w.c) hw) l (ec ∙ ap x_bit (hz ∙ ap image_z here))
            (λ j o. ap (λ k. x_bit (image_z k.class)) (sym (other j o))) pc i;
        d = word-put n _ _ w.d d q _ (ap (λ w. w.d) hw) l (ed ∙ ap x_bit (hx ∙ ap image_x here))
            (λ j o. ap (λ k. x_bit (image_x k.class)) (sym (other j o))) pd i;
      }
    where
      quarter : 4 * v / 4 ≡ v
      quarter = omega arith

      here : class_of v ≡ (codes_of (with_class choice q v) q).class
      here = sym (ap (λ k. k.class) (code_here choice q (4 * v) long) ∙ ap class_of quarter)

      other : (j : ℕ) → j ≢ q → codes_of (with_class choice q v) j ≡ codes_of choice j
      other = code_other choice q (4 * v) long

  pub sign-put : w ≡ sign_assignment n (codes_of choice) → (a b : ℕ)
      → ((j : ℕ) → bit a j ≡ put (bit w.a) q (is_odd (v / 2)) j)
      → ((j : ℕ) → bit b j ≡ put (bit w.b) q (is_odd v) j)
      → ◌≡◌ {A = Assignment} (record { a = a; b = b; c = 1; d = 0 })
      (sign_assignment n (codes_of (with_signs choice q v)))
  unfolding sign_assignment
  sign-put hw a b pa pb =
      λ i. record {
        a = word-put n _ _ w.a a q _ (ap (λ w. w.a) hw) l (half (get_or choice q 0 / 4) ∙ ap (λ k. k.sx) (sym here))
            (λ j o. ap (λ k. k.sx) (sym (other j o))) pa i;
        b = word-put n _ _ w.b b q _ (ap (λ w. w.b) hw) l (whole (get_or choice q 0 / 4) ∙ ap (λ k. k.sz) (sym here))
            (λ j o. ap (λ k. k.sz) (sym (other j o))) pb i;
        c = 1;
        d = 0;
      }
    where
      half : (k : ℕ) → is_odd (v / 2) ≡ is_odd ((4 * k + v) / 2)
      half k = ap (λ m. eqb m 1) {x = v / 2 % 2} {y = (4 * k + v) / 2 % 2} (omega arith)

      whole : (k : ℕ) → is_odd v ≡ is_odd (4 * k + v)
      whole k = ap (λ m. eqb m 1) {x = v % 2} {y = (4 * k + v) % 2} (omega arith)

      here : codes_of (with_signs choice q v) q ≡ clifford_of (4 * (get_or choice q 0 / 4) + v)
      here = code_here choice q (4 * (get_or choice q 0 / 4) + v) long

      other : (j : ℕ) → j ≢ q → codes_of (with_signs choice q v) j ≡ codes_of choice j
      other = code_other choice q (4 * (get_or choice q 0 / 4) + v) long
