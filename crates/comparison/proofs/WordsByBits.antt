-- A word made bit by bit, as the code makes the words of a choice.
use mathlib.Core.Bool.{Bool, false}
use mathlib.Core.List.{List}
use mathlib.Core.Logic.{inl, inr, ◌≢◌, ◌⊎◌}
use mathlib.Core.Path.{ap, refl, sym, ◌∙◌, ◌≡◌}
use Prim.Native.Nat.{◌+◌, ◌/◌, ◌<◌, zero-le, ℕ, ◌≤◌}
use native.Mathlib.Nat.{le_antisymm}
use native.Mathlib.Numerals.{add-one}
use native.Mathlib.Omega.{arith}
use lib.Arith.{lt_of_le-ne}
use lib.ListN.{get_or}
use Rattle.clifford.specs.Clifford.{class_of, image_x, image_z}
use Rattle.clifford.specs.Vectors.{codes_of}
use Rattle.pauli.specs.Pauli.{x_bit, z_bit}
use Rattle.pauli.specs.declared.Letter.{Letter}
use Rattle.words.proofs.BitLaws.{bit-above, bit-ext∞, bit-word_of, word_of-lt}
use Rattle.words.proofs.Places.{put_all}
use Rattle.words.proofs.Sums.{lt-or-ge}
use Rattle.words.specs.Bits.{Word, bit, is_odd, put, word_of}
use Rattle.comparison.specs.internal.Equations.{Assignment, class_assignment, sign_assignment}

pub no_bits : (f : Word) → 0 ≡ word_of 0 f
unfolding word_of
no_bits f = refl

pub one-bit-more : (q : ℕ) (f : Word) (w r : ℕ) (b : Bool) → w ≡ word_of q f → b ≡ f q
    → ((j : ℕ) → bit r j ≡ put (bit w) q b j) → r ≡ word_of (q + 1) f
one-bit-more q f w r b hw hb hr =
    bit-ext∞ r (word_of (q + 1) f)
    (λ j. hr j ∙ put_all (λ j v. v ≡ bit (word_of (q + 1) f) j) (bit w) q b here j (λ o. other j o))
  where
    here : b ≡ bit (word_of (q + 1) f) q
    here = hb ∙ sym (bit-word_of (q + 1) f q (omega arith))

    beyond : (k j : ℕ) → k ≤ j → bit (word_of k f) j ≡ false
    beyond k j l = bit-above k (word_of k f) (word_of-lt k f) j l

    other : (j : ℕ) → j ≢ q → bit w j ≡ bit (word_of (q + 1) f) j
    other j o = ap (λ u. bit u j) hw ∙ go (lt-or-ge j q)
      where
        go : (j < q) ⊎ (q ≤ j) → bit (word_of q f) j ≡ bit (word_of (q + 1) f) j
        go (inl l) = bit-word_of q f j l ∙ sym (bit-word_of (q + 1) f j (omega arith))
        go (inr l) = beyond q j l ∙ sym (beyond (q + 1) j (rw add-one (lt_of_le-ne l (λ e. o (sym e)))))

whole_word : (q n : ℕ) (f : Word) (w : ℕ) → q ≤ n → n ≤ q → w ≡ word_of q f → w ≡ word_of n f
whole_word q n f w u v e = e ∙ ap (λ k. word_of k f) (le_antisymm u v)

-- the four words of the classes below q
pub record ClassesBelow (n : ℕ) (choice : List ℕ) (q a b c d : ℕ) : Type 0 where
  pub upto : q ≤ n
  pub a-is : a ≡ word_of q (λ i. z_bit (image_z (codes_of choice i).class))
  pub b-is : b ≡ word_of q (λ i. z_bit (image_x (codes_of choice i).class))
  pub c-is : c ≡ word_of q (λ i. x_bit (image_z (codes_of choice i).class))
  pub d-is : d ≡ word_of q (λ i. x_bit (image_x (codes_of choice i).class))

pub no-classes : (n : ℕ) (choice : List ℕ) → ClassesBelow n choice 0 0 0 0 0
no-classes n choice =
    record { upto = zero-le; a-is = no_bits _; b-is = no_bits _; c-is = no_bits _; d-is = no_bits _ }

pub one-class-more : (n : ℕ) (choice : List ℕ) (q a b c d : ℕ) → ClassesBelow n choice q a b c d → q < n
    → {x z : Letter} → x ≡ image_x (class_of (get_or choice q 0 / 4)) → z ≡ image_z (class_of (get_or choice q 0 / 4))
    → {ba bb bc bd : Bool} (a' b' c' d' : ℕ)
    → ba ≡ z_bit z → ((j : ℕ) → bit a' j ≡ put (bit a) q ba j) → bb ≡ z_bit x
    → ((j : ℕ) → bit b' j ≡ put (bit b) q bb j)
    → bc ≡ x_bit z → ((j : ℕ) → bit c' j ≡ put (bit c) q bc j) → bd ≡ x_bit x
    → ((j : ℕ) → bit d' j ≡ put (bit d) q bd j)
    → ClassesBelow n choice (q + 1) a' b' c' d'
one-class-more n choice q a b c d S l hx hz a' b' c' d' ea pa eb pb ec pc ed pd =
    record {
      upto = rw add-one l;
      a-is = one-bit-more q _ a a' _ S.a-is (ea ∙ ap z_bit hz) pa;
      b-is = one-bit-more q _ b b' _ S.b-is (eb ∙ ap z_bit hx) pb;
      c-is = one-bit-more q _ c c' _ S.c-is (ec ∙ ap x_bit hz) pc;
      d-is = one-bit-more q _ d d' _ S.d-is (ed ∙ ap x_bit hx) pd;
    }

pub all-classes : (n : ℕ) (choice : List ℕ) (q a b c d : ℕ) → ClassesBelow n choice q a b c d → n ≤ q
    → ◌≡◌ {A = Assignment} (record { a = a; b = b; c = c; d = d }) (class_assignment n (codes_of choice))
unfolding class_assignment
all-classes n choice q a b c d S l =
    λ i. record {
      a = whole_word q n _ a S.upto l S.a-is i;
      b =
          whole_word q n _ b S.upto l S.b-is i;
      c = whole_word q n _ c S.upto l S.c-is i;
      d =
          whole_word q n _ d S.upto l S.d-is i;
    }

-- the two words of the signs below q
pub record SignsBelow (n : ℕ) (choice : List ℕ) (q a b : ℕ) : Type 0 where
  pub upto : q ≤ n
  pub a-is : a ≡ word_of q (λ i. (codes_of choice i).sx)
  pub b-is : b ≡ word_of q (λ i. (codes_of choice i).sz)

pub no-signs : (n : ℕ) (choice : List ℕ) → SignsBelow n choice 0 0 0
no-signs n choice = record { upto = zero-le; a-is = no_bits _; b-is = no_bits _ }

pub one-sign-more : (n : ℕ) (choice : List ℕ) (q a b : ℕ) → SignsBelow n choice q a b → q < n → (a' b' : ℕ)
    → ((j : ℕ) → bit a' j ≡ put (bit a) q (is_odd (get_or choice q 0 / 2)) j)
    → ((j : ℕ) → bit b' j ≡ put (bit b) q (is_odd (get_or choice q 0)) j) → SignsBelow n choice (q + 1) a' b'
one-sign-more n choice q a b S l a' b' pa pb =
    record {
      upto = rw add-one l;
      a-is = one-bit-more q _ a a' _ S.a-is refl pa;
      b-is = one-bit-more q _ b b' _ S.b-is refl pb;
    }

pub all-signs : (n : ℕ) (choice : List ℕ) (q a b : ℕ) → SignsBelow n choice q a b → n ≤ q
    → ◌≡◌ {A = Assignment} (record { a = a; b = b; c = 1; d = 0 }) (sign_assignment n (codes_of choice))
unfolding sign_assignment
all-signs n choice q a b S l =
    λ i. record {
      a = whole_word q n _ a S.upto l S.a-is i;
      b =
          whole_word q n _ b S.upto l S.b-is i;
      c = 1;
      d = 0;
    }
