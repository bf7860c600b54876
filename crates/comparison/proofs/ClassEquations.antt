-- The image of a row commutes with another row exactly if the classes solve the class equation; choices that agree
-- on classes, or on signs, have assignments that agree.
use mathlib.Core.Bool.{◌&&◌, Bool, false, true}
use mathlib.Core.Logic.{inl, inr, ◌⊎◌}
use mathlib.Core.Path.{ap, ap₂, refl, subst, sym, ◌∙◌, ◌≡◌}
use Prim.Native.Nat.{◌*◌, ◌+◌, ◌/◌, ◌<◌, ◌^◌, ℕ, ◌≤◌}
use native.Mathlib.Nat.{lt_of_le_of_lt}
use lib.Bits.{and_le_l, bit_and}
use Rattle.clifford.proofs.CliffordLaws.{from_five, on_clifford, x_after, z_after}
use Rattle.clifford.specs.Clifford.{Class, Clifford, image_x, image_z}
use Rattle.clifford.specs.Vectors.{act}
use Rattle.pauli.specs.Pauli.{Pauli, anticommute, x_bit, z_bit}
use Rattle.pauli.specs.internal.Rows.{generator_of}
use Rattle.pauli.specs.declared.Generator.{Generator}
use Rattle.stabilizer.proofs.GroupLaws.{elements-commute, in_row}
use Rattle.stabilizer.proofs.Products.{anticommute-form}
use Rattle.stabilizer.specs.Carries.{Carries}
use Rattle.stabilizer.specs.Groups.{InGroup, Proper, Within}
use Rattle.words.proofs.BitLaws.{bit-above, bit-and, bit-word_of, lt-of-bits, word_of-lt}
use Rattle.words.proofs.Finite.{bits}
use Rattle.words.proofs.OnesLaws.{dot-bits}
use Rattle.words.proofs.Sums.{fold-ext, lt-or-ge, parity-add}
use Rattle.words.specs.Bits.{Word, bit, digit, is_odd, parity, word_of, ◌⊕◌}
use Rattle.words.specs.internal.Bits.{dot}
use Rattle.comparison.proofs.EquationLaws.{SameBelow}
use Rattle.comparison.proofs.NumberOrder.{class-injective}
use Rattle.comparison.specs.Choices.{class_key, sign_key}
use Rattle.comparison.specs.internal.Equations.{class_assignment, class_equation, fails, sign_assignment}

-- ---- the image of a letter by the bits of its class
pub z-after : (k : Clifford) (z x : Bool)
    → z_after k z x ≡ (z_bit (image_z k.class) && z) ⊕ (z_bit (image_x k.class) && x)
z-after = on_clifford _
    (bits 7 (λ a b c d e z x. z_after (from_five a b c d e) z x)
    (λ a b c d e z x. (z_bit (image_z (from_five a b c d e).class) && z)
    ⊕ (z_bit (image_x (from_five a b c d e).class) && x)) tt)

pub x-after : (k : Clifford) (z x : Bool)
    → x_after k z x ≡ (x_bit (image_z k.class) && z) ⊕ (x_bit (image_x k.class) && x)
x-after = on_clifford _
    (bits 7 (λ a b c d e z x. x_after (from_five a b c d e) z x)
    (λ a b c d e z x. (x_bit (image_z (from_five a b c d e).class) && z)
    ⊕ (x_bit (image_x (from_five a b c d e).class) && x)) tt)

-- ---- sums over words
pub dot_word : (n u : ℕ) (f : Word) → u < 2 ^ n → dot u (word_of n f) ≡ parity n (λ q. bit u q && f q)
dot_word n u f l =
    dot-bits n u (word_of n f) l (word_of-lt n f)
    ∙ fold-ext false ◌⊕◌ n (λ q k. ap (λ b. bit u q && b) (bit-word_of n f q k))

-- the words of a row of n qubits
pub z-word-lt : (n : ℕ) (g : Generator) → Within n (generator_of g) → g.z < 2 ^ n
z-word-lt n g W = lt-of-bits n g.z W.no-z

pub x-word-lt : (n : ℕ) (g : Generator) → Within n (generator_of g) → g.x < 2 ^ n
x-word-lt n g W = lt-of-bits n g.x W.no-x

-- what the equation adds up at one qubit, term by term
pub class-terms : (a b c d z x hz hx : Bool)
    → ((((a && z) ⊕ (b && x)) && hx) ⊕ (((c && z) ⊕ (d && x)) && hz))
    ≡ (((z && hx) && a) ⊕ ((x && hx) && b)) ⊕ (((z && hz) && c) ⊕ ((x && hz) && d))
class-terms =
    bits 8 (λ a b c d z x hz hx. (((a && z) ⊕ (b && x)) && hx) ⊕ (((c && z) ⊕ (d && x)) && hz))
    (λ a b c d z x hz hx. (((z && hx) && a) ⊕ ((x && hx) && b))
    ⊕ (((z && hz) && c) ⊕ ((x && hz) && d))) tt

module _ (n : ℕ) (k : ℕ → Clifford) (g h : Generator) (W : Within n (generator_of g)) where
  pub anticommute-classes : anticommute n (act n k (generator_of g)) (generator_of h)
      ≡ fails (class_equation g h) (class_assignment n k)
  unfolding act fails class_assignment
  anticommute-classes =
      anticommute-form n (act n k (generator_of g)) (generator_of h)
      ∙ sym (parity-add n _ _)
      ∙ fold-ext false ◌⊕◌ n (λ q l. ap₂ (λ u v. (u && bit h.x q) ⊕ (v && bit h.z q))
      (z-after (k q) (bit g.z q) (bit g.x q)) (x-after (k q) (bit g.z q) (bit g.x q))
      ∙ class-terms (z_bit (image_z (k q).class)) (z_bit (image_x (k q).class)) (x_bit (image_z (k q).class))
      (x_bit (image_x (k q).class)) (bit g.z q) (bit g.x q) (bit h.z q) (bit h.x q))
      ∙ parity-add n _ _ ∙ ap₂ ◌⊕◌ (parity-add n _ _) (parity-add n _ _)
      ∙ ap₂ ◌⊕◌ (ap₂ ◌⊕◌ (word g.z h.x _ gz) (word g.x h.x _ gx))
      (ap₂ ◌⊕◌ (word g.z h.z _ gz) (word g.x h.z _ gx))
    where
      gz : g.z < 2 ^ n
      gz = z-word-lt n g W

      gx : g.x < 2 ^ n
      gx = x-word-lt n g W

      word : (u v : ℕ) (f : Word) → u < 2 ^ n
          → parity n (λ q. (bit u q && bit v q) && f q) ≡ dot (bit_and u v) (word_of n f)
      word u v f l =
          fold-ext false ◌⊕◌ n (λ q k. ap (λ b. b && f q) (sym (bit-and u v q)))
          ∙ sym (dot_word n (bit_and u v) f (lt_of_le_of_lt (and_le_l u v) l))

-- ---- every choice that works solves the class equations
pub class-equation : (n : ℕ) (rows others : ℕ → Pauli) → Proper n rows → Proper n others → (d : ℕ → Clifford)
    → Carries n d rows others → (i j : ℕ) → i < n → j < n → (g h : Generator) → generator_of g ≡ rows i
    → generator_of h ≡ others j
    → fails (class_equation g h) (class_assignment n d) ≡ false
class-equation n rows others P P' d C i j li lj g h eg eh =
    sym (anticommute-classes n d g h (subst (Within n) (sym eg) (P.within i li)))
    ∙ elements-commute n n others P'.commuting
    (subst (λ p. InGroup n n others (act n d p)) (sym eg) (C.into (rows i) (in_row n n rows i li)))
    (subst (InGroup n n others) (sym eh) (in_row n n others j lj))

-- ---- assignments of choices with equal keys
words-below : (n q : ℕ) (f g : Word) → ((i : ℕ) → i < q → f i ≡ g i) → (i : ℕ) → i < q
    → bit (word_of n f) i ≡ bit (word_of n g) i
words-below n q f g h i l = go (lt-or-ge i n)
  where
    go : (i < n) ⊎ (n ≤ i) → bit (word_of n f) i ≡ bit (word_of n g) i
    go (inl k) = bit-word_of n f i k ∙ h i l ∙ sym (bit-word_of n g i k)
    go (inr k) =
        bit-above n (word_of n f) (word_of-lt n f) i k ∙ sym (bit-above n (word_of n g) (word_of-lt n g) i k)

pub same-classes : (n q : ℕ) (c d : ℕ → Clifford) → ((i : ℕ) → i < q → class_key (d i) ≡ class_key (c i))
    → SameBelow q (class_assignment n c) (class_assignment n d)
unfolding class_assignment
same-classes n q c d h =
    record {
      a = by (λ k. z_bit (image_z k));
      b = by (λ k. z_bit (image_x k));
      c = by (λ k. x_bit (image_z k));
      d = by (λ k. x_bit (image_x k));
    }
  where
    by : (f : Class → Bool) → (i : ℕ) → i < q
        → bit (word_of n (λ i. f (c i).class)) i ≡ bit (word_of n (λ i. f (d i).class)) i
    by f = words-below n q _ _ (λ i l. ap f (class-injective _ _ (sym (h i l))))

pub same-signs : (n q : ℕ) (c d : ℕ → Clifford) → ((i : ℕ) → i < q → sign_key (d i) ≡ sign_key (c i))
    → SameBelow q (sign_assignment n c) (sign_assignment n d)
unfolding sign_assignment
same-signs n q c d h =
    record {
      a = words-below n q _ _ (λ i l. sx-of (c i).sx (c i).sz (d i).sx (d i).sz (sym (h i l)));
      b = words-below n q _ _ (λ i l. sz-of (c i).sx (c i).sz (d i).sx (d i).sz (sym (h i l)));
      c = λ i l. refl;
      d = λ i l. refl;
    }
  where
    back : (s z : Bool) → is_odd ((2 * digit s + digit z) / 2) ≡ s
    back false false = refl
    back false true = refl
    back true false = refl
    back true true = refl

    back-z : (s z : Bool) → is_odd (2 * digit s + digit z) ≡ z
    back-z false false = refl
    back-z false true = refl
    back-z true false = refl
    back-z true true = refl

    sx-of : (s z s' z' : Bool) → 2 * digit s + digit z ≡ 2 * digit s' + digit z' → s ≡ s'
    sx-of s z s' z' e = sym (back s z) ∙ ap (λ k. is_odd (k / 2)) e ∙ back s' z'

    sz-of : (s z s' z' : Bool) → 2 * digit s + digit z ≡ 2 * digit s' + digit z' → z ≡ z'
    sz-of s z s' z' e = sym (back-z s z) ∙ ap is_odd e ∙ back-z s' z'
