-- The signs of a choice change the sign of a row's image by a parity; elements of a group with the same letters are
-- equal; so a choice that works solves the sign equations.
use mathlib.Core.Bool.{◌&&◌, Bool, false, true}
use mathlib.Core.Path.{ap, ap₂, refl, subst, sym, ◌∙◌, ◌≡◌}
use Prim.Native.Nat.{◌<◌, ℕ}
use Rattle.clifford.proofs.CliffordLaws.{from_five, on_clifford, phase_after}
use Rattle.clifford.specs.Clifford.{Clifford, image}
use Rattle.clifford.specs.Vectors.{act}
use Rattle.pauli.proofs.PauliLaws.{Pauli-path, mul-x, mul-z}
use Rattle.pauli.proofs.PhaseLaws.{+ᵖ-assoc, minus-injective, minus-parity, minus-⊕, phases, sum_phase-add}
use Rattle.pauli.specs.Pauli.{◌+ᵖ◌, Pauli, identity, i⁰, letter_at, minus, mul, sum_phase, x_bit, z_bit}
use Rattle.pauli.specs.internal.Rows.{generator_of}
use Rattle.pauli.specs.declared.Generator.{Generator}
use Rattle.pauli.specs.declared.Letter.{Letter}
use Rattle.pauli.specs.declared.Letter.TheVariants.{I, X, Y, Z}
use Rattle.stabilizer.proofs.GroupLaws.{in_row}
use Rattle.stabilizer.proofs.Products.{product-mul}
use Rattle.stabilizer.specs.Carries.{Carries}
use Rattle.stabilizer.specs.Groups.{InGroup, Proper, Trivial, Within, chosen, product}
use Rattle.words.proofs.Finite.{bits, ⊕-self, ⊕-zero}
use Rattle.words.proofs.OnesLaws.{dot-comm}
use Rattle.words.proofs.Places.{⊕-cancel}
use Rattle.words.proofs.Sums.{fold-ext, parity-add}
use Rattle.words.specs.Bits.{bit, digit, parity, word_of, ◌⊕◌}
use Rattle.words.specs.internal.Bits.{dot}
use Rattle.comparison.proofs.ClassEquations.{dot_word, x-word-lt, z-word-lt}
use Rattle.comparison.proofs.EquationLaws.{zero-dot}
use Rattle.comparison.proofs.Extension.{dot-single}
use Rattle.comparison.proofs.Least.{act-within}
use Rattle.comparison.proofs.NumberOrder.{class-injective}
use Rattle.comparison.specs.Choices.{class_key}
use Rattle.comparison.specs.internal.Equations.{fails, sign_assignment, sign_equation}
use Rattle.comparison.specs.internal.Setting.{without_signs}

abbrev sign_at : Clifford → Bool → Bool → Bool
sign_at k z x = (x && k.sx) ⊕ (z && k.sz)

phase-signs : (k : Clifford) (z x : Bool) → phase_after k z x ≡ phase_after (without_signs k) z x +ᵖ minus (sign_at k z x)
phase-signs = on_clifford _
    (phases 7 (λ a b c d e z x. phase_after (from_five a b c d e) z x)
    (λ a b c d e z x. phase_after (without_signs (from_five a b c d e)) z x
    +ᵖ minus (sign_at (from_five a b c d e) z x)) tt)

-- the sign of an image is that under the bare classes, changed by the parity of the signs met
module _ (n : ℕ) (k : ℕ → Clifford) (g : Generator) (W : Within n (generator_of g)) where
  pub image-sign : (act n k (generator_of g)).phase
      ≡ (act n (λ q. without_signs (k q)) (generator_of g)).phase
      +ᵖ minus (fails (sign_equation g false) (sign_assignment n k))
  unfolding act fails sign_assignment
  image-sign =
      ap (λ t. minus g.minus +ᵖ t)
      (fold-ext i⁰ ◌+ᵖ◌ n (λ q l. phase-signs (k q) (bit g.z q) (bit g.x q)) ∙ sum_phase-add n _ _)
      ∙ sym (+ᵖ-assoc (minus g.minus) _ _)
      ∙ ap (λ t. (minus g.minus +ᵖ sum_phase n (λ q. phase_after (without_signs (k q)) (bit g.z q) (bit g.x q)))
      +ᵖ t)
      (minus-parity n _ ∙ ap minus signs)
    where
      signs : parity n (λ q. sign_at (k q) (bit g.z q) (bit g.x q))
          ≡ ((dot g.x (word_of n (λ q. (k q).sx)) ⊕ dot g.z (word_of n (λ q. (k q).sz)))
          ⊕ (dot 0 1 ⊕ dot 0 0))
      signs =
          parity-add n _ _
          ∙ ap₂ ◌⊕◌ (sym (dot_word n g.x _ (x-word-lt n g W)))
          (sym (dot_word n g.z _ (z-word-lt n g W)))
          ∙ sym (⊕-zero _)
          ∙ ap (λ b. (dot g.x (word_of n (λ q. (k q).sx)) ⊕ dot g.z (word_of n (λ q. (k q).sz))) ⊕ b)
          (sym (ap₂ ◌⊕◌ (zero-dot 1) (zero-dot 0)))

-- ---- elements with the same letters are equal
pub letters-determine : (n : ℕ) (rows : ℕ → Pauli) → Proper n rows → {p r : Pauli} → InGroup n n rows p
    → InGroup n n rows r
    → ((q : ℕ) → p.z q ≡ r.z q) → ((q : ℕ) → p.x q ≡ r.x q) → p ≡ r
letters-determine n rows P {p} {r} a b hz hx =
    a.1 ∙ fold-ext identity (mul n) n
    (λ j l. ap (λ v. chosen v (rows j)) (⊕-cancel (a.0 j) (b.0 j) (same j l))) ∙ sym b.1
  where
    both : mul n p r ≡ product n n (λ j. a.0 j ⊕ b.0 j) rows
    both = ap₂ (mul n) a.1 b.1 ∙ product-mul n n rows P.commuting a.0 b.0

    trivial : Trivial n (product n n (λ j. a.0 j ⊕ b.0 j) rows)
    trivial =
        subst (Trivial n) both (record {
          no-x = λ q l. mul-x n p r q ∙ ap (λ b. b ⊕ r.x q) (hx q) ∙ ⊕-self (r.x q);
          no-z = λ q l. mul-z n p r q ∙ ap (λ b. b ⊕ r.z q) (hz q) ∙ ⊕-self (r.z q);
        })

    same : (j : ℕ) → j < n → a.0 j ⊕ b.0 j ≡ false
    same = P.independent (λ j. a.0 j ⊕ b.0 j) trivial

-- ---- every choice that works, with these classes, solves the sign equations
image-bare : (k : Clifford) (l : Letter) → image (without_signs k) l ≡ image k l
image-bare k I = refl
image-bare k X = refl
image-bare k Y = refl
image-bare k Z = refl

-- the constant of the equation, where unknown c of qubit 0 is 1
pub dot-digit : (s : Bool) (u : ℕ) → bit u 0 ≡ true → dot (digit s) u ≡ s
dot-digit false u h = zero-dot u
dot-digit true u h = dot-comm 1 u ∙ dot-single u 0 ∙ h

asked : (n : ℕ) (g : Generator) (s : Bool) (k : ℕ → Clifford)
    → fails (sign_equation g s) (sign_assignment n k) ≡ fails (sign_equation g false) (sign_assignment n k) ⊕ s
unfolding fails sign_assignment bit
asked n g s k =
    ap (λ b. (dot g.x (word_of n (λ q. (k q).sx)) ⊕ dot g.z (word_of n (λ q. (k q).sz))) ⊕ (b ⊕ dot 0 0))
    (dot-digit s 1 refl)
    ∙ bits 4 (λ a b c s. (a ⊕ b) ⊕ (s ⊕ c)) (λ a b c s. ((a ⊕ b) ⊕ (false ⊕ c)) ⊕ s) tt
    (dot g.x (word_of n (λ q. (k q).sx))) (dot g.z (word_of n (λ q. (k q).sz))) (dot 0 0) s
    ∙ ap (λ b. ((dot g.x (word_of n (λ q. (k q).sx)) ⊕ dot g.z (word_of n (λ q. (k q).sz))) ⊕ (b ⊕ dot 0 0)) ⊕ s)
    (sym (zero-dot 1))

shift : (a b c : Bool) → b ⊕ a ≡ c → a ⊕ (b ⊕ c) ≡ false
shift a b c e = ap (λ k. a ⊕ (b ⊕ k)) (sym e) ∙ bits 2 (λ a b. a ⊕ (b ⊕ (b ⊕ a))) (λ a b. false) tt a b

module _ (n : ℕ) (rows others : ℕ → Pauli) (P : Proper n rows) (P' : Proper n others) (d : ℕ → Clifford)
    (C : Carries n d rows others) (i : ℕ) (li : i < n) (g : Generator) (eg : generator_of g ≡ rows i) where
  row_within : Within n (generator_of g)
  row_within = subst (Within n) (sym eg) (P.within i li)

  carried : InGroup n n others (act n d (generator_of g))
  carried = subst (λ p. InGroup n n others (act n d p)) (sym eg) (C.into (rows i) (in_row n n rows i li))

  -- c has the classes of d, and p is the image of g under them, all signs plus; h is an element with p's letters
  pub sign-equation : (c : ℕ → Clifford) → ((q : ℕ) → q < n → class_key (d q) ≡ class_key (c q))
      → (p h : Generator)
      → generator_of p ≡ act n (λ q. without_signs (c q)) (generator_of g) → InGroup n n others (generator_of h)
      → p.z ≡ h.z → p.x ≡ h.x
      → fails (sign_equation g (p.minus ⊕ h.minus)) (sign_assignment n d) ≡ false
  unfolding act
  sign-equation c hc p h ep eh ez ex =
      asked n g (p.minus ⊕ h.minus) d
      ∙ shift (fails (sign_equation g false) (sign_assignment n d)) p.minus h.minus
      (minus-injective _ _ signs)
    where
      bares : act n (λ q. without_signs (d q)) (generator_of g) ≡ generator_of p
      bares =
          act-within n (λ q. without_signs (d q)) (λ q. without_signs (c q))
          (λ q l. ap (λ m. record { class = m; sx = false; sz = false }) (class-injective _ _ (hc q l)))
          (generator_of g) row_within
          ∙ sym ep

      letter-z : (q : ℕ) → (act n d (generator_of g)).z q ≡ bit h.z q
      letter-z q =
          ap z_bit (sym (image-bare (d q) (letter_at (generator_of g) q))) ∙ ap (λ r. r.z q) bares
          ∙ ap (λ w. bit w q) ez

      letter-x : (q : ℕ) → (act n d (generator_of g)).x q ≡ bit h.x q
      letter-x q =
          ap x_bit (sym (image-bare (d q) (letter_at (generator_of g) q))) ∙ ap (λ r. r.x q) bares
          ∙ ap (λ w. bit w q) ex

      signs : minus (p.minus ⊕ fails (sign_equation g false) (sign_assignment n d)) ≡ minus h.minus
      signs =
          minus-⊕ p.minus _
          ∙ ap (λ r. r.phase +ᵖ minus (fails (sign_equation g false) (sign_assignment n d))) (sym bares)
          ∙ sym (image-sign n d g row_within)
          ∙ ap (λ r. r.phase) (letters-determine n others P' carried eh letter-z letter-x)

-- ---- and a choice that solves the equation sends the row to the element
pub sign-sends : (n : ℕ) (rows others : ℕ → Pauli) → Proper n rows → Proper n others → (d : ℕ → Clifford) (i : ℕ)
    → i < n → (g : Generator) → generator_of g ≡ rows i
    → (c : ℕ → Clifford) → ((q : ℕ) → q < n → class_key (d q) ≡ class_key (c q))
    → (p h : Generator) → generator_of p ≡ act n (λ q. without_signs (c q)) (generator_of g) → p.z ≡ h.z → p.x ≡ h.x
    → fails (sign_equation g (p.minus ⊕ h.minus)) (sign_assignment n d) ≡ false
    → act n d (generator_of g) ≡ generator_of h
unfolding act
sign-sends n rows others P P' d i li g eg c hc p h ep ez ex e = Pauli-path phase letter-z letter-x
  where
    within : Within n (generator_of g)
    within = subst (Within n) (sym eg) (P.within i li)

    bares : act n (λ q. without_signs (d q)) (generator_of g) ≡ generator_of p
    bares =
        act-within n (λ q. without_signs (d q)) (λ q. without_signs (c q))
        (λ q l. ap (λ m. record { class = m; sx = false; sz = false }) (class-injective _ _ (hc q l)))
        (generator_of g) within
        ∙ sym ep

    letter-z : (q : ℕ) → (act n d (generator_of g)).z q ≡ bit h.z q
    letter-z q =
        ap z_bit (sym (image-bare (d q) (letter_at (generator_of g) q))) ∙ ap (λ r. r.z q) bares
        ∙ ap (λ w. bit w q) ez

    letter-x : (q : ℕ) → (act n d (generator_of g)).x q ≡ bit h.x q
    letter-x q =
        ap x_bit (sym (image-bare (d q) (letter_at (generator_of g) q))) ∙ ap (λ r. r.x q) bares
        ∙ ap (λ w. bit w q) ex

    change : fails (sign_equation g false) (sign_assignment n d) ≡ p.minus ⊕ h.minus
    change = ⊕-cancel _ _ (sym (asked n g (p.minus ⊕ h.minus) d) ∙ e)

    phase : (act n d (generator_of g)).phase ≡ minus h.minus
    phase =
        image-sign n d g within ∙ ap₂ (λ r b. r.phase +ᵖ minus b) bares change
        ∙ sym (minus-⊕ p.minus (p.minus ⊕ h.minus))
        ∙ ap minus (bits 2 (λ a b. a ⊕ (a ⊕ b)) (λ a b. b) tt p.minus h.minus)
