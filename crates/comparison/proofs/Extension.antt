-- A triangular table: values that satisfy the equations of the first qubits extend to a solution.
use mathlib.Core.Bool.{◌&&◌, Bool, false, true, true≢false}
use mathlib.Core.List.{List}
use mathlib.Core.Logic.{inl, inr, ◌⊎◌}
use mathlib.Core.Path.{ap, ap₂, refl, subst, sym, ◌∙◌, ◌≡◌}
use Prim.Native.Nat.{◌%◌, ◌*◌, ◌+◌, ◌-◌, ◌/◌, ◌<◌, ◌^◌, ◌≤◌, suc, zero, ℕ}
use native.Mathlib.Nat.{le_refl, lt_of_lt_of_le, ne_of_lt}
use native.Mathlib.Omega.{arith}
use lib.Bits.{bit_xor}
use lib.ListN.{get_or-eq_default}
use Rattle.words.proofs.BitLaws.{and-lt-right, bit-and, bit-flip, bit-single, lt-of-bits}
use Rattle.words.proofs.Finite.{bits, ⊕-zero}
use Rattle.words.proofs.OnesLaws.{dot-xor-r, parity-ones}
use Rattle.words.proofs.Places.{other_place, parity-at}
use Rattle.words.proofs.Sums.{fold-ext, last_or, lt-or-ge}
use Rattle.words.specs.Bits.{bit, parity, ◌⊕◌}
use Rattle.words.specs.internal.Bits.{dot}
use Rattle.comparison.proofs.EquationLaws.{SameBelow, Short, empty_holds, fails-below}
use Rattle.comparison.specs.internal.Equations.{
  Assignment,
  Equation,
  Solves,
  Triangular,
  empty_equation,
  equation_at,
  fails,
  unknown,
  word_at,
}

-- ---- one unknown changed
pub dot-short : (n u v : ℕ) → v < 2 ^ n → dot u v ≡ parity n (λ q. bit u q && bit v q)
unfolding dot
dot-short n u v l = parity-ones n _ (and-lt-right n u v l) ∙ fold-ext false ◌⊕◌ n (λ q k. bit-and u v q)

pub dot-single : (u q : ℕ) → dot u (2 ^ q) ≡ bit u q
dot-single u q =
    dot-short (suc q) u (2 ^ q) (lt-of-bits (suc q) (2 ^ q) (λ t l. bit-single q t ∙ other_place
    (λ e. ne_of_lt l (sym e))))
    ∙ fold-ext false ◌⊕◌ (suc q) (λ t l. ap (λ b. bit u t && b) (bit-single q t))
    ∙ parity-at (suc q) (bit u) q (omega arith)

abbrev pub changed : ℕ → ℕ → Assignment → Assignment
changed zero q w = record { a = bit_xor w.a (2 ^ q); b = w.b; c = w.c; d = w.d }
changed (suc zero) q w = record { a = w.a; b = bit_xor w.b (2 ^ q); c = w.c; d = w.d }
changed (suc (suc zero)) q w = record { a = w.a; b = w.b; c = bit_xor w.c (2 ^ q); d = w.d }
changed (suc (suc (suc l))) q w = record { a = w.a; b = w.b; c = w.c; d = bit_xor w.d (2 ^ q) }

dot-changed : (u v q : ℕ) → dot u (bit_xor v (2 ^ q)) ≡ dot u v ⊕ bit u q
dot-changed u v q = dot-xor-r u v (2 ^ q) ∙ ap (λ b. dot u v ⊕ b) (dot-single u q)

pub fails-changed : (l q : ℕ) (e : Equation) (w : Assignment)
    → fails e (changed l q w) ≡ fails e w ⊕ bit (word_at l e.a e.b e.c e.d) q
unfolding fails
fails-changed zero q e w =
    ap (λ t. (t ⊕ dot e.b w.b) ⊕ (dot e.c w.c ⊕ dot e.d w.d)) (dot-changed e.a w.a q)
    ∙ bits 5 (λ a b c d t. ((a ⊕ t) ⊕ b) ⊕ (c ⊕ d)) (λ a b c d t. ((a ⊕ b) ⊕ (c ⊕ d)) ⊕ t) tt
    (dot e.a w.a) (dot e.b w.b) (dot e.c w.c) (dot e.d w.d) (bit e.a q)
fails-changed (suc zero) q e w =
    ap (λ t. ((dot e.a w.a ⊕ t) ⊕ (dot e.c w.c ⊕ dot e.d w.d))) (dot-changed e.b w.b q)
    ∙ bits 5 (λ a b c d t. (a ⊕ (b ⊕ t)) ⊕ (c ⊕ d)) (λ a b c d t. ((a ⊕ b) ⊕ (c ⊕ d)) ⊕ t) tt
    (dot e.a w.a) (dot e.b w.b) (dot e.c w.c) (dot e.d w.d) (bit e.b q)
fails-changed (suc (suc zero)) q e w =
    ap (λ t. ((dot e.a w.a ⊕ dot e.b w.b) ⊕ (t ⊕ dot e.d w.d))) (dot-changed e.c w.c q)
    ∙ bits 5 (λ a b c d t. (a ⊕ b) ⊕ ((c ⊕ t) ⊕ d)) (λ a b c d t. ((a ⊕ b) ⊕ (c ⊕ d)) ⊕ t) tt
    (dot e.a w.a) (dot e.b w.b) (dot e.c w.c) (dot e.d w.d) (bit e.c q)
fails-changed (suc (suc (suc l))) q e w =
    ap (λ t. ((dot e.a w.a ⊕ dot e.b w.b) ⊕ (dot e.c w.c ⊕ t))) (dot-changed e.d w.d q)
    ∙ bits 5 (λ a b c d t. (a ⊕ b) ⊕ (c ⊕ (d ⊕ t))) (λ a b c d t. ((a ⊕ b) ⊕ (c ⊕ d)) ⊕ t) tt
    (dot e.a w.a) (dot e.b w.b) (dot e.c w.c) (dot e.d w.d) (bit e.d q)

pub same_refl : (m : ℕ) (w : Assignment) → SameBelow m w w
same_refl m w = record { a = λ q l. refl; b = λ q l. refl; c = λ q l. refl; d = λ q l. refl }

same-trans : (m : ℕ) (w v u : Assignment) → SameBelow m w v → SameBelow m v u → SameBelow m w u
same-trans m w v u s t =
    record {
      a = λ q l. s.a q l ∙ t.a q l;
      b = λ q l. s.b q l ∙ t.b q l;
      c = λ q l. s.c q l ∙ t.c q l;
      d = λ q l. s.d q l ∙ t.d q l;
    }

-- the qubits below keep their values
same-changed : (l q m : ℕ) (w : Assignment) → m ≤ q → SameBelow m (changed l q w) w
same-changed l q m w k = go l
  where
    one : (u t : ℕ) → t < m → bit (bit_xor u (2 ^ q)) t ≡ bit u t
    one u t h = bit-flip u q t ∙ ap (λ b. bit u t ⊕ b) (other_place (ne_of_lt (lt_of_lt_of_le h k))) ∙ ⊕-zero (bit u t)

    go : (l : ℕ) → SameBelow m (changed l q w) w
    go zero = record { a = one w.a; b = λ t l. refl; c = λ t l. refl; d = λ t l. refl }
    go (suc zero) = record { a = λ t l. refl; b = one w.b; c = λ t l. refl; d = λ t l. refl }
    go (suc (suc zero)) = record { a = λ t l. refl; b = λ t l. refl; c = one w.c; d = λ t l. refl }
    go (suc (suc (suc l))) = record { a = λ t l. refl; b = λ t l. refl; c = λ t l. refl; d = one w.d }

-- ---- the extension
module _ (table : List Equation) (T : Triangular table) where
  -- the equations of the qubits below m have no unknown from qubit m on
  pub row-short : (m i : ℕ) → i < 4 * m → Short m (equation_at table i)
  row-short m i l j k = T.above i j (lt_of_lt_of_le l k)

  -- .. so they cannot tell apart what agrees below m
  pub rows-below : (m : ℕ) (w v : Assignment) → SameBelow m w v
      → ((i : ℕ) → i < 4 * m → fails (equation_at table i) w ≡ false)
      → (i : ℕ) → i < 4 * m → fails (equation_at table i) v ≡ false
  rows-below m w v s h i l = sym (fails-below (equation_at table i) m (row-short m i l) w v s) ∙ h i l

  abbrev Next : ℕ → Assignment → Type 0
  Next p w = (w' : Assignment) × ((m : ℕ) → 4 * m ≤ p → SameBelow m w' w)
      × ((i : ℕ) → i < suc p → fails (equation_at table i) w' ≡ false)

  next : (p : ℕ) (w : Assignment) → ((i : ℕ) → i < p → fails (equation_at table i) w ≡ false) → Next p w
  next p w h = go (fails (equation_at table p) w) refl (T.leading p)
    where
      go : (b : Bool) → fails (equation_at table p) w ≡ b
          → (unknown (equation_at table p) p ≡ true) ⊎ (equation_at table p ≡ empty_equation) → Next p w
      go false e k = (w, (λ m l. same_refl m w), λ i l. last i (last_or l))
        where
          last : (i : ℕ) → (i ≡ p) ⊎ (i < p) → fails (equation_at table i) w ≡ false
          last i (inr l) = h i l
          last i (inl q) = ap (λ i. fails (equation_at table i) w) q ∙ e
      go true e (inr k) = absurd (true≢false (sym e ∙ ap (λ f. fails f w) k ∙ empty_holds w))
      go true e (inl k) = (
        changed (p % 4) (p / 4) w,
        (λ m l. same-changed (p % 4) (p / 4) m w (quarter m l)),
        λ i l. last i
            (last_or l),
      )
        where
          quarter : (m : ℕ) → 4 * m ≤ p → m ≤ p / 4
          quarter m l = omega (arith, l)

          last : (i : ℕ) → (i ≡ p) ⊎ (i < p) → fails (equation_at table i) (changed (p % 4) (p / 4) w) ≡ false
          last i (inr l) = fails-changed (p % 4) (p / 4) (equation_at table i) w ∙ ap₂ ◌⊕◌ (h i l) (T.above i p l)
          last i (inl q) =
              ap (λ i. fails (equation_at table i) (changed (p % 4) (p / 4) w)) q
              ∙ fails-changed (p % 4) (p / 4) (equation_at table p) w ∙ ap₂ ◌⊕◌ e k

  steps : (d p : ℕ) → p + d ≡ 256 → (w : Assignment) → ((i : ℕ) → i < p → fails (equation_at table i) w ≡ false)
      → (w' : Assignment) × ((m : ℕ) → 4 * m ≤ p → SameBelow m w' w)
      × ((i : ℕ) → i < 256 → fails (equation_at table i) w' ≡ false)
  steps zero p e w h = (w, (λ m l. same_refl m w), λ i k. h i (omega (arith, k, e)))
  steps (suc d) p e w h =
      let N = next p w h in
      let R = steps d (suc p) (omega (arith, e)) N.0 N.2 in (
        R.0,
        (λ m l. same-trans m R.0 N.0 w (R.1 m (omega (arith, l))) (N.1 m l)),
        R.2,
      )

  all-rows : (w : Assignment) → ((i : ℕ) → i < 256 → fails (equation_at table i) w ≡ false) → Solves table w
  all-rows w h i = go (lt-or-ge i 256)
    where
      go : (i < 256) ⊎ (256 ≤ i) → fails (equation_at table i) w ≡ false
      go (inl l) = h i l
      go (inr l) =
          ap (λ e. fails e w) (get_or-eq_default table empty_equation (subst (λ n. n ≤ i) (sym T.long) l)) ∙
          empty_holds w

  pub extended : (q : ℕ) → q ≤ 64 → (w : Assignment) → ((i : ℕ) → i < 4 * q → fails (equation_at table i) w ≡ false)
      → (w' : Assignment) × SameBelow q w' w × Solves table w'
  extended q l w h =
      let R = steps (256 - 4 * q) (4 * q) (omega (arith, l)) w h in (
        R.0,
        R.1 q (le_refl _),
        all-rows R.0 R.2,
      )
