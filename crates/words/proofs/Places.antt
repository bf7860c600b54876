-- Places: whether two are the same, a function changed at one of them, and a sum with one term.
use mathlib.Core.Bool.{◌&&◌, Bool, and-false, and-true, cond, false, not, true, true≢false}
use mathlib.Core.Logic.{inl, inr, ◌≢◌, ◌⊎◌}
use mathlib.Core.Path.{ap, ap₂, refl, subst, sym, ◌∙◌, ◌≡◌}
use Prim.Native.Nat.{◌+◌, ◌<◌, ◌^◌, ℕ, ◌≤◌}
use native.Mathlib.Decide.{ℕ_discrete}
use native.Mathlib.Nat.{le_refl}
use native.Mathlib.Numerals.{add-one}
use native.Mathlib.Omega.{arith}
use lib.Arith.{lt_of_le-ne}
use lib.Bits.{bit_xor}
use lib.Dec.{eqb, ltb}
use borrow.Author.Tests.{eq-eqb, le-ltb, lt-ltb, ne_eqb}
use Rattle.words.proofs.BitLaws.{bit-flip}
use Rattle.words.proofs.Finite.{⊕-true, ⊕-zero}
use Rattle.words.proofs.Sums.{bit_monoid, fold-one, lt-or-ge}
use Rattle.words.specs.Bits.{bit, parity, put, ◌⊕◌}

pub same_place : (i : ℕ) → eqb i i ≡ true
same_place i = eq-eqb i i refl

pub other_place : {i j : ℕ} → i ≢ j → eqb i j ≡ false
other_place {i} {j} h = ne_eqb i j h

pub place-comm : (i j : ℕ) → eqb i j ≡ eqb j i
place-comm i j = go (ℕ_discrete i j)
  where
    go : Dec (i ≡ j) → eqb i j ≡ eqb j i
    go (yes e) = ap (λ v. eqb v j) e ∙ ap (eqb j) (sym e)
    go (no d) = other_place d ∙ sym (other_place (λ e. d (sym e)))

-- a place below i + 1 that is not i is below i
pub upto-other : (j i : ℕ) → j ≢ i → ltb j (i + 1) ≡ ltb j i
upto-other j i d = go (lt-or-ge j i)
  where
    go : (j < i) ⊎ (i ≤ j) → ltb j (i + 1) ≡ ltb j i
    go (inl l) = lt-ltb j (i + 1) (omega arith) ∙ sym (lt-ltb j i l)
    go (inr l) = le-ltb j (i + 1) (rw add-one (lt_of_le-ne l (λ e. d (sym e)))) ∙ sym (le-ltb j i l)

-- of the places below i + 1, those below i and i itself
pub upto-with : (f : ℕ → Bool) (i j : ℕ) → (ltb j i && f j) ⊕ (eqb j i && f i) ≡ (ltb j (i + 1) && f j)
upto-with f i j = go (ℕ_discrete j i)
  where
    go : Dec (j ≡ i) → (ltb j i && f j) ⊕ (eqb j i && f i) ≡ (ltb j (i + 1) && f j)
    go (yes e) =
        subst (λ v. (ltb v i && f v) ⊕ (eqb v i && f i) ≡ (ltb v (i + 1) && f v)) (sym e)
        (ap₂ (λ u v. (u && f i) ⊕ (v && f i)) (le-ltb i i (le_refl i)) (same_place i)
        ∙ sym (ap (λ u. u && f i) (lt-ltb i (i + 1) (omega arith))))
    go (no d) =
        ap (λ u. (ltb j i && f j) ⊕ (u && f i)) (other_place d)
        ∙ ⊕-zero _ ∙ ap (λ u. u && f j) (sym (upto-other j i d))

pub ⊕-cancel : (a b : Bool) → a ⊕ b ≡ false → a ≡ b
⊕-cancel false b e = sym e
⊕-cancel true false e = absurd (true≢false e)
⊕-cancel true true e = refl

-- the only place that counts
pub parity-at : (n : ℕ) (f : ℕ → Bool) (j : ℕ) → j < n → parity n (λ q. f q && eqb q j) ≡ f j
parity-at n f j l = fold-one false ◌⊕◌ bit_monoid n j l (λ q k h. ap (λ b. f q && b) (other_place h)
    ∙ and-false (f q)) ∙ ap (λ b. f j && b) (same_place j) ∙ and-true (f j)

-- the laws of a changed function
module _ {A : Type 0} where
  pub put_same : (f : ℕ → A) (i : ℕ) (a : A) → put f i a i ≡ a
  unfolding put
  put_same f i a = ap (λ b. cond b a (f i)) (same_place i)

  pub put_other : (f : ℕ → A) (i : ℕ) (a : A) (j : ℕ) → j ≢ i → put f i a j ≡ f j
  unfolding put
  put_other f i a j h = ap (λ b. cond b a (f j)) (other_place h)

  -- a fact of every place of the changed function
  pub put_all : (P : ℕ → A → Type 0) (f : ℕ → A) (i : ℕ) (a : A) → P i a → (j : ℕ) → (j ≢ i → P j (f j))
      → P j (put f i a j)
  put_all P f i a h j k = go (ℕ_discrete j i)
    where
      go : Dec (j ≡ i) → P j (put f i a j)
      go (yes e) = subst (λ v. P v (put f i a v)) (sym e) (subst (P i) (sym (put_same f i a)) h)
      go (no d) = subst (P j) (sym (put_other f i a j d)) (k d)

-- a bit set to what it is, and a bit set to what it is not
pub bit-put-kept : (w q : ℕ) (b : Bool) → bit w q ≡ b → (j : ℕ) → bit w j ≡ put (bit w) q b j
bit-put-kept w q b e j =
    put_all (λ j v. bit w j ≡ v) (bit w) q b e j (λ _. refl)

pub bit-put-flipped : (w q : ℕ) (b : Bool) (r : ℕ) {d : Bool} → r ≡ bit_xor w (2 ^ q) → bit w q ≡ d → b ≡ not d
    →
    (j : ℕ) → bit r j ≡ put (bit w) q b j
bit-put-flipped w q b r {d} e h k j =
    ap (λ v. bit v j) e ∙ bit-flip w q j
    ∙ put_all (λ j v. bit w j ⊕ eqb j q ≡ v) (bit w) q b
    (ap₂ ◌⊕◌ h (same_place q) ∙ ⊕-true d ∙ sym k) j
    (λ o. ap (λ s. bit w j ⊕ s) (other_place o) ∙ ⊕-zero (bit w j))

-- a bit flipped where b is true
pub bit-flip-where : (w q : ℕ) (b : Bool) (r : ℕ) → r ≡ cond b (bit_xor w (2 ^ q)) w →
    (j : ℕ) → bit r j ≡ bit w j ⊕ (eqb j q && b)
bit-flip-where w q true r e j =
    ap (λ v. bit v j) e ∙ bit-flip w q j ∙ ap (λ s. bit w j ⊕ s) (sym (and-true (eqb j q)))
bit-flip-where w q false r e j =
    ap (λ v. bit v j) e ∙ sym (ap (λ s. bit w j ⊕ s) (and-false (eqb j q)) ∙ ⊕-zero (bit w j))
