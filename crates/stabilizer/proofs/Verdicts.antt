-- What lines 9 and 10 mean: two generators do not commute; some product of generators has no letter.
use mathlib.Core.Bool.{◌&&◌, Bool, and-true, false, false≢true, not, true, true≢false}
use mathlib.Core.Logic.{inl, inr, ◌↔◌}
use mathlib.Core.Path.{ap, ap₂, refl, subst, sym, ◌∙◌, ◌≡◌}
use Prim.Native.Nat.{◌<◌, ◌^◌, ℕ}
use lib.Dec.{eqb}
use lib.Pow.{pow_pos}
use borrow.Author.Tests.{eqb-false, eqb-true, not-false, not-true}
use Rattle.pauli.specs.Pauli.{Pauli, anticommute, identity, mul}
use Rattle.words.proofs.BitLaws.{bit-ext, bit-word_of, word_of-lt, zero_bit}
use Rattle.words.proofs.Flags.{both_true}
use Rattle.words.proofs.SearchLaws.{every-at, every_in, first-is, some-false, some_in, some-none, some-true}
use Rattle.words.proofs.Sums.{fold-ext}
use Rattle.words.specs.Bits.{Word, bit, word_of}
use Rattle.words.specs.Search.{first, some}
use Rattle.stabilizer.specs.Groups.{Independent, Trivial, chosen, product}
use Rattle.stabilizer.specs.Lists.{clashing, dependent, letterless}

-- ---- line 9
-- two of the first n rows do not commute
abbrev pub ClashingPair : ℕ → (ℕ → Pauli) → Type 0
ClashingPair n R = (i : ℕ) × (j : ℕ) × (i < n) × (j < n) × (anticommute n (R i) (R j) ≡ true)

pub clashing-pair : (n : ℕ) (R : ℕ → Pauli) → (clashing n R ≡ true) ↔ ClashingPair n R
unfolding clashing
clashing-pair n R = (
  (λ e. let F = some-true n (λ i. some n (λ j. anticommute n (R i) (R j))) e in
      let G = some-true n _ F.passes in (_, _, F.below, G.below, G.passes)),
  (λ P. some_in n (λ i. some n (λ j. anticommute n (R i) (R j))) P.0 P.2
      (some_in n (λ j. anticommute n (R P.0) (R j)) P.1 P.3 P.4)),
)

pub not-clashing : (n : ℕ) (R : ℕ → Pauli) →
    (clashing n R ≡ false) ↔ ((i j : ℕ) → i < n → j < n → anticommute n (R i) (R j) ≡ false)
unfolding clashing
not-clashing n R = (
  (λ e i j k l. some-false n (λ j. anticommute n (R i) (R j))
      (some-false n (λ i. some n (λ j. anticommute n (R i) (R j))) e i k) j l),
  (λ h. some-none n (λ i. some n (λ j. anticommute n (R i) (R j)))
      (λ i k. some-none n (λ j. anticommute n (R i) (R j)) (λ j l. h i j k l))),
)

-- ---- line 10
pub letterless-trivial : (n : ℕ) (p : Pauli) → (letterless n p ≡ true) ↔ Trivial n p
letterless-trivial n p = (
  (λ e. record {
    no-x = λ q l. (both-not (p.x q) (p.z q) (every-at n _ e q l)).0;
    no-z = λ q l. (both-not (p.x q) (p.z q) (every-at n _ e q l)).1;
  }),
  (λ t. every_in n _ (λ q l. ap₂ (λ a b. not a && not b) (t.no-x q l) (t.no-z q l))),
)
  where
    both-not : (a b : Bool) → (not a && not b) ≡ true → (a ≡ false) × (b ≡ false)
    both-not false false e = (refl, refl)
    both-not false true e = absurd (false≢true e)
    both-not true b e = absurd (false≢true e)

-- a word that is not 0 has a bit
pub some-bit : (n v : ℕ) → v < 2 ^ n → (v ≡ 0 → ⊥) → (j : ℕ) × (j < n) × (bit v j ≡ true)
some-bit n v l h = elim (first-is n (bit v)) [
  | inl F ↦ (first n (bit v), F.below, F.passes)
  | inr none ↦ absurd (h (bit-ext n v 0 l (pow_pos n) (λ q k. none q k ∙ sym (zero_bit q))))
]

-- some of the generators, not none of them, have a product without a letter
abbrev pub LetterlessProduct : ℕ → (ℕ → Pauli) → Type 0
LetterlessProduct n R = (w : Word) × (j : ℕ) × (j < n) × (w j ≡ true) × Trivial n (product n n w R)

abbrev letterless_at : ℕ → (ℕ → Pauli) → ℕ → Bool
letterless_at n R v = not (eqb v 0) && letterless n (product n n (bit v) R)

pub dependent-product : (n : ℕ) (R : ℕ → Pauli) → dependent n R ≡ true → LetterlessProduct n R
unfolding dependent
dependent-product n R e =
    let F = some-true (2 ^ n) (letterless_at n R) e in
    let v = first (2 ^ n) (letterless_at n R) in
    let h = both_true (not (eqb v 0)) (letterless n (product n n (bit v) R)) F.passes in
    let s = some-bit n v F.below (λ z. eqb-false v 0 (not-true (eqb v 0) h.0) z) in
    (bit v, s.0, s.1, s.2, (letterless-trivial n (product n n (bit v) R)).0 h.1)

pub dependent-not : (n : ℕ) (R : ℕ → Pauli) → dependent n R ≡ true → Independent n R → ⊥
dependent-not n R e H =
    let P = dependent-product n R e in true≢false (sym P.3 ∙ H P.0 P.4 P.1 P.2)

pub not-dependent : (n : ℕ) (R : ℕ → Pauli) → dependent n R ≡ false → Independent n R
unfolding dependent
not-dependent n R e w t j l =
    sym (bit-word_of n w j l) ∙ ap (λ v. bit v j) is_zero ∙ zero_bit j
  where
    without : letterless n (product n n (bit (word_of n w)) R) ≡ true
    without = (letterless-trivial n (product n n (bit (word_of n w)) R)).1
        (subst (Trivial n) (sym (fold-ext identity (mul n) n
        (λ i k. ap (λ b. chosen b (R i)) (bit-word_of n w i k)))) t)

    is_zero : word_of n w ≡ 0
    is_zero = eqb-true (word_of n w) 0 (not-false (eqb (word_of n w) 0)
        (sym (and-true (not (eqb (word_of n w) 0)))
        ∙ ap (λ b. not (eqb (word_of n w) 0) && b) (sym without)
        ∙ some-false (2 ^ n) (letterless_at n R) e (word_of n w) (word_of-lt n w)))

-- line 10 holds exactly where the list is not independent
pub independent-exactly : (n : ℕ) (R : ℕ → Pauli) → (dependent n R ≡ false) ↔ Independent n R
independent-exactly n R = (not-dependent n R, λ H. go (dependent n R) refl H)
  where
    go : (v : Bool) → dependent n R ≡ v → Independent n R → v ≡ false
    go false e H = refl
    go true e H = absurd (dependent-not n R e H)
