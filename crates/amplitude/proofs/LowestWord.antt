-- The outcomes of Z measured from the last qubit down, 0 where it is possible, are the smallest supported word.
use mathlib.Core.Bool.{◌&&◌, Bool, cond, false, true}
use mathlib.Core.Logic.{◌↔◌, ◌⊎◌, inl, inr}
use mathlib.Core.Path.{◌∙◌, ◌≡◌, ap, refl, sym}
use Prim.Native.Nat.{◌%◌, ◌+◌, ◌-◌, ◌/◌, ◌<◌, ◌^◌, suc, zero, ℕ, ◌≤◌}
use native.Mathlib.Nat.{div-mul-le_self, le-div_iff_mul-le, le_refl, le_trans}
use native.Mathlib.Omega.{arith}
use lib.Pow.{pow_pos}
use Rattle.operations.specs.Measurement.{contradicts, is_determined, measured_rows, single}
use Rattle.pauli.specs.Pauli.{Pauli}
use Rattle.pauli.specs.declared.Letter.{Letter}
use Rattle.pauli.specs.declared.Letter.TheVariants.{Z}
use Rattle.stabilizer.proofs.GroupLaws.{same-sym}
use Rattle.stabilizer.specs.Membership.{member}
use Rattle.words.proofs.BitLaws.{bit-above, bit-ext, bit-ext∞, bit-shr, bit-suc, bit-word_of, digit-odd, word_of-lt}
use Rattle.words.proofs.Flags.{never_true}
use Rattle.words.proofs.SearchLaws.{first-unique}
use Rattle.words.proofs.Sums.{lt-or-ge}
use Rattle.words.specs.Bits.{Word, ◌⊕◌, bit, digit, word_of}
use Rattle.amplitude.proofs.Existence.{lowest-supported}
use Rattle.amplitude.proofs.MeasuredWords.{forbidden-bit, supported-measured}
use Rattle.amplitude.proofs.Support.{supported-exactly, supported-ext, supported-of-group}
use Rattle.amplitude.specs.internal.Measuring.{MeasuredDown}
use Rattle.amplitude.specs.internal.Ratios.{Supported}
use Rattle.amplitude.specs.Ratios.{lowest, is_supported}

-- ---- the highest bit where two numbers differ decides
pub bit-less : (a c q : ℕ) → bit a q ≡ false → bit c q ≡ true → ((t : ℕ) → q < t → bit a t ≡ bit c t) → a < c
unfolding bit
bit-less a c q ea ec above = elim (lt-or-ge a c) [
  | inl l ↦ l
  | inr l ↦ absurd (omega (
    arith,
    half,
    low,
    high,
    (le-div_iff_mul-le {k = 2 ^ q} {x = c / 2 ^ q} {y = a} (pow_pos q)).1 (le_trans (div-mul-le_self c (2 ^ q)) l),
  ))
]
  where
    low : (a / 2 ^ q) % 2 ≡ 0
    low = sym (digit-odd (a / 2 ^ q)) ∙ ap digit ea

    high : (c / 2 ^ q) % 2 ≡ 1
    high = sym (digit-odd (c / 2 ^ q)) ∙ ap digit ec

    half : (a / 2 ^ q) / 2 ≡ (c / 2 ^ q) / 2
    half = bit-ext∞ ((a / 2 ^ q) / 2) ((c / 2 ^ q) / 2) (λ t.
        sym (bit-suc (a / 2 ^ q) t) ∙ bit-shr a q (suc t) ∙ above (q + suc t) (omega arith)
        ∙ sym (bit-shr c q (suc t)) ∙ bit-suc (c / 2 ^ q) t)

-- ---- the outcome that is taken is possible
possible : (n : ℕ) (R : ℕ → Pauli) (l : Letter) (q : ℕ) → contradicts n R l q (contradicts n R l q false) ≡ false
possible n R l q = go (is_determined n R l q) (member n R (single l q true))
  where
    go : (d m : Bool) → (d && (cond d m (d && (cond d m false ⊕ false)) ⊕ (d && (cond d m false ⊕ false)))) ≡ false
    go false m = refl
    go true false = refl
    go true true = refl

module _ (n : ℕ) (R : ℕ → Pauli) (down : ℕ → ℕ → Pauli) (forced : Word) (M : MeasuredDown n R down forced) where
  -- supported, and the outcomes so far
  abbrev Left : ℕ → Word → Type 0
  Left k y = Supported n R y × ((t : ℕ) → n - k ≤ t → t < n → y t ≡ forced t)

  -- the outcome that is taken is possible
  taken : (k : ℕ) → k < n → contradicts n (down k) Z (n - suc k) (forced (n - suc k)) ≡ false
  taken k l = ap (contradicts n (down k) Z (n - suc k)) (M.outcome k l) ∙ possible n (down k) Z (n - suc k)

  one_more : (k : ℕ) → k < n → (y : Word) → Supported n (down k) y ↔ Left k y
      → Supported n (down (suc k)) y ↔ Left (suc k) y
  one_more k l y ih = (
    (λ H. forth (step.0 (supported-of-group n _ _ (same-sym (M.each k l)) y H))),
    (λ H. supported-of-group n _ _ (M.each k l) y (step.1 (back H))),
  )
    where
      step : Supported n (measured_rows n (down k) Z (n - suc k) (forced (n - suc k))) y
          ↔ (Supported n (down k) y × (y (n - suc k) ≡ forced (n - suc k)))
      step = supported-measured n (n - suc k) (omega arith) (down k) (M.proper k (omega arith))
          (forced (n - suc k)) (taken k l) y

      forth : Supported n (down k) y × (y (n - suc k) ≡ forced (n - suc k)) → Left (suc k) y
      forth H = (
        (ih.0 H.0).0,
        λ t a b. elim (lt-or-ge t (n - k)) [
          | inr c ↦ (ih.0 H.0).1 t c b
          | inl c ↦ (let e : t ≡ n - suc k = omega (arith, a, c) in ap y e ∙ H.1 ∙ ap forced (sym e))
        ],
      )

      back : Left (suc k) y → Supported n (down k) y × (y (n - suc k) ≡ forced (n - suc k))
      back H = (
        ih.1 (H.0, λ t a b. H.1 t (omega (arith, a)) b),
        H.1 (n - suc k) (le_refl (n - suc k)) (omega arith),
      )

  -- the words that are left
  pub left-words : (k : ℕ) → k ≤ n → (y : Word)
      → Supported n (down k) y ↔ (Supported n R y × ((t : ℕ) → n - k ≤ t → t < n → y t ≡ forced t))
  left-words zero l y = (
    (λ H. (supported-of-group n _ _ (same-sym M.start) y H, λ t a b. absurd (omega (arith, a, b)))),
    (λ H. supported-of-group n _ _ M.start y H.0),
  )
  left-words (suc k) l y = one_more k l y (left-words k (omega arith) y)

  -- all measured: one word is left
  forced-supported : Supported n R forced
  forced-supported =
      let D = M.proper n (le_refl n) in
      let H = (left-words n (le_refl n) (bit (lowest n (down n)))).0 (lowest-supported n (down n) D) in
      supported-ext n R (bit (lowest n (down n))) forced (λ t l. H.1 t (omega arith) l) H.0

  abbrev least : ℕ
  least = word_of n forced

  -- a supported word agrees with it from the top, or is larger
  abbrev Agrees : ℕ → ℕ → Type 0
  Agrees j k = (t : ℕ) → n - k ≤ t → t < n → bit j t ≡ forced t

  module _ (j : ℕ) (below : j < 2 ^ n) (H : Supported n R (bit j)) where
    agrees-more : (k : ℕ) → k < n → Agrees j k → Agrees j (suc k) ⊎ (least < j)
    agrees-more k l A = split (forced (n - suc k)) refl (bit j (n - suc k)) refl
      where
        here : bit j (n - suc k) ≡ forced (n - suc k) → Agrees j (suc k)
        here e t a b = elim (lt-or-ge t (n - k)) [
          | inr c ↦ A t c b
          | inl c ↦ (let f : t ≡ n - suc k = omega (arith, a, c) in ap (bit j) f ∙ e ∙ ap forced (sym f))
        ]

        above : (t : ℕ) → n - suc k < t → bit least t ≡ bit j t
        above t a = elim (lt-or-ge t n) [
          | inl b ↦ bit-word_of n forced t b ∙ sym (A t (omega (arith, a)) b)
          | inr b ↦ bit-above n least (word_of-lt n forced) t b ∙ sym (bit-above n j below t b)
        ]

        split : (f : Bool) → forced (n - suc k) ≡ f → (v : Bool) → bit j (n - suc k) ≡ v → Agrees j (suc k) ⊎
            (least < j)
        split false e false h = inl (here (h ∙ sym e))
        split false e true h = inr (bit-less least j (n - suc k)
            (bit-word_of n forced (n - suc k) (omega arith) ∙ e) h above)
        split true e v h = inl (here (forbidden-bit n (n - suc k) (omega arith) (down k)
            (M.proper k (omega arith)) (sym (M.outcome k l) ∙ e) (bit j)
            ((left-words k (omega arith) (bit j)).1 (H, A)) ∙ sym e))

    agrees : (k : ℕ) → k ≤ n → Agrees j k ⊎ (least < j)
    agrees zero l = inl (λ t a b. absurd (omega (arith, a, b)))
    agrees (suc k) l = elim (agrees k (omega arith)) [
      | inl A ↦ agrees-more k l A
      | inr b ↦ inr b
    ]

  pub lowest-by-measuring : lowest n R ≡ word_of n forced
  lowest-by-measuring = first-unique (2 ^ n) (is_supported n R) least (record {
    below = word_of-lt n forced;
    passes = (supported-exactly n R least).1
        (supported-ext n R forced (bit least) (λ q l. sym (bit-word_of n forced q l)) forced-supported);
    least = λ j l. never_true (is_supported n R j) (λ e. none j l ((supported-exactly n R j).0 e));
  })
    where
      none : (j : ℕ) → j < least → Supported n R (bit j) → ⊥
      none j l H =
          let below : j < 2 ^ n = omega (arith, l, word_of-lt n forced) in
          elim (agrees j below H n (le_refl n)) [
            | inl A ↦ (let e = bit-ext n j least below (word_of-lt n forced)
                (λ q k. A q (omega arith) k ∙ sym (bit-word_of n forced q k)) in absurd (omega (arith, e, l)))
            | inr b ↦ absurd (omega (arith, b, l))
          ]
