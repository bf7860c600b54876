-- What the loop over all codes knows of those that it has looked at.
use mathlib.Core.Bool.{◌&&◌, Bool, and-false, and-true, false, not, or-false, true, true≢false, ◌||◌}
use mathlib.Core.List.{List}
use mathlib.Core.Logic.{inl, inr, ◌⊎◌}
use mathlib.Core.Path.{ap, ap₂, refl, subst, sym, ◌∙◌, ◌≡◌}
use Prim.Native.Nat.{◌%◌, ◌*◌, ◌+◌, ◌-◌, ◌/◌, ◌<◌, ◌^◌, suc, zero, zero-le, ℕ, ◌≤◌}
use native.Mathlib.Nat.{le_refl}
use native.Mathlib.Omega.{arith}
use lib.Bits.{bit_and, bit_or}
use lib.Dec.{eqb, eqb-suc-zero, lit<}
use lib.ListN.{get_or-eq_default, get_or, length}
use borrow.Author.Tests.{eq-eqb, eqb-true, le-leb, leb-false, lt-leb}
use Rattle.buffers.proofs.Reaching.{below_all, reaches-not}
use Rattle.buffers.specs.Refusals.{reaching}
use Rattle.words.proofs.PairWords.{bit-mod, bit-shl-low}
use Rattle.words.proofs.BitLaws.{bit-above, bit-and, bit-ext∞, bit-or, zero_bit}
use Rattle.words.proofs.Finite.{bits}
use Rattle.words.proofs.Flags.{neither}
use Rattle.words.proofs.Sums.{lt-or-ge}
use Rattle.words.specs.Bits.{bit}
use Rattle.operations_gates.proofs.ByteBits.{highest, up_one}
use Rattle.operations_gates.proofs.CodeBits.{above, by_bits, high_is, low-none, marked}
use Rattle.operations_gates.proofs.PackedBytes.{packed-marked}
use Rattle.operations_gates.specs.internal.Bytes.{Packed}
use Rattle.operations_gates.specs.internal.Suspects.{Marked, suspect}

-- what `high_bits` and `marks` make of a word
abbrev pub HighOf : ℕ → ℕ → Type 0
HighOf x h = (k t : ℕ) → k < 8 → t < 3
    → bit h (8 * k + (5 + t)) ≡ (bit x (8 * k + (5 + t)) || (bit x (8 * k + (4 + t)) && bit x (8 * k + (3 + t))))

abbrev pub MarksOf : ℕ → ℕ → Type 0
MarksOf x m = (k t : ℕ) → k < 8 → t < 8
    → bit m (8 * k + t) ≡ (eqb t 0 && (bit x (8 * k) || (bit x (8 * k + 3) || bit x (8 * k + 4))))

or-masked : (a b m : ℕ) → bit_and (bit_or a b) m ≡ bit_or (bit_and a m) (bit_and b m)
or-masked a b m = bit-ext∞ _ _ (λ j. bit-and (bit_or a b) m j ∙ ap (λ v. v && bit m j) (bit-or a b j)
    ∙ bits 3 (λ u v w. (u || v) && w) (λ u v w. (u && w) || (v && w)) tt (bit a j) (bit b j) (bit m j)
    ∙ sym (bit-or (bit_and a m) (bit_and b m) j ∙ ap₂ ◌||◌ (bit-and a m j) (bit-and b m j)))

none_of : (a b : ℕ) → bit_or a b ≡ 0 → (a ≡ 0) × (b ≡ 0)
none_of a b e =
    (bit-ext∞ a 0 (λ j. (off j).0 ∙ sym (zero_bit j)), bit-ext∞ b 0 (λ j. (off j).1 ∙ sym (zero_bit j)))
  where
    off : (j : ℕ) → (bit a j ≡ false) × (bit b j ≡ false)
    off j = neither (bit a j) (bit b j) (sym (bit-or a b j) ∙ ap (λ v. bit v j) e ∙ zero_bit j)

module _ (codes : List ℕ) where
  past : (q : ℕ) → length codes ≤ q → get_or codes q 0 ≡ 0
  past q l = get_or-eq_default codes 0 l

  -- ---- marks: those of the codes from i on, row by row
  pub record Rows (i rows : ℕ) : Type 0 where
    pub held : length codes ≤ 64 → (k r : ℕ) → k < 8 → r < 8 → bit rows (8 * k + r) ≡ marked
        (get_or codes (i + 8 * r + k) 0)

  pub rows_at : {i j rows : ℕ} → i ≡ j → Rows i rows → Rows j rows
  rows_at {i} {j} {rows} e R = subst (λ q. Rows q rows) e R

  marked-past : (q : ℕ) → length codes ≤ q → marked (get_or codes q 0) ≡ false
  unfolding bit
  marked-past q l = ap marked (past q l)

  module _ (i x m : ℕ) (P : Packed codes i 8 x) (M : MarksOf x m) where
    own-mark : (k : ℕ) → k < 8 → bit m (8 * k + 0) ≡ marked (get_or codes (i + 8 * 0 + k) 0)
    own-mark k h =
        let here : i + k ≡ i + 8 * 0 + k = omega arith in
        M k 0 h (lit< tt) ∙ packed-marked codes i x P k h ∙ ap (λ q. marked (get_or codes q 0)) here

    no-mark : (k r : ℕ) → k < 8 → suc r < 8 → bit m (8 * k + suc r) ≡ false
    no-mark k r h l = M k (suc r) h l
        ∙ ap (λ v. v && (bit x (8 * k) || (bit x (8 * k + 3) || bit x (8 * k + 4)))) (eqb-suc-zero r)

    pub rows_last : length codes ≤ i + 8 → Rows i m
    rows_last l = record { held = λ _. go }
      where
        go : (k r : ℕ) → k < 8 → r < 8 → bit m (8 * k + r) ≡ marked (get_or codes (i + 8 * r + k) 0)
        go k zero h s = own-mark k h
        go k (suc r) h s = no-mark k r h s ∙ sym (marked-past (i + 8 * suc r + k) (omega (arith, l)))

    pub rows_next : (rows : ℕ) → Rows (i + 8) rows → Rows i (bit_or (rows * 2 ^ 1 % 2 ^ 64) m)
    rows_next rows R = record { held = λ few k r h s. bit-or up m (8 * k + r) ∙ go few k r h s }
      where
        up : ℕ
        up = rows * 2 ^ 1 % 2 ^ 64

        none : length codes ≤ 64 → (k : ℕ) → k < 8 → bit up (8 * k + 0) ≡ false
        none few zero h = bit-mod (rows * 2 ^ 1) 64 0 (lit< tt) ∙ bit-shl-low rows 1 0 (lit< tt)
        none few (suc k) h =
            let place : 8 * suc k + 0 ≡ 1 + (8 * k + 7) = omega arith in
            ap (bit up) place ∙ up_one rows (8 * k + 7) (omega (arith, h))
            ∙ R.held few k 7 (omega (arith, h)) (lit< tt) ∙ marked-past (i + 8 + 8 * 7 + k) (omega (arith, few))

        go : length codes ≤ 64 → (k r : ℕ) → k < 8 → r < 8
            → (bit up (8 * k + r) || bit m (8 * k + r)) ≡ marked (get_or codes (i + 8 * r + k) 0)
        go few k zero h s = ap (λ v. v || bit m (8 * k + 0)) (none few k h) ∙ own-mark k h
        go few k (suc r) h s =
            let place : 8 * k + suc r ≡ 1 + (8 * k + r) = omega arith in
            let code : i + 8 + 8 * r + k ≡ i + 8 * suc r + k = omega arith in
            ap₂ ◌||◌ (ap (bit up) place ∙ up_one rows (8 * k + r) (omega (arith, h, s))
            ∙ R.held few k r h (omega (arith, s)) ∙ ap (λ q. marked (get_or codes q 0)) code) (no-mark k r h s)
            ∙ or-false (marked (get_or codes (i + 8 * suc r + k) 0))

  -- ---- high bits: those of the codes from i on
  pub record Below (i high : ℕ) : Type 0 where
    pub none : bit_and high 16204198715729174752 ≡ 0 → (q : ℕ) → i ≤ q → get_or codes q 0 < 24
    pub back : ((q : ℕ) → i ≤ q → get_or codes q 0 < 24) → bit_and high 16204198715729174752 ≡ 0

  pub below_at : {i j high : ℕ} → i ≡ j → Below i high → Below j high
  below_at {i} {j} {high} e B = subst (λ q. Below q high) e B

  module _ (i x h : ℕ) (P : Packed codes i 8 x) (H : HighOf x h) where
    above_at : (k t : ℕ) → k < 8 → t < 3 → bit h (8 * k + (5 + t)) ≡ above (get_or codes (i + k) 0) t
    above_at k t l s = H k t l s ∙ ap₂ ◌||◌ (P.holds k (5 + t) l (omega (arith, s)))
        (ap₂ ◌&&◌ (P.holds k (4 + t) l (omega (arith, s))) (P.holds k (3 + t) l (omega (arith, s))))

    eight-none : bit_and h 16204198715729174752 ≡ 0 → (k : ℕ) → k < 8 → get_or codes (i + k) 0 < 24
    eight-none e k l = leb-false 24 (get_or codes (i + k) 0) (sym (high_is (get_or codes (i + k) 0) (P.bytes k l))
        ∙ ap₂ ◌||◌ (off 0 (lit< tt)) (ap₂ ◌||◌ (off 1 (lit< tt)) (off 2 (lit< tt))))
      where
        off : (t : ℕ) → t < 3 → above (get_or codes (i + k) 0) t ≡ false
        off t s =
            let j : ℕ = 8 * k + (5 + t) in
            sym (above_at k t l s) ∙ sym (and-true (bit h j))
            ∙ ap (λ v. bit h j && v) (sym (highest j (omega (arith, l, s)) ∙ le-leb 5 (j % 8) (omega (arith, s))))
            ∙ sym (bit-and h 16204198715729174752 j) ∙ ap (λ v. bit v j) e ∙ zero_bit j

    eight-back : ((k : ℕ) → k < 8 → get_or codes (i + k) 0 < 24) → bit_and h 16204198715729174752 ≡ 0
    eight-back small = bit-ext∞ (bit_and h 16204198715729174752) 0
        (λ j. bit-and h 16204198715729174752 j ∙ go j (lt-or-ge j 64) ∙ sym (zero_bit j))
      where
        low : (j : ℕ) → j < 64 → (j % 8 < 5) ⊎ (5 ≤ j % 8) → (bit h j && bit 16204198715729174752 j) ≡ false
        low j l (inl s) = ap (λ v. bit h j && v) (highest j l ∙ lt-leb 5 (j % 8) s) ∙ and-false (bit h j)
        low j l (inr s) =
            let place : j ≡ 8 * (j / 8) + (5 + (j % 8 - 5)) = omega (arith, s) in
            let t : j % 8 - 5 < 3 = omega (arith, s) in
            let k : j / 8 < 8 = omega (arith, l) in
            ap (λ v. v && bit 16204198715729174752 j) (ap (bit h) place ∙ above_at (j / 8) (j % 8 - 5) k t
            ∙ low-none (get_or codes (i + j / 8) 0) (j % 8 - 5) (small (j / 8) k) t)

        go : (j : ℕ) → (j < 64) ⊎ (64 ≤ j) → (bit h j && bit 16204198715729174752 j) ≡ false
        go j (inl l) = low j l (lt-or-ge (j % 8) 5)
        go j (inr l) = ap (λ v. bit h j && v) (bit-above 64 16204198715729174752 (lit< tt) j l) ∙ and-false (bit h j)

    within : (q : ℕ) → i ≤ q → i + (q - i) ≡ q
    within q l = omega (arith, l)

    pub below_last : length codes ≤ i + 8 → Below i h
    below_last l =
        record {
          none = λ e q s. go e q s (lt-or-ge q (i + 8));
          back = λ small. eight-back (λ k s. small (i + k) (omega arith));
        }
      where
        go : bit_and h 16204198715729174752 ≡ 0 → (q : ℕ) → i ≤ q → (q < i + 8) ⊎ (i + 8 ≤ q) → get_or codes q 0 < 24
        go e q s (inl r) = subst (λ q. get_or codes q 0 < 24) (within q s) (eight-none e (q - i) (omega (arith, s, r)))
        go e q s (inr r) = subst (λ v. v < 24) (sym (past q (omega (arith, l, r)))) (lit< tt)

    pub below_next : (high : ℕ) → Below (i + 8) high → Below i (bit_or high h)
    below_next high B =
        record {
          none = λ e q s. go e q s (lt-or-ge q (i + 8));
          back = λ small. apart ∙ ap₂ bit_or (B.back (λ q s. small q (omega (arith, s))))
              (eight-back (λ k s. small (i + k) (omega arith)));
        }
      where
        apart : bit_and (bit_or high h) 16204198715729174752
            ≡ bit_or (bit_and high 16204198715729174752) (bit_and h 16204198715729174752)
        apart = or-masked high h 16204198715729174752

        both : bit_and (bit_or high h) 16204198715729174752 ≡ 0
            → (bit_and high 16204198715729174752 ≡ 0) × (bit_and h 16204198715729174752 ≡ 0)
        both e = none_of (bit_and high 16204198715729174752) (bit_and h 16204198715729174752) (sym apart ∙ e)

        go : bit_and (bit_or high h) 16204198715729174752 ≡ 0 → (q : ℕ) → i ≤ q → (q < i + 8) ⊎ (i + 8 ≤ q)
            → get_or codes q 0 < 24
        go e q s (inl r) = subst (λ q. get_or codes q 0 < 24) (within q s)
            (eight-none (both e).1 (q - i) (omega (arith, s, r)))
        go e q s (inr r) = B.none (both e).0 q r

  -- ---- all codes have been looked at
  pub over-is : (high : ℕ) → Below 0 high → not (eqb (bit_and high 16204198715729174752) 0) ≡ reaching 24 codes
  over-is high B = go (eqb (bit_and high 16204198715729174752) 0) (reaching 24 codes) refl refl
    where
      small : reaching 24 codes ≡ false → (q : ℕ) → (q < length codes) ⊎ (length codes ≤ q) → get_or codes q 0 < 24
      small e q (inl l) = below_all 24 codes e q l
      small e q (inr l) = subst (λ v. v < 24) (sym (past q l)) (lit< tt)

      go : (u v : Bool) → eqb (bit_and high 16204198715729174752) 0 ≡ u → reaching 24 codes ≡ v → not u ≡ v
      go true v e f = sym (reaches-not 24 codes (length codes) (le_refl (length codes))
          (λ j l. lt-leb 24 (get_or codes j 0) (B.none (eqb-true _ _ e) j zero-le))) ∙ f
      go false true e f = refl
      go false false e f = absurd (true≢false (sym (eq-eqb _ _
          (B.back (λ q l. small f q (lt-or-ge q (length codes))))) ∙ e))

  pub rows-marked : (rows word : ℕ) → Rows 0 rows → word < 2 ^ 64
      → ((j k : ℕ) → j < 8 → k < 8 → bit word (8 * j + k) ≡ bit rows (8 * k + j)) → Marked codes word
  rows-marked rows word R short turned = record { marked = λ few small q. go few small q (lt-or-ge q 64) }
    where
      go : length codes ≤ 64 → ((q : ℕ) → get_or codes q 0 < 24) → (q : ℕ) → (q < 64) ⊎ (64 ≤ q)
          → bit word q ≡ suspect (get_or codes q 0)
      go few small q (inl l) =
          let place : q ≡ 8 * (q / 8) + q % 8 = omega arith in
          let j : q / 8 < 8 = omega (arith, l) in
          let k : q % 8 < 8 = omega arith in
          let code : 0 + 8 * (q / 8) + q % 8 ≡ q = omega arith in
          ap (bit word) place ∙ turned (q / 8) (q % 8) j k ∙ R.held few (q % 8) (q / 8) k j
          ∙ ap (λ q. marked (get_or codes q 0)) code ∙ by_bits (get_or codes q 0) (small q)
      go few small q (inr l) = bit-above 64 word short q l ∙ sym (ap suspect (past q (omega (arith, few, l))))
