-- Codes as the bytes of a word: one code, the codes of two words in one, and one code more.
use mathlib.Core.Bool.{false, or-false, ◌||◌}
use mathlib.Core.List.{List}
use mathlib.Core.Logic.{inl, inr, ◌⊎◌}
use mathlib.Core.Path.{ap, ap₂, subst, sym, ◌∙◌, ◌≡◌}
use Prim.Native.Nat.{◌%◌, ◌*◌, ◌+◌, ◌-◌, ◌<◌, ◌^◌, suc, zero, ℕ, ◌≤◌}
use native.Mathlib.Nat.{mod-lt}
use native.Mathlib.Omega.{arith}
use lib.Bits.{bit_or, or_lt}
use lib.Dec.{lit<}
use lib.ListN.{get_or-eq_default, get_or, length}
use Rattle.words.proofs.PairWords.{bit-mod, bit-shl, bit-shl-low}
use Rattle.words.proofs.BitLaws.{bit-above, bit-or, lt-of-bits, zero_bit}
use Rattle.words.proofs.Sums.{lt-or-ge}
use Rattle.words.specs.Bits.{bit}
use Rattle.operations_gates.proofs.CodeBits.{by_bits, marked}
use Rattle.operations_gates.specs.internal.Bytes.{Packed}
use Rattle.operations_gates.specs.internal.Suspects.{suspect}

pub packed-at : {codes : List ℕ} {i j m w : ℕ} → i ≡ j → Packed codes i m w → Packed codes j m w
packed-at {codes} {i} {j} {m} {w} e P = subst (λ q. Packed codes q m w) e P

module _ (codes : List ℕ) (i : ℕ) where
  pub packed-one : (b : ℕ) → b ≡ get_or codes i 0 → b < 256 → Packed codes i 1 b
  packed-one b e l =
      record {
        short = omega (arith, l);
        bytes = λ k h. subst (λ v. v < 256) (e ∙ ap (λ q. get_or codes q 0) (here k h)) l;
        holds = λ k t h _.
            let place : 8 * k + t ≡ t = omega (arith, h) in
            ap₂ bit (e ∙ ap (λ q. get_or codes q 0) (here k h)) place;
      }
    where
      here : (k : ℕ) → k < 1 → i ≡ i + k
      here k h = omega (arith, h)

  -- b lies above a
  pub packed-both : (m a b : ℕ) → 8 * (m + m) ≤ 64 → Packed codes i m a → Packed codes (i + m) m b
      → Packed codes i (m + m) (bit_or a (b * 2 ^ (8 * m) % 2 ^ 64))
  packed-both m a b few A B =
      record {
        short = lt-of-bits (8 * (m + m)) (bit_or a up) none;
        bytes = λ k h. small k h (lt-or-ge k m);
        holds = λ k t h l. bit-or a up (8 * k + t) ∙ held k t h l (lt-or-ge k m);
      }
    where
      up : ℕ
      up = b * 2 ^ (8 * m) % 2 ^ 64

      small : (k : ℕ) → k < m + m → (k < m) ⊎ (m ≤ k) → get_or codes (i + k) 0 < 256
      small k h (inl s) = A.bytes k s
      small k h (inr s) =
          let code : i + m + (k - m) ≡ i + k = omega (arith, s) in
          subst (λ q. get_or codes q 0 < 256) code (B.bytes (k - m) (omega (arith, s, h)))

      above : (q : ℕ) → 8 * m + q < 64 → bit up (8 * m + q) ≡ bit b q
      above q l = bit-mod (b * 2 ^ (8 * m)) 64 (8 * m + q) l ∙ bit-shl b (8 * m) q

      upper-none : (q : ℕ) → 8 * (m + m) ≤ q → (q < 64) ⊎ (64 ≤ q) → bit up q ≡ false
      upper-none q l (inl h) =
          let place : 8 * m + (q - 8 * m) ≡ q = omega (arith, l) in
          ap (bit up) (sym place) ∙ above (q - 8 * m) (omega (arith, l, h))
          ∙ bit-above (8 * m) b B.short (q - 8 * m) (omega (arith, l))
      upper-none q l (inr h) = bit-above 64 up (mod-lt (b * 2 ^ (8 * m)) (lit< tt)) q h

      none : (q : ℕ) → 8 * (m + m) ≤ q → bit (bit_or a up) q ≡ false
      none q l = bit-or a up q
          ∙ ap₂ ◌||◌ (bit-above (8 * m) a A.short q (omega (arith, l))) (upper-none q l (lt-or-ge q 64))

      held : (k t : ℕ) → k < m + m → t < 8 → (k < m) ⊎ (m ≤ k)
          → (bit a (8 * k + t) || bit up (8 * k + t)) ≡ bit (get_or codes (i + k) 0) t
      held k t h l (inl s) =
          ap₂ ◌||◌ (A.holds k t s l) (bit-mod (b * 2 ^ (8 * m)) 64 (8 * k + t) (omega (arith, h, l, few))
          ∙ bit-shl-low b (8 * m) (8 * k + t) (omega (arith, s, l)))
          ∙ or-false (bit (get_or codes (i + k) 0) t)
      held k t h l (inr s) =
          let place : 8 * k + t ≡ 8 * m + (8 * (k - m) + t) = omega (arith, s) in
          let code : i + m + (k - m) ≡ i + k = omega (arith, s) in
          ap₂ ◌||◌ (bit-above (8 * m) a A.short (8 * k + t) (omega (arith, s)))
          (ap (bit up) place ∙ above (8 * (k - m) + t) (omega (arith, s, h, l, few))
          ∙ B.holds (k - m) t (omega (arith, s, h)) l ∙ ap (λ q. bit (get_or codes q 0) t) code)

  pub packed-marked : (x : ℕ) → Packed codes i 8 x → (k : ℕ) → k < 8
      → (bit x (8 * k) || (bit x (8 * k + 3) || bit x (8 * k + 4))) ≡ marked (get_or codes (i + k) 0)
  packed-marked x P k l =
      let first : 8 * k ≡ 8 * k + 0 = omega arith in
      ap₂ ◌||◌ (ap (bit x) first ∙ P.holds k 0 l (lit< tt))
      (ap₂ ◌||◌ (P.holds k 3 l (lit< tt)) (P.holds k 4 l (lit< tt)))

  -- the bits asked for are those of a suspicious code
  pub packed-suspects : (x : ℕ) → Packed codes i 8 x → ((q : ℕ) → get_or codes q 0 < 24) → (k : ℕ) → k < 8
      → (bit x (8 * k) || (bit x (8 * k + 3) || bit x (8 * k + 4))) ≡ suspect (get_or codes (i + k) 0)
  packed-suspects x P small k l = packed-marked x P k l ∙ by_bits (get_or codes (i + k) 0) (small (i + k))

  -- none is left
  pub packed_none : length codes ≤ i → Packed codes i 8 0
  packed_none l =
      record {
        short = lit< tt;
        bytes = λ k h. subst (λ v. v < 256) (sym (past k)) (lit< tt);
        holds = λ k t h _. zero_bit (8 * k + t) ∙ sym (ap (λ v. bit v t) (past k) ∙ zero_bit t);
      }
    where
      past : (k : ℕ) → get_or codes (i + k) 0 ≡ 0
      past k = get_or-eq_default codes 0 (omega (arith, l))

  -- the code before
  pub packed-next : (a b : ℕ) → 1 ≤ i → b ≡ get_or codes (i - 1) 0 → b < 256 → Packed codes i 8 a
      → Packed codes (i - 1) 8 (bit_or (a * 2 ^ 8 % 2 ^ 64) b)
  packed-next a b p e l A =
      record {
        short = or_lt 64 up b (mod-lt (a * 2 ^ 8) (lit< tt)) (omega (arith, l));
        bytes = small;
        holds = λ k t h s. bit-or up b (8 * k + t) ∙ held k t h s;
      }
    where
      up : ℕ
      up = a * 2 ^ 8 % 2 ^ 64

      own : b ≡ get_or codes (i - 1 + 0) 0
      own = e ∙ ap (λ q. get_or codes q 0) (omega arith)

      after : (k : ℕ) → i + k ≡ i - 1 + suc k
      after k = omega (arith, p)

      small : (k : ℕ) → k < 8 → get_or codes (i - 1 + k) 0 < 256
      small zero h = subst (λ v. v < 256) own l
      small (suc k) h = subst (λ q. get_or codes q 0 < 256) (after k) (A.bytes k (omega (arith, h)))

      held : (k t : ℕ) → k < 8 → t < 8 → (bit up (8 * k + t) || bit b (8 * k + t)) ≡ bit (get_or codes (i - 1 + k) 0) t
      held zero t h s =
          let place : 8 * 0 + t ≡ t = omega arith in
          ap₂ ◌||◌ (bit-mod (a * 2 ^ 8) 64 (8 * 0 + t) (omega (arith, s)) ∙ bit-shl-low a 8 (8 * 0 + t)
          (omega (arith, s)))
          (ap₂ bit own place)
      held (suc k) t h s =
          let place : 8 * suc k + t ≡ 8 + (8 * k + t) = omega arith in
          ap₂ ◌||◌ (bit-mod (a * 2 ^ 8) 64 (8 * suc k + t) (omega (arith, h, s)) ∙ ap (bit (a * 2 ^ 8)) place
          ∙ bit-shl a 8 (8 * k + t) ∙ A.holds k t (omega (arith, h)) s)
          (bit-above 8 b l (8 * suc k + t) (omega arith))
          ∙ or-false (bit (get_or codes (i + k) 0) t) ∙ ap (λ q. bit (get_or codes q 0) t) (after k)
