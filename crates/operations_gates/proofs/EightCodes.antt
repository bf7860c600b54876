-- A word made from the highest place down, eight bits at a time.
use mathlib.Core.Bool.{◌&&◌}
use mathlib.Core.List.{List}
use mathlib.Core.Logic.{inl, inr, ◌⊎◌}
use mathlib.Core.Path.{ap, ap₂, fun_ext, subst, sym, ◌∙◌, ◌≡◌}
use Prim.Native.Nat.{◌*◌, ◌+◌, ◌-◌, ◌<◌, ◌^◌, suc, ℕ, ◌≤◌}
use native.Mathlib.Nat.{lt_of_lt_of_le}
use native.Mathlib.Omega.{arith}
use lib.Dec.{ltb}
use lib.ListN.{get_or-eq_default, get_or, length}
use lib.Pow.{pow_mono}
use borrow.Author.Tests.{le-ltb, lt-ltb}
use Rattle.record_reduction.proofs.Pivoting.{NamedFrom}
use Rattle.words.proofs.BitLaws.{bit-ext, bit-word_of, word_of-lt}
use Rattle.words.proofs.Sums.{lt-or-ge}
use Rattle.words.specs.Bits.{Word, bit, word_of}
use Rattle.operations_gates.specs.internal.Suspects.{Marked, suspect}

abbrev more : ℕ → ℕ
more c = suc (suc (suc (suc (suc (suc (suc (suc c)))))))

-- the eight lowest bits, and those above them
low-eight : (c : ℕ) (h : Word) → word_of (more c) h ≡ 256 * word_of c (λ t. h (more t)) + word_of 8 h
unfolding word_of
low-eight c h = apart _ _ _ _ _ _ _ _ _
  where
    apart : (w a₀ a₁ a₂ a₃ a₄ a₅ a₆ a₇ : ℕ)
        → (((((((w * 2 + a₇) * 2 + a₆) * 2 + a₅) * 2 + a₄) * 2 + a₃) * 2 + a₂) * 2 + a₁) * 2 + a₀
        ≡ 256 * w + ((((((((0 * 2 + a₇) * 2 + a₆) * 2 + a₅) * 2 + a₄) * 2 + a₃) * 2 + a₂) * 2 + a₁) * 2 + a₀)
    apart w a₀ a₁ a₂ a₃ a₄ a₅ a₆ a₇ = omega arith

module _ (n : ℕ) (f : Word) (word j : ℕ) (N : NamedFrom n f word j) (l : 8 ≤ j) where
  pub from-eight : (g : ℕ) → g < 256 → ((k : ℕ) → k < 8 → bit g k ≡ f (j - 8 + k))
      → NamedFrom n f (256 * word + g) (j - 8)
  from-eight g s h =
      record {
        count = more N.count;
        reaches = omega (arith, N.reaches, l);
        held =
            ap₂ (λ u v. 256 * u + v) (N.held ∙ ap (word_of N.count) (fun_ext (λ t. ap f (next t)))) low
            ∙ sym (low-eight N.count (λ t. f (j - 8 + t)));
      }
    where
      next : (t : ℕ) → j + t ≡ j - 8 + more t
      next t = omega (arith, l)

      low : g ≡ word_of 8 (λ t. f (j - 8 + t))
      low = bit-ext 8 g (word_of 8 (λ t. f (j - 8 + t))) s (word_of-lt 8 (λ t. f (j - 8 + t)))
          (λ k i. h k i ∙ sym (bit-word_of 8 (λ t. f (j - 8 + t)) k i))

  pub room-for-eight : n ≤ 64 → word < 2 ^ 56
  room-for-eight k = subst (λ v. v < 2 ^ 56) (sym N.held) (lt_of_lt_of_le (word_of-lt N.count _) (pow_mono few))
    where
      few : N.count ≤ 56
      few = omega (arith, N.reaches, l)

-- such a word, said by its bits
module _ (n : ℕ) (f : Word) where
  pub from-held : (word j : ℕ) → NamedFrom n f word j → (i : ℕ) → i ≡ j → word ≡ word_of (n - i) (λ t. f (i + t))
  from-held word j N i e = N.held ∙ ap₂ (λ c k. word_of c (λ t. f (k + t))) count (sym e)
    where
      count : N.count ≡ n - i
      count = omega (arith, N.reaches, e)

  pub held-from : (word i : ℕ) → i ≤ n → word ≡ word_of (n - i) (λ t. f (i + t)) → NamedFrom n f word i
  held-from word i l e = record { count = n - i; reaches = omega (arith, l); held = e }

-- a word that has the codes below the length has them all: past it stands 0
pub below-marked : (codes : List ℕ) (word : ℕ)
    → ((q : ℕ) → bit word q ≡ (ltb q (length codes) && suspect (get_or codes q 0))) → Marked codes word
below-marked codes word held = record { marked = λ _ _ q. held q ∙ go q (lt-or-ge q (length codes)) }
  where
    go : (q : ℕ) → (q < length codes) ⊎ (length codes ≤ q)
        → (ltb q (length codes) && suspect (get_or codes q 0)) ≡ suspect (get_or codes q 0)
    go q (inl l) = ap (λ v. v && suspect (get_or codes q 0)) (lt-ltb q (length codes) l)
    go q (inr l) = ap (λ v. v && suspect (get_or codes q 0)) (le-ltb q (length codes) l)
        ∙ sym (ap suspect (get_or-eq_default codes 0 l))
