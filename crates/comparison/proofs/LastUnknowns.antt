-- The last unknown of an equation, by the largest bit of its four words.
use mathlib.Core.Bool.{Bool, false, true, true≢false, ◌||◌}
use mathlib.Core.Logic.{inl, inr, ◌⊎◌}
use mathlib.Core.Path.{ap, ap₂, refl, sym, ◌∙◌, ◌≡◌}
use Prim.Native.Nat.{◌%◌, ◌*◌, ◌+◌, ◌-◌, ◌/◌, ◌<◌, ◌≤◌, suc, zero, ℕ}
use native.Mathlib.Nat.{not-suc-le-zero}
use native.Mathlib.Omega.{arith}
use lib.Bits.{bit_or}
use lib.Dec.{lit<}
use Rattle.words.proofs.BitLaws.{bit-ext∞, bit-or, zero_bit}
use Rattle.words.proofs.Flags.{neither}
use Rattle.words.proofs.Sums.{lt-or-ge}
use Rattle.words.specs.Bits.{bit}
use Rattle.comparison.specs.internal.Equations.{Bound, Equation, Size, unknown, word_at}
use Rattle.comparison.proofs.EquationLaws.{unknown-at}

-- no unknown is at the bound or above it, so that it is below any other number of which this is true
pub bound-least : (e : Equation) (r m : ℕ) → Bound e r → ((j : ℕ) → m ≤ j → unknown e j ≡ false) → r ≤ m
bound-least e r m B h = go (lt-or-ge m r)
  where
    go : (m < r) ⊎ (r ≤ m) → r ≤ m
    go (inl l) = absurd (true≢false (sym (B.last (omega (arith, l))) ∙ h (r - 1) (omega (arith, l))))
    go (inr l) = l

module _ (e : Equation) where
  -- the bits of all four words
  abbrev all : ℕ
  all = bit_or (bit_or e.a e.b) (bit_or e.c e.d)

  abbrev word : ℕ → ℕ
  word l = word_at l e.a e.b e.c e.d

  all-bit : (q : ℕ) → bit all q ≡ ((bit e.a q || bit e.b q) || (bit e.c q || bit e.d q))
  all-bit q = bit-or (bit_or e.a e.b) (bit_or e.c e.d) q
      ∙ ap₂ ◌||◌ (bit-or e.a e.b q) (bit-or e.c e.d q)

  none-at : (q : ℕ) → bit all q ≡ false → (l : ℕ) → bit (word l) q ≡ false
  none-at q h = go
    where
      both : ((bit e.a q || bit e.b q) ≡ false) × ((bit e.c q || bit e.d q) ≡ false)
      both = neither (bit e.a q || bit e.b q) (bit e.c q || bit e.d q) (sym (all-bit q) ∙ h)

      go : (l : ℕ) → bit (word l) q ≡ false
      go zero = (neither (bit e.a q) (bit e.b q) both.0).0
      go (suc zero) = (neither (bit e.a q) (bit e.b q) both.0).1
      go (suc (suc zero)) = (neither (bit e.c q) (bit e.d q) both.1).0
      go (suc (suc (suc l))) = (neither (bit e.c q) (bit e.d q) both.1).1

  -- the four words together say whether there is an unknown
  pub no-unknown : all ≡ 0 → (j : ℕ) → unknown e j ≡ false
  no-unknown h j = none-at (j / 4) (ap (λ w. bit w (j / 4)) h ∙ zero_bit (j / 4)) (j % 4)

  pub some-unknown : ((j : ℕ) → unknown e j ≡ false) → all ≡ 0
  some-unknown none =
      bit-ext∞ all 0 (λ q. all-bit q ∙ ap₂ ◌||◌ (ap₂ ◌||◌ (at q 0 (lit< tt)) (at q 1 (lit< tt)))
      (ap₂ ◌||◌ (at q 2 (lit< tt)) (at q 3 (lit< tt))) ∙ sym (zero_bit q))
    where
      at : (q l : ℕ) → l < 4 → bit (word l) q ≡ false
      at q l k = sym (unknown-at e q l k) ∙ none (4 * q + l)

  module _ (s : ℕ) (S : Size all s) where
    beyond : (j : ℕ) → 4 * s ≤ j → unknown e j ≡ false
    beyond j l = none-at (j / 4) (S.above (j / 4) (omega (arith, l))) (j % 4)

    -- no word has a bit
    pub bound-none : s ≡ 0 → Bound e 0
    bound-none h = record { above = λ j l. beyond j (omega (arith, h)); last = λ l. absurd (not-suc-le-zero l) }

    module _ (more : (s ≡ 0 → ⊥)) where
      -- at the last qubit unknown t is there, and none after it
      bound_at : (t : ℕ) → t < 4 → bit (word t) (s - 1) ≡ true
          → ((l : ℕ) → t < l → l < 4 → bit (word l) (s - 1) ≡ false) → Bound e (4 * (s - 1) + suc t)
      bound_at t k here after =
          record {
            above = λ j l. go j l (lt-or-ge j (4 * s));
            last = λ _. ap (unknown e) {x = 4 * (s - 1) + suc t - 1} {y = 4 * (s - 1) + t} (omega arith)
                ∙ unknown-at e (s - 1) t k ∙ here;
          }
        where
          go : (j : ℕ) → 4 * (s - 1) + suc t ≤ j → (j < 4 * s) ⊎ (4 * s ≤ j) → unknown e j ≡ false
          go j l (inr m) = beyond j m
          go j l (inl m) =
              ap (λ q. bit (word (j % 4)) q) {x = j / 4} {y = s - 1} (omega (arith, l, m))
              ∙ after (j % 4) (omega (arith, l, m)) (omega arith)

      pub bound-d : bit e.d (s - 1) ≡ true → Bound e (4 * (s - 1) + 4)
      bound-d d = bound_at 3 (lit< tt) d (λ l m k. absurd (clash m k))
        where
          clash : {l : ℕ} → 3 < l → l < 4 → ⊥
          clash m k = omega (arith, m, k)

      module _ (no-d : bit e.d (s - 1) ≡ false) where
        pub bound-c : bit e.c (s - 1) ≡ true → Bound e (4 * (s - 1) + 3)
        bound-c c = bound_at 2 (lit< tt) c go
          where
            go : (l : ℕ) → 2 < l → l < 4 → bit (word l) (s - 1) ≡ false
            go zero m k = absurd (omega (arith, m))
            go (suc zero) m k = absurd (omega (arith, m))
            go (suc (suc zero)) m k = absurd (omega (arith, m))
            go (suc (suc (suc l))) m k = no-d

        module _ (no-c : bit e.c (s - 1) ≡ false) where
          pub bound-b : bit e.b (s - 1) ≡ true → Bound e (4 * (s - 1) + 2)
          bound-b b = bound_at 1 (lit< tt) b go
            where
              go : (l : ℕ) → 1 < l → l < 4 → bit (word l) (s - 1) ≡ false
              go zero m k = absurd (omega (arith, m))
              go (suc zero) m k = absurd (omega (arith, m))
              go (suc (suc zero)) m k = no-c
              go (suc (suc (suc l))) m k = no-d

          pub bound-a : bit e.b (s - 1) ≡ false → Bound e (4 * (s - 1) + 1)
          bound-a no-b = bound_at 0 (lit< tt)
              (first_of (bit e.a (s - 1)) _ _ _ (sym (all-bit (s - 1)) ∙ S.last (omega (arith, more))) no-b no-c
              no-d) go
            where
              first_of : (a b c d : Bool) → ((a || b) || (c || d)) ≡ true → b ≡ false → c ≡ false → d ≡ false → a ≡ true
              first_of true b c d h eb ec ed = refl
              first_of false b c d h eb ec ed =
                  absurd (true≢false (sym h ∙ ap₂ ◌||◌ eb (ap₂ ◌||◌ ec ed)))

              go : (l : ℕ) → 0 < l → l < 4 → bit (word l) (s - 1) ≡ false
              go zero m k = absurd (omega (arith, m))
              go (suc zero) m k = no-b
              go (suc (suc zero)) m k = no-c
              go (suc (suc (suc l))) m k = no-d
