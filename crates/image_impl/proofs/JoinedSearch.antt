-- The search for the smallest vertex of a set that has a neighbour in the set: a loop over the vertices of the set, smallest
-- first, which changes no word.
use mathlib.Core.Bool.{◌&&◌, and-false, false, not, true}
use mathlib.Core.List.{List}
use mathlib.Core.Path.{ap, ap₂, subst, sym, ◌∙◌, ◌≡◌}
use Prim.Native.Nat.{◌<◌, ◌^◌, ℕ, ◌≤◌}
use native.Mathlib.Nat.{lt_of_lt_of_le}
use lib.Bits.{bit_and, bit_xor}
use lib.Count.{count_trailing_zeros}
use lib.Dec.{eqb}
use lib.ListN.{get_or, length}
use lib.Pow.{pow_mono}
use Rattle.std.proofs.lemmas.List.{set-get_or}
use Rattle.buffers.proofs.OverSets.{Over, next-below, over-end, over-start, over-step}
use Rattle.words.proofs.SearchLaws.{first-none, first-unique}
use Rattle.words.proofs.Trailing.{trailing-set}
use Rattle.words.specs.Bits.{bit}
use Rattle.words.specs.Search.{IsFirst, first}
use Rattle.image_impl.specs.internal.Working.{joined_in}

module _ (words : List ℕ) (c : ℕ) where
  -- vertex i, whose word is v, is not in the set or has no neighbour there
  abbrev Unjoined : ℕ → ℕ → Type 0
  Unjoined i v = (bit c i && not (eqb (bit_and v c) 0)) ≡ false

  -- the vertices in `rest` are still to come
  abbrev pub Seeking : ℕ → Type 0
  Seeking rest = Over Unjoined c words words rest

  pub seek-start : c < 2 ^ (length words) → Seeking c
  seek-start h = over-start Unjoined words c h (λ i e. ap (λ b. b && not (eqb (bit_and (get_or words i 0) c) 0)) e)

  module _ (rest : ℕ) (S : Seeking rest) where
    pub seek-end : rest ≡ 0 → length words ≡ first (length words) (joined_in words c)
    seek-end e = sym (first-none _ _ (λ i l. over-end Unjoined c words words rest S e i))

    -- the next vertex
    module _ (short : length words ≤ 64) (nonzero : rest ≡ 0 → ⊥) (i : ℕ) (e : i ≡ count_trailing_zeros 64 rest) where
      next : IsFirst 64 (bit rest) i
      next =
          subst (IsFirst 64 (bit rest)) (sym e)
          (trailing-set 64 rest (lt_of_lt_of_le S.below (pow_mono short)) nonzero)

      pub seek-found : not (eqb (bit_and (get_or words i 0) c) 0) ≡ true → i ≡ first (length words) (joined_in words c)
      seek-found p = sym (first-unique _ _ i (record {
        below = next-below Unjoined c words words rest S short nonzero i e;
        passes = ap₂ ◌&&◌ (S.named i next.passes) p;
        least = λ j l. S.done j (next.least j l);
      }))

      pub seek-on : (rest' : ℕ) → rest' ≡ bit_xor rest (2 ^ i) → not (eqb (bit_and (get_or words i 0) c) 0) ≡ false
          → Seeking rest'
      seek-on rest' f p =
          subst (λ vs. Over Unjoined c words vs rest') (set-get_or words i 0)
          (over-step Unjoined c words words rest S short nonzero i e (get_or words i 0) rest'
          (ap (λ b. bit c i && b) p ∙ and-false (bit c i)) f)
