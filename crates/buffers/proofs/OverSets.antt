-- A loop over the places that a word names, smallest first: each is changed once, and the others stay.
use mathlib.Core.Bool.{false, true, true≢false}
use mathlib.Core.List.{List}
use mathlib.Core.Logic.{inl, inr, ◌≢◌}
use mathlib.Core.Path.{ap, refl, subst, sym, ◌∙◌, ◌≡◌}
use Prim.Native.Nat.{◌<◌, ◌^◌, ℕ, ◌≤◌}
use native.Mathlib.Decide.{ℕ_discrete}
use native.Mathlib.Nat.{lt_of_lt_of_le}
use lib.Bits.{bit_xor}
use lib.Count.{count_trailing_zeros}
use lib.ListN.{get_or, length, length-set, set}
use lib.Pow.{pow_mono}
use lib.Seq.{get_or-set_other, get_or-set_same}
use Rattle.words.proofs.BitLaws.{bit-above, bit-flip, flip-less, lt-of-bits, zero_bit}
use Rattle.words.proofs.Finite.{⊕-zero}
use Rattle.words.proofs.Places.{other_place, same_place}
use Rattle.words.proofs.Sums.{lt-or-ge}
use Rattle.words.proofs.Trailing.{trailing-set}
use Rattle.words.specs.Bits.{bit, ◌⊕◌}

-- of the places in `all` those in `rest` are still to come, and hold what they held; P holds at all others
pub record Over (P : ℕ → ℕ → Type 0) (all : ℕ) (old new : List ℕ) (rest : ℕ) : Type 0 where
  pub long : length new ≡ length old
  pub below : rest < 2 ^ (length old)
  pub named : (i : ℕ) → bit rest i ≡ true → bit all i ≡ true
  pub done : (i : ℕ) → bit rest i ≡ false → P i (get_or new i 0)
  pub left : (i : ℕ) → bit rest i ≡ true → get_or new i 0 ≡ get_or old i 0

pub over-start : (P : ℕ → ℕ → Type 0) (old : List ℕ) (rest : ℕ) → rest < 2 ^ (length old)
    → ((i : ℕ) → bit rest i ≡ false → P i (get_or old i 0)) → Over P rest old old rest
over-start P old rest l h = record { long = refl; below = l; named = λ i e. e; done = h; left = λ i e. refl }

module _ (P : ℕ → ℕ → Type 0) (all : ℕ) (old new : List ℕ) (rest : ℕ) (O : Over P all old new rest) where
  -- the next place
  module _ (short : length old ≤ 64) (nonzero : rest ≡ 0 → ⊥) (i : ℕ) (e : i ≡ count_trailing_zeros 64 rest) where
    fits : rest < 2 ^ 64
    fits = lt_of_lt_of_le O.below (pow_mono short)

    pub next-named : bit rest i ≡ true
    next-named = ap (bit rest) e ∙ (trailing-set 64 rest fits nonzero).passes

    pub next-short : i < 64
    next-short = subst (λ m. m < 64) (sym e) (trailing-set 64 rest fits nonzero).below

    pub next-below : i < length old
    next-below = elim (lt-or-ge i (length old)) [
      | inl l ↦ l
      | inr l ↦ absurd (true≢false (sym next-named ∙ bit-above (length old) rest O.below i l))
    ]

    pub next-in : i < length new
    next-in = subst (λ m. i < m) (sym O.long) next-below

    pub next-less : (rest' : ℕ) → rest' ≡ bit_xor rest (2 ^ i) → rest' < rest
    next-less rest' f = subst (λ m. m < rest) (sym f) (flip-less rest i next-named)

    pub over-step : (v rest' : ℕ) → P i v → rest' ≡ bit_xor rest (2 ^ i) → Over P all old (set new i v) rest'
    over-step v rest' p f =
        record {
          long = length-set new i v ∙ O.long;
          below = lt-of-bits (length old) rest'
              (λ q l. other q (λ d. none q l d) ∙ bit-above (length old) rest O.below q l);
          named = λ q h. elim (ℕ_discrete q i) [
            | yes d ↦ absurd (true≢false (sym h ∙ ap (bit rest') d ∙ here))
            | no d ↦ O.named q (sym (other q d) ∙ h)
          ];
          done = λ q h. elim (ℕ_discrete q i) [
            | yes d ↦ subst (λ m. P m (get_or (set new i v) m 0)) (sym d)
                (subst (P i) (sym (get_or-set_same new i v 0 next-in)) p)
            | no d ↦ subst (P q) (sym (get_or-set_other new i q v 0 d)) (O.done q (sym (other q d) ∙ h))
          ];
          left = λ q h. elim (ℕ_discrete q i) [
            | yes d ↦ absurd (true≢false (sym h ∙ ap (bit rest') d ∙ here))
            | no d ↦ get_or-set_other new i q v 0 d ∙ O.left q (sym (other q d) ∙ h)
          ];
        }
      where
        other : (q : ℕ) → q ≢ i → bit rest' q ≡ bit rest q
        other q d = ap (λ m. bit m q) f ∙ bit-flip rest i q ∙ ap (λ b. bit rest q ⊕ b) (other_place d)
            ∙ ⊕-zero (bit rest q)

        here : bit rest' i ≡ false
        here = ap (λ m. bit m i) f ∙ bit-flip rest i i ∙ ap (λ b. bit rest i ⊕ b) (same_place i)
            ∙ ap (λ b. b ⊕ true) next-named

        none : (q : ℕ) → length old ≤ q → q ≡ i → ⊥
        none q l d = true≢false (sym next-named ∙ ap (bit rest) (sym d) ∙ bit-above (length old) rest O.below q l)

  pub over-end : rest ≡ 0 → (i : ℕ) → P i (get_or new i 0)
  over-end e i = O.done i (ap (λ m. bit m i) e ∙ zero_bit i)
