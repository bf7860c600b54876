-- The loop of steps towards the reduced form: the group is kept, every vertex out of place is in the first word, every
-- one that can be by its code in the second, and at its end none is out of place.
use mathlib.Core.Bool.{◌&&◌, Bool, false, not, or-true, true, true≢false, ◌||◌}
use mathlib.Core.List.{List}
use mathlib.Core.Logic.{inl, inr}
use mathlib.Core.Path.{ap, ap₂, refl, subst, sym, ◌∙◌, ◌≡◌}
use Prim.Native.Nat.{◌*◌, ◌+◌, ◌/◌, ◌<◌, ◌^◌, ℕ}
use native.Mathlib.Nat.{lt_of_lt_of_le, lt_trans}
use native.Mathlib.Omega.{arith}
use lib.Bits.{bit_and, bit_or, bit_xor, or_lt}
use lib.Count.{count_trailing_zeros}
use lib.Dec.{eqb, leb}
use lib.ListN.{get_or, length}
use lib.Pow.{pow_mono}
use Rattle.operations.proofs.Keeping.{form-normalised, kept_refl, kept_trans}
use Rattle.operations.proofs.OutOfPlace.{none-unsettled}
use Rattle.operations.specs.internal.KeptGroups.{GroupKept, Nearer, Normalised, unsettled}
use Rattle.operations.specs.internal.ReducedForms.{ReducedForm}
use Rattle.operations.specs.internal.Settling.{distance}
use Rattle.operations.proofs.UnrefusedRecords.{unrefused-short}
use Rattle.operations.specs.internal.InPlace.{Unrefused, record_in}
use Rattle.record.specs.Lent.{held_record}
use Rattle.words.proofs.BitLaws.{and-lt-right, bit-above, bit-and, bit-flip, bit-or, flip-less, zero_bit}
use Rattle.words.proofs.Finite.{⊕-zero}
use Rattle.words.proofs.Flags.{never_true}
use Rattle.words.proofs.Places.{other_place}
use Rattle.words.proofs.SearchLaws.{first-unique}
use Rattle.words.proofs.Sums.{lt-or-ge}
use Rattle.words.proofs.Trailing.{trailing-set}
use Rattle.words.specs.Bits.{bit, is_odd, ◌⊕◌}
use Rattle.words.specs.Search.{IsFirst, first}
use Rattle.operations_gates.specs.internal.Watching.{Advanced, Elsewhere, Suspected, Watched, suspect_at}
use Rattle.operations_gates.proofs.SuspectCodes.{out-suspect}

-- ---- a look at the smallest vertex of the word
module _ (words codes : List ℕ) (U : Unrefused (record_in words codes)) (rest : ℕ) (W : Watched words codes rest)
    (some : rest ≡ 0 → ⊥) (j : ℕ) (e : j ≡ count_trailing_zeros 64 rest) where
  abbrev n : ℕ
  n = length words

  word-short : rest < 2 ^ 64
  word-short = lt_of_lt_of_le W.short (pow_mono (unrefused-short words codes U))

  smallest : IsFirst 64 (bit rest) j
  smallest = subst (IsFirst 64 (bit rest)) (sym e) (trailing-set 64 rest word-short some)

  pub next-below : j < length words
  next-below = elim (lt-or-ge j n) [
    | inl l ↦ l
    | inr l ↦ absurd (true≢false (sym smallest.passes ∙ bit-above n rest W.short j l))
  ]

  -- it is out of place: the first that is
  pub next-first : unsettled words codes j ≡ true → j ≡ first (length words) (unsettled words codes)
  next-first h = sym (first-unique n (unsettled words codes) j (record {
    below = next-below;
    passes = h;
    least = λ q l. never_true (unsettled words codes q)
        (λ u. true≢false (sym (W.seen q (lt_trans l next-below) u) ∙ smallest.least q l));
  }))

  -- it is not
  pub next-dropped : unsettled words codes j ≡ false → (rest' : ℕ) → rest' ≡ bit_xor rest (2 ^ j)
      → (watch : ℕ) → Suspected words codes watch → Advanced words codes rest words codes rest' watch
  next-dropped h rest' g watch P =
      record {
        kept = kept_refl words codes U;
        watched = record { short = lt_trans less W.short; seen = λ q l u. still q l u };
        suspected = P;
        less = omega (arith, less);
      }
    where
      less : rest' < rest
      less = subst (λ w. w < rest) (sym g) (flip-less rest j smallest.passes)

      still : (q : ℕ) → q < n → unsettled words codes q ≡ true → bit rest' q ≡ true
      still q l u = ap (λ w. bit w q) g ∙ bit-flip rest j q
          ∙ ap (λ b. bit rest q ⊕ b) (other_place {i = q} {j = j}
          (λ d. true≢false (sym u ∙ ap (unsettled words codes) d ∙ h))) ∙ ⊕-zero (bit rest q) ∙ W.seen q l u

  -- a step was made there
  module _ (watch : ℕ) (P : Suspected words codes watch) (words' codes' : List ℕ) (touched ends : ℕ)
      (N : Nearer words codes words' codes') (E : Elsewhere touched ends words codes words' codes') where
    here : (q : ℕ) → q < length words' → q < n
    here q = subst (λ m. q < m) N.kept.long

    suspected-now : (q : ℕ) → q < n → suspect_at codes' q ≡ true → bit (bit_or watch ends) q ≡ true
    suspected-now q l u = bit-or watch ends q ∙ at (bit ends q) refl
      where
        at : (b : Bool) → bit ends q ≡ b → (bit watch q || bit ends q) ≡ true
        at true t = ap (λ b. bit watch q || b) t ∙ or-true (bit watch q)
        at false t = ap (λ b. b || bit ends q) (P.held q l (sym (E.suspect q l t) ∙ u))

    pub next-settled : Advanced words codes rest words' codes' (bit_or rest (bit_and (bit_or watch ends) touched))
        (bit_or watch ends)
    next-settled =
        record {
          kept = N.kept;
          watched = record {
            short = subst (λ m. bit_or rest more < 2 ^ m) (sym N.kept.long) short;
            seen = λ q l u. bit-or rest more q ∙ still q (here q l) u (bit touched q) refl;
          };
          suspected = record { held = λ q l u. suspected-now q (here q l) u };
          less = omega (arith, N.less, lt_of_lt_of_le short (pow_mono (unrefused-short words codes U)));
        }
      where
        more : ℕ
        more = bit_and (bit_or watch ends) touched

        short : bit_or rest more < 2 ^ n
        short = or_lt n rest more W.short (and-lt-right n (bit_or watch ends) touched E.short)

        still : (q : ℕ) → q < n → unsettled words' codes' q ≡ true → (b : Bool) → bit touched q ≡ b
            → (bit rest q || bit more q) ≡ true
        still q l u true t = ap (λ b. bit rest q || b) (bit-and (bit_or watch ends) touched q
            ∙ ap₂ ◌&&◌ (suspected-now q l (out-suspect (get_or codes' q 0) _ u)) t) ∙ or-true (bit rest q)
        still q l u false t = ap (λ b. b || bit more q)
            (W.seen q l (sym (ap₂ (λ w k. leb 12 k || (is_odd k || (leb 8 k && not (eqb (w / 2 ^ q) 0))))
            (E.word q l t) (E.code q l t)) ∙ u))

-- ---- the loop
pub record Settling (words codes words₁ codes₁ : List ℕ) (rest watch : ℕ) : Type 0 where
  pub kept : GroupKept words codes words₁ codes₁
  pub watched : Watched words₁ codes₁ rest
  pub suspected : Suspected words₁ codes₁ watch

pub settling-start : (words codes : List ℕ) (rest watch : ℕ) → Unrefused (record_in words codes)
    → Suspected words codes watch → Watched words codes rest → Settling words codes words codes rest watch
settling-start words codes rest watch U P W = record { kept = kept_refl words codes U; watched = W; suspected = P }

module _ (words codes words₁ codes₁ : List ℕ) (rest watch : ℕ)
    (S : Settling words codes words₁ codes₁ rest watch) where
  module _ (words₂ codes₂ : List ℕ) (rest₂ watch₂ : ℕ)
      (N : Advanced words₁ codes₁ rest words₂ codes₂ rest₂ watch₂) where
    pub settling-more : Settling words codes words₂ codes₂ rest₂ watch₂
    settling-more =
        record {
          kept = kept_trans words codes words₁ codes₁ words₂ codes₂ S.kept N.kept;
          watched = N.watched;
          suspected = N.suspected;
        }

    pub settling-less : distance (length words) (held_record (record_in words₂ codes₂)) * 2 ^ 64 + rest₂
        < distance (length words) (held_record (record_in words₁ codes₁)) * 2 ^ 64 + rest
    settling-less = subst (λ n. distance n (held_record (record_in words₂ codes₂)) * 2 ^ 64 + rest₂
        < distance n (held_record (record_in words₁ codes₁)) * 2 ^ 64 + rest) S.kept.long N.less

  pub settling-end : Unrefused (record_in words codes) → rest ≡ 0 → Normalised words codes words₁ codes₁
  settling-end U z =
      form-normalised words codes words₁ codes₁ U S.kept
      (subst (λ n. ReducedForm n (held_record (record_in words₁ codes₁))) S.kept.long
      (none-unsettled words₁ codes₁ S.kept.unrefused
      (λ q l. never_true (unsettled words₁ codes₁ q)
      (λ u. true≢false (sym (S.watched.seen q l u) ∙ ap (λ w. bit w q) z ∙ zero_bit q)))))
