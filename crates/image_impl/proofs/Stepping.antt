-- One complementation in the code's working state: the words c and d follow the codes, and the vertex is listed.
use mathlib.Core.Bool.{◌&&◌, Bool, and-false, and-true, cond, false}
use mathlib.Core.List.{List, [], ◌∷◌}
use mathlib.Core.Path.{ap, ap₂, refl, subst, sym, ◌∙◌, ◌≡◌}
use Prim.Native.Nat.{◌+◌, ◌<◌, ◌^◌, ℕ, ◌≤◌}
use native.Mathlib.Decide.{ℕ_discrete}
use native.Mathlib.Numerals.{add-one}
use native.Mathlib.Omega.{arith}
use lib.Bits.{bit_and, bit_xor}
use lib.Dec.{eqb}
use lib.ListN.{get_or, length, length-set, set, take}
use lib.Seq.{take-suc-set}
use Rattle.operations.specs.internal.InPlace.{Rewritten}
use Rattle.operations_rewriting.proofs.ComplementedRecords.{
  complemented-held,
  complemented-length,
  complemented-unrefused,
}
use Rattle.record.specs.Records.{complement_record}
use Rattle.words.proofs.BitLaws.{bit-and, bit-single, bit-xor}
use Rattle.words.proofs.Finite.{bits, ⊕-zero}
use Rattle.words.proofs.Places.{other_place, put_other, put_same, same_place}
use Rattle.words.specs.Bits.{bit, put, ◌⊕◌}
use Rattle.image.proofs.TrackedBits.{bits-follow}
use Rattle.image.specs.Rule.{State, state_of, complemented_at}
use Rattle.image_impl.proofs.TrackedRecords.{tracked-simple}
use Rattle.image_impl.specs.internal.Working.{Complemented, Tracking, Working, working_record}

module _ (n : ℕ) (w : Working) (v : ℕ) (l : v < n) (T : Tracking n w) where
  abbrev around : ℕ
  around = get_or w.neighbours v 0

  abbrev S : State
  S = state_of (working_record w)

  -- c ^ (d & single v) and d ^ (around & c)
  c-after : (mask : ℕ) → mask ≡ 2 ^ v → (q : ℕ) → bit (bit_xor w.c (bit_and w.d mask)) q ≡ (complemented_at S v).C q
  unfolding complemented_at
  c-after mask e q = bit-xor w.c (bit_and w.d mask) q
      ∙ ap (λ b. bit w.c q ⊕ b) (bit-and w.d mask q
      ∙ ap (λ b. bit w.d q && b) (ap (λ m. bit m q) e ∙ bit-single v q))
      ∙ go (ℕ_discrete q v)
    where
      go : Dec (q ≡ v) → bit w.c q ⊕ (bit w.d q && eqb q v) ≡ put S.C v (S.C v ⊕ S.D v) q
      go (yes p) =
          ap (λ u. bit w.c u ⊕ (bit w.d u && eqb u v)) p
          ∙ ap (λ b. bit w.c v ⊕ (bit w.d v && b)) (same_place v)
          ∙ ap (λ b. bit w.c v ⊕ b) (and-true (bit w.d v))
          ∙ ap₂ ◌⊕◌ (T.C v) (T.D v l) ∙ sym (put_same S.C v (S.C v ⊕ S.D v))
          ∙ ap (put S.C v (S.C v ⊕ S.D v)) (sym p)
      go (no d) =
          ap (λ b. bit w.c q ⊕ (bit w.d q && b)) (other_place d)
          ∙ ap (λ b. bit w.c q ⊕ b) (and-false (bit w.d q)) ∙ ⊕-zero (bit w.c q) ∙ T.C q
          ∙ sym (put_other S.C v (S.C v ⊕ S.D v) q d)

  d-after : (q : ℕ) → q < n → bit (bit_xor w.d (bit_and around w.c)) q ≡ (complemented_at S v).D q
  unfolding complemented_at
  d-after q k = bit-xor w.d (bit_and around w.c) q
      ∙ ap₂ (λ a b. a ⊕ b) (T.D q k) (bit-and around w.c q ∙ ap (λ b. bit around q && b) (T.C q))
      ∙ go (bit around q) (S.C q) (S.D q)
    where
      go : (e c d : Bool) → d ⊕ (e && c) ≡ cond e (c ⊕ d) d
      go = bits 3 (λ e c d. d ⊕ (e && c)) (λ e c d. cond e (c ⊕ d) d) tt

  above-after : (mask : ℕ) → mask ≡ 2 ^ v → (q : ℕ) → n ≤ q
      → bit (bit_xor w.c (bit_and w.d mask)) q ≡ false
  unfolding complemented_at
  above-after mask e q k =
      c-after mask e q ∙ put_other S.C v (S.C v ⊕ S.D v) q (λ p. absurd (omega (arith, p)))
      ∙ sym (T.C q) ∙ T.above q k

  module _ (small : w.count < 96) (words codes : List ℕ) (mask : ℕ)
      (R : Rewritten w.neighbours w.codes (λ g. complement_record g v) words codes) (single : mask ≡ 2 ^ v) where
    abbrev after : Working
    after =
        record {
          neighbours = words;
          codes = codes;
          list = set w.list w.count v;
          c = bit_xor w.c (bit_and w.d mask);
          d = bit_xor w.d (bit_and around w.c);
          count = w.count + 1;
        }

    inside : v < length w.neighbours
    inside = subst (λ m. v < m) (sym T.long) l

    held : working_record after ≡ complement_record (working_record w) v
    held = complemented-held w.neighbours w.codes T.unrefused v inside words codes R

    state : state_of (working_record after) ≡ complemented_at S v
    state = ap state_of held ∙ bits-follow n (working_record w) (tracked-simple n w T) v

    pub complemented-at : Complemented n w (v ∷ []) after
    complemented-at =
        record {
          held = held;
          list = ap (λ k. take k (set w.list w.count v)) (add-one w.count)
              ∙ take-suc-set w.list w.count v (omega (arith, T.places));
          count = refl;
          tracking =
              record {
                long = complemented-length w.neighbours w.codes T.unrefused v inside words codes R ∙ T.long;
                unrefused = complemented-unrefused w.neighbours w.codes T.unrefused v inside words codes R;
                C = λ q. c-after mask single q ∙ ap (λ s. s.C q) (sym state);
                D = λ q k. d-after q k ∙ ap (λ s. s.D q) (sym state);
                above = above-after mask single;
                places = length-set w.list w.count v ∙ T.places;
              };
        }
