-- The loop over the parts: where it is the least it stays so, and at the end the choice is the least.
use mathlib.Core.Bool.{◌&&◌, Bool, false, not, true, true≢false}
use mathlib.Core.List.{List, []}
use mathlib.Core.Logic.{inl, inr, ◌⊎◌}
use mathlib.Core.Path.{ap, ap₂, refl, subst, sym, ◌∙◌, ◌≡◌}
use Prim.Native.Nat.{◌*◌, ◌+◌, ◌-◌, ◌<◌, ◌≤◌, ◌^◌, ℕ}
use native.Mathlib.Nat.{lt_of_lt_of_le}
use native.Mathlib.Omega.{arith}
use lib.Bits.{bit_and, bit_xor, xor_add_and}
use lib.Count.{count_trailing_zeros}
use lib.Dec.{lit<}
use lib.ListN.{length}
use lib.Pow.{pow_mono, pow_pos}
use borrow.Author.Tests.{not-true}
use Rattle.clifford.specs.Clifford.{clifford_of}
use Rattle.clifford.specs.Vectors.{codes_of}
use Rattle.comparison.proofs.Least.{least-answer}
use Rattle.comparison.proofs.LeastAtVertices.{least-at-agree, least-at-least}
use Rattle.comparison.specs.internal.Searches.{LeastAnswer}
use Rattle.comparison.specs.internal.LeastAt.{LeastAt}
use Rattle.comparison.specs.internal.Setting.{Codes, held_generators}
use Rattle.record.specs.NeighbourWords.{graph_in}
use Rattle.comparison.proofs.PartLaws.{part-has, part-within, rest-closed}
use Rattle.comparison.specs.internal.Parts.{Closed}
use Rattle.comparison.specs.Parts.{part_of}
use Rattle.comparison_parts.specs.internal.Spreads.{PartWord}
use Rattle.record.proofs.ReducedRecords.{record-proper}
use Rattle.record.specs.Records.{GraphRecord, rows_of}
use Rattle.words.proofs.BitLaws.{bit-above, bit-and, bit-ext∞, bit_mask, bit-xor, lt-of-bits, zero_bit}
use Rattle.words.proofs.Finite.{bits}
use Rattle.words.proofs.Flags.{both_true, never_true}
use Rattle.words.proofs.Sums.{lt-or-ge}
use Rattle.words.proofs.Trailing.{trailing-set}
use Rattle.words.specs.Bits.{bit, ◌⊕◌}
use Rattle.words.specs.Search.{IsFirst}
use Rattle.comparison_parts.proofs.ComponentLaws.{component-closed}
use Rattle.comparison_parts.specs.internal.Components.{
  Component,
  ComponentAnswer,
  Progress,
  SoundPair,
  record_held,
}

module _ (n : ℕ) (nb cs nb₂ cs₂ : List ℕ) (P : SoundPair n nb cs nb₂ cs₂) where
  abbrev r : GraphRecord
  r = record_held n nb cs

  abbrev t : GraphRecord
  t = record_held n nb₂ cs₂

  pub progress_start : (rest : ℕ) → rest ≡ 2 ^ n - 1 → (choice : List ℕ) → Codes choice → Progress n r t rest choice
  progress_start rest e choice C =
      record {
        below = subst (λ w. w < 2 ^ n) (sym e) (fits (2 ^ n) (pow_pos n));
        closed = λ i j k l a b. marked j l;
        least_at = λ q l a. absurd (true≢false (sym (marked q l) ∙ a));
        codes = C;
      }
    where
      fits : (b : ℕ) → 0 < b → b - 1 < b
      fits b h = omega (arith, h)

      marked : (q : ℕ) → q < n → bit rest q ≡ true
      marked q l = ap (λ w. bit w q) e ∙ bit_mask n q l

  module _ (rest : ℕ) (choice : List ℕ) (G : Progress n r t rest choice) where
    -- ---- the next part
    module _ (some_left : rest ≡ 0 → ⊥) (q : ℕ) (eq : q ≡ count_trailing_zeros 64 rest) where
      F : IsFirst 64 (bit rest) q
      F = subst (IsFirst 64 (bit rest)) (sym eq)
          (trailing-set 64 rest (lt_of_lt_of_le G.below (pow_mono P.upto)) some_left)

      pub vertex-below : q < n
      vertex-below = go (lt-or-ge q n)
        where
          go : (q < n) ⊎ (n ≤ q) → q < n
          go (inl l) = l
          go (inr l) = absurd (true≢false (sym F.passes ∙ bit-above n rest G.below q l))

      pub vertex-in-buffer : q < length nb
      vertex-in-buffer = subst (λ m. q < m) (sym P.first.neighbours-long) vertex-below

      module _ (component : ℕ) (W' : PartWord (length nb) (graph_in nb) q component) where
        W : PartWord n (graph_in nb) q component
        W = subst (λ m. PartWord m (graph_in nb) q component) P.first.neighbours-long W'

        pub next-component : Component n nb component
        next-component =
            record {
              vertex = q;
              below = vertex-below;
              word = W;
            }

        -- it lies in what is left
        inside : (u : ℕ) → u < n → bit component u ≡ true → bit rest u ≡ true
        inside u l a = part-within n (graph_in nb) (bit rest) G.closed q u vertex-below l F.passes
            (sym (W.marks u l) ∙ a)

        abbrev after : ℕ
        after = bit_xor rest (bit_and rest component)

        after-at : (u : ℕ) → bit after u ≡ (bit rest u && not (bit component u))
        after-at u = bit-xor rest (bit_and rest component) u ∙ ap (λ b. bit rest u ⊕ b) (bit-and rest component u)
            ∙ taken (bit rest u) (bit component u)
          where
            taken : (a b : Bool) → (a ⊕ (a && b)) ≡ (a && not b)
            taken = bits 2 (λ a b. a ⊕ (a && b)) (λ a b. a && not b) tt

        pub rest-falls : after < rest
        rest-falls = less rest (bit_and rest component) after (xor_add_and rest (bit_and rest component)) absorbed nonzero
          where
            absorbed : bit_and rest (bit_and rest component) ≡ bit_and rest component
            absorbed = bit-ext∞ _ _ (λ u. bit-and rest (bit_and rest component) u
                ∙ ap (λ b. bit rest u && b) (bit-and rest component u)
                ∙ twice (bit rest u) (bit component u) ∙ sym (bit-and rest component u))
              where
                twice : (a b : Bool) → (a && (a && b)) ≡ (a && b)
                twice = bits 2 (λ a b. a && (a && b)) (λ a b. a && b) tt

            nonzero : bit_and rest component ≡ 0 → ⊥
            nonzero e = true≢false
                (sym (bit-and rest component q
                ∙ ap₂ ◌&&◌ F.passes (W.marks q vertex-below ∙ part-has n (graph_in nb) q))
                ∙ ap (λ w. bit w q) e ∙ zero_bit q)

            less : (a m x : ℕ) → x + bit_and a m * 2 ≡ a + m → bit_and a m ≡ m → (m ≡ 0 → ⊥) → x < a
            less a m x f g d = omega (arith, subst (λ v. x + v * 2 ≡ a + m) g f, d)

        -- ---- the part compared
        module _ (new : List ℕ) (A : ComponentAnswer n r t component choice true new) where
          pub progress_step : Progress n r t after new
          progress_step =
              record {
                below = lt-of-bits n after
                    (λ u l. after-at u ∙ ap (λ b. b && not (bit component u)) (bit-above n rest G.below u l));
                closed = closed;
                least_at = λ u l a. go u l (bit rest u) refl (bit component u) refl (sym (after-at u) ∙ a);
                codes = A.codes G.codes;
              }
            where
              closed : Closed n (graph_in nb) (bit after)
              closed i j k l a b =
                  let h = both_true (bit rest i) (not (bit component i)) (sym (after-at i) ∙ a) in
                  after-at j ∙ ap₂ ◌&&◌ (G.closed i j k l h.0 b)
                  (rest-closed n (graph_in nb) P.first.simple.symmetric (bit component)
                  (component-closed n nb cs nb₂ cs₂ component P next-component) i j k l h.1 b)

              -- the part of a vertex that is compared already lies outside of what is left
              outside : (u v : ℕ) → u < n → v < n → bit rest u ≡ false → part_of n (graph_in nb) u v ≡ true
                  → bit component v ≡ false
              outside u v l m a b =
                  never_true (bit component v) (λ h. true≢false (sym (inside v m h) ∙ not-true (bit rest v)
                  (part-within n (graph_in nb) (λ x. not (bit rest x))
                  (rest-closed n (graph_in nb) P.first.simple.symmetric (bit rest) G.closed) u v l m (ap not a)
                  b)))

              go : (u : ℕ) → u < n → (x : Bool) → bit rest u ≡ x → (y : Bool) → bit component u ≡ y
                  → (bit rest u && not (bit component u)) ≡ false → LeastAt n r t (codes_of new) u
              go u l false e y f h =
                  least-at-agree n r t P.first.simple P.second.simple (codes_of choice) (codes_of new) u l
                  (λ v m b. ap clifford_of (sym (A.kept v (outside u v l m e b)))) (G.least_at u l e)
              go u l true e true f h = A.least_at refl u l f
              go u l true e false f h = absurd (true≢false (sym (ap₂ (λ x y. x && not y) e f) ∙ h))

        -- ---- or there is no choice
        pub none-answer : (new : List ℕ) → ComponentAnswer n r t component choice false new
            → LeastAnswer n (held_generators n nb cs) (held_generators n nb₂ cs₂) false []
        none-answer new A =
            least-answer n (rows_of n r) (rows_of n t) (record-proper n r P.first.simple).within
            (record-proper n t P.second.simple).within false []
            (record { search = A.none refl; codes = λ q. lit< tt })

    pub all-answer : rest ≡ 0 → LeastAnswer n (held_generators n nb cs) (held_generators n nb₂ cs₂) true choice
    all-answer e =
        least-answer n (rows_of n r) (rows_of n t) (record-proper n r P.first.simple).within
        (record-proper n t P.second.simple).within true choice
        (record {
          search = least-at-least n r t P.first.simple P.second.simple (codes_of choice)
              (λ q l. G.least_at q l (ap (λ w. bit w q) e ∙ zero_bit q));
          codes = G.codes;
        })
