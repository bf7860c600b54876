-- The loop over the used vertices: those that it has passed are in order.
use mathlib.Core.Bool.{◌&&◌, Bool, and-false, false, not, true, ◌||◌}
use mathlib.Core.List.{List}
use mathlib.Core.Path.{ap, ap₂, refl, sym, ◌∙◌, ◌≡◌}
use Prim.Native.Nat.{◌<◌, ◌^◌, ℕ, ◌≤◌}
use lib.Bits.{bit_xor}
use lib.Count.{count_trailing_zeros}
use lib.Dec.{eqb}
use lib.ListN.{get_or, length}
use Rattle.buffers.proofs.OverSets.{Over, next-below, next-named, over-end, over-start, over-step}
use Rattle.operations.specs.internal.InPlace.{record_in}
use Rattle.operations.specs.Used.{used_code, used_wrong}
use Rattle.words.proofs.SearchLaws.{some_in, some-none}
use Rattle.words.specs.Bits.{bit}

-- line 7 of vertex q
abbrev wrong_at : List ℕ → List ℕ → ℕ → Bool
wrong_at nb cs q = not (eqb (get_or nb q 0) 0) || not (used_code (get_or cs q 0))

-- q is not used, or in order
abbrev Good : List ℕ → List ℕ → ℕ → ℕ → ℕ → Type 0
Good nb cs used q v = (bit used q && wrong_at nb cs q) ≡ false

-- the vertices in `rest` are still to come
pub record Passing (nb cs : List ℕ) (used rest : ℕ) : Type 0 where
  pub over : Over (Good nb cs used) used nb nb rest

module _ (nb cs : List ℕ) (used : ℕ) where
  pub passing-all : used < 2 ^ (length nb) → Passing nb cs used used
  passing-all l = record { over = over-start (Good nb cs used) nb used l (λ q e. ap (λ b. b && wrong_at nb cs q) e) }

  module _ (rest : ℕ) (O : Passing nb cs used rest) where
    module _ (short : length nb ≤ 64) (nonzero : rest ≡ 0 → ⊥) (q : ℕ) (e : q ≡ count_trailing_zeros 64 rest) (w : Bool)
        (f : w ≡ (not (eqb (get_or nb q 0) 0) || not (used_code (get_or cs q 0)))) where
      pub passing-one : w ≡ false → (rest' : ℕ) → rest' ≡ bit_xor rest (2 ^ q) → Passing nb cs used rest'
      passing-one h rest' g =
          let N = over-step (Good nb cs used) used nb nb rest O.over short nonzero q e (get_or nb q 0) rest'
          (ap (λ b. bit used q && b) (sym f ∙ h) ∙ and-false (bit used q)) g in
          record {
            over = record { long = refl; below = N.below; named = N.named; done = N.done; left = λ i t. refl };
          }

      pub found-wrong : w ≡ true → true ≡ used_wrong (record { held = record_in nb cs; used = used })
      unfolding used_wrong
      found-wrong h = sym (some_in (length nb) (λ t. bit used t && wrong_at nb cs t) q
          (next-below (Good nb cs used) used nb nb rest O.over short nonzero q e)
          (ap₂ ◌&&◌ (O.over.named q (next-named (Good nb cs used) used nb nb rest O.over short nonzero q e))
          (sym f ∙ h)))

    pub none-wrong : rest ≡ 0 → false ≡ used_wrong (record { held = record_in nb cs; used = used })
    unfolding used_wrong
    none-wrong z = sym (some-none (length nb) (λ t. bit used t && wrong_at nb cs t)
        (λ t l. over-end (Good nb cs used) used nb nb rest O.over z t))
