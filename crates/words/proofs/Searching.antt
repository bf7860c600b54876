-- A loop that searches the numbers from 0 on: those that it has passed do not pass the test.
use mathlib.Core.Bool.{Bool, false, true}
use mathlib.Core.Logic.{inl, inr}
use mathlib.Core.Path.{ap, sym, ◌∙◌, ◌≡◌}
use Prim.Native.Nat.{◌+◌, ◌<◌, ℕ, ◌≤◌}
use native.Mathlib.Nat.{lt_of_lt_of_le, not-suc-le-zero}
use native.Mathlib.Numerals.{add-one}
use native.Mathlib.Omega.{arith}
use lib.Dec.{ltb}
use borrow.Author.Tests.{le-ltb, lt-ltb}
use Rattle.words.proofs.SearchLaws.{first-is, first-none, first-unique, some_in, some-none}
use Rattle.words.proofs.Sums.{last_or, lt-or-ge}
use Rattle.words.specs.Search.{first, some}

-- none of those below i passes
pub record NoneBelow (f : ℕ → Bool) (i : ℕ) : Type 0 where
  pub none : (j : ℕ) → j < i → f j ≡ false

module _ (f : ℕ → Bool) where
  pub none_yet : NoneBelow f 0
  none_yet = record { none = λ j l. absurd (not-suc-le-zero l) }

  module _ (i : ℕ) (N : NoneBelow f i) where
    pub none_here : f i ≡ false → NoneBelow f (i + 1)
    none_here e = rw add-one (record {
      none = λ j l. elim (last_or l) [ inl p ↦ ap f p ∙ e | inr k ↦ N.none j k ];
    })

    module _ (k : ℕ) where
      pub first_found : i < k → f i ≡ true → i ≡ first k f
      first_found l e = sym (first-unique k f i (record { below = l; passes = e; least = N.none }))

      pub none_found : k ≤ i → k ≡ first k f
      none_found l = sym (first-none k f (λ j h. N.none j (lt_of_lt_of_le h l)))

      pub some-found : i < k → f i ≡ true → true ≡ some k f
      some-found l e = sym (some_in k f i l e)

      pub no-some : k ≤ i → false ≡ some k f
      no-some l = sym (some-none k f (λ j h. N.none j (lt_of_lt_of_le h l)))

-- ---- a search answers a number below the bound exactly if some number passes
module _ (k : ℕ) (f : ℕ → Bool) where
  pub below-some : first k f < k → some k f ≡ true
  below-some l = elim (first-is k f) [
    | inl F ↦ some_in k f (first k f) F.below F.passes
    | inr none ↦ absurd (omega (arith, l, first-none k f none))
  ]

  pub above-none : k ≤ first k f → some k f ≡ false
  above-none l = elim (first-is k f) [
    | inl F ↦ absurd (omega (arith, l, F.below))
    | inr none ↦ some-none k f none
  ]

  pub some-by-first : ltb (first k f) k ≡ some k f
  some-by-first = elim (lt-or-ge (first k f) k) [
    | inl l ↦ lt-ltb (first k f) k l ∙ sym (below-some l)
    | inr l ↦ le-ltb (first k f) k l ∙ sym (above-none l)
  ]
