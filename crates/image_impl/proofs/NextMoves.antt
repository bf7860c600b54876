-- The next moves of the image rule in the code: a single vertex, a triple, or none.
use mathlib.Core.Bool.{true}
use mathlib.Core.List.{List, [], ◌∷◌}
use mathlib.Core.Path.{ap, subst, sym, ◌∙◌, ◌≡◌}
use Prim.Native.Nat.{◌+◌, ◌<◌, ℕ, ◌≤◌}
use native.Mathlib.Omega.{arith}
use Rattle.std.specs.Prelude.{IfNone, None, Option, Some}
use lib.Bits.{bit_and}
use lib.Count.{count_trailing_zeros}
use lib.Dec.{lit<}
use lib.ListN.{get_or, length}
use Rattle.words.specs.Bits.{bit}
use Rattle.words.specs.Search.{first}
use Rattle.image.proofs.Moves.{Move, moves-unique, stop}
use Rattle.image.proofs.Running.{below_at, move-below}
use Rattle.image_impl.proofs.StepLists.{complemented-none}
use Rattle.image_impl.proofs.TrackedRecords.{tracked-small}
use Rattle.image_impl.proofs.WordMoves.{joined-below, word-alone, word-edge, word-joined, word-stopped}
use Rattle.image.specs.Rule.{State, moves, state_of}
use Rattle.image_impl.specs.internal.Working.{Complemented, Tracking, Working, joined_in, working_record}

-- a clause about `None` asks for no more than its fact
pub where-none : {A : Type 0} (o : Option A) {P : Type 0} → P → IfNone o P
where-none None p = p
where-none (Some v) p = tt

module _ (n : ℕ) (w : Working) (T : Tracking n w)
    (room : w.count + length (moves n (state_of (working_record w))) ≤ 96) where
  abbrev S : State
  S = state_of (working_record w)

  -- the moves done are those of the rule
  done : {ms : List ℕ} {r : Working} → Move n S ms → Complemented n w ms r → Complemented n w (moves n S) r
  done {ms} {r} M = subst (λ vs. Complemented n w vs r) (sym (moves-unique n S M))

  -- ---- v is the smallest vertex with both bits 1
  module _ (v : ℕ) (e : v ≡ count_trailing_zeros 64 (bit_and w.c w.d)) (nonzero : bit_and w.c w.d ≡ 0 → ⊥) where
    single-move : Move n S (v ∷ [])
    single-move = subst (λ v. Move n S (v ∷ [])) (sym e) (word-alone n (tracked-small n w T) w T nonzero)

    pub single-ready : (v < n) × (w.count < 96) × Tracking n w
    single-ready = (
      below_at (move-below single-move) 0 (lit< tt),
      omega (arith, room, ap length (moves-unique n S single-move)),
      T,
    )

    pub single-done : (r : Working) → Complemented n w (v ∷ []) r → Complemented n w (moves n S) r
    single-done r = done single-move

  -- ---- no such vertex: j is the smallest with C = 1 that has a neighbour with C = 1
  module _ (zero_word : bit_and w.c w.d ≡ 0) (j : ℕ) (found : j ≡ first n (joined_in w.neighbours w.c)) where
    pub none_done : j ≡ n → Complemented n w (moves n S) w
    none_done e =
        let H = word-stopped n (tracked-small n w T) w T zero_word j found e in
        done (stop H.no_both H.no-pair) (complemented-none n w T)

    module _ (some_pair : j ≡ n → ⊥) where
      pub pair-below : j < n
      pair-below = joined-below n (tracked-small n w T) w T zero_word j found some_pair

      module _ (k : ℕ) (e : k ≡ count_trailing_zeros 64 (bit_and (get_or w.neighbours j 0) w.c)) where
        triple-move : Move n S (j ∷ k ∷ j ∷ [])
        triple-move =
            subst (λ k. Move n S (j ∷ k ∷ j ∷ [])) (sym e)
            (word-joined n (tracked-small n w T) w T zero_word j found some_pair)

        pub triple-ready : ((j < n) × (k < n) × (w.count + 2 < 96) × Tracking n w)
            × (bit (get_or w.neighbours j 0) k ≡ true)
        triple-ready = (
          (
            pair-below,
            below_at (move-below triple-move) 1 (lit< tt),
            omega (arith, room, ap length (moves-unique n S triple-move)),
            T,
          ),
          ap (bit (get_or w.neighbours j 0)) e ∙ word-edge n (tracked-small n w T) w T zero_word j found some_pair,
        )

        pub triple-done : (r : Working) → Complemented n w (j ∷ k ∷ j ∷ []) r → Complemented n w (moves n S) r
        triple-done r = done triple-move
