-- The loop of the image rule: what holds before each round, that a round keeps it, and that the loop ends where there
-- is no move.
use mathlib.Core.List.{◌++◌, List, [], append_assoc, ◌∷◌}
use mathlib.Core.Logic.{inl, inr, ◌⊎◌}
use mathlib.Core.Path.{ap, refl, subst, sym, ◌∙◌, ◌≡◌}
use Prim.Native.Nat.{◌+◌, ◌<◌, suc, zero, ℕ, ◌≤◌}
use native.Mathlib.Omega.{arith}
use lib.ListN.{length, length-append}
use Rattle.cut.proofs.Counting.{count-ext, count-upto}
use Rattle.cut.specs.Kernel.{count}
use Rattle.words.specs.Bits.{bit}
use Rattle.image.proofs.Moves.{moves-are, moves-unique, stop}
use Rattle.image.proofs.Running.{Stopped, move-lower, run_length, stopped-run}
use Rattle.image_impl.proofs.StepLists.{complemented-append, complemented-none, complemented-state}
use Rattle.image_impl.proofs.TrackedRecords.{tracked-simple, tracked-small}
use Rattle.image.specs.Rule.{State, follow, image_list, moves, moves_upto, state_of}
use Rattle.image_impl.specs.internal.Working.{Complemented, Tracking, Working, working_record}

-- the complementations done so far, and what is left of the list
pub record Reached (n : ℕ) (start w : Working) : Type 0 where
  pub done : List ℕ
  pub so_far : Complemented n start done w
  -- how often the rule may still be applied, which is enough
  pub left : ℕ
  pub enough : count n (bit w.c) ≤ left
  pub rest : image_list n (working_record start) ≡ done ++ moves_upto n left (state_of (working_record w))

-- the measure, by the word and by the codes
count_word : (n : ℕ) (w : Working) → Tracking n w →
    count n (bit w.c) ≡ count n (state_of (working_record w)).C
count_word n w T = count-ext n (bit w.c) (state_of (working_record w)).C (λ q l. T.C q)

pub reached-start : (n : ℕ) (start : Working) → Tracking n start → Reached n start start
reached-start n start T =
    record {
      done = [];
      so_far = complemented-none n start T;
      left = n;
      enough = count-upto n (bit start.c);
      rest = refl;
    }

no-places : (ms : List ℕ) → length ms ≡ 0 → ms ≡ []
no-places [] e = refl
no-places (v ∷ ms) e = absurd (omega (arith, e))

module _ (n : ℕ) (start w : Working) (empty : start.count ≡ 0) (T : Tracking n start) (R : Reached n start w) where
  abbrev S : State
  S = state_of (working_record w)

  abbrev ms : List ℕ
  ms = moves n S

  tracking : Tracking n w
  tracking = R.so_far.tracking

  -- the list of the whole rule has at most 96 places
  whole : length (image_list n (working_record start)) ≤ 96
  whole = omega (
    arith,
    run_length n n (state_of (working_record start)) (tracked-simple n start T),
    tracked-small n start T,
  )

  stopped_none : Stopped n S → ms ≡ []
  stopped_none H = moves-unique n S (stop H.no_both H.no-pair)

  abbrev Falls : Type 0
  Falls = count n (follow S ms).C < count n S.C

  lower : Stopped n S ⊎ Falls
  lower = move-lower n S (tracked-simple n w tracking) (moves-are n S)

  module _ (falls : Falls) where
    -- the rule may be applied at least once more
    once_more : (k : ℕ) → R.left ≡ k → (m : ℕ) × (R.left ≡ suc m)
    once_more zero e = absurd (omega (arith, e, falls, R.enough, count_word n w tracking))
    once_more (suc m) e = (m, e)

    after : ℕ
    after = (once_more R.left refl).0

    one_less : R.left ≡ suc after
    unfolding after
    one_less = (once_more R.left refl).1

    rest-is : image_list n (working_record start) ≡ (R.done ++ ms) ++ moves_upto n after (follow S ms)
    unfolding moves_upto
    rest-is =
        R.rest ∙ ap (λ k. R.done ++ moves_upto n k S) one_less
        ∙ sym (append_assoc R.done ms (moves_upto n after (follow S ms)))

    falling-room : w.count + length ms ≤ 96
    falling-room =
        omega (
          arith,
          R.so_far.count,
          empty,
          whole,
          ap length rest-is,
          length-append (R.done ++ ms) (moves_upto n after (follow S ms)),
          length-append R.done ms,
        )

    module _ (r : Working) (C : Complemented n w ms r) where
      state : state_of (working_record r) ≡ follow S ms
      state = complemented-state n w r ms tracking C

      falling-less : count n (bit r.c) < count n (bit w.c)
      falling-less =
          omega (
            arith,
            falls,
            count_word n w tracking,
            count_word n r C.tracking,
            ap (λ s. count n s.C) state,
          )

      falling-again : Reached n start r
      falling-again =
          record {
            done = R.done ++ ms;
            so_far = complemented-append R.so_far C;
            left = after;
            enough = omega (arith, one_less, R.enough, falling-less);
            rest = rest-is ∙ ap (λ s. (R.done ++ ms) ++ moves_upto n after s) (sym state);
          }

  -- the list has room for the next moves
  room : w.count + length ms ≤ 96
  room = elim lower [
    | inl H ↦ omega (
      arith,
      R.so_far.count,
      empty,
      whole,
      ap length R.rest,
      length-append R.done (moves_upto n R.left S),
      ap length (stopped_none H),
    )
    | inr f ↦ falling-room f
  ]

  pub next-ready : Tracking (length w.neighbours) w × (w.count + length (moves (length w.neighbours) S) ≤ 96)
  next-ready =
      subst (λ m. Tracking m w × (w.count + length (moves m S) ≤ 96)) (sym tracking.long) (tracking, room)

  -- what a round leaves, said of the buffers' own length
  module _ (r : Working) (made : Complemented (length w.neighbours) w (moves (length w.neighbours) S) r) where
    C : Complemented n w ms r
    C = subst (λ m. Complemented m w (moves m S) r) tracking.long made

    -- a round that lists a vertex takes a C away
    pub round-on : w.count < r.count
        → Reached n start r × (count n (bit r.c) < count n (bit w.c))
    round-on more = elim lower [
      | inl H ↦ absurd (omega (arith, more, C.count, ap length (stopped_none H)))
      | inr f ↦ (falling-again f r C, falling-less f r C)
    ]

    -- one that lists none is the last
    pub round-end : r.count ≡ w.count → Complemented n start (image_list n (working_record start)) r
    round-end same = subst (λ vs. Complemented n start vs r) (sym all) (complemented-append R.so_far C)
      where
        none : ms ≡ []
        none = no-places ms (omega (arith, C.count, same))

        stopped : Stopped n S
        stopped = elim lower [
          | inl H ↦ H
          | inr f ↦ absurd (omega (arith, f, ap (λ vs. count n (follow S vs).C) none))
        ]

        all : image_list n (working_record start) ≡ R.done ++ ms
        all = R.rest ∙ ap (λ vs. R.done ++ vs) (stopped-run n R.left S stopped ∙ sym none)
