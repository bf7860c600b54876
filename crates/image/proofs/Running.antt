-- The whole moves_upto of the image rule: it stops, and 2 · count ≤ 3 n.
use mathlib.Core.Bool.{false}
use mathlib.Core.List.{◌++◌, List, [], ◌∷◌}
use mathlib.Core.Logic.{inl, inr, ◌⊎◌}
use mathlib.Core.Path.{ap, refl, subst, sym, ◌∙◌, ◌≡◌}
use Prim.Native.Nat.{◌*◌, ◌+◌, ◌<◌, suc, suc-le-suc, zero, ℕ, ◌≤◌}
use native.Mathlib.Nat.{not-suc-le-zero}
use native.Mathlib.Omega.{arith}
use lib.ListN.{get_or, length, length-append}
use Rattle.cut.proofs.Counting.{count-upto}
use Rattle.cut.specs.Kernel.{count}
use Rattle.record.proofs.Complement.{complement-simple}
use Rattle.record.specs.Graph.{Simple}
use Rattle.record.proofs.ComplementLists.{VerticesBelow, add, nil}
use Rattle.image.proofs.Falling.{fall-alone, fall-joined, pair_is}
use Rattle.image.proofs.Moves.{Move, alone, joined, moves-are, moves-unique, stop}
use Rattle.image.specs.Rule.{State, both, follow, moves, pivot_move, moves_upto, complemented_at}

-- ---- the vertices of a list are below n
pub below-append : {n : ℕ} {a b : List ℕ} → VerticesBelow n a → VerticesBelow n b → VerticesBelow n (a ++ b)
below-append nil w = w
below-append (add v l u) w = add v l (below-append u w)

pub move-below : {n : ℕ} {S : State} {ms : List ℕ} → Move n S ms → VerticesBelow n ms
move-below (alone v F) = add v F.below nil
move-below (joined j k none J K) = add j J.below (add k K.below (add j J.below nil))
move-below (stop none apart) = nil

pub run-below : (n k : ℕ) (S : State) → VerticesBelow n (moves_upto n k S)
unfolding moves_upto
run-below n zero S = nil
run-below n (suc k) S = below-append (move-below (moves-are n S)) (run-below n k (follow S (moves n S)))

pub below_at : {n : ℕ} {vs : List ℕ} → VerticesBelow n vs → (i : ℕ) → i < length vs → get_or vs i 0 < n
below_at nil i l = absurd (not-suc-le-zero l)
below_at (add v h w) zero l = h
below_at (add v h w) (suc i) (suc-le-suc l) = below_at w i l

-- ---- lists followed one after another
pub follow-append : (S : State) (a b : List ℕ) → follow S (a ++ b) ≡ follow (follow S a) b
follow-append S [] b = refl
follow-append S (v ∷ a) b = follow-append (complemented_at S v) a b

pub follow-simple : (n : ℕ) (S : State) (ms : List ℕ) → Simple n S.graph → Simple n (follow S ms).graph
unfolding complemented_at
follow-simple n S [] G = G
follow-simple n S (v ∷ ms) G = follow-simple n (complemented_at S v) ms (complement-simple n S.graph G v)

-- ---- how many complementations: each single one takes one C away, each triple two
abbrev Fall : ℕ → State → List ℕ → Type 0
Fall n S ms = 2 * length ms + 3 * count n (follow S ms).C ≤ 3 * count n S.C

move-fall : (n : ℕ) (S : State) {ms : List ℕ} → Simple n S.graph → Move n S ms → Fall n S ms
move-fall n S G (alone v F) = omega (arith, fall-alone n S v F.below F.passes)
move-fall n S G (joined j k none J K) =
    omega (arith, fall-joined n S G j k J.below K.below (pair_is S j k K.passes))
move-fall n S G (stop none apart) = omega arith

pub run-fall : (n k : ℕ) (S : State) → Simple n S.graph → Fall n S (moves_upto n k S)
unfolding moves_upto
run-fall n zero S G = omega arith
run-fall n (suc k) S G =
    let ms = moves n S in
    omega (
      arith,
      length-append ms (moves_upto n k (follow S ms)),
      move-fall n S G (moves-are n S),
      run-fall n k (follow S ms) (follow-simple n S ms G),
      ap (λ T. count n T.C) (follow-append S ms (moves_upto n k (follow S ms))),
    )

-- so the list has at most 3 n / 2 places: 96 where n is 64
pub run_length : (n k : ℕ) (S : State) → Simple n S.graph → 2 * length (moves_upto n k S) ≤ 3 * n
run_length n k S G = omega (arith, run-fall n k S G, count-upto n S.C)

-- ---- the moves_upto comes to a stop: no vertex has both bits 1, and no pivot_move is left
pub record Stopped (n : ℕ) (S : State) : Type 0 where
  pub no_both : (v : ℕ) → v < n → both S v ≡ false
  pub no-pair : (j k : ℕ) → j < n → k < n → pivot_move S j k ≡ false

-- a state at a stop stays
pub stopped-run : (n k : ℕ) (S : State) → Stopped n S → moves_upto n k S ≡ []
unfolding moves_upto
stopped-run n zero S H = refl
stopped-run n (suc k) S H =
    ap (λ ms. ms ++ moves_upto n k (follow S ms)) (moves-unique n S (stop H.no_both H.no-pair))
    ∙ stopped-run n k S H

-- a move takes a C away, or there is none
pub move-lower : (n : ℕ) (S : State) {ms : List ℕ} → Simple n S.graph → Move n S ms →
    Stopped n S ⊎ (count n (follow S ms).C < count n S.C)
move-lower n S G (alone v F) = inr (omega (arith, fall-alone n S v F.below F.passes))
move-lower n S G (joined j k none J K) =
    inr (omega (arith, fall-joined n S G j k J.below K.below (pair_is S j k K.passes)))
move-lower n S G (stop none apart) = inl (record { no_both = none; no-pair = apart })

at-stop : (n k : ℕ) (S : State) → Stopped n S → Stopped n (follow S (moves_upto n k S))
at-stop n k S H = subst (λ ms. Stopped n (follow S ms)) (sym (stopped-run n k S H)) H

-- as many times as there are vertices with C = 1 are enough
pub run-stops : (n k : ℕ) (S : State) → Simple n S.graph → count n S.C ≤ k
    → Stopped n (follow S (moves_upto n k S))
unfolding moves_upto
run-stops n zero S G h = elim (move-lower n S G (moves-are n S)) [
  | inl e ↦ at-stop n zero S e
  | inr l ↦ absurd (omega arith)
]
run-stops n (suc k) S G h =
    go (run-stops n k (follow S (moves n S)) (follow-simple n S (moves n S) G)) (move-lower n S G (moves-are n S))
  where
    go : (count n (follow S (moves n S)).C ≤ k →
        Stopped n (follow (follow S (moves n S)) (moves_upto n k (follow S (moves n S)))))
        → Stopped n S ⊎ (count n (follow S (moves n S)).C < count n S.C)
        → Stopped n (follow S (moves_upto n (suc k) S))
    go ih (inl e) = at-stop n (suc k) S e
    go ih (inr l) =
        subst (Stopped n) (sym (follow-append S (moves n S) (moves_upto n k (follow S (moves n S)))))
        (ih (omega arith))
