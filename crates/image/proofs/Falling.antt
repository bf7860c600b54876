-- A single complementation of the image rule takes the C of one vertex away, a triple that of two.
use mathlib.Core.Bool.{◌&&◌, Bool, and-false, cond, false, not, true}
use mathlib.Core.List.{[], ◌∷◌}
use mathlib.Core.Logic.{◌≢◌}
use mathlib.Core.Path.{ap, ap₂, subst, sym, ◌∙◌, ◌≡◌}
use Prim.Native.Nat.{◌+◌, ◌<◌, ℕ}
use native.Mathlib.Nat.{add-zero}
use native.Mathlib.Omega.{arith}
use lib.Dec.{T, eqb, ltb, ltb→lt}
use borrow.Author.Tests.{not-true}
use Rattle.cut.specs.Kernel.{count}
use Rattle.record.specs.Graph.{Simple}
use Rattle.words.proofs.Flags.{both_true}
use Rattle.words.proofs.Places.{put_other, put_same}
use Rattle.words.specs.Bits.{digit, put, ◌⊕◌}
use Rattle.image.proofs.CountLaws.{count-put}
use Rattle.image.specs.Rule.{State, both, follow, only_c, pivot_move, complemented_at}

-- C at the vertex complemented at; D at a neighbour, and at the other vertices
module _ (S : State) (v : ℕ) where
  pub C-after : {c d : Bool} → S.C v ≡ c → S.D v ≡ d → (complemented_at S v).C ≡ put S.C v (c ⊕ d)
  unfolding complemented_at
  C-after p q = ap (put S.C v) (ap₂ ◌⊕◌ p q)

  pub D-neighbour : (u : ℕ) {c d : Bool} → S.graph v u ≡ true → S.C u ≡ c → S.D u ≡ d → (complemented_at S v).D u ≡ c
      ⊕ d
  unfolding complemented_at
  D-neighbour u e p q = ap (λ b. cond b (S.C u ⊕ S.D u) (S.D u)) e ∙ ap₂ ◌⊕◌ p q

  pub D-other : (u : ℕ) {d : Bool} → S.graph v u ≡ false → S.D u ≡ d → (complemented_at S v).D u ≡ d
  unfolding complemented_at
  D-other u e q = ap (λ b. cond b (S.C u ⊕ S.D u) (S.D u)) e ∙ q

pub fall-alone : (n : ℕ) (S : State) (v : ℕ) → v < n → both S v ≡ true →
    count n (complemented_at S v).C + 1 ≡ count n S.C
fall-alone n S v l e =
    let cv : S.C v ≡ true = (both_true (S.C v) (S.D v) e).0 in
    let dv : S.D v ≡ true = (both_true (S.C v) (S.D v) e).1 in
    ap (λ f. count n f + 1) (C-after S v cv dv)
    ∙ ap (λ b. count n (put S.C v false) + digit b) (sym cv)
    ∙ count-put n S.C v false l ∙ add-zero _

-- what a pivot_move is
pub record IsPair (S : State) (j k : ℕ) : Type 0 where
  pub above : j < k
  pub edge : S.graph j k ≡ true
  pub Cj : S.C j ≡ true
  pub Dj : S.D j ≡ false
  pub Ck : S.C k ≡ true
  pub Dk : S.D k ≡ false

pub pair_is : (S : State) (j k : ℕ) → pivot_move S j k ≡ true → IsPair S j k
pair_is S j k e =
    record {
      above = ltb→lt j k (subst T {x = true} {y = ltb j k} (sym b1.0) tt);
      edge = b2.0;
      Cj = (both_true (S.C j) (not (S.D j)) b3.0).0;
      Dj = not-true (S.D j) (both_true (S.C j) (not (S.D j)) b3.0).1;
      Ck = (both_true (S.C k) (not (S.D k)) b3.1).0;
      Dk = not-true (S.D k) (both_true (S.C k) (not (S.D k)) b3.1).1;
    }
  where
    b1 : (ltb j k ≡ true) × ((S.graph j k && (only_c S j && only_c S k)) ≡ true)
    b1 = both_true (ltb j k) (S.graph j k && (only_c S j && only_c S k)) e

    b2 : (S.graph j k ≡ true) × ((only_c S j && only_c S k) ≡ true)
    b2 = both_true (S.graph j k) (only_c S j && only_c S k) b1.1

    b3 : (only_c S j ≡ true) × (only_c S k ≡ true)
    b3 = both_true (only_c S j) (only_c S k) b2.1

-- after j, D is 1 at k; after k, C is 0 at k and D is 1 at j; after j, C is 0 at j
module _ (n : ℕ) (S : State) (G : Simple n S.graph) (j k : ℕ) (a : j < n) (b : k < n) (P : IsPair S j k)
  where
    apart : j ≢ k
    apart e = absurd (omega (arith, P.above, e))

    abbrev S1 : State
    S1 = complemented_at S j

    abbrev S2 : State
    S2 = complemented_at S1 k

    C1 : S1.C ≡ put S.C j true
    C1 = C-after S j P.Cj P.Dj

    C1k : put S.C j true k ≡ true
    C1k = put_other S.C j true k (λ e. apart (sym e)) ∙ P.Ck

    C2 : S2.C ≡ put (put S.C j true) k false
    C2 = C-after S1 k (ap (λ f. f k) C1 ∙ C1k) (D-neighbour S j k P.edge P.Ck P.Dk)
        ∙ ap (λ f. put f k false) C1

    C2j : put (put S.C j true) k false j ≡ true
    C2j = put_other (put S.C j true) k false j apart ∙ put_same S.C j true

    -- the edge is still there after j
    edge1 : S1.graph k j ≡ true
    unfolding complemented_at
    edge1 = ap (λ b. S.graph k j ⊕ ((S.graph j k && b) && not (eqb j k))) (G.loopless j)
        ∙ ap₂ (λ b c. b ⊕ (c && not (eqb j k))) (G.symmetric k j ∙ P.edge) (and-false (S.graph j k))

    D2j : S2.D j ≡ true
    D2j = D-neighbour S1 k j edge1 (ap (λ f. f j) C1 ∙ put_same S.C j true)
        (D-other S j j (G.loopless j) P.Dj)

    C3 : (follow S (j ∷ k ∷ j ∷ [])).C ≡ put (put (put S.C j true) k false) j false
    C3 = C-after S2 j (ap (λ f. f j) C2 ∙ C2j) D2j ∙ ap (λ f. put f j false) C2

    pub fall-joined : count n (follow S (j ∷ k ∷ j ∷ [])).C + 2 ≡ count n S.C
    fall-joined =
        omega (
          arith,
          ap (count n) C3,
          count-put n (put (put S.C j true) k false) j false a,
          ap digit C2j,
          count-put n (put S.C j true) k false b,
          ap digit C1k,
          count-put n S.C j true a,
          ap digit P.Cj,
        )
