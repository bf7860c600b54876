-- The steps towards the reduced form: each lowers the distance.
use mathlib.Core.Bool.{◌&&◌, Bool, and-false, cond, false, not, true}
use mathlib.Core.List.{[], ◌∷◌}
use mathlib.Core.Logic.{◌≢◌}
use mathlib.Core.Path.{ap, ap₂, refl, sym, ◌∙◌, ◌≡◌}
use Prim.Native.Nat.{◌*◌, ◌+◌, ◌-◌, ◌<◌, ℕ}
use native.Mathlib.Omega.{arith}
use lib.Dec.{eqb}
use Rattle.clifford.specs.Clifford.{
  Class,
  Clifford,
  XY,
  XZ,
  YX,
  YZ,
  ZX,
  ZY,
  bit_c,
  bit_d,
  class_with,
  clifford_of,
  image_x,
  image_z,
  then,
}
use Rattle.record.specs.Graph.{Simple}
use Rattle.image.proofs.Falling.{C-after, D-neighbour, D-other}
use Rattle.image.proofs.TrackedBits.{all-bits, bits-follow}
use Rattle.image.specs.Rule.{State, follow, state_of, complemented_at}
use Rattle.operations.specs.Steps.{pivot_record}
use Rattle.pauli.specs.Pauli.{letter_product}
use Rattle.record.specs.Records.{GraphRecord, complement_record, recoded}
use Rattle.words.proofs.Places.{other_place, put_all, put_other, put_same, same_place}
use Rattle.words.specs.Bits.{Word, put, ◌⊕◌}
use Rattle.operations.proofs.Places.{pauli-then}
use Rattle.operations.proofs.Totals.{at_most, first-less, total-cong, total-le, total-put}
use Rattle.operations.specs.internal.Settling.{distance, is_zy, total, code_weight}
use Rattle.operations.specs.internal.GraphSteps.{sign_moved}

module _ (n : ℕ) (r : GraphRecord) (G : Simple n r.graph) where
  abbrev places : Word → ℕ
  places f = total (λ q. n - q) n f

  -- the sum over the vertices with C = 1 falls, whatever becomes of class 5
  falls : (s : GraphRecord) → places (λ q. bit_c (s.codes q)) < places (λ q. bit_c (r.codes q))
      → code_weight n s < code_weight n r
  unfolding code_weight
  falls s l = first-less n (places (λ q. bit_c (s.codes q))) (places (λ q. bit_c (r.codes q))) _ _ l (total-le n _)

  -- ---- C = D = 1
  pub nearer-alone : (j : ℕ) → j < n → bit_c (r.codes j) ≡ true → bit_d (r.codes j) ≡ true
      → code_weight n (complement_record r j) < code_weight n r
  nearer-alone j l c d =
      falls (complement_record r j)
      (omega (
        arith,
        ap places (ap (λ S. S.C) (bits-follow n r G j) ∙ C-after (state_of r) j c d),
        total-put (λ q. n - q) n (state_of r).C j false l,
        ap (λ b. cond b (n - j) 0) c,
      ))

  -- ---- an edge from a vertex with C = 1 and D = 0 to a larger one
  module _ (j k : ℕ) (hj : j < n) (hk : k < n) (jk : j < k) (edge : r.graph j k ≡ true)
      (c : bit_c (r.codes j) ≡ true) (d : bit_d (r.codes j) ≡ false) where
    abbrev S0 : State
    S0 = state_of r

    abbrev S1 : State
    S1 = complemented_at S0 j

    abbrev S2 : State
    S2 = complemented_at S1 k

    abbrev e : Bool
    e = S0.C k ⊕ (S0.C k ⊕ S0.D k)

    C1 : S1.C ≡ put S0.C j true
    C1 = C-after S0 j c d

    C1j : S1.C j ≡ true
    C1j = ap (λ f. f j) C1 ∙ put_same S0.C j true

    C1k : S1.C k ≡ S0.C k
    C1k = ap (λ f. f k) C1 ∙ put_other S0.C j true k (λ p. absurd (omega (arith, p)))

    C2 : S2.C ≡ put S1.C k e
    C2 = C-after S1 k C1k (D-neighbour S0 j k edge refl refl)

    C2j : S2.C j ≡ true
    C2j = ap (λ f. f j) C2 ∙ put_other S1.C k e j (λ p. absurd (omega (arith, p))) ∙ C1j

    -- the edge is still there after j
    edge1 : S1.graph k j ≡ true
    unfolding complemented_at
    edge1 = ap (λ b. r.graph k j ⊕ ((r.graph j k && b) && not (eqb j k))) (G.loopless j)
        ∙ ap₂ (λ b c. b ⊕ (c && not (eqb j k))) (G.symmetric k j ∙ edge) (and-false (r.graph j k))

    C3 : (follow S0 (j ∷ k ∷ j ∷ [])).C ≡ put S2.C j false
    C3 = C-after S2 j C2j (D-neighbour S1 k j edge1 C1j (D-other S0 j j (G.loopless j) d))

    pub nearer-joined : code_weight n (pivot_record r j k) < code_weight n r
    nearer-joined =
        falls (pivot_record r j k)
        (omega (
          arith,
          ap places (ap (λ S. S.C) (all-bits n r (j ∷ k ∷ j ∷ []) G) ∙ C3),
          total-put (λ q. n - q) n S2.C j false hj,
          ap (λ b. cond b (n - j) 0) C2j,
          ap places C2,
          total-put (λ q. n - q) n S1.C k e hk,
          at_most e (n - k),
          ap places C1,
          total-put (λ q. n - q) n S0.C j true hj,
          ap (λ b. cond b (n - j) 0) c,
        ))

  -- ---- class 5, all neighbours with C = 0
  module _ (j : ℕ) (hj : j < n) (five : (r.codes j).class ≡ ZY)
      (kept : (q : ℕ) → r.graph j q ≡ true → bit_c (r.codes q) ≡ false) where
    own-C : bit_c (r.codes j) ≡ true
    own-C = ap (λ c. bit_c (record { class = c; sx = (r.codes j).sx; sz = (r.codes j).sz })) five

    own-D : bit_d (r.codes j) ≡ false
    own-D = ap (λ c. bit_d (record { class = c; sx = (r.codes j).sx; sz = (r.codes j).sz })) five

    new-C : (state_of (complement_record r j)).C ≡ put (state_of r).C j true
    new-C = ap (λ S. S.C) (bits-follow n r G j) ∙ C-after (state_of r) j own-C own-D

    not_five : (k : Clifford) → bit_c k ≡ false → is_zy k.class ≡ false
    not_five k h = go k.class h
      where
        go : (c : Class) → bit_c (record { class = c; sx = k.sx; sz = k.sz }) ≡ false → is_zy c ≡ false
        go XZ h = refl
        go YZ h = refl
        go ZX h = refl
        go XY h = refl
        go YX h = refl
        go ZY h = h

    new-five : (q : ℕ) → is_zy ((complement_record r j).codes q).class ≡ put (λ q. is_zy (r.codes q).class) j false q
    new-five q =
        put_all (λ q b. is_zy (recoded r.graph j r.codes q).class ≡ b) (λ q. is_zy (r.codes q).class) j false
        (ap (λ b. is_zy (cond b (then (clifford_of 13) (r.codes j))
        (cond (r.graph j j) (then (clifford_of 6) (r.codes j)) (r.codes j))).class)
        (same_place j)
        ∙ ap (λ c. is_zy (class_with (image_x c) (letter_product (image_x c) (image_z c)))) five) q
        (λ d. ap (λ b. is_zy (cond b (then (clifford_of 13) (r.codes q))
        (cond (r.graph j q) (then (clifford_of 6) (r.codes q)) (r.codes q))).class)
        (other_place d) ∙ go d (r.graph j q) refl)
      where
        go : q ≢ j → (b : Bool) → r.graph j q ≡ b
            → is_zy (cond b (then (clifford_of 6) (r.codes q)) (r.codes q)).class ≡ is_zy (r.codes q).class
        go d false h = refl
        go d true h = not_five (then (clifford_of 6) (r.codes q)) (after d h) ∙ sym (not_five (r.codes q) (kept q h))
          where
            after : q ≢ j → r.graph j q ≡ true → bit_c (then (clifford_of 6) (r.codes q)) ≡ false
            after d h =
                sym (ap₂ (λ a b. bit_c (cond a (then (clifford_of 13) (r.codes q))
                (cond b (then (clifford_of 6) (r.codes q)) (r.codes q))))
                (other_place d) h)
                ∙ ap (λ f. f q) new-C ∙ put_other (state_of r).C j true q d ∙ kept q h

    pub nearer-turned : code_weight n (complement_record r j) < code_weight n r
    unfolding code_weight
    nearer-turned =
        omega (
          arith,
          ap (λ m. m * (n + 1)) same,
          total-cong (λ q. 1) n (λ q. is_zy ((complement_record r j).codes q).class)
              (put (λ q. is_zy (r.codes q).class) j false) (λ q l. new-five q),
          total-put (λ q. 1) n (λ q. is_zy (r.codes q).class) j false hj,
          ap {B = ℕ} (λ c. cond (is_zy c) 1 0) five,
        )
      where
        same : places (λ q. bit_c ((complement_record r j).codes q)) ≡ places (λ q. bit_c (r.codes q))
        same = omega (
          arith,
          ap places new-C,
          total-put (λ q. n - q) n (state_of r).C j true hj,
          ap (λ b. cond b (n - j) 0) own-C,
        )

  -- ---- signs
  -- less weight is nearer, whatever becomes of the signs
  pub lighter : (s : GraphRecord) → code_weight n s < code_weight n r → distance n s < distance n r
  unfolding distance
  lighter s l = first-less n (code_weight n s) (code_weight n r) _ _ l (total-le n _)

  pub nearer-signed : (a : ℕ) → a < n → (r.codes a).sz ≡ true → distance n (sign_moved r a) < distance n r
  unfolding distance code_weight
  nearer-signed a ha e =
      omega (
        arith,
        ap (λ m. (m * (n + 1) + total (λ q. 1) n (λ q. is_zy ((sign_moved r a).codes q).class)) * (n + 1)) same-C,
        ap (λ m. (places (λ q. bit_c (r.codes q)) * (n + 1) + m) * (n + 1)) same-ZY,
        total-cong (λ q. 1) n (λ q. ((sign_moved r a).codes q).sz) (put (λ q. (r.codes q).sz) a false)
            (λ q l. signs q),
        total-put (λ q. 1) n (λ q. (r.codes q).sz) a false ha,
        ap {B = ℕ} (λ b. cond b 1 0) e,
      )
    where
      after : (q : ℕ) → (sign_moved r a).codes q
          ≡ record {
            class = (r.codes q).class;
            sx = r.graph a q ⊕ (r.codes q).sx;
            sz = eqb q a ⊕ (r.codes q).sz;
          }
      after q = pauli-then (eqb q a) (r.graph a q) (r.codes q)

      same-C : places (λ q. bit_c ((sign_moved r a).codes q)) ≡ places (λ q. bit_c (r.codes q))
      same-C = total-cong (λ q. n - q) n (λ q. bit_c ((sign_moved r a).codes q)) (λ q. bit_c (r.codes q))
          (λ q l. ap bit_c (after q))

      same-ZY : total (λ q. 1) n (λ q. is_zy ((sign_moved r a).codes q).class)
          ≡ total (λ q. 1) n (λ q. is_zy (r.codes q).class)
      same-ZY = total-cong (λ q. 1) n (λ q. is_zy ((sign_moved r a).codes q).class) (λ q. is_zy (r.codes q).class)
          (λ q l. ap (λ k. is_zy k.class) (after q))

      signs : (q : ℕ) → ((sign_moved r a).codes q).sz ≡ put (λ q. (r.codes q).sz) a false q
      signs q = ap (λ k. k.sz) (after q)
          ∙ put_all (λ q b. eqb q a ⊕ (r.codes q).sz ≡ b) (λ q. (r.codes q).sz) a false
          (ap₂ ◌⊕◌ (same_place a) e) q (λ d. ap (λ b. b ⊕ (r.codes q).sz) (other_place d))
