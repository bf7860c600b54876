-- Commuting rows with an x bit at the own place and no other are the rows of a simple graph, with X or Y
-- at the own place.
use mathlib.Core.Bool.{◌&&◌, Bool, and_comm, and-false, and-true, false, not, true}
use mathlib.Core.Logic.{inl, inr, ◌⊎◌}
use mathlib.Core.Path.{ap, ap₂, refl, subst, sym, ◌∙◌, ◌≡◌}
use Prim.Native.Nat.{◌<◌, ℕ, ◌≤◌}
use native.Mathlib.Decide.{ℕ_discrete}
use native.Mathlib.Omega.{arith}
use lib.Dec.{eqb, ltb}
use borrow.Author.Tests.{le-ltb, lt-ltb}
use Rattle.record.specs.Graph.{Simple, graph_generator}
use Rattle.pauli.proofs.PauliLaws.{Pauli-path}
use Rattle.pauli.proofs.PhaseLaws.{sign-of-phase}
use Rattle.pauli.specs.Pauli.{Pauli, minus, sign_bit}
use Rattle.stabilizer.proofs.Products.{anticommute-form}
use Rattle.stabilizer.specs.Groups.{Commuting, Within}
use Rattle.words.proofs.Finite.{⊕-zero}
use Rattle.words.proofs.Places.{other_place, parity-at, place-comm, same_place, ⊕-cancel}
use Rattle.words.proofs.Sums.{fold-ext, lt-or-ge}
use Rattle.words.specs.Bits.{◌⊕◌}
use Rattle.record.proofs.PlainRows.{plain-phase, plain-x, plain-z, plain_row}
use Rattle.record.specs.Reduced.{graph_of, minuses_of, ys_of}

module _ (n : ℕ) (R : ℕ → Pauli) (G : Commuting n n R) (W : (i : ℕ) → i < n → Within n (R i))
    (pivots : (t : ℕ) → t < n → (i : ℕ) → (R i).x t ≡ eqb i t) where
  -- rows i and j commute, so each has Z at the other's place or neither
  z-pair : (i j : ℕ) → i < n → j < n → (R i).z j ≡ (R j).z i
  z-pair i j a b = ⊕-cancel _ _ (sym (anticommute-form n (R i) (R j) ∙ ap₂ ◌⊕◌
      (fold-ext false ◌⊕◌ n (λ q l. ap (λ c. (R i).z q && c) (pivots q l j ∙ place-comm j q))
      ∙ parity-at n (R i).z j b)
      (fold-ext false ◌⊕◌ n (λ q l. and_comm ((R i).x q) ((R j).z q)
      ∙ ap (λ c. (R j).z q && c) (pivots q l i ∙ place-comm i q)) ∙ parity-at n (R j).z i a))
      ∙ G.commute i j a b)

  pub graph-simple : Simple n (graph_of n R)
  unfolding graph_of
  graph-simple =
      record {
        symmetric = λ i j. symmetric-at i j (lt-or-ge i n) (lt-or-ge j n);
        loopless = λ i. ap (λ b. (ltb i n && ltb i n) && ((R i).z i && not b)) (same_place i)
            ∙ ap (λ b. (ltb i n && ltb i n) && b) (and-false ((R i).z i)) ∙ and-false (ltb i n && ltb i n);
        below = λ i q l. above-right i q l;
      }
    where
      above-right : (i j : ℕ) → n ≤ j → graph_of n R i j ≡ false
      above-right i j l = ap (λ b. (ltb i n && b) && ((R i).z j && not (eqb j i))) (le-ltb j n l)
          ∙ ap (λ b. b && ((R i).z j && not (eqb j i))) (and-false (ltb i n))

      above-left : (i j : ℕ) → n ≤ i → graph_of n R i j ≡ false
      above-left i j l = ap (λ b. (b && ltb j n) && ((R i).z j && not (eqb j i))) (le-ltb i n l)

      symmetric-at : (i j : ℕ) → (i < n) ⊎ (n ≤ i) → (j < n) ⊎ (n ≤ j) → graph_of n R i j ≡ graph_of n R j i
      symmetric-at i j (inl a) (inl b) =
          ap₂ (λ c d. c && (d && not (eqb j i))) (and_comm (ltb i n) (ltb j n)) (z-pair i j a b)
          ∙ ap (λ c. (ltb j n && ltb i n) && ((R j).z i && not c)) (place-comm j i)
      symmetric-at i j (inl a) (inr b) = above-right i j b ∙ sym (above-left j i b)
      symmetric-at i j (inr a) c = above-left i j a ∙ sym (above-right j i a)

  pub graph-form : (j : ℕ) → j < n → plain_row n (graph_of n R) (ys_of n R) (minuses_of n R) j ≡ R j
  unfolding graph_of ys_of minuses_of
  graph-form j l =
      Pauli-path
      (plain-phase n (graph_of n R) graph-simple (ys_of n R) (minuses_of n R) j l
      ∙ ap (λ b. minus (b && sign_bit (R j).phase)) (lt-ltb j n l)
      ∙ sym (sign-of-phase (R j).phase (G.signed j l)))
      (λ q. plain-z n (graph_of n R) (ys_of n R) (minuses_of n R) j q ∙ z-at q (lt-or-ge q n) (ℕ_discrete q j))
      (λ q. plain-x n (ys_of n R) (minuses_of n R) (graph_generator (graph_of n R) j) q ∙ x-at q (lt-or-ge q n))
    where
      x-at : (q : ℕ) → (q < n) ⊎ (n ≤ q) → eqb q j ≡ (R j).x q
      x-at q (inl k) = place-comm q j ∙ sym (pivots q k j)
      x-at q (inr k) = other_place {i = q} {j = j} (λ e. absurd (omega (arith, e))) ∙ sym ((W j l).no-x q k)

      own-z : (a : Bool) → ((true && true) && (a && not true)) ⊕ (true && (true && a)) ≡ a
      own-z false = refl
      own-z true = refl

      z-at : (q : ℕ) → (q < n) ⊎ (n ≤ q) → Dec (q ≡ j)
          → ((ltb j n && ltb q n) && ((R j).z q && not (eqb q j)))
          ⊕ (eqb q j && (ltb q n && (R q).z q)) ≡ (R j).z q
      z-at q k (yes e) =
          subst (λ v. ((ltb j n && ltb v n) && ((R j).z v && not (eqb v j)))
          ⊕ (eqb v j && (ltb v n && (R v).z v)) ≡ (R j).z v) (sym e)
          (ap₂ (λ a b. ((a && a) && ((R j).z j && not b)) ⊕ (b && (a && (R j).z j)))
          (lt-ltb j n l) (same_place j)
          ∙ own-z ((R j).z j))
      z-at q (inl k) (no d) =
          ap₂ (λ a b. ((a && b) && ((R j).z q && not (eqb q j))) ⊕ (eqb q j && (ltb q n && (R q).z q)))
          (lt-ltb j n l) (lt-ltb q n k)
          ∙ ap (λ b. ((R j).z q && not b) ⊕ (b && (ltb q n && (R q).z q))) (other_place d) ∙ ⊕-zero _
          ∙ and-true ((R j).z q)
      z-at q (inr k) (no d) =
          ap₂ (λ a b. ((ltb j n && a) && ((R j).z q && not b)) ⊕ (b && (a && (R q).z q)))
          (le-ltb q n k) (other_place d)
          ∙ ap (λ b. (b && ((R j).z q && not false)) ⊕ false) (and-false (ltb j n)) ∙ sym ((W j l).no-z q k)
