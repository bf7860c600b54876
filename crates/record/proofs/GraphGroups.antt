-- The group of a graph: the x bits of an element determine it, and a signed row that commutes with every
-- generator is an element or minus one.
use mathlib.Core.Bool.{◌&&◌, and_comm, and-false, false, true≢false}
use mathlib.Core.Logic.{inl, inr, ◌⊎◌}
use mathlib.Core.Path.{ap, ap₂, refl, sym, ◌∙◌, ◌≡◌}
use Prim.Native.Nat.{◌<◌, ℕ, ◌≤◌}
use native.Mathlib.Decide.{ℕ_discrete}
use native.Mathlib.Omega.{arith}
use lib.Dec.{eqb}
use Rattle.pauli.proofs.PauliLaws.{Pauli-path}
use Rattle.pauli.specs.Pauli.{
  ◌+ᵖ◌,
  Pauli,
  Phase,
  anticommute,
  identity,
  imaginary,
  i²,
  i³,
  i¹,
  i⁰,
  mul,
  scaled,
}
use Rattle.stabilizer.proofs.GroupLaws.{elements-signed}
use Rattle.stabilizer.proofs.Independence.{unit-independent}
use Rattle.stabilizer.proofs.Products.{anticommute-form, product-x, product-z}
use Rattle.stabilizer.proofs.Within.{product-within}
use Rattle.stabilizer.specs.Groups.{Commuting, InGroup, Proper, Within, chosen, product}
use Rattle.words.proofs.Finite.{⊕-self}
use Rattle.words.proofs.Places.{other_place, parity-at, place-comm, ⊕-cancel}
use Rattle.words.proofs.Sums.{fold-ext, lt-or-ge}
use Rattle.words.specs.Bits.{Word, parity, ◌⊕◌}
use Rattle.record.specs.Graph.{Graph, Simple, graph_generator}

-- two signs are equal or opposite
equal-or-minus : (a b : Phase) → imaginary a ≡ false → imaginary b ≡ false → (a ≡ b) ⊎ (a ≡ i² +ᵖ b)
equal-or-minus i⁰ i⁰ h k = inl refl
equal-or-minus i⁰ i¹ h k = absurd (true≢false k)
equal-or-minus i⁰ i² h k = inr refl
equal-or-minus i⁰ i³ h k = absurd (true≢false k)
equal-or-minus i¹ b h k = absurd (true≢false h)
equal-or-minus i² i⁰ h k = inr refl
equal-or-minus i² i¹ h k = absurd (true≢false k)
equal-or-minus i² i² h k = inl refl
equal-or-minus i² i³ h k = absurd (true≢false k)
equal-or-minus i³ b h k = absurd (true≢false h)

module _ (n : ℕ) (θ : Graph) (S : Simple n θ) where
  -- no vertex is its own neighbour
  pub no_loop : (j q : ℕ) → (eqb q j && θ j q) ≡ false
  no_loop j q = elim (ℕ_discrete q j) [
    | yes e ↦ ap (λ b. eqb q j && b) (ap (θ j) e ∙ S.loopless j) ∙ and-false (eqb q j)
    | no d ↦ ap (λ b. b && θ j q) (other_place d)
  ]

  -- a row against generator j: its z bit there, and its x bits at the neighbours of j
  pub anticommute-generator : (p : Pauli) (j : ℕ) → j < n
      → anticommute n p (graph_generator θ j) ≡ p.z j ⊕ parity n (λ q. p.x q && θ q j)
  anticommute-generator p j l = anticommute-form n p (graph_generator θ j)
      ∙ ap₂ ◌⊕◌ (parity-at n p.z j l)
      (fold-ext false ◌⊕◌ n (λ q k. ap (λ b. p.x q && b) (S.symmetric j q)))

  pub graph-commuting : Commuting n n (graph_generator θ)
  graph-commuting =
      record {
        signed = λ j l. refl;
        commute = λ i j k l. anticommute-generator (graph_generator θ i) j l
            ∙ ap (λ b. θ i j ⊕ b) (fold-ext false ◌⊕◌ n (λ q k'. and_comm (eqb q i) (θ q j))
            ∙ parity-at n (λ q. θ q j) i k) ∙ ⊕-self (θ i j);
      }

  -- the x bits of an element are the word that chose it, and the z bits follow
  pub element-x : (w : Word) (q : ℕ) → q < n → (product n n w (graph_generator θ)).x q ≡ w q
  element-x w q l = product-x n n w (graph_generator θ) q
      ∙ fold-ext false ◌⊕◌ n (λ j k. ap (λ b. w j && b) (place-comm q j)) ∙ parity-at n w q l

  pub element-z : (w : Word) (q : ℕ) → (product n n w (graph_generator θ)).z q ≡ parity n (λ j. w j && θ j q)
  element-z w q = product-z n n w (graph_generator θ) q

  -- so the x bits determine the element
  pub x-determines : {p r : Pauli} → InGroup n n (graph_generator θ) p → InGroup n n (graph_generator θ) r
      → ((q : ℕ) → q < n → p.x q ≡ r.x q) → p ≡ r
  x-determines a b h =
      a.1
      ∙ fold-ext identity (mul n) n
      (λ j l. ap (λ v. chosen v (graph_generator θ j)) (sym (element-x a.0 j l)
      ∙ ap (λ p. p.x j) (sym a.1) ∙ h j l ∙ ap (λ p. p.x j) b.1 ∙ element-x b.0 j l))
      ∙ sym b.1

  pub graph-within : (j : ℕ) → j < n → Within n (graph_generator θ j)
  graph-within j l =
      record {
        no-x = λ q k. other_place {i = q} {j = j} (λ e. absurd (omega (arith, e)));
        no-z = λ q k. S.below j q k;
      }

  pub graph-proper : Proper n (graph_generator θ)
  graph-proper =
      record {
        commuting = graph-commuting;
        independent = unit-independent n (graph_generator θ) (λ t l i. place-comm t i);
        within = graph-within;
      }

  -- a signed row that commutes with every generator is an element, or minus one
  module _ (p : Pauli) (signed : imaginary p.phase ≡ false) (W : Within n p)
      (commutes : (j : ℕ) → j < n → anticommute n p (graph_generator θ j) ≡ false) where
    -- the element with the same x bits
    mate : Pauli
    mate = product n n p.x (graph_generator θ)

    mate-within : Within n mate
    unfolding mate
    mate-within = product-within n n p.x (graph_generator θ) graph-within

    z-agrees : (q : ℕ) → p.z q ≡ mate.z q
    unfolding mate
    z-agrees q = go (lt-or-ge q n)
      where
        go : (q < n) ⊎ (n ≤ q) → p.z q ≡ mate.z q
        go (inl l) = ⊕-cancel _ _ (sym (anticommute-generator p q l) ∙ commutes q l)
            ∙ sym (element-z p.x q)
        go (inr l) = W.no-z q l ∙ sym (mate-within.no-z q l)

    x-agrees : (q : ℕ) → p.x q ≡ mate.x q
    unfolding mate
    x-agrees q = go (lt-or-ge q n)
      where
        go : (q < n) ⊎ (n ≤ q) → p.x q ≡ mate.x q
        go (inl l) = sym (element-x p.x q l)
        go (inr l) = W.no-x q l ∙ sym (mate-within.no-x q l)

    pub maximal : (p ≡ product n n p.x (graph_generator θ))
        ⊎ (p ≡ scaled i² (product n n p.x (graph_generator θ)))
    unfolding mate
    maximal = go (equal-or-minus p.phase mate.phase signed
        (elements-signed n n (graph_generator θ) graph-commuting {p = mate} (p.x, refl)))
      where
        go : (p.phase ≡ mate.phase) ⊎ (p.phase ≡ i² +ᵖ mate.phase) → (p ≡ mate) ⊎ (p ≡ scaled i² mate)
        go (inl e) = inl (Pauli-path e z-agrees x-agrees)
        go (inr e) = inr (Pauli-path e z-agrees x-agrees)
