-- The value of a row read off a record: the row sent back through the codes is beside the one element of the graph's
-- group that has its x bits.
use mathlib.Core.Logic.{inl, inr, ◌↔◌, ◌⊎◌}
use mathlib.Core.Path.{ap, refl, subst, sym, ◌∙◌, ◌≡◌}
use Prim.Native.Nat.{◌<◌, ℕ, ◌≤◌}
use Rattle.clifford.proofs.VectorLaws.{act-after-inverse, act-inverse, act-scaled}
use Rattle.clifford.specs.Clifford.{Clifford, inverse}
use Rattle.clifford.specs.Vectors.{act}
use Rattle.record.proofs.GraphGroups.{element-x, graph-within, x-determines}
use Rattle.record.specs.Graph.{Simple, graph_generator}
use Rattle.pauli.specs.Pauli.{Pauli, i²}
use Rattle.record.specs.Records.{GraphRecord, rows_of}
use Rattle.stabilizer.proofs.Carried.{act-product}
use Rattle.stabilizer.proofs.Within.{product-within}
use Rattle.stabilizer.specs.Groups.{InGroup, Within}
use Rattle.words.proofs.Sums.{lt-or-ge}
use Rattle.expectation.specs.Values.{negated}
use Rattle.expectation.specs.internal.Reading.{element_with, sent_back}

module _ (n : ℕ) (r : GraphRecord) (S : Simple n r.graph) where
  abbrev back : ℕ → Clifford
  back q = inverse (r.codes q)

  -- the x bits of that element
  pub element-bits : (p : Pauli) → Within n p → (q : ℕ) → (element_with n r p).x q ≡ p.x q
  element-bits p W q = go (lt-or-ge q n)
    where
      go : (q < n) ⊎ (n ≤ q) → (element_with n r p).x q ≡ p.x q
      go (inl l) = element-x n r.graph S p.x q l
      go (inr l) = (product-within n n p.x (graph_generator r.graph) (graph-within n r.graph S)).no-x q l
          ∙ sym (W.no-x q l)

  -- a row is in the record's group exactly if it is sent back to that element
  pub sent-back-in : (p : Pauli) → InGroup n n (rows_of n r) p
      ↔ (sent_back n r p ≡ element_with n r (sent_back n r p))
  sent-back-in p = (
    (λ a. x-determines n r.graph S {p = sent_back n r p} (
      a.0,
      ap (act n back) (a.1 ∙ sym (act-product n n (graph_generator r.graph) r.codes a.0))
          ∙ act-inverse n r.codes _,
    ) ((sent_back n r p).x, refl)
        (λ q l. sym (element-x n r.graph S (sent_back n r p).x q l))),
    (λ e. (
      (sent_back n r p).x,
      sym (act-after-inverse n r.codes p) ∙ ap (act n r.codes) e
          ∙ act-product n n (graph_generator r.graph) r.codes (sent_back n r p).x,
    )),
  )

  -- and so is its negative
  pub sent-back-negated : (p : Pauli) → InGroup n n (rows_of n r) (negated p)
      ↔ (negated (sent_back n r p) ≡ element_with n r (sent_back n r p))
  sent-back-negated p = subst (λ s. InGroup n n (rows_of n r) (negated p) ↔ (s ≡ element_with n r s))
      (act-scaled n back i² p) (sent-back-in (negated p))
