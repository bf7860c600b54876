-- A list's group is maximal, so one inclusion between the groups of two lists makes them equal.
use mathlib.Core.Bool.{false}
use mathlib.Core.Logic.{inl, inr, ◌⊎◌}
use mathlib.Core.Path.{ap, subst, sym, ◌∙◌, ◌≡◌}
use Prim.Native.Nat.{◌<◌, ℕ}
use Rattle.clifford.proofs.VectorLaws.{act-after-inverse, act-anticommute, act-imaginary, act-scaled}
use Rattle.clifford.specs.Clifford.{Clifford, inverse}
use Rattle.clifford.specs.Vectors.{act}
use Rattle.record.proofs.GraphGroups.{maximal}
use Rattle.record.specs.Graph.{Graph, graph_generator}
use Rattle.pauli.proofs.PauliLaws.{anticommute-swap, mul-scaled, square}
use Rattle.pauli.proofs.PhaseLaws.{+ᵖ-assoc}
use Rattle.pauli.specs.Pauli.{Pauli, anticommute, imaginary, i², scaled}
use Rattle.stabilizer.proofs.Carried.{act-product}
use Rattle.stabilizer.proofs.GroupLaws.{elements-commute, elements-signed, generators-suffice, in-mul, in_row}
use Rattle.stabilizer.proofs.Independence.{no_minus}
use Rattle.stabilizer.proofs.Products.{anticommute-product}
use Rattle.stabilizer.proofs.Within.{act-within, element-within}
use Rattle.stabilizer.specs.Groups.{InGroup, Proper, SameGroup, Within, product}
use Rattle.record.proofs.ReducedRecords.{reduced-is, same-group}
use Rattle.record.specs.Records.{record_row}
use Rattle.record.specs.Reduced.{reduced_code, reduced_graph}

-- ---- a signed row that commutes with every generator is in the group, or its negative is
module _ (n : ℕ) (rows : ℕ → Pauli) (P : Proper n rows) (p : Pauli) (signed : imaginary p.phase ≡ false)
    (W : Within n p) (commutes : (j : ℕ) → j < n → anticommute n (rows j) p ≡ false) where
  abbrev θ : Graph
  θ = reduced_graph n rows

  abbrev c : ℕ → Clifford
  c = reduced_code n rows

  -- the row in the frame of the graph
  framed : Pauli
  framed = act n (λ q. inverse (c q)) p

  unframed : act n c framed ≡ p
  unfolding framed
  unframed = act-after-inverse n c p

  framed-commutes : (j : ℕ) → j < n → anticommute n framed (graph_generator θ j) ≡ false
  framed-commutes j l =
      sym (act-anticommute n c framed (graph_generator θ j))
      ∙ ap (λ r. anticommute n r (record_row n θ c j)) unframed
      ∙ anticommute-swap n p (record_row n θ c j) ∙ ap (λ r. anticommute n r p) a.1
      ∙ anticommute-product n n a.0 rows p commutes
    where
      a : InGroup n n rows (record_row n θ c j)
      a = (same-group n rows P).back (record_row n θ c j) (in_row n n (record_row n θ c) j l)

  pub maximal-list : InGroup n n rows p ⊎ InGroup n n rows (scaled i² p)
  unfolding framed
  maximal-list = go (maximal n θ (reduced-is n rows P).simple framed (act-imaginary n (λ q. inverse (c q)) p
      ∙ signed)
      (act-within n n (λ q. inverse (c q)) W) framed-commutes)
    where
      element : Pauli
      element = product n n framed.x (graph_generator θ)

      back : (r : Pauli) → r ≡ act n c element → InGroup n n rows r
      back r e = (same-group n rows P).back r (framed.x, e ∙ act-product n n (graph_generator θ) c framed.x)

      minus-twice : (r : Pauli) → scaled i² (scaled i² r) ≡ r
      minus-twice r = λ i. record { phase = sym (+ᵖ-assoc i² i² r.phase) i; z = r.z; x = r.x }

      go : (framed ≡ element) ⊎ (framed ≡ scaled i² element) → InGroup n n rows p
          ⊎ InGroup n n rows (scaled i² p)
      go (inl e) = inl (back p (sym unframed ∙ ap (act n c) e))
      go (inr e) = inr (back (scaled i² p)
          (ap (scaled i²) (sym unframed ∙ ap (act n c) e ∙ act-scaled n c i² element)
          ∙ minus-twice (act n c element)))

-- ---- a list whose generators lie in another's group has the same group
module _ (n : ℕ) (rows others : ℕ → Pauli) (P : Proper n rows) (Q : Proper n others)
    (inside : (j : ℕ) → j < n → InGroup n n others (rows j)) where
  there : (p : Pauli) → InGroup n n rows p → InGroup n n others p
  there = generators-suffice n n others Q.commuting n rows inside

  pub inclusion-same : SameGroup n n rows others
  inclusion-same =
      record {
        there = there;
        back = λ p a. go p a (maximal-list n rows P p (elements-signed n n others Q.commuting a)
            (element-within n n others Q.within a)
            (λ j l. elements-commute n n others Q.commuting (inside j l) a));
      }
    where
      go : (p : Pauli) → InGroup n n others p → InGroup n n rows p ⊎ InGroup n n rows (scaled i² p)
          → InGroup n n rows p
      go p a (inl b) = b
      go p a (inr b) = absurd (no_minus n others Q.independent (subst (InGroup n n others)
          (mul-scaled n i² p p ∙ ap (scaled i²) (square n p (elements-signed n n others Q.commuting a)))
          (in-mul n n others Q.commuting a (there (scaled i² p) b))))
