-- "One of lines 11 and 12 holds exactly when the image group, signs dropped, is that of no simple graph";
-- and where it is that of a simple graph, the image rule ends with this graph.
use mathlib.Core.Bool.{◌&&◌, Bool, false, not, true, true≢false}
use mathlib.Core.Logic.{inl, inr, ◌↔◌, ◌⊎◌}
use mathlib.Core.Path.{ap, refl, sym, ◌∙◌, ◌≡◌}
use Prim.Native.Nat.{◌<◌, ℕ, ◌≤◌}
use Rattle.record.proofs.GraphGroups.{x-determines}
use Rattle.record.specs.Graph.{Graph, Simple, graph_generator}
use Rattle.pauli.specs.Pauli.{letter_at, minus, scaled}
use Rattle.record.specs.Records.{GraphRecord, rows_of}
use Rattle.stabilizer.proofs.GroupLaws.{in_row}
use Rattle.stabilizer.specs.Groups.{InGroup, SameGroup}
use Rattle.words.proofs.Sums.{lt-or-ge}
use Rattle.words.specs.Bits.{Word}
use Rattle.words.specs.Search.{some}
use Rattle.image.proofs.Accepted.{image-group, image-unsigned, looped-at, not_stuck, stuck_at}
use Rattle.image.proofs.Refused.{looped-no-graph, stuck-no-graph}
use Rattle.image.proofs.TrackedBits.{image-same, image-simple, image-stopped}
use Rattle.image.specs.Image.{
  InUnsigned,
  UnsignedGraph,
  image_graph,
  image_minus,
  image_record,
  is_y,
  looped,
  stuck,
}

module _ (n : ℕ) (r : GraphRecord) (G : Simple n r.graph) where
  abbrev end : GraphRecord
  end = image_record n r

  -- the group at the end is the given one
  end-unsigned : UnsignedGraph n (rows_of n r) → UnsignedGraph n (rows_of n end)
  end-unsigned U =
      record {
        graph = U.graph;
        simple = U.simple;
        there = λ p a. U.there p ((image-same n r G).back p a);
        back = λ p a. let u = U.back p a in (u.0, (image-same n r G).there _ u.1);
      }

  pub graph-not-stuck : UnsignedGraph n (rows_of n r) → stuck n r ≡ false
  graph-not-stuck U = go (stuck n r) refl
    where
      go : (b : Bool) → stuck n r ≡ b → stuck n r ≡ false
      go false e = e
      go true e =
          let at = stuck_at n r G e in
          absurd (stuck-no-graph n end (image-simple n r G) (image-stopped n r G) at.0 at.1 at.2
          (end-unsigned U))

  pub graph-not-looped : UnsignedGraph n (rows_of n r) → looped n r ≡ false
  graph-not-looped U = go (looped n r) refl
    where
      go : (b : Bool) → looped n r ≡ b → looped n r ≡ false
      go false e = e
      go true e =
          let at = looped-at n r G e in
          absurd (looped-no-graph n end (image-simple n r G) (not_stuck n r G at.0) at.1.0 at.1.1
          at.1.2
          (end-unsigned U))

  pub refused-exactly : ((stuck n r ≡ true) ⊎ (looped n r ≡ true)) ↔ (UnsignedGraph n (rows_of n r) → ⊥)
  refused-exactly = (there, back (stuck n r) (looped n r) refl refl)
    where
      there : (stuck n r ≡ true) ⊎ (looped n r ≡ true) → UnsignedGraph n (rows_of n r) → ⊥
      there (inl e) U = true≢false (sym e ∙ graph-not-stuck U)
      there (inr e) U = true≢false (sym e ∙ graph-not-looped U)

      back : (a b : Bool) → stuck n r ≡ a → looped n r ≡ b → (UnsignedGraph n (rows_of n r) → ⊥) →
          (stuck n r ≡ true) ⊎ (looped n r ≡ true)
      back true b e f never = inl e
      back false true e f never = inr f
      back false false e f never = absurd (never (image-unsigned n r G e f))

  -- never both
  pub not-both : stuck n r ≡ true → looped n r ≡ false
  unfolding looped
  not-both e = ap (λ b. not b && some n (λ j. is_y (letter_at (rows_of n end j) j))) e

  -- ---- "the list must lead to the graph"
  module _ (U : UnsignedGraph n (rows_of n r)) where
    leads-below : (j : ℕ) → j < n → (q : ℕ) → image_graph n r j q ≡ U.graph j q
    leads-below j l q = ap (λ p. p.z q) match
      where
        s : Word
        s = image_minus n r

        first-in : InGroup n n (rows_of n r) (scaled (minus (s j)) (graph_generator end.graph j))
        first-in =
            (image-group n r G (graph-not-stuck U) (graph-not-looped U)).back _
            (in_row n n (λ j. scaled (minus (image_minus n r j)) (graph_generator end.graph j)) j l)

        inside : InUnsigned n (graph_generator U.graph)
            (scaled (minus (s j)) (graph_generator end.graph j))
        inside = U.there _ first-in

        match : scaled (minus inside.0)
            (scaled (minus (s j)) (graph_generator end.graph j)) ≡ graph_generator U.graph j
        match = x-determines n U.graph U.simple inside.1 (in_row n n (graph_generator U.graph) j l)
            (λ q k. refl)

    pub image-leads : (j q : ℕ) → image_graph n r j q ≡ U.graph j q
    image-leads j q = go (lt-or-ge j n)
      where
        go : (j < n) ⊎ (n ≤ j) → image_graph n r j q ≡ U.graph j q
        go (inl l) = leads-below j l q
        go (inr l) =
            (image-simple n r G).symmetric j q ∙ (image-simple n r G).below q j l
            ∙ sym (U.simple.symmetric j q ∙ U.simple.below q j l)

  -- a list whose group is exactly a graph's: the case of a comparison
  pub same-leads : (θ : Graph) → Simple n θ → SameGroup n n (rows_of n r) (graph_generator θ) → (j q : ℕ) →
      image_graph n r j q ≡ θ j q
  same-leads θ S E = image-leads
      (record {
        graph = θ;
        simple = S;
        there = λ p a. (false, E.there p a);
        back =
            λ p a. (false, E.back p a);
      })
