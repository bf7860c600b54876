-- Where neither 11 nor 12 holds, the image group is that of the image graph with its minus signs.
use mathlib.Core.Bool.{◌&&◌, Bool, false, false≢true, not, true}
use mathlib.Core.Path.{ap, refl, subst, sym, ◌∙◌, ◌≡◌}
use Prim.Native.Nat.{◌<◌, ℕ}
use Rattle.clifford.specs.Clifford.{image}
use Rattle.record.proofs.GraphGroups.{graph-within}
use Rattle.record.specs.Graph.{Simple, graph_generator}
use Rattle.pauli.proofs.PauliLaws.{mul-scaled, square}
use Rattle.pauli.specs.Pauli.{Pauli, i², letter_at, minus, scaled}
use Rattle.pauli.specs.declared.Letter.TheVariants.{X}
use Rattle.record.proofs.ReducedRecords.{record-proper}
use Rattle.record.specs.Records.{GraphRecord, rows_of}
use Rattle.stabilizer.proofs.Carried.{same_rows}
use Rattle.stabilizer.proofs.GroupLaws.{in-mul, in_row}
use Rattle.stabilizer.proofs.Independence.{no_minus}
use Rattle.stabilizer.proofs.MembershipLaws.{in-member, member-in}
use Rattle.stabilizer.specs.Groups.{InGroup, Proper, SameGroup, Within}
use Rattle.words.proofs.SearchLaws.{some-false, some-true}
use Rattle.words.specs.Bits.{Word}
use Rattle.words.specs.Search.{IsFirst, first, some}
use Rattle.image.proofs.Refused.{own-letter}
use Rattle.image.proofs.Signs.{keeps-letters, minus_at, signed-row, signs_only}
use Rattle.image.proofs.TrackedBits.{image-bits, image-same, image-simple}
use Rattle.image.proofs.Unsigned.{resigned, resigned-back, resigned-there}
use Rattle.image.specs.Image.{UnsignedGraph, image_graph, image_minus, image_record, is_y, looped, stuck}
use Rattle.image.specs.Rule.{follow, image_list, state_of}

module _ (n : ℕ) (r : GraphRecord) (G : Simple n r.graph) where
  abbrev end : GraphRecord
  end = image_record n r

  -- ---- what the two tests say
  pub not_stuck : stuck n r ≡ false → (v : ℕ) → v < n → (state_of end).C v ≡ false
  unfolding stuck
  not_stuck e v l = ap (λ S. S.C v) (image-bits n r G) ∙ some-false n _ e v l

  pub stuck_at : stuck n r ≡ true → (v : ℕ) × (v < n) × ((state_of end).C v ≡ true)
  unfolding stuck
  stuck_at e =
      let C = (follow (state_of r) (image_list n r)).C in
      let v = first n C in
      let F : IsFirst n C v = some-true n C e in
      (v, F.below, ap (λ S. S.C v) (image-bits n r G) ∙ F.passes)

  abbrev y_at : ℕ → Bool
  y_at j = is_y (letter_at (rows_of n end j) j)

  pub not-looped : stuck n r ≡ false → looped n r ≡ false → (j : ℕ) → j < n
      → is_y (image (end.codes j) X) ≡ false
  unfolding looped
  not-looped s e j l =
      ap is_y (sym (own-letter n end (image-simple n r G) j))
      ∙ some-false n y_at (ap (λ b. not b && some n y_at) (sym s) ∙ e) j l

  pub looped-at : looped n r ≡ true → (stuck n r ≡ false) × ((j : ℕ) × (j < n) × (y_at j ≡ true))
  unfolding looped
  looped-at e = go (stuck n r) refl
    where
      go : (b : Bool) → stuck n r ≡ b → (stuck n r ≡ false) × ((j : ℕ) × (j < n) × (y_at j ≡ true))
      go true s = absurd (false≢true (ap (λ b. not b && some n y_at) (sym s) ∙ e))
      go false s =
          let F = some-true n y_at (ap (λ b. not b && some n y_at) (sym s) ∙ e) in
          (s, (_, F.below, F.passes))

  -- ---- neither holds
  module _ (s : stuck n r ≡ false) (l : looped n r ≡ false) where
    abbrev sign : Word
    sign = minus_at n end.graph end.codes

    keeps : (q : ℕ) → q < n → end.codes q ≡ signs_only (end.codes q).sx (end.codes q).sz
    keeps q k = keeps-letters (end.codes q) (not_stuck s q k) (not-looped s l q k)

    by-formula : SameGroup n n (rows_of n r) (resigned n sign (graph_generator end.graph))
    by-formula =
        same_rows n n (rows_of n r) (rows_of n end) (resigned n sign (graph_generator end.graph))
        (signed-row n end.graph (image-simple n r G) end.codes keeps) (image-same n r G)

    signed-in : (j : ℕ) → j < n → InGroup n n (rows_of n r) (resigned n sign (graph_generator end.graph) j)
    signed-in j k = by-formula.back _ (in_row n n (resigned n sign (graph_generator end.graph)) j k)

    -- the signs by the codes: that of X at j, and those of Z at the neighbours
    pub image-minus : (j : ℕ) → j < n → image_minus n r j ≡ minus_at n (image_graph n r) end.codes j
    image-minus j k = go (sign j) refl (image_minus n r j) refl
      where
        K : Pauli
        K = graph_generator end.graph j

        P : Proper n (rows_of n r)
        P = record-proper n r G

        W : Within n (scaled i² K)
        W = let w = graph-within n end.graph (image-simple n r G) j k in
            record { no-x = w.no-x; no-z = w.no-z }

        -- plus and minus generator j are not both there
        not-two : InGroup n n (rows_of n r) K → InGroup n n (rows_of n r) (scaled i² K) → ⊥
        not-two a b =
            no_minus n (rows_of n r) P.independent (subst (InGroup n n (rows_of n r))
            (mul-scaled n i² K K
            ∙ ap (scaled i²) (square n K refl)) (in-mul n n (rows_of n r) P.commuting a b))

        go : (b : Bool) → sign j ≡ b → (m : Bool) → image_minus n r j ≡ m → image_minus n r j ≡ sign j
        go true e m h =
            in-member n (rows_of n r) (scaled i² K)
            (subst (λ b. InGroup n n (rows_of n r) (scaled (minus b) K)) e (signed-in j k))
            ∙ sym e
        go false e false h = h ∙ sym e
        go false e true h =
            absurd (not-two (subst (λ b. InGroup n n (rows_of n r) (scaled (minus b) K)) e (signed-in j k))
            (member-in n (rows_of n r) P.within (scaled i² K) W h))

    -- the image group with its signs
    pub image-group : SameGroup n n (rows_of n r)
        (λ j. scaled (minus (image_minus n r j)) (graph_generator (image_graph n r) j))
    image-group =
        same_rows n n (rows_of n r) (resigned n sign (graph_generator end.graph)) _
        (λ j k. ap (λ b. scaled (minus b) (graph_generator end.graph j)) (sym (image-minus j k))) by-formula

    -- signs dropped, it is that of a simple graph
    pub image-unsigned : UnsignedGraph n (rows_of n r)
    image-unsigned =
        record {
          graph = end.graph;
          simple = image-simple n r G;
          there = λ p a. resigned-there n sign (graph_generator end.graph) p (by-formula.there p a);
          back = λ p a. let u = resigned-back n sign (graph_generator end.graph) p a in
              (u.0, by-formula.back _ u.1);
        }
