-- Demand 2 of images, from the contract of the call and the laws of the image rule.
use mathlib.Core.Bool.{Bool, false, true, true≢false, ◌||◌}
use mathlib.Core.List.{List}
use mathlib.Core.Logic.{inl, inr, ◌⊎◌}
use mathlib.Core.Path.{ap, ap₂, fun_ext, refl, subst, sym, ◌∙◌, ◌≡◌}
use Prim.Native.Nat.{◌*◌, ◌/◌, ◌<◌, ℕ, ◌≤◌}
use lib.Dec.{eqb, lit<}
use lib.ListN.{drop, get_or, length, take}
use lib.Seq.{drop-append_seam, take-append_seam}
use Rattle.buffers.proofs.Lines.{fits, more-accepted, none-fits, passed}
use Rattle.buffers.proofs.Tabulate.{tabulate-at}
use Rattle.clifford.specs.Clifford.{identity_clifford}
use Rattle.buffers.specs.Buffers.{tabulate, written}
use Rattle.buffers.specs.Refusals.{first_fitting, other_than}
use Rattle.record.specs.Graph.{Simple}
use Rattle.image.proofs.Accepted.{image-group, image-unsigned}
use Rattle.image.proofs.Exactly.{refused-exactly}
use Rattle.image.proofs.TrackedBits.{image-length, image-simple}
use Rattle.record.specs.NeighbourWords.{graph_in}
use Rattle.image.specs.Image.{image_graph, image_minus, image_record, loop_lines, looped, stuck}
use Rattle.image.specs.Rule.{image_list}
use Rattle.pauli.specs.Pauli.{i⁰, minus, scaled}
use Rattle.record.proofs.AcceptedRecords.{accepted-record}
use Rattle.record.proofs.WrittenRecords.{record-back}
use Rattle.record.specs.Lent.{LentRecord, held_record, held_rows, neighbour_words, record_lines}
use Rattle.record.specs.Records.{GraphRecord}
use Rattle.stabilizer.proofs.Carried.{same_rows}
use Rattle.buffers.specs.Calls.{Call}
use Rattle.calls.proofs.ImageLeft.{count_left, image-left, list_left, signs-left}
use Rattle.calls.specs.Images.{image_call}
use Rattle.words.proofs.BitLaws.{digit_lt, odd-digit}
use Rattle.words.specs.Bits.{digit}
use Rattle.claims.proofs.ThirdDemandHolds.{graph-each, half}
use Rattle.claims.specs.ImageDemand.{ImageDecided, ImageStands, ImagesFollow, signed_generators}
use Rattle.claims.specs.ThirdDemand.{complement_each}

module _ (l : LentRecord) (image signs list : List ℕ) (count r : ℕ) (image' signs' list' : List ℕ)
    (count' : ℕ)
    (C : Call (image_call l image signs list count image' signs' list' count') r)
    (e : first_fitting
    (record_lines l (other_than l.n image || (other_than l.n signs || other_than 96 list)) false) ≡ 0) where
  abbrev m : ℕ
  m = l.n

  abbrev held : GraphRecord
  held = held_record l

  simple-held : Simple m held.graph
  simple-held = (accepted-record l _ false e).simple

  -- 11 and 12 decide
  loop-number : r ≡ first_fitting (loop_lines m held)
  loop-number =
      C.number ∙ more-accepted
      (record_lines l (other_than m image || (other_than m signs || other_than 96 list)) false) (loop_lines m held)
      (lit< tt, (lit< tt, (lit< tt, (lit< tt, (lit< tt, tt))))) e

  -- ---- neither holds
  module _ (s : stuck m held ≡ false) (k : looped m held ≡ false) where
    zero_number : r ≡ 0
    zero_number = loop-number ∙ passed 11 _ s ∙ passed 12 _ k ∙ none-fits

    the-graph : image' ≡ neighbour_words m (image_record m held)
    the-graph = image-left l image signs list count image' signs' list' count' r C zero_number

    the-signs : signs' ≡ tabulate m (λ j. digit (image_minus m held j))
    the-signs = signs-left l image signs list count image' signs' list' count' r C zero_number

    the-list : list' ≡ written (image_list m held) list
    the-list = list_left l image signs list count image' signs' list' count' r C zero_number

    the-count : count' ≡ length (image_list m held)
    the-count = count_left l image signs list count image' signs' list' count' r C zero_number

    -- the words give the image graph back
    same_graph : (i q : ℕ) → image_graph m held i q ≡ graph_in image' i q
    same_graph i q =
        sym (ap (λ w. graph_in w i q) the-graph ∙ (record-back m
        (record { graph = image_graph m held; codes = λ q. identity_clifford }) (image-simple m held simple-held)
        (λ q k. refl)).neighbours i q)

    neighbours-back : (i : ℕ) → image_graph m held i ≡ graph_in image' i
    neighbours-back i = fun_ext (same_graph i)

    signs-back : (i : ℕ) → i < m → image_minus m held i ≡ eqb (get_or signs' i 0) 1
    signs-back i h =
        sym (ap (λ v. eqb (get_or v i 0) 1) the-signs ∙ ap (λ v. eqb v 1) (tabulate-at m _ i h)
        ∙ odd-digit (image_minus m held i))

    the_places : take count' list' ≡ image_list m held
    the_places = ap₂ take the-count the-list ∙ take-append_seam (image_list m held) _

    stands : ImageStands l list image' signs' list' count'
    stands =
        record {
          simple = subst (Simple m) (fun_ext neighbours-back) (image-simple m held simple-held);
          group = same_rows m m (held_rows l) _ (signed_generators image' signs')
              (λ i h. ap₂ (λ b θ. scaled (minus b) (record { phase = i⁰; z = θ; x = λ q. eqb q i }))
              (signs-back i h)
              (neighbours-back i))
              (image-group m held simple-held s k);
          bits = λ i h. subst (λ v. v < 2) (sym (ap (λ v. get_or v i 0) the-signs ∙ tabulate-at m _ i h))
              (digit_lt (image_minus m held i));
          vertices = the_places;
          past = ap₂ drop the-count the-list ∙ drop-append_seam (image_list m held) _
              ∙ ap (λ k. drop k list) (sym the-count);
          leads = λ i j. ap (λ vs. complement_each held.graph vs i j) the_places
              ∙ graph-each held (image_list m held) i j ∙ same_graph i j;
          amount = the-count;
          few = subst (λ v. v ≤ 3 * m / 2) (sym the-count)
              (half (length (image_list m held)) (3 * m) (image-length m held simple-held));
        }

  decided : (a b : Bool) → stuck m held ≡ a → looped m held ≡ b → ImageDecided l list r image' signs' list' count'
  decided true b s k =
      let eleven = loop-number ∙ fits 11 _ s in
      record {
        exactly = (λ x. (refused-exactly m held simple-held).0 (inl s), λ x. inl eleven);
        otherwise = λ h h₂. absurd (h eleven);
      }
  decided false true s k =
      let twelve = loop-number ∙ passed 11 _ s ∙ fits 12 _ k in
      record {
        exactly = (λ x. (refused-exactly m held simple-held).0 (inr k), λ x. inr twelve);
        otherwise = λ h h₂. absurd (h₂ twelve);
      }
  decided false false s k =
      record {
        exactly = (λ x. absurd (never x), λ u. absurd (u (image-unsigned m held simple-held s k)));
        otherwise = λ h h₂. (zero_number s k, stands s k);
      }
    where
      never : (r ≡ 11) ⊎ (r ≡ 12) → ⊥
      never (inl p) = true≢false (ap (λ v. eqb v 11) (sym p ∙ zero_number s k))
      never (inr p) = true≢false (ap (λ v. eqb v 12) (sym p ∙ zero_number s k))

pub images-follow : ImagesFollow
images-follow l image signs list count r image' signs' list' count' C e =
    decided l image signs list count r image' signs' list' count' C e _ _ refl refl
