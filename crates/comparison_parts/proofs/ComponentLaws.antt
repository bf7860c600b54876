-- One part compared: what the search on the part's record says of the whole records.
use mathlib.Core.Bool.{◌&&◌, Bool, false, false≢true, or-true, true, true≢false, ◌||◌}
use mathlib.Core.List.{List}
use mathlib.Core.Logic.{inl, inr, ◌⊎◌}
use mathlib.Core.Path.{ap, refl, subst, sym, ◌∙◌, ◌≡◌}
use Prim.Native.Nat.{◌<◌, ◌≤◌, ℕ}
use native.Mathlib.Nat.{lt_of_lt_of_le}
use lib.ListN.{get_or, length}
use borrow.Author.Tests.{not-false, not-true}
use Rattle.clifford.specs.Clifford.{clifford_of}
use Rattle.clifford.specs.Vectors.{codes_of}
use Rattle.comparison.proofs.Least.{least-agree, least-is, none-carries}
use Rattle.comparison.proofs.NumberOrder.{choice-lt}
use Rattle.comparison.proofs.LeastAtVertices.{part-least-at}
use Rattle.comparison.specs.Choices.{LeastChoice, least_code, least_number, no_choice}
use Rattle.comparison.specs.internal.LeastAt.{LeastAt}
use Rattle.comparison.specs.internal.Setting.{Codes}
use Rattle.record.specs.NeighbourWords.{graph_in}
use Rattle.comparison.proofs.Along.{numbered-or-not}
use Rattle.comparison.proofs.PartLaws.{both, closed-ext, part-closed, part-together}
use Rattle.comparison.proofs.PlacedGroups.{part-carried}
use Rattle.comparison.proofs.PlacedRows.{part-simple}
use Rattle.comparison.proofs.SameParts.{carried-closed}
use Rattle.comparison.specs.internal.Numbered.{Numbers}
use Rattle.comparison.specs.internal.Parts.{Closed}
use Rattle.comparison.specs.Parts.{part_of}
use Rattle.comparison_parts.specs.internal.Spreads.{spread_to}
use Rattle.pauli.specs.Pauli.{Pauli}
use Rattle.record.proofs.ReducedRecords.{record-proper}
use Rattle.record.specs.Records.{GraphRecord, rows_of}
use Rattle.stabilizer.specs.Groups.{Proper}
use Rattle.words.proofs.BitLaws.{bit-above, bit-ext∞}
use Rattle.words.proofs.Flags.{both_true, either, same-by-both}
use Rattle.words.proofs.SearchLaws.{some_in, some-true}
use Rattle.words.proofs.Sums.{lt-or-ge}
use Rattle.words.specs.Bits.{bit}
use Rattle.words.specs.Search.{first, some}
use Rattle.comparison_parts.specs.internal.Components.{
  Component,
  ComponentAnswer,
  NumberedPair,
  PartAnswer,
  SoundPair,
  record_held,
  part_of_record,
}

module _ (n : ℕ) (nb cs nb₂ cs₂ : List ℕ) (component : ℕ) (P : SoundPair n nb cs nb₂ cs₂) (I : Component n nb component)
  where
    abbrev r : GraphRecord
    r = record_held n nb cs

    abbrev t : GraphRecord
    t = record_held n nb₂ cs₂

    pub component-closed : Closed n (graph_in nb) (bit component)
    component-closed =
        closed-ext n (graph_in nb) (part_of n (graph_in nb) I.vertex) (bit component) (λ q l. sym (I.word.marks q l))
        (part-closed n (graph_in nb) I.vertex I.below)

    component-below : (q : ℕ) → bit component q ≡ true → q < n
    component-below q a = go (lt-or-ge q n)
      where
        go : (q < n) ⊎ (n ≤ q) → q < n
        go (inl l) = l
        go (inr l) = absurd (true≢false (sym a ∙ bit-above n component I.word.below q l))

    -- ---- the test of the second graph
    module _ (x : ℕ) (h : (j : ℕ) → bit x j ≡ spread_to (length nb₂) (graph_in nb₂) (bit component) j) where
      spreads : (j : ℕ) → bit x j ≡ spread_to n (graph_in nb₂) (bit component) j
      spreads j = h j ∙ ap (λ m. spread_to m (graph_in nb₂) (bit component) j) P.second.neighbours-long

      pub kept-closed : x ≡ component → Closed n (graph_in nb₂) (bit component)
      kept-closed e i j k l a b =
          ap (λ w. bit w j) (sym e) ∙ spreads j
          ∙ ap (λ v. bit component j || v) (some_in n (λ i. bit component i && graph_in nb₂ i j) i k (both a b))
          ∙ or-true (bit component j)

      closed-kept : Closed n (graph_in nb₂) (bit component) → x ≡ component
      closed-kept C = bit-ext∞ x component (λ j. spreads j
          ∙ same-by-both _ _ (λ e. go j (either (bit component j) (some n (λ i. bit component i && graph_in nb₂ i j)) e))
          (λ e. ap (λ b. b || some n (λ i. bit component i && graph_in nb₂ i j)) e))
        where
          inside : (i j : ℕ) → i < n → bit component i ≡ true → graph_in nb₂ i j ≡ true → (j < n) ⊎ (n ≤ j)
              → bit component j ≡ true
          inside i j k a b (inl l) = C i j k l a b
          inside i j k a b (inr l) = absurd (true≢false (sym b ∙ P.second.simple.below i j l))

          go : (j : ℕ) → (bit component j ≡ true) ⊎ (some n (λ i. bit component i && graph_in nb₂ i j) ≡ true)
              → bit component j ≡ true
          go j (inl a) = a
          go j (inr a) =
              let F = some-true n (λ i. bit component i && graph_in nb₂ i j) a in
              let b = both_true (bit component (first n (λ i. bit component i && graph_in nb₂ i j)))
              (graph_in nb₂ (first n (λ i. bit component i && graph_in nb₂ i j)) j) F.passes in
              inside _ j F.below b.0 b.1 (lt-or-ge j n)

      pub leaves-refused : (x ≡ component → ⊥) → (choice : List ℕ) → ComponentAnswer n r t component choice false choice
      leaves-refused d choice =
          record {
            none = λ e c K. d (closed-kept
                (carried-closed n r t P.first.simple P.second.simple c K (bit component) component-closed));
            least_at = λ e. absurd (false≢true e);
            kept = λ q a. refl;
            codes = λ C. C;
          }

    -- ---- the vertices listed
    module _ (k : ℕ) (at : List ℕ) (few : k ≤ 64) (M : Numbers 64 (bit component) k (λ i. get_or at i 0))
        (D : Closed n (graph_in nb₂) (bit component)) where
      numbers : Numbers n (bit component) k (λ i. get_or at i 0)
      numbers =
          record {
            rising = M.rising;
            below = λ i l. component-below (get_or at i 0) (M.inside i l);
            inside = M.inside;
            onto = λ q l a. M.onto q (lt_of_lt_of_le l P.upto) a;
          }

      abbrev e : ℕ → ℕ
      e i = get_or at i 0

      proper : Proper k (rows_of k (part_of_record k at r))
      proper = record-proper k (part_of_record k at r)
          (part-simple n (bit component) k e numbers (graph_in nb) P.first.simple component-closed)

      proper₂ : Proper k (rows_of k (part_of_record k at t))
      proper₂ = record-proper k (part_of_record k at t)
          (part-simple n (bit component) k e numbers (graph_in nb₂) P.second.simple D)

      together : (i j : ℕ) → i < k → j < k → part_of n (graph_in nb) (e i) (e j) ≡ true
      together i j l m =
          part-together n (graph_in nb) P.first.simple.symmetric I.vertex (e i) (e j) I.below
          (numbers.below i l) (numbers.below j m) (sym (I.word.marks (e i) (numbers.below i l)) ∙ M.inside i l)
          (sym (I.word.marks (e j) (numbers.below j m)) ∙ M.inside j m)

      pub numbered-pair : NumberedPair n nb cs nb₂ cs₂ component k at
      numbered-pair =
          record { pair = P; few = few; numbers = numbers; closed = component-closed; closed₂ = D; together = together }

      module _ (found : Bool) (chosen : List ℕ) (A : PartAnswer n nb cs nb₂ cs₂ k at found chosen) where
        pub part-refused : found ≡ false → (choice : List ℕ) → ComponentAnswer n r t component choice false choice
        part-refused f choice =
            record {
              none = λ _ d K. (none-carries k (rows_of k (part_of_record k at r)) (rows_of k (part_of_record k at t))
                  proper.within proper₂.within).0
                  (not-false (no_choice k (rows_of k (part_of_record k at r)) (rows_of k (part_of_record k at t)))
                  (sym A.whether ∙ f)) (λ i. d (e i))
                  (part-carried n (bit component) k e numbers r t P.first.simple P.second.simple component-closed
                  D d K);
              least_at = λ e. absurd (false≢true e);
              kept = λ q a. refl;
              codes = λ C. C;
            }

        module _ (f : found ≡ true) (old new : List ℕ)
            (written : (i : ℕ) → i < k → get_or new (get_or at i 0) 0 ≡ get_or chosen i 0)
            (same : (q : ℕ) → ((i : ℕ) → i < k → get_or at i 0 ≡ q → ⊥) → get_or new q 0 ≡ get_or old q 0) where
          abbrev R : ℕ → Pauli
          R = rows_of k (part_of_record k at r)

          abbrev S : ℕ → Pauli
          S = rows_of k (part_of_record k at t)

          code_at : (i : ℕ) → i < k → get_or new (e i) 0 ≡ least_code k R S i
          code_at i l = written i l ∙ A.which f i l

          least : LeastChoice k R S (λ i. codes_of new (e i))
          least = least-agree k R S proper.within proper₂.within (λ i. clifford_of (least_code k R S i))
              (λ i. codes_of new (e i)) (λ i l. ap clifford_of (sym (code_at i l)))
              (least-is k R S proper.within proper₂.within (not-true (no_choice k R S) (sym A.whether ∙ f)))

          pub part-accepted : ComponentAnswer n r t component old true new
          part-accepted =
              record {
                none = λ g. absurd (true≢false g);
                least_at = λ _ q l a. let w = numbers.onto q l a in
                    subst (LeastAt n r t (codes_of new)) w.2
                    (part-least-at n r t P.first.simple P.second.simple (bit component) k e numbers
                    component-closed D
                    together (codes_of new) least w.0 w.1);
                kept = λ q a. same q (λ i l g. true≢false (sym (M.inside i l) ∙ ap (bit component) g ∙ a));
                codes = λ C q. code C q (numbered-or-not k e q);
              }
            where
              code : Codes old → (q : ℕ)
                  → ((i : ℕ) × (i < k) × (get_or at i 0 ≡ q)) ⊎ ((i : ℕ) → i < k → get_or at i 0 ≡ q → ⊥)
                  → get_or new q 0 < 24
              code C q (inl w) =
                  subst (λ u. get_or new u 0 < 24) w.2
                  (subst (λ v. v < 24) (sym (code_at w.0 w.1)) (choice-lt k (least_number k R S) w.0))
              code C q (inr u) = subst (λ v. v < 24) (sym (same q u)) (C q)
