-- Buffers that hold reduced records: what the comparison of two of them answers for the lists.
use mathlib.Core.Bool.{◌&&◌, Bool, false, true, true≢false, ◌||◌}
use mathlib.Core.List.{◌++◌, List}
use mathlib.Core.Logic.{inl, inr, ◌⊎◌}
use mathlib.Core.Path.{ap, ap₂, refl, subst, sym, ◌∙◌, ◌≡◌}
use Prim.Native.Nat.{◌<◌, ℕ, ◌≤◌}
use lib.Dec.{lit<}
use lib.ListN.{get_or-eq_default, get_or, length, take}
use borrow.Author.Tests.{not-false, not-true}
use Rattle.buffers.proofs.CopiedItems.{first-copied}
use Rattle.buffers.proofs.Lines.{fits, none-fits, passed}
use Rattle.buffers.proofs.Tabulate.{tabulate-at, tabulate-cong, tabulate-length}
use Rattle.buffers.specs.Buffers.{tabulate, written}
use Rattle.buffers.specs.Refusals.{Refusal, first_fitting}
use Rattle.clifford.proofs.CliffordLaws.{clifford_of-code_of}
use Rattle.clifford.specs.Clifford.{clifford_of, inverse, then}
use Rattle.clifford.specs.Vectors.{codes_of}
use Rattle.comparison.proofs.ComparedRecords.{same_answer}
use Rattle.comparison.proofs.LeastCodes.{least-held}
use Rattle.comparison.proofs.NumberOrder.{choice-lt}
use Rattle.comparison.specs.Choices.{choice, least_code, least_number, no_choice}
use Rattle.comparison.specs.Compared.{induced}
use Rattle.comparison.specs.internal.Compared.{induced_code}
use Rattle.comparison.specs.internal.Searches.{LeastAnswer}
use Rattle.comparison.specs.internal.Setting.{Codes, held_generators}
use Rattle.comparison_parts.specs.internal.Components.{SoundPair}
use Rattle.record.specs.NeighbourWords.{graph_in}
use Rattle.image_impl.specs.internal.Answer.{IsImageList}
use Rattle.image.specs.Rule.{image_list}
use Rattle.comparison.specs.Parts.{part_above}
use Rattle.pauli.specs.Pauli.{Pauli}
use Rattle.record.proofs.AcceptedRecords.{accepted-record}
use Rattle.record.proofs.Unique.{record-path}
use Rattle.record.proofs.WrittenRecords.{reduced-back, reduced-held-same, reduced-passes, written_record}
use Rattle.record.specs.Accepted.{AcceptedRecord}
use Rattle.record.specs.Lent.{held_record, held_rows, LentRecord, lent_record, record_lines}
use Rattle.record.specs.Reduced.{reduced, reduced_graph}
use Rattle.stabilizer.proofs.GroupLaws.{same-sym}
use Rattle.stabilizer.proofs.ReadBack.{table-past}
use Rattle.stabilizer.specs.Groups.{SameGroup}
use Rattle.words.proofs.Sums.{lt-or-ge}
use Rattle.words.specs.Search.{first, some}
use Rattle.comparison.specs.internal.ComparedPairs.{HoldsReduced, PairAnswered, limit_lines}
use Rattle.comparison.specs.ComparedPairs.{induced_record}

module _ (n : ℕ) (R : ℕ → Pauli) (nb cs : List ℕ) (H : HoldsReduced n R nb cs) where
  abbrev lent : LentRecord
  lent = lent_record n nb cs

  holds-written : lent ≡ written_record n (reduced n R)
  holds-written = λ i. lent_record n (H.words i) (H.numbers i)

  pub held_same : SameGroup n n (held_rows lent) R
  held_same =
      same-sym (subst (λ r. SameGroup n n R (held_rows r)) (sym holds-written)
      (reduced-held-same n R H.proper))

  pub held-is : held_record lent ≡ reduced n R
  held-is = ap held_record holds-written ∙ record-path _ _ (reduced-back n R H.proper)

  pub reduced-accepted : 1 ≤ n → n ≤ 64 → AcceptedRecord lent
  reduced-accepted positive upto =
      accepted-record lent false false
      (ap (λ r. first_fitting (record_lines r false false)) holds-written
      ∙ reduced-passes n R H.proper positive upto)

-- code 0 everywhere induces code 0
identity-induced : clifford_of 0 ≡ then (then (clifford_of 0) (clifford_of 0)) (inverse (clifford_of 0))
unfolding inverse first some
identity-induced = refl

-- a choice written into a buffer of n places
pub choice-written : (n : ℕ) (array old choice : List ℕ) → length old ≡ n → n ≤ length array
    → choice ≡ take (length old) array → choice ≡ tabulate n (λ q. get_or array q 0)
choice-written n array old choice long few e =
    first-copied n array choice (e ∙ ap (λ m. take m array) long) few

pub choice-long : (n : ℕ) (array choice : List ℕ) → choice ≡ tabulate n (λ q. get_or array q 0)
    → length choice ≡ n
choice-long n array choice e = ap length e ∙ tabulate-length n (λ q. get_or array q 0)

-- ---- line 3
-- the graphs in the buffers are the reduced ones
large-held : (n : ℕ) (R S : ℕ → Pauli) (nb cs nb₂ cs₂ : List ℕ) → HoldsReduced n R nb cs → HoldsReduced n S nb₂ cs₂
    → (part_above 20 n (graph_in nb) || part_above 20 n (graph_in nb₂))
    ≡ (part_above 20 n (reduced_graph n R) || part_above 20 n (reduced_graph n S))
large-held n R S nb cs nb₂ cs₂ H K =
    ap₂ (λ u v. part_above 20 n u.graph || part_above 20 n v.graph) (held-is n R nb cs H) (held-is n S nb₂ cs₂ K)

-- it holds where there is a limit and a part is too large
limit-fits : (limited large : Bool) (lines : List Refusal) → (limited && large) ≡ true
    → first_fitting (limit_lines limited large ++ lines) ≡ 3
limit-fits true large lines e = fits 3 _ e
limit-fits false large lines e = absurd (true≢false (sym e))

limit-passed : (limited large : Bool) (lines : List Refusal) → (limited && large) ≡ false
    → first_fitting (limit_lines limited large ++ lines) ≡ first_fitting lines
limit-passed true large lines e = passed 3 _ e
limit-passed false large lines e = refl

pub pair-large : (limited : Bool) (n : ℕ) (nb cs nb₂ cs₂ : List ℕ)
    → (limited && (part_above 20 n (graph_in nb) || part_above 20 n (graph_in nb₂))) ≡ true → (R S : ℕ → Pauli)
    → HoldsReduced n R nb cs → HoldsReduced n S nb₂ cs₂ → (choice list : List ℕ) (count : ℕ)
    → PairAnswered limited n R S choice list count 3 choice list count
pair-large limited n nb cs nb₂ cs₂ e R S H K choice list count =
    record {
      number = sym (limit-fits limited _ _ (ap (λ b. limited && b) (sym (large-held n R S nb cs nb₂ cs₂ H K)) ∙ e));
      codes = refl;
      vertices = refl;
      amount = refl;
    }

pub limit-off : (limited b : Bool) → limited ≡ false → false ≡ (limited && b)
limit-off limited b e = sym (ap (λ v. v && b) e)

pub limit-on : (limited a b x y : Bool) → limited ≡ true → a ≡ x → b ≡ y → (a || b) ≡ (limited && (x || y))
limit-on limited a b x y e ea eb = ap₂ ◌||◌ ea eb ∙ sym (ap (λ v. v && (x || y)) e)

-- the test of the code, on buffers of n places
pub large-tests : (limited : Bool) (n : ℕ) (nb nb₂ : List ℕ) (a v : Bool) → length nb ≡ n → length nb₂ ≡ n
    → a ≡ (limited && (part_above 20 (length nb) (graph_in nb) || part_above 20 (length nb₂) (graph_in nb₂))) → a ≡ v
    → (limited && (part_above 20 n (graph_in nb) || part_above 20 n (graph_in nb₂))) ≡ v
large-tests limited n nb nb₂ a v l m ea e =
    sym (ea ∙ ap₂ (λ j k. limited && (part_above 20 j (graph_in nb) || part_above 20 k (graph_in nb₂))) l m) ∙ e

-- what the search takes
pub accepted-pair : (n : ℕ) (nb cs nb₂ cs₂ : List ℕ) → AcceptedRecord (lent_record n nb cs)
    → AcceptedRecord (lent_record n nb₂ cs₂) → SoundPair n nb cs nb₂ cs₂
accepted-pair n nb cs nb₂ cs₂ A B =
    record {
      upto = A.upto;
      first = record {
        neighbours-long = A.neighbours-length;
        codes-long = A.codes-length;
        simple = A.simple;
        codes-sound = A.codes-below;
      };
      second = record {
        neighbours-long = B.neighbours-length;
        codes-long = B.codes-length;
        simple = B.simple;
        codes-sound = B.codes-below;
      };
    }

-- ---- the code's answer
module _ (limited : Bool) (n : ℕ) (nb cs nb₂ cs₂ : List ℕ)
    (A : AcceptedRecord (lent_record n nb cs))
    (B : AcceptedRecord (lent_record n nb₂ cs₂))
    (small : (limited && (part_above 20 n (graph_in nb) || part_above 20 n (graph_in nb₂))) ≡ false) (found : Bool)
    (array : List ℕ)
    (L : LeastAnswer n (held_generators n nb cs) (held_generators n nb₂ cs₂) found array) where
  -- the codes of a choice found
  pub chosen-codes : found ≡ true → (choice : List ℕ) → choice ≡ tabulate n (λ q. get_or array q 0)
      → Codes choice
  chosen-codes t choice e q = subst (λ v. get_or v q 0 < 24) (sym e) (go (lt-or-ge q n))
    where
      go : (q < n) ⊎ (n ≤ q) → get_or (tabulate n (λ q. get_or array q 0)) q 0 < 24
      go (inl l) =
          subst (λ v. v < 24) (sym (tabulate-at n (λ q. get_or array q 0) q l ∙ L.which t q l))
          (choice-lt n (least_number n (held_generators n nb cs) (held_generators n nb₂ cs₂)) q)
      go (inr l) = subst (λ v. v < 24) (sym (table-past n (λ q. get_or array q 0) q l)) (lit< tt)

  module _ (R S : ℕ → Pauli) (H : HoldsReduced n R nb cs) (K : HoldsReduced n S nb₂ cs₂) where
    lists-answer : LeastAnswer n R S found array
    lists-answer =
        same_answer n (held_generators n nb cs) R (held_generators n nb₂ cs₂) S A.proper H.proper
        B.proper
        K.proper (held_same n R nb cs H) (held_same n S nb₂ cs₂ K) found array L

    no-large : (limited && (part_above 20 n (reduced_graph n R) || part_above 20 n (reduced_graph n S))) ≡ false
    no-large = ap (λ b. limited && b) (sym (large-held n R S nb cs nb₂ cs₂ H K)) ∙ small

    -- none found
    pub pair-refused : (choice list : List ℕ) (count : ℕ) → found ≡ false →
        PairAnswered limited n R S choice list count 13 choice list count
    pair-refused choice list count f =
        record {
          number = sym (limit-passed limited _ _ no-large ∙ fits 13 _
              (not-false (no_choice n R S) (sym lists-answer.whether ∙ f)));
          codes = refl;
          vertices = refl;
          amount = refl;
        }

    -- one found
    module _ (t : found ≡ true) (choice' : List ℕ) (e : choice' ≡ tabulate n (λ q. get_or array q 0)) where
      least-written : choice' ≡ tabulate n (least_code n R S)
      least-written = e ∙ tabulate-cong n _ _ (λ q l. lists-answer.which t q l)

      choice-at : (q : ℕ) → codes_of choice' q ≡ clifford_of (least_code n R S q)
      choice-at = least-held n R S choice' least-written

      abbrev induced_lent : LentRecord
      induced_lent = lent_record n nb (tabulate n (induced_code cs choice' cs₂))

      -- the codes that the code induces are those of the definition
      induced-at : (q : ℕ) → induced n R S (λ q. clifford_of (least_code n R S q)) q
          ≡ then (then (codes_of cs q) (codes_of choice' q)) (inverse (codes_of cs₂ q))
      induced-at q =
          ap₂ (λ u v. then u (inverse v))
          (ap₂ then (sym (ap (λ r. r.codes q) (held-is n R nb cs H))) (sym (choice-at q)))
          (sym (ap (λ r. r.codes q) (held-is n S nb₂ cs₂ K)))

      codes_at : (q : ℕ) → (held_record induced_lent).codes q
          ≡ induced n R S (λ q. clifford_of (least_code n R S q)) q
      codes_at q = go (lt-or-ge q n) ∙ sym (induced-at q)
        where
          past : (buffer : List ℕ) → length buffer ≡ n → n ≤ q → codes_of buffer q ≡ clifford_of 0
          past buffer l k = ap clifford_of (get_or-eq_default buffer 0 (subst (λ m. m ≤ q) (sym l) k))

          go : (q < n) ⊎ (n ≤ q) → (held_record induced_lent).codes q
              ≡ then (then (codes_of cs q) (codes_of choice' q)) (inverse (codes_of cs₂ q))
          go (inl l) =
              ap clifford_of (tabulate-at n (induced_code cs choice' cs₂) q l)
              ∙ clifford_of-code_of (then (then (codes_of cs q) (codes_of choice' q)) (inverse (codes_of cs₂ q)))
          go (inr l) =
              ap clifford_of (table-past n (induced_code cs choice' cs₂) q l) ∙ identity-induced
              ∙ sym (ap₂ (λ u v. then u (inverse v))
              (ap₂ then (past cs A.codes-length l)
              (past choice' (choice-long n array choice' e) l))
              (past cs₂ B.codes-length l))

      induced-is : held_record induced_lent ≡ induced_record n R S
      induced-is = record-path _ _ (record {
        neighbours = λ i j. ap (λ r. r.graph i j) (held-is n R nb cs H);
        code = codes_at;
      })

      -- the list is that of the image rule
      module _ (vertices : List ℕ) (k : ℕ) (M : IsImageList n (held_record induced_lent) vertices k) where
        pub pair-accepted : (choice list list' : List ℕ) (count count' : ℕ) →
            list' ≡ written (take k vertices) list → count' ≡ k →
            PairAnswered limited n R S choice list count 0 choice' list' count'
        pair-accepted choice list list' count count' el ec =
            record {
              number = sym (limit-passed limited _ _ no-large
                  ∙ passed 13 _ (not-true (no_choice n R S) (sym lists-answer.whether ∙ t)) ∙ none-fits);
              codes = least-written;
              vertices = el ∙ ap (λ v. written v list) (M.list ∙ ap (image_list n) induced-is);
              amount = ec ∙ M.count ∙ ap (λ r. length (image_list n r)) induced-is;
            }
