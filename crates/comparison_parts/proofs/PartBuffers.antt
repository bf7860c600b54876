-- Buffers that hold the record of a part: the search on them answers for the part.
use mathlib.Core.Bool.{◌&&◌, Bool, and-false, true}
use mathlib.Core.List.{List}
use mathlib.Core.Logic.{inl, inr, ◌⊎◌}
use mathlib.Core.Path.{ap, ap₂, fun_ext, subst, sym, ◌∙◌, ◌≡◌}
use Prim.Native.Nat.{◌<◌, ◌≤◌, ℕ}
use lib.Dec.{lit<, ltb}
use lib.ListN.{get_or, length}
use borrow.Author.Tests.{le-ltb, lt-ltb}
use Rattle.buffers.proofs.Tabulate.{tabulate-at, tabulate-length}
use Rattle.clifford.specs.Clifford.{clifford_of}
use Rattle.clifford.specs.Vectors.{act, codes_of}
use Rattle.comparison.proofs.ComparedRecords.{same_answer}
use Rattle.comparison.proofs.ConnectedParts.{part-connected}
use Rattle.comparison.proofs.Least.{act-within}
use Rattle.comparison.specs.internal.Searches.{LeastAnswer}
use Rattle.comparison.specs.internal.Setting.{Connected, SoundRecord, held_generators}
use Rattle.record.proofs.GraphGroups.{graph-proper}
use Rattle.record.specs.Graph.{Simple, graph_generator}
use Rattle.record.specs.NeighbourWords.{graph_in}
use Rattle.comparison.proofs.PlacedRows.{part-simple}
use Rattle.comparison.specs.internal.Numbered.{Numbers, part_graph}
use Rattle.comparison.specs.internal.Parts.{Closed}
use Rattle.comparison.specs.Parts.{part_of}
use Rattle.comparison_parts.specs.internal.Listed.{part_codes, renumbered, part_words}
use Rattle.record.proofs.ReducedRecords.{record-proper}
use Rattle.record.specs.Records.{rows_of}
use Rattle.stabilizer.proofs.Carried.{same_rows}
use Rattle.stabilizer.proofs.GroupLaws.{same_refl}
use Rattle.stabilizer.proofs.ReadBack.{table-past}
use Rattle.stabilizer.specs.Groups.{Proper}
use Rattle.words.proofs.BitLaws.{bit-above, bit-word_of, word_of-lt, zero_bit}
use Rattle.words.proofs.Sums.{lt-or-ge}
use Rattle.words.specs.Bits.{Word, bit}
use Rattle.comparison_parts.specs.internal.Components.{NumberedPair, PartAnswer, record_held, part_of_record}

-- ---- one record
module _ (n : ℕ) (nb cs : List ℕ) (s : Word) (k : ℕ) (at : List ℕ) (N : Numbers n s k (λ i. get_or at i 0))
    (S : SoundRecord n nb cs) (C : Closed n (graph_in nb) s) (words numbers : List ℕ)
    (ew : words ≡ part_words k at nb) (en : numbers ≡ part_codes k at cs) where
  abbrev e : ℕ → ℕ
  e i = get_or at i 0

  words-at : (i : ℕ) → i < k → get_or words i 0 ≡ renumbered k at (get_or nb (e i) 0)
  words-at i l = ap (λ v. get_or v i 0) ew ∙ tabulate-at k (λ i. renumbered k at (get_or nb (get_or at i 0) 0)) i l

  words-past : (i : ℕ) → k ≤ i → get_or words i 0 ≡ 0
  words-past i l = ap (λ v. get_or v i 0) ew ∙ table-past k (λ i. renumbered k at (get_or nb (get_or at i 0) 0)) i l

  same_graph : (i j : ℕ) → graph_in words i j ≡ part_graph k e (graph_in nb) i j
  same_graph i j = go (lt-or-ge i k) (lt-or-ge j k)
    where
      go : (i < k) ⊎ (k ≤ i) → (j < k) ⊎ (k ≤ j) → bit (get_or words i 0) j
          ≡ (ltb i k && (ltb j k && bit (get_or nb (e i) 0) (e j)))
      go (inl l) (inl m) =
          ap (λ w. bit w j) (words-at i l) ∙ bit-word_of k (λ j. bit (get_or nb (e i) 0) (e j)) j m
          ∙ sym (ap₂ (λ a b. a && (b && bit (get_or nb (e i) 0) (e j))) (lt-ltb i k l) (lt-ltb j k m))
      go (inl l) (inr m) =
          ap (λ w. bit w j) (words-at i l)
          ∙ bit-above k (renumbered k at (get_or nb (e i) 0)) (word_of-lt k (λ j. bit (get_or nb (e i) 0) (e j))) j m
          ∙ sym (ap (λ b. ltb i k && (b && bit (get_or nb (e i) 0) (e j))) (le-ltb j k m) ∙ and-false (ltb i k))
      go (inr l) d =
          ap (λ w. bit w j) (words-past i l) ∙ zero_bit j
          ∙ sym (ap (λ a. a && (ltb j k && bit (get_or nb (e i) 0) (e j))) (le-ltb i k l))

  graph_is : graph_in words ≡ part_graph k e (graph_in nb)
  graph_is = fun_ext (λ i. fun_ext (λ j. same_graph i j))

  numbers-at : (i : ℕ) → i < k → get_or numbers i 0 ≡ get_or cs (e i) 0
  numbers-at i l = ap (λ v. get_or v i 0) en ∙ tabulate-at k (λ i. get_or cs (get_or at i 0) 0) i l

  small : Simple k (part_graph k e (graph_in nb))
  small = part-simple n s k e N (graph_in nb) S.simple C

  pub words-connected : ((i j : ℕ) → i < k → j < k → part_of n (graph_in nb) (e i) (e j) ≡ true) → Connected k
      (graph_in words)
  words-connected t = subst (Connected k) (sym graph_is) (part-connected n (graph_in nb) s k e N C t)

  pub part_sound : SoundRecord k words numbers
  part_sound =
      record {
        neighbours-long = ap length ew ∙ tabulate-length k (λ i. renumbered k at (get_or nb (get_or at i 0) 0));
        codes-long = ap length en ∙ tabulate-length k (λ i. get_or cs (get_or at i 0) 0);
        simple = subst (Simple k) (sym graph_is) small;
        codes-sound = λ i. code i (lt-or-ge i k);
      }
    where
      code : (i : ℕ) → (i < k) ⊎ (k ≤ i) → get_or numbers i 0 < 24
      code i (inl l) = subst (λ v. v < 24) (sym (numbers-at i l)) (S.codes-sound (e i))
      code i (inr l) =
          subst (λ v. v < 24) (sym (ap (λ v. get_or v i 0) en ∙ table-past k (λ i. get_or cs (get_or at i 0) 0) i l))
          (lit< tt)

  pub part-rows-proper : Proper k (rows_of k (part_of_record k at (record_held n nb cs)))
  part-rows-proper = record-proper k (part_of_record k at (record_held n nb cs)) small

  pub held-proper : Proper k (held_generators k words numbers)
  held-proper = record-proper k (record_held k words numbers) part_sound.simple

  pub part-rows : (i : ℕ) → i < k → held_generators k words numbers i ≡ rows_of k (part_of_record k at (record_held n nb cs))
      i
  part-rows i l =
      ap (λ θ. act k (codes_of numbers) (graph_generator θ i)) graph_is
      ∙ act-within k (codes_of numbers) (λ j. codes_of cs (e j))
      (λ j m. ap clifford_of (numbers-at j m)) (graph_generator (part_graph k e (graph_in nb)) i) (P.within i l)
    where
      P : Proper k (graph_generator (part_graph k e (graph_in nb)))
      P = graph-proper k (part_graph k e (graph_in nb)) small

-- ---- two records
module _ (n : ℕ) (nb cs nb₂ cs₂ : List ℕ) (component k : ℕ) (at : List ℕ)
    (G : NumberedPair n nb cs nb₂ cs₂ component k at) (words numbers words₂ numbers₂ : List ℕ)
    (ew : words ≡ part_words k at nb) (en : numbers ≡ part_codes k at cs) (ew₂ : words₂ ≡ part_words k at nb₂)
    (en₂ : numbers₂ ≡ part_codes k at cs₂) where
  pub first-sound : SoundRecord k words numbers
  first-sound = part_sound n nb cs (bit component) k at G.numbers G.pair.first G.closed words numbers ew en

  pub second-sound : SoundRecord k words₂ numbers₂
  second-sound =
      part_sound n nb₂ cs₂ (bit component) k at G.numbers G.pair.second G.closed₂ words₂ numbers₂ ew₂ en₂

  pub first-connected : Connected k (graph_in words)
  first-connected =
      words-connected n nb cs (bit component) k at G.numbers G.pair.first G.closed words numbers ew en
      G.together

  pub part-answered : (found : Bool) (choice : List ℕ)
      → LeastAnswer k (held_generators k words numbers) (held_generators k words₂ numbers₂) found choice
      → PartAnswer n nb cs nb₂ cs₂ k at found choice
  part-answered =
      same_answer k (held_generators k words numbers) (rows_of k (part_of_record k at (record_held n nb cs)))
      (held_generators k words₂ numbers₂) (rows_of k (part_of_record k at (record_held n nb₂ cs₂)))
      (held-proper n nb cs (bit component) k at G.numbers G.pair.first G.closed words numbers ew en)
      (part-rows-proper n nb cs (bit component) k at G.numbers G.pair.first G.closed words numbers ew en)
      (held-proper n nb₂ cs₂ (bit component) k at G.numbers G.pair.second G.closed₂ words₂ numbers₂ ew₂ en₂)
      (part-rows-proper n nb₂ cs₂ (bit component) k at G.numbers G.pair.second G.closed₂ words₂ numbers₂ ew₂
      en₂)
      (same_rows k k _ _ _
      (part-rows n nb cs (bit component) k at G.numbers G.pair.first G.closed words numbers ew en) same_refl)
      (same_rows k k _ _ _
      (part-rows n nb₂ cs₂ (bit component) k at G.numbers G.pair.second G.closed₂ words₂ numbers₂ ew₂ en₂)
      same_refl)
