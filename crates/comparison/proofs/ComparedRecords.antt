-- From lent records to the searches: their generators as the code makes them, and the codes undone.
use mathlib.Core.Bool.{Bool, false, not, true}
use mathlib.Core.List.{List}
use mathlib.Core.Logic.{◌↔◌}
use mathlib.Core.Path.{ap, fun_ext, refl, sym, ◌∙◌, ◌≡◌}
use Prim.Native.Nat.{◌<◌, ◌^◌, ℕ, ◌≤◌}
use lib.ListN.{get_or}
use Rattle.clifford.proofs.CliffordLaws.{clifford_of-code_of}
use Rattle.clifford.specs.Clifford.{Clifford, clifford_of, code_of, inverse}
use Rattle.clifford.specs.Vectors.{act, codes_of}
use Rattle.record.proofs.GraphGroups.{graph-within}
use Rattle.record.specs.Graph.{graph_generator}
use Rattle.record.specs.NeighbourWords.{graph_in}
use Rattle.pauli.proofs.PauliLaws.{Pauli-path}
use Rattle.pauli.specs.Pauli.{Pauli, signed_row}
use Rattle.pauli.specs.declared.Generator.{Generator}
use Rattle.record.proofs.ReducedRecords.{record-proper}
use Rattle.record.specs.Lent.{held_record, held_rows, LentRecord, lent_record}
use Rattle.stabilizer.proofs.Carried.{carries-moved, same_rows}
use Rattle.stabilizer.proofs.EqualRows.{proper-equal}
use Rattle.stabilizer.proofs.GroupLaws.{same_refl, same-sym}
use Rattle.stabilizer.proofs.Within.{act-wide}
use Rattle.stabilizer.specs.Carries.{Carries}
use Rattle.stabilizer.specs.Groups.{Proper, SameGroup}
use Rattle.words.proofs.BitLaws.{bit-single}
use Rattle.words.proofs.Flags.{same-by-both}
use Rattle.words.specs.Bits.{bit}
use Rattle.words.specs.Search.{first, some}
use Rattle.comparison.proofs.Members.{carries-is}
use Rattle.comparison.specs.Choices.{is_carrying, choice, choice_at, least_number, no_choice}
use Rattle.comparison.specs.internal.Searches.{LeastAnswer}
use Rattle.comparison.specs.internal.Setting.{
  Codes,
  Connected,
  Framed,
  Setting,
  SoundRecord,
  generators_of,
  held_generators,
}

module _ (n : ℕ) (few : n ≤ 64) (neighbours codes : List ℕ) (S : SoundRecord n neighbours codes) where
  abbrev lent : LentRecord
  lent = lent_record n neighbours codes

  pub held-proper : Proper n (held_rows lent)
  held-proper = record-proper n (held_record lent) S.simple

  -- X at j and Z at the neighbours, each place sent through its code
  pub generator-sent : (j : ℕ) → j < n → (x : ℕ) → x ≡ 2 ^ j → (r : Pauli)
      → r ≡ act 64 (codes_of codes) (signed_row false (get_or neighbours j 0) x) → r ≡ held_rows lent j
  generator-sent j l x ex r e =
      e ∙ ap (act 64 (codes_of codes)) plain
      ∙ act-wide n 64 few (graph-within n (held_record lent).graph S.simple j l)
      (codes_of codes)
    where
      plain : signed_row false (get_or neighbours j 0) x ≡ graph_generator (held_record lent).graph j
      plain = Pauli-path refl (λ q. refl) (λ q. ap (λ w. bit w q) ex ∙ bit-single j q)

  -- the generators, and codes that undo the record's
  pub held-framed : (gs : List Generator) (frame : List ℕ)
      → ((j : ℕ) → j < n → generators_of gs j ≡ held_rows lent j)
      → ((q : ℕ) → q < n → get_or frame q 0 ≡ code_of (inverse (codes_of codes q)))
      → Framed n (generators_of gs) (codes_of frame)
  held-framed gs frame hg hf =
      record {
        graph = (held_record lent).graph;
        codes = codes_of codes;
        simple = S.simple;
        generators = hg;
        undoes = λ q l. ap clifford_of (hf q l) ∙ clifford_of-code_of (inverse (codes_of codes q));
      }

-- ---- the answer depends on the groups alone
module _ (n : ℕ) (rows rows' others others' : ℕ
    → Pauli) (P : Proper n rows) (P' : Proper n rows') (Q : Proper n others)
    (Q' : Proper n others') (E : SameGroup n n rows rows') (F : SameGroup n n others others') where
  pub carries-groups : (c : ℕ → Clifford) → is_carrying n c rows others ≡ is_carrying n c rows' others'
  carries-groups c =
      same-by-both _ _ (λ e. test'.1 (carries-moved n rows others rows' others' E F c (test.0 e)))
      (λ e. test.1 (carries-moved n rows' others' rows others (same-sym E) (same-sym F) c (test'.0 e)))
    where
      test : (is_carrying n c rows others ≡ true) ↔ Carries n c rows others
      test = carries-is n c rows others P.within Q.within

      test' : (is_carrying n c rows' others' ≡ true) ↔ Carries n c rows' others'
      test' = carries-is n c rows' others' P'.within Q'.within

  every-number : ◌≡◌ {A = ℕ
      → Bool} (λ k. is_carrying n (choice_at n k) rows others) (λ k. is_carrying n (choice_at n k) rows' others')
  every-number = fun_ext (λ k. carries-groups (choice_at n k))

  pub same-least : least_number n rows others ≡ least_number n rows' others'
  unfolding least_number
  same-least = ap (first (24 ^ n)) every-number

  pub same-refusal : no_choice n rows others ≡ no_choice n rows' others'
  same-refusal = ap (λ f. not (some (24 ^ n) f)) every-number

  pub same_answer : (b : Bool) (out : List ℕ) → LeastAnswer n rows others b out
      → LeastAnswer n rows' others' b out
  same_answer b out A =
      record {
        whether = A.whether ∙ ap not same-refusal;
        which = λ e q l. A.which e q l ∙ ap (λ k. choice n k q) same-least;
      }

-- rows that agree below n answer for each other
rows-answer : (n : ℕ) (rows rows' others others' : ℕ → Pauli) → Proper n rows' → Proper n others'
    → ((j : ℕ) → j < n → rows j ≡ rows' j) → ((j : ℕ) → j < n → others j ≡ others' j)
    → (b : Bool) (out : List ℕ)
    → LeastAnswer n rows others b out → LeastAnswer n rows' others' b out
rows-answer n rows rows' others others' P Q h k =
    same_answer n rows rows' others others' (proper-equal n rows' rows (λ j l. sym (h j l)) P) P
    (proper-equal n others' others (λ j l. sym (k j l)) Q) Q
    (same_rows n n rows rows rows' h same_refl) (same_rows n n others others others' k same_refl)

-- ---- two lent records, from what the code's calls make
module _ (n : ℕ) (few : n ≤ 64) (neighbours codes neighbours' codes' : List ℕ)
    (S : SoundRecord n neighbours codes)
    (S' : SoundRecord n neighbours' codes') (first second : List Generator) (frame : List ℕ)
    (hf : (j : ℕ) → j < n
    → generators_of first j ≡ held_generators n neighbours codes j)
    (hs : (j : ℕ) → j < n
    → generators_of second j ≡ held_generators n neighbours' codes' j)
  where
    pub records-setting : ((q : ℕ) → q < n → get_or frame q 0 ≡ code_of (inverse (codes_of codes' q)))
        → Codes frame → Connected n (graph_in neighbours)
        → Setting n first second frame
    records-setting undone small connected =
        record {
          few = few;
          proper = proper-equal n _ (generators_of first) (λ j l. sym (hf j l)) (held-proper n few neighbours codes S);
          joined = record {
            graph = graph_in neighbours;
            codes = codes_of codes;
            simple = S.simple;
            generators = hf;
            connected = connected;
          };
          framed = held-framed n few neighbours' codes' S' second frame hs undone;
          codes = small;
        }

    pub records-answer : (b : Bool) (out : List ℕ)
        → LeastAnswer n (generators_of first) (generators_of second) b out
        → LeastAnswer n (held_generators n neighbours codes)
        (held_generators n neighbours' codes') b out
    records-answer =
        rows-answer n (generators_of first) _ (generators_of second) _ (held-proper n few neighbours codes S)
        (held-proper n few neighbours' codes' S') hf hs
