-- Every number in words: the tests of each call decide the sentences of its lines.
use mathlib.Core.Bool.{false, false≢true, not, ◌||◌}
use mathlib.Core.List.{List, [], ◌∷◌}
use mathlib.Core.Path.{◌≡◌, ap, refl}
use Prim.Native.Nat.{ℕ}
use lib.Dec.{eqb}
use Rattle.buffers.proofs.SentenceLaws.{
  Decides,
  Matches,
  above,
  and-decides,
  and_then,
  bad-count,
  equal,
  first-true,
  itself,
  not-decides,
  or-decides,
  or-none,
  other_length,
  some-above,
  some-decides,
  some-stray,
  stray,
}
use Rattle.buffers.specs.Refusals.{bad_count, first_fitting, line, other_than}
use Rattle.buffers.specs.Sentences.{FirstTrue, Sentence, sentence}
use Rattle.calls.specs.Amplitudes.{amplitude_lines}
use Rattle.calls.specs.Cuts.{cut_lines}
use Rattle.calls.specs.Expansions.{expand_lines}
use Rattle.calls.specs.Expectations.{expectation_lines}
use Rattle.calls.specs.Lists.{check_lines, reduce_lines}
use Rattle.calls.specs.Orbits.{orbit_lines}
use Rattle.calls.specs.Products.{product_lines}
use Rattle.comparison.proofs.Least.{none-carries}
use Rattle.comparison.specs.Choices.{no_choice}
use Rattle.comparison.specs.Compared.{compare_lines, pair_lines}
use Rattle.buffers.specs.Calls.{Call, Contract}
use Rattle.jobs.specs.GeneratedLines.{generate_lines}
use Rattle.record.specs.NeighbourWords.{graph_in}
use Rattle.image.specs.Image.{image_lines, image_record, is_y, loop_lines, looped, stuck}
use Rattle.image.specs.Rule.{follow, image_list, state_of}
use Rattle.pauli.specs.Pauli.{letter_at}
use Rattle.pauli.specs.declared.Letter.{Letter}
use Rattle.pauli.specs.declared.Letter.TheVariants.{I, X, Y, Z}
use Rattle.record.proofs.RecordInWords.{code-above-23, misfits, not-simple, record-in-words, stray-neighbour}
use Rattle.record.specs.Lent.{LentRecord, held_record, record_lines}
use Rattle.record.specs.RecordSentences.{record_sentences}
use Rattle.record.specs.Records.{GraphRecord, rows_of}
use Rattle.stabilizer.proofs.ListInWords as lists
use Rattle.stabilizer.specs.Lists.{GeneratorList, rows}
use Rattle.store.proofs.StoreInWords.{held, named-in-words, of-4, store-misfits}
use Rattle.store.specs.Places.{Store}
use Rattle.store.specs.StoreLines.{named_lines}
use Rattle.text.proofs.StringsFormLaws.{form-exactly}
use Rattle.text.specs.Reading.{line_count, read_lines, string_list, write_lines}
use Rattle.text.specs.Strings.{text_size}
use Rattle.operations.proofs.UsedInWords.{used-in-words}
use Rattle.operations.specs.Used.{UsedRecord}
use Rattle.claims.proofs.AcceptedPairs.{accepted-pair, first-proper, second-proper}
use Rattle.claims.proofs.PartsDemandHolds.{large-exactly}
use Rattle.claims.specs.Numbers.{
  AnswersMisfit,
  CountsWrong,
  NoneCarries,
  OwnY,
  StopsWithC,
  ThreeMisfit,
  check_sentences,
  compare_sentences,
  expand_sentences,
  forget_sentences,
  generate_sentences,
  image_sentences,
  orbit_sentences,
  pair_sentences,
  product_sentences,
  read_sentences,
  reduce_sentences,
  return_sentences,
  with_row_sentences,
  with_word_sentences,
  write_sentences,
}

-- the number of a call, from its lines in words
pub in_words : {c : Contract} {r : ℕ} (ss : List Sentence) → Matches c.lines ss → Call c r → FirstTrue ss r
in_words {c} ss M C = first-true c.lines ss M C.number

-- ---- lists
pub check-words : (l : GeneratorList) → Matches (check_lines l) (check_sentences l)
check-words l = lists.list-in-words l false _ (or-none (lists.misfits l))

pub reduce-words : (l : GeneratorList) (nb cs : List ℕ) → Matches (reduce_lines l nb cs) (reduce_sentences l nb cs)
reduce-words l nb cs = lists.list-in-words l _ _
    (or-decides (lists.misfits l) (or-decides (other_length l.n nb) (other_length l.n cs)))

pub write-words : (l : GeneratorList) (text : List ℕ) → Matches (write_lines l text) (write_sentences l text)
write-words l text = lists.list-in-words l _ _ (or-decides (lists.misfits l) (other_length (text_size l.n) text))

pub product-words : (l : GeneratorList) (chosen : ℕ) → Matches (product_lines l chosen) (product_sentences l chosen)
product-words l chosen = (
  refl,
  (
    bad-count l.n,
    λ e. (
      refl,
      (
        lists.misfits l,
        λ e. (
          refl,
          (or-decides (lists.strays l) (stray l.n chosen), λ e. (refl, (some-above 1 l.signs, λ e. tt))),
        ),
      ),
    ),
  ),
)

pub three : (n : ℕ) (a b c : List ℕ) → Decides (other_than n a || (other_than n b || other_than n c)) (ThreeMisfit n a b c)
three n a b c = or-decides (other_length n a) (or-decides (other_length n b) (other_length n c))

pub read-words : (t s z x : List ℕ) → Matches (read_lines t s z x) (read_sentences t s z x)
read-words t s z x = (
  refl,
  (
    not-decides (form-exactly t),
    λ e. (
      refl,
      (
        bad-count (line_count t),
        λ e. (
          refl,
          (
            three (line_count t) s z x,
            λ e. (
              refl,
              (lists.clash _ (rows (string_list t)), λ e. (refl, (lists.dependence _ (rows (string_list t)), λ e. tt))),
            ),
          ),
        ),
      ),
    ),
  ),
)

-- ---- records
module _ (u : UsedRecord) where
  pub expand-words : (s z x : List ℕ) → Matches (expand_lines u s z x) (expand_sentences u s z x)
  expand-words s z x = used-in-words u _ false false _ _ _
      (or-decides (misfits u.held) (three u.held.n s z x))
      (or-decides (stray-neighbour u.held) (or-none (stray u.held.n u.used)))
      (or-none (code-above-23 u.held))

  pub cut-words : (side : ℕ) → Matches (cut_lines u side) (with_word_sentences u side)
  cut-words side = used-in-words u false _ false _ _ _ (or-none (misfits u.held))
      (or-decides (stray-neighbour u.held) (or-decides (stray u.held.n u.used) (stray u.held.n side)))
      (or-none (code-above-23 u.held))

  pub amplitude-words : (y : ℕ) → Matches (amplitude_lines u y) (with_word_sentences u y)
  amplitude-words y = used-in-words u false _ false _ _ _ (or-none (misfits u.held))
      (or-decides (stray-neighbour u.held) (or-decides (stray u.held.n u.used) (stray u.held.n y)))
      (or-none (code-above-23 u.held))

  pub expectation-words : (z x : ℕ) → Matches (expectation_lines u z x) (with_row_sentences u z x)
  expectation-words z x = used-in-words u false _ false _ _ _ (or-none (misfits u.held))
      (or-decides (stray-neighbour u.held)
      (or-decides (stray u.held.n u.used) (or-decides (stray u.held.n z) (stray u.held.n x))))
      (or-none (code-above-23 u.held))

-- ---- images
stops : (n : ℕ) (r : GraphRecord) → Decides (stuck n r) (StopsWithC n r)
unfolding stuck
stops n r = some-decides n (follow (state_of r) (image_list n r)).C _ (λ j. itself)

is_y_lem : (a : Letter) → Decides (is_y a) (a ≡ Y)
is_y_lem I = ((λ e. absurd (false≢true e)), (λ e. ap is_y e))
is_y_lem X = ((λ e. absurd (false≢true e)), (λ e. ap is_y e))
is_y_lem Y = ((λ e. refl), (λ e. refl))
is_y_lem Z = ((λ e. absurd (false≢true e)), (λ e. ap is_y e))

loops : (n : ℕ) (r : GraphRecord) → Decides (looped n r) ((StopsWithC n r → ⊥) × OwnY n r)
unfolding looped
loops n r = and-decides (not-decides (stops n r))
    (some-decides n (λ j. is_y (letter_at (rows_of n (image_record n r) j) j)) _
    (λ j. is_y_lem (letter_at (rows_of n (image_record n r) j) j)))

pub image-words : (l : LentRecord) (image signs list : List ℕ)
    → Matches (image_lines l image signs list) (image_sentences l image signs list)
image-words l image signs list =
    and_then (record_lines l (other_than l.n image || (other_than l.n signs || other_than 96 list)) false)
    (loop_lines l.n (held_record l)) (record_sentences l _) (sentence 11 _ ∷ sentence 12 _ ∷ [])
    (record-in-words l _ false _ _ (or-decides (misfits l) (or-decides (other_length l.n image)
    (or-decides (other_length l.n signs) (other_length 96 list)))) (or-none (code-above-23 l)))
    (λ e. (refl, (stops l.n (held_record l), λ e. (refl, (loops l.n (held_record l), λ e. tt)))))

-- ---- orbits
pub orbit-words : (n : ℕ) (neighbours list : List ℕ)
    → Matches (orbit_lines n neighbours list) (orbit_sentences n neighbours list)
orbit-words n neighbours list = (
  refl,
  (
    or-decides (equal n 0) (above 6 n),
    λ e. (
      refl,
      (
        or-decides (other_length n neighbours) (other_length 32768 list),
        λ e. (
          refl,
          (some-stray n neighbours, λ e. (refl, (not-simple n (graph_in neighbours), λ e. tt))),
        ),
      ),
    ),
  ),
)

-- ---- named states
pub forget-words : (name : ℕ) (st : Store) → Matches (named_lines 8 name st false) (forget_sentences name st)
forget-words name st = named-in-words 8 st name false _
    (or-decides (held 8 st 4 _ of-4) (or-none (store-misfits 8 st)))

pub return-words : (name : ℕ) (st : Store) (nb cs : List ℕ)
    → Matches (named_lines 8 name st (other_than 64 nb || other_than 64 cs)) (return_sentences name st nb cs)
return-words name st nb cs = named-in-words 8 st name _ _ (or-decides (held 8 st 4 _ of-4)
    (or-decides (store-misfits 8 st) (or-decides (other_length 64 nb) (other_length 64 cs))))

-- ---- the generator
pub generate-words : (n count seed : ℕ) (text : List ℕ)
    → Matches (generate_lines n count seed text) (generate_sentences n count seed text)
generate-words n count seed text = (
  refl,
  (
    above 4096 count,
    λ e. (
      refl,
      (bad-count n, λ e. (refl, (other_length 61463 text, λ e. (refl, (equal seed 0, λ e. tt))))),
    ),
  ),
)

-- ---- comparisons
pub counts-wrong : (n m : ℕ) → Decides (bad_count n || (bad_count m || not (eqb n m))) (CountsWrong n m)
counts-wrong n m = or-decides (bad-count n) (or-decides (bad-count m) (not-decides (equal n m)))

pub answers-misfit : (n : ℕ) (choice list : List ℕ)
    → Decides (other_than n choice || other_than 96 list) (AnswersMisfit n choice list)
answers-misfit n choice list = or-decides (other_length n choice) (other_length 96 list)

module _ (l m : GeneratorList) (choice list : List ℕ) where
  pub pair-words : Matches (pair_lines l m choice list) (pair_sentences l m choice list)
  pair-words = (
    refl,
    (
      counts-wrong l.n m.n,
      λ e. (
        refl,
        (
          or-decides (lists.misfits l) (or-decides (lists.misfits m) (answers-misfit l.n choice list)),
          λ e. (
            refl,
            (
              or-decides (lists.strays l) (lists.strays m),
              λ e. (
                refl,
                (
                  or-decides (some-above 1 l.signs) (some-above 1 m.signs),
                  λ e. (
                    refl,
                    (
                      or-decides (lists.clash l.n (rows l)) (lists.clash m.n (rows m)),
                      λ e. (
                        refl,
                        (or-decides (lists.dependence l.n (rows l)) (lists.dependence m.n (rows m)), λ e. tt),
                      ),
                    ),
                  ),
                ),
              ),
            ),
          ),
        ),
      ),
    ),
  )

  -- where lines 2 to 10 pass, 13 is about all choices
  pub none-of-choices : first_fitting (pair_lines l m choice list) ≡ 0
      → Decides (no_choice l.n (rows l) (rows m)) (NoneCarries l.n (rows l) (rows m))
  none-of-choices e =
      let A = accepted-pair l m choice list e in
      none-carries l.n (rows l) (rows m) (first-proper A).within (second-proper A).within

  pub compare-words : Matches (compare_lines l m choice list) (compare_sentences l m choice list)
  compare-words = and_then (pair_lines l m choice list) (line 3 _ ∷ line 13 _ ∷ []) (pair_sentences l m choice list)
      (sentence 3 _ ∷ sentence 13 _ ∷ []) pair-words
      (λ e. (refl, (or-decides (large-exactly l) (large-exactly m), λ h. (refl, (none-of-choices e, λ h. tt)))))
