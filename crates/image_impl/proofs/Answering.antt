-- The answer of the code is that of the definitions.
use mathlib.Core.Bool.{◌&&◌, Bool, cond, false, not, true}
use mathlib.Core.List.{◌++◌, List, [], ◌∷◌}
use mathlib.Core.Logic.{inl, inr, ◌⊎◌}
use mathlib.Core.Path.{ap, ap₂, refl, subst, sym, ◌∙◌, ◌≡◌}
use Prim.Native.Nat.{◌+◌, ◌<◌, ◌^◌, ℕ, ◌≤◌}
use native.Mathlib.Nat.{zero-add}
use native.Mathlib.Omega.{arith}
use lib.Bits.{bit_and}
use lib.Dec.{eqb}
use lib.ListN.{get_or-append, get_or, length, take}
use borrow.Author.Tests.{eq-eqb}
use Rattle.buffers.proofs.Lines.{not-held}
use Rattle.buffers.specs.internal.Numbers.{number_of}
use Rattle.buffers.specs.Refusals.{first_fitting, line}
use Rattle.clifford.specs.Clifford.{bit_c, image}
use Rattle.clifford.specs.Vectors.{codes_of}
use Rattle.record.specs.Graph.{Simple}
use Rattle.pauli.specs.declared.Letter.TheVariants.{X}
use Rattle.record.specs.Accepted.{AcceptedRecord}
use Rattle.record.specs.Lent.{held_record, lent_record}
use Rattle.record.specs.Records.{GraphRecord}
use Rattle.words.proofs.BitLaws.{bit-ext∞, lt-of-bits, word_of-bit, zero_bit}
use Rattle.words.proofs.SearchLaws.{first-is, some_in, some-none}
use Rattle.words.proofs.Sums.{lt-or-ge}
use Rattle.words.specs.Bits.{bit, digit, word_of, ◌⊕◌}
use Rattle.words.specs.internal.Bits.{dot}
use Rattle.words.specs.Search.{IsFirst, first, some}
use Rattle.image.proofs.Accepted.{image-minus}
use Rattle.image.proofs.Refused.{own-letter}
use Rattle.image_impl.proofs.SignBytes.{sign-formula}
use Rattle.image.proofs.Signs.{minus_at}
use Rattle.image.proofs.TrackedBits.{image-bits, image-length, image-simple}
use Rattle.image_impl.proofs.WordMoves.{set-bit}
use Rattle.image_impl.specs.internal.Answer.{IsImage, IsImageList}
use Rattle.image.specs.Image.{image_graph, image_minus, image_record, is_y, loop_lines, looped, stuck}
use Rattle.image.specs.Rule.{image_list}
use Rattle.image_impl.proofs.TrackedRecords.{tracked-codes, tracked-simple, tracked-small}
use Rattle.image_impl.specs.internal.Working.{Complemented, Ruled, Tracking, Working, working, working_record}
use Rattle.clifford_impl.specs.declared.rows.Action.{Action}
use Rattle.clifford_impl.specs.internal.Actions.{ActsAs}
use Rattle.operations.specs.internal.InPlace.{Unrefused, record_in}
use Rattle.image_impl.proofs.ActionWords.{sx-here, sz-above, sz-here, y-above, y-here}
use Rattle.image_impl.specs.declared.answer.Told.{Told}
use Rattle.image_impl.specs.declared.complementing.Tracked.{Tracked}

-- a set of vertices as a word: some vertex is in it where the word is not 0
some_word : (n w : ℕ) (f : ℕ → Bool) → ((q : ℕ) → q < n → bit w q ≡ f q) → ((q : ℕ) → n ≤ q → bit w q ≡ false)
    →
    some n f ≡ not (eqb w 0)
some_word n w f same above = go (first-is n f)
  where
    go : IsFirst n f (first n f) ⊎ ((i : ℕ) → i < n → f i ≡ false) → some n f ≡ not (eqb w 0)
    go (inl F) =
        some_in n f (first n f) F.below F.passes
        ∙ sym (set-bit w (first n f) (same (first n f) F.below ∙ F.passes))
    go (inr N) = some-none n f N ∙ sym (ap not (eq-eqb w 0 (bit-ext∞ w 0 (λ q. elim (lt-or-ge q n) [
      | inl l ↦ same q l ∙ N q l ∙ sym (zero_bit q)
      | inr l ↦ above q l ∙ sym (zero_bit q)
    ]))))

module _ (n : ℕ) (r : GraphRecord) (G : Simple n r.graph) (w : Working)
    (held : working_record w ≡ image_record n r)
    (T : Tracking n w) (k : Action) (A : ActsAs (codes_of w.codes) k) (b-below : k.b < 2 ^ 64)
    (sz-below : k.sz < 2 ^ 64)
  where
    long : length w.codes ≡ n
    long = tracked-codes n w T

    small : n ≤ 64
    small = tracked-small n w T

    stuck-word : stuck n r ≡ not (eqb w.c 0)
    unfolding stuck
    stuck-word =
        some_word n w.c _
        (λ q l. T.C q ∙ ap (λ s. bit_c (s.codes q)) held ∙ ap (λ S. S.C q) (image-bits n r G)) T.above

    looped-word : looped n r ≡ (not (stuck n r) && not (eqb (bit_and k.b k.d) 0))
    unfolding looped
    looped-word =
        ap (λ b. not (stuck n r) && b)
        (some_word n (bit_and k.b k.d) _
        (λ q l. y-here w.codes n long small k A q l ∙ ap (λ s. is_y (image (s.codes q) X)) held
        ∙ ap is_y (sym (own-letter n (image_record n r) (image-simple n r G) q)))
        (y-above w.codes n long small k A b-below))

    by_lines : (s l a b : Bool) → s ≡ not a → l ≡ (not s && not b) →
        first_fitting (line 11 s ∷ line 12 l ∷ []) ≡ cond a (cond b 0 12) 11
    unfolding first_fitting
    by_lines s l a b e f = ap₂ (λ s l. cond s 11 (cond l 12 0)) e (f ∙ ap (λ s. not s && not b) e) ∙ go a b
      where
        go : (a b : Bool) → ◌≡◌ {A =
            ℕ} (cond (not a) 11 (cond (not (not a) && not b) 12 0)) (cond a (cond b 0 12) 11)
        go true true = refl
        go true false = refl
        go false true = refl
        go false false = refl

    pub number_word : cond (eqb w.c 0) (cond (eqb (bit_and k.b k.d) 0) 0 12) 11 ≡ first_fitting (loop_lines n r)
    number_word = sym (by_lines (stuck n r) (looped n r) (eqb w.c 0) (eqb (bit_and k.b k.d) 0) stuck-word
        looped-word)

    word_below : (j : ℕ) → get_or w.neighbours j 0 < 2 ^ n
    word_below j = lt-of-bits n (get_or w.neighbours j 0) ((tracked-simple n w T).below j)

    pub graph-word : (j : ℕ) → get_or w.neighbours j 0 ≡ word_of n (image_graph n r j)
    graph-word j = sym (word_of-bit n (get_or w.neighbours j 0) (word_below j))
        ∙ ap (λ s. word_of n (s.graph j)) held

    accepted-lines : (s l : Bool) → first_fitting (line 11 s ∷ line 12 l ∷ []) ≡ 0 → (s ≡ false) × (l ≡ false)
    accepted-lines s l e =
        let e11 = not-held 10 s (line 12 l ∷ []) e in
        (e11.0, (not-held 11 l [] e11.1).0)

    pub sign_word : first_fitting (loop_lines n r) ≡ 0 → (j : ℕ) → j < n →
        bit k.sx j ⊕ dot (get_or w.neighbours j 0) k.sz ≡ image_minus n r j
    sign_word e j l =
        let a = accepted-lines (stuck n r) (looped n r) e in
        sign-formula n w.neighbours (codes_of w.codes) k.sx k.sz (sx-here w.codes n long small k A)
        (sz-here w.codes n long small k A) (sz-above w.codes n long small k A sz-below) j l (word_below j)
        ∙ ap (λ s. minus_at n s.graph s.codes j) held
        ∙ sym (image-minus n r G a.0 a.1 j l)

-- ---- from the calls
-- what the rule comes to on a record
pub ruled : (words codes list : List ℕ) → Unrefused (record_in words codes) → (t : Tracked) → t.count ≡ 0
    → (end : Working) → Complemented (length words) (working words codes list t)
    (image_list (length words) (held_record (record_in words codes))) end →
    Ruled (length words) (held_record (record_in words codes)) end
ruled words codes list U t empty end C =
    record {
      held = C.held;
      list = C.list ∙ ap (λ c. take c list ++ vertices) empty;
      count = C.count ∙ ap (λ c. c + length vertices) empty ∙ zero-add _;
      tracking = C.tracking;
    }
  where
    vertices : List ℕ
    vertices = image_list (length words) (held_record (record_in words codes))

-- the rule ran on a copy
pub copied-ruled : {words codes words' codes' : List ℕ} {w : Working} → (words' ≡ words) × (codes' ≡ codes)
    → Ruled (length words') (held_record (record_in words' codes')) w
    → Ruled (length words) (held_record (record_in words codes)) w
copied-ruled {words} {codes} {words'} {codes'} {w} e R =
    subst (λ cs. Ruled (length words) (held_record (record_in words cs)) w) e.1
    (subst (λ ws. Ruled (length ws) (held_record (record_in ws codes')) w) e.0 R)

module _ (n : ℕ) (r : GraphRecord) (G : Simple n r.graph) (end : Working) (R : Ruled n r end) where
  list-room : length (image_list n r) ≤ 96
  list-room = omega (arith, image-length n r G, tracked-small n end R.tracking)

  pub listed-all : IsImageList n r end.list end.count
  listed-all = record { list = R.list; count = R.count; room = omega (arith, list-room, R.count) }

  pub answered : (k : Action) → ActsAs (codes_of end.codes) k → k.b < 2 ^ 64 → k.sz < 2 ^ 64 →
      (a : Told) → number_of a.answer ≡ cond (eqb end.c 0) (cond (eqb (bit_and k.b k.d) 0) 0 12) 11 →
      a.count ≡ end.count → (signs : List ℕ) →
      ((j : ℕ) → j < length end.neighbours → get_or signs j 0 ≡ digit (bit k.sx j
      ⊕ dot (get_or end.neighbours j 0) k.sz)) → IsImage n r a end.neighbours signs end.list
  answered k W b-below sz-below a number counted signs at =
      record {
        number = number ∙ number_word n r G end R.held T k W b-below sz-below;
        graph = λ j m. graph-word n r G end R.held T k W b-below sz-below j;
        signs = λ e j m. at j (subst (λ i. j < i) (sym T.long) m)
            ∙ ap digit (sign_word n r G end R.held T k W b-below sz-below
            (sym (number_word n r G end R.held T k W b-below sz-below) ∙ sym number ∙ e) j m);
        list = ap (λ c. take c end.list) counted ∙ R.list;
        count = counted ∙ R.count;
        room = omega (arith, list-room, counted, R.count);
      }
    where
      T : Tracking n end
      T = R.tracking

-- the answer with words and signs at the start of longer arrays
pub answered-longer : (n : ℕ) (words codes : List ℕ) → AcceptedRecord (lent_record n words codes)
    → (a : Told) (graph signs list : List ℕ) →
    IsImage (length words) (held_record (record_in words codes)) a graph signs list → (more others : List ℕ)
    → length graph ≡ n → length signs ≡ n →
    IsImage n (held_record (record_in words codes)) a (graph ++ more) (signs ++ others) list
answered-longer n words codes A a graph signs list I more others lg ls =
    record {
      number = J.number;
      graph = λ j m. get_or-append graph more 0 j (subst (λ k. j < k) (sym lg) m) ∙ J.graph j m;
      signs = λ e j m. get_or-append signs others 0 j (subst (λ k. j < k) (sym ls) m) ∙ J.signs e j m;
      list = J.list;
      count = J.count;
      room = J.room;
    }
  where
    J : IsImage n (held_record (record_in words codes)) a graph signs list
    J = subst (λ m. IsImage m (held_record (record_in words codes)) a graph signs list) A.neighbours-length I
