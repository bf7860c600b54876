-- The marked numbers written rising: the set bits of one word, smallest first, and word after word.
use mathlib.Core.Bool.{◌&&◌, and-true, not}
use mathlib.Core.List.{List, [], ◌++◌, ◌∷◌, append_assoc, append-nil, map}
use mathlib.Core.Path.{ap, ap₂, refl, subst, sym, ◌∙◌, ◌≡◌}
use Prim.Native.Nat.{◌%◌, ◌*◌, ◌+◌, ◌-◌, ◌/◌, ◌<◌, ◌^◌, suc, ℕ, ◌≤◌}
use native.Mathlib.Decide.{ℕ_discrete}
use native.Mathlib.Nat.{add-zero, lt_trans, zero-add}
use native.Mathlib.Omega.{arith}
use lib.Bits.{bit_xor}
use lib.Count.{count_trailing_zeros}
use lib.Dec.{eqb}
use lib.ListN.{drop, get_or, length, length-append, length-drop, length-map, length-set, set}
use lib.Seq.{ext_get_or, get_or-drop}
use Rattle.buffers.specs.Buffers.{written}
use Rattle.cut.proofs.Counting.{count-upto, except}
use Rattle.orbits.proofs.Selecting.{selected-add, selected-ext, selected-first, selected-length, selected-none}
use Rattle.orbits.specs.Orbits.{orbit_list, selected}
use Rattle.buffers.proofs.Writing.{and_then, write-none, write-one}
use Rattle.buffers.specs.Writing as print
use Rattle.buffers.specs.Writing.{Printed}
use Rattle.words.proofs.BitLaws.{bit-flip, flip-less, zero_bit}
use Rattle.words.proofs.Finite.{⊕-zero}
use Rattle.words.proofs.Places.{other_place, same_place}
use Rattle.words.proofs.Trailing.{trailing-set}
use Rattle.words.specs.Bits.{bit, ◌⊕◌}
use Rattle.words.specs.Search.{IsFirst}
use Rattle.orbits_impl.specs.internal.Marks.{Spread, marked}

-- the numbers of one word of marks
abbrev pub numbers_in : ℕ → ℕ → List ℕ
numbers_in base word = map (λ v. base + v) (selected 64 (bit word))

-- the smallest set bit comes first
module _ (rest : ℕ) (small : rest < 2 ^ 64) (nonzero : rest ≡ 0 → ⊥) (q : ℕ) (e : q ≡ count_trailing_zeros 64 rest) where
  first : IsFirst 64 (bit rest) q
  first = subst (IsFirst 64 (bit rest)) (sym e) (trailing-set 64 rest small nonzero)

  pub first_small : q < 64
  first_small = first.below

  pub rest-less : (rest' : ℕ) → rest' ≡ bit_xor rest (2 ^ q) → rest' < rest
  rest-less rest' f = subst (λ m. m < rest) (sym f) (flip-less rest q first.passes)

  numbers-first : (base rest' : ℕ) → rest' ≡ bit_xor rest (2 ^ q)
      → numbers_in base rest ≡ (base + q) ∷ numbers_in base rest'
  numbers-first base rest' f =
      ap (map (λ v. base + v)) (selected-first 64 (bit rest) q first
      ∙ ap {B = List ℕ} (λ l. q ∷ l) (selected-ext 64 (except (bit rest) q) (bit rest')
      (λ v l. left v (ℕ_discrete v q))))
    where
      left : (v : ℕ) → Dec (v ≡ q) → except (bit rest) q v ≡ bit rest' v
      left v (yes d) =
          ap₂ (λ a b. a && not b) (ap (bit rest) d ∙ first.passes) (ap (λ u. eqb u q) d ∙ same_place q)
          ∙ sym (ap (λ m. bit m v) f ∙ bit-flip rest q v
          ∙ ap₂ ◌⊕◌ (ap (bit rest) d ∙ first.passes) (ap (λ u. eqb u q) d ∙ same_place q))
      left v (no d) =
          ap (λ b. bit rest v && not b) (other_place d) ∙ and-true (bit rest v)
          ∙ sym (ap (λ m. bit m v) f ∙ bit-flip rest q v ∙ ap (λ b. bit rest v ⊕ b) (other_place d) ∙ ⊕-zero
          (bit rest v))

-- ---- one word: the numbers of `rest` are still to come
pub record Emitting (word base at : ℕ) (list₀ list : List ℕ) (rest end : ℕ) : Type 0 where
  pub sofar : List ℕ
  pub printed : Printed sofar at list₀ list end
  pub whole : sofar ++ numbers_in base rest ≡ numbers_in base word
  pub long : length list ≡ length list₀
  pub small : rest < 2 ^ 64

pub emit-start : (word base at : ℕ) (list : List ℕ) → word < 2 ^ 64 → Emitting word base at list list word at
emit-start word base at list l = record {
  sofar = [];
  printed = record { end = sym (add-zero at); out = write-none list at };
  whole = refl;
  long = refl;
  small = l;
}

module _ {word base at : ℕ} {list₀ list : List ℕ} {rest end : ℕ} (E : Emitting word base at list₀ list rest end)
    (room : at + length (selected 64 (bit word)) ≤ length list₀) where
  module _ (nonzero : rest ≡ 0 → ⊥) (q : ℕ) (e : q ≡ count_trailing_zeros 64 rest) where
    lengths : (rest' : ℕ) → rest' ≡ bit_xor rest (2 ^ q)
        → length E.sofar + suc (length (selected 64 (bit rest'))) ≡ length (selected 64 (bit word))
    lengths rest' f =
        ap (λ k. length E.sofar + suc k) (sym (length-map (selected 64 (bit rest')) (λ v. base + v)))
        ∙ ap (λ l. length E.sofar + length l) (sym (numbers-first rest E.small nonzero q e base rest' f))
        ∙ sym (length-append E.sofar (numbers_in base rest)) ∙ ap length E.whole
        ∙ length-map (selected 64 (bit word)) (λ v. base + v)

    pub emit-room : end < length list
    emit-room = omega (arith, lengths (bit_xor rest (2 ^ q)) refl, E.printed.end, E.long, room)

    pub emit-next : (rest' : ℕ) → rest' ≡ bit_xor rest (2 ^ q)
        → Emitting word base at list₀ (set list end (base + q)) rest' (end + 1)
    emit-next rest' f = record {
      sofar = E.sofar ++ ((base + q) ∷ []);
      printed = and_then (omega (arith, lengths rest' f, room)) E.printed
          (record { end = refl; out = write-one list end (base + q) emit-room });
      whole = append_assoc E.sofar ((base + q) ∷ []) (numbers_in base rest')
          ∙ ap (λ l. E.sofar ++ l) (sym (numbers-first rest E.small nonzero q e base rest' f)) ∙ E.whole;
      long = length-set list end (base + q) ∙ E.long;
      small = lt_trans (rest-less rest E.small nonzero q e rest' f) E.small;
    }

  pub emit-end : rest ≡ 0 → Printed (numbers_in base word) at list₀ list end
  emit-end z =
      subst (λ l. Printed l at list₀ list end)
      (sym (append-nil E.sofar) ∙ ap (λ l. E.sofar ++ l) (sym none) ∙ E.whole) E.printed
    where
      none : numbers_in base rest ≡ []
      none = ap (map (λ v. base + v)) (selected-none 64 (bit rest) (λ v l. ap (λ m. bit m v) z ∙ zero_bit v))

-- ---- all words: those before w are written
pub record Written (marks list₀ list : List ℕ) (w end : ℕ) : Type 0 where
  pub upto : w ≤ 512
  pub places : length list₀ ≡ 32768
  pub long : length list ≡ length list₀
  pub printed : Printed (selected (w * 64) (marked marks)) 0 list₀ list end

pub none_written : (marks list : List ℕ) → length list ≡ 32768 → Written marks list list 0 0
unfolding selected
none_written marks list e = record {
  upto = omega arith;
  places = e;
  long = refl;
  printed = record { end = refl; out = write-none list 0 };
}

module _ {marks list₀ list : List ℕ} {w end : ℕ} (W : Written marks list₀ list w end) where
  module _ (more : w < 512) where
    word_more : selected (w * 64 + 64) (marked marks) ≡ selected (w * 64) (marked marks) ++ numbers_in (w * 64)
        (get_or marks w 0)
    unfolding marked
    word_more =
        selected-add (w * 64) 64 (marked marks)
        ∙ ap (λ l. selected (w * 64) (marked marks) ++ map (λ v. w * 64 + v) l)
        (selected-ext 64 (λ v. marked marks (w * 64 + v)) (bit (get_or marks w 0)) at)
      where
        at : (v : ℕ) → v < 64 → bit (get_or marks ((w * 64 + v) / 64) 0) ((w * 64 + v) % 64) ≡ bit (get_or marks w 0) v
        at v l =
            let quotient : (w * 64 + v) / 64 ≡ w = omega arith in
            let remainder : (w * 64 + v) % 64 ≡ v = omega arith in
            ap₂ (λ i q. bit (get_or marks i 0) q) quotient remainder

    pub word_room : end + length (selected 64 (bit (get_or marks w 0))) ≤ length list
    word_room =
        omega (
          arith,
          more,
          W.printed.end,
          W.long,
          W.places,
          ap length word_more
              ∙ length-append (selected (w * 64) (marked marks)) (numbers_in (w * 64) (get_or marks w 0)),
          length-map (selected 64 (bit (get_or marks w 0))) (λ v. w * 64 + v),
          selected-length (w * 64 + 64) (marked marks),
          count-upto (w * 64 + 64) (marked marks),
        )

    pub word-written : {list' : List ℕ} {r : ℕ} → Printed (numbers_in (w * 64) (get_or marks w 0)) end list list' r
        → length list' ≡ length list → Written marks list₀ list' (w + 1) r
    word-written {list'} {r} P e = record {
      upto = omega arith;
      places = W.places;
      long = e ∙ W.long;
      printed = subst (λ l. Printed l 0 list₀ list' r)
          (sym word_more ∙ ap (λ k. selected k (marked marks)) next)
          (and_then (omega (arith, W.printed.end, W.long, word_room)) W.printed P);
    }
      where
        next : w * 64 + 64 ≡ (w + 1) * 64
        next = omega arith

  pub all-written : 512 ≤ w → (list ≡ written (selected 32768 (marked marks)) list₀)
      × (end ≡ length (selected 32768 (marked marks)))
  unfolding print.overwritten
  all-written l = (
    P.out ∙ ap (λ k. t ++ drop k list₀) (zero-add (length t)),
    P.end ∙ zero-add (length t),
  )
    where
      t : List ℕ
      t = selected 32768 (marked marks)

      last : w * 64 ≡ 32768
      last = omega (arith, W.upto, l)

      P : Printed t 0 list₀ list end
      P = subst (λ k. Printed (selected k (marked marks)) 0 list₀ list end) last W.printed

-- ---- the orbit: where the search has changed no place behind its numbers
pub orbit-written : {n g : ℕ} {list marks' list' list'' : List ℕ} {r : ℕ} → Spread n g list marks' list'
    → (list'' ≡ written (selected 32768 (marked marks')) list') × (r ≡ length (selected 32768 (marked marks')))
    → (list'' ≡ written (orbit_list n g) list) × (r ≡ length (orbit_list n g))
orbit-written {n} {g} {list} {marks'} {list'} {list''} {r} S (e, f) =
    (e ∙ ap (λ t. written t list') S.marks ∙ ap (λ l. t ++ l) behind, f ∙ ap length S.marks)
  where
    t : List ℕ
    t = orbit_list n g

    behind : drop (length t) list' ≡ drop (length t) list
    behind =
        ext_get_or 0 (drop (length t) list') (drop (length t) list)
        (length-drop (length t) list' ∙ ap (λ k. k - length t) S.places ∙ sym (length-drop (length t) list))
        (λ i l. get_or-drop (length t) list' i 0 ∙ S.past (length t + i) (omega arith) ∙ sym
        (get_or-drop (length t) list i 0))
