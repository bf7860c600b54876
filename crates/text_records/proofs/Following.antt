-- The loop over the lines of a record's text: up to each line the text is the print of what was read.
use mathlib.Core.Bool.{Bool, false, false≢true, true}
use mathlib.Core.List.{◌++◌, List}
use mathlib.Core.Logic.{inl, inr}
use mathlib.Core.Path.{ap, ap₂, refl, subst, sym, ◌∙◌, ◌≡◌}
use Prim.Native.Nat.{◌%◌, ◌+◌, ◌-◌, ◌<◌, ℕ, ◌≤◌}
use native.Mathlib.Nat.{le_antisymm, mod-eq_of_lt, ne_of_lt}
use native.Mathlib.Numerals.{add-one}
use native.Mathlib.Omega.{arith}
use lib.Dec.{eqb}
use Rattle.std.specs.Cmp.Lexicographic.{pointwise}
use Rattle.std.proofs.lemmas.Slice.Eq.{bytes_eq-Decides}
use lib.ListN.{drop, length, length-append, length-drop, length-set, length-take, set, take}
use lib.Seq.{drop_at, drop-drop, get_or-take, length-take-le, take-add, take_all, take-append_seam, take_at}
use Rattle.buffers.proofs.Filling.{Filled, fill_start, fill_step}
use Rattle.buffers.proofs.Parts.{part-long}
use Rattle.buffers.proofs.Tabulate.{tabulate-is}
use Rattle.buffers.specs.Buffers.{tabulate}
use Rattle.words.proofs.BitLaws.{bit-above, bit-ext∞, bit-word_of, word_of-lt}
use Rattle.words.proofs.Flags.{never_true}
use Rattle.words.proofs.Places.{put_other, put_same}
use Rattle.words.proofs.Sums.{lt-or-ge}
use Rattle.words.specs.Bits.{bit, put, word_of}
use Rattle.text.proofs.RecordForm.{form-text, own-lines}
use Rattle.text.proofs.RecordLines.{text-longer, text-more, text-next}
use Rattle.text.specs.RecordTexts.{
  columns,
  from_line,
  line_read,
  numbered_line,
  numbered_lines,
  numeral,
  qubit_count,
  record_form,
  record_lines_text,
}
use Rattle.text.specs.Text.{record_names, space}
use Rattle.text.specs.declared.records.RecordLine.{RecordLine}
use Rattle.text_records.specs.internal.Reads.{LineOther, LineThere, TextTold}
use Rattle.std.specs.Prelude.{None, Some}
use Rattle.text_records.specs.declared.lines.ReadLine.{ReadLine}

-- ---- the used word, a bit more
marked : (n : ℕ) (f : ℕ → Bool) (r : ℕ) {b : Bool} → b ≡ f n → ((j : ℕ) → bit r j ≡ put (bit (word_of n f)) n b j) →
    r ≡ word_of (n + 1) f
marked n f r {b} e h = bit-ext∞ r (word_of (n + 1) f) each
  where
    each : (j : ℕ) → bit r j ≡ bit (word_of (n + 1) f) j
    each j = elim (lt-or-ge j n) [
      | inl l ↦ h j ∙ put_other (bit (word_of n f)) n b j (ne_of_lt l) ∙ bit-word_of n f j l
          ∙ sym (bit-word_of (n + 1) f j (omega arith))
      | inr k ↦ elim (lt-or-ge n j) [
        | inl l ↦ h j ∙ put_other (bit (word_of n f)) n b j (λ z. absurd (omega (arith, z, l)))
            ∙ bit-above n (word_of n f) (word_of-lt n f) j k
            ∙ sym (bit-above (n + 1) (word_of (n + 1) f) (word_of-lt (n + 1) f) j (omega arith))
        | inr l ↦ let here : j ≡ n = le_antisymm l k in
            ap (bit r) here ∙ h n ∙ put_same (bit (word_of n f)) n b ∙ e
            ∙ sym (bit-word_of (n + 1) f n (omega arith)) ∙ ap (bit (word_of (n + 1) f)) (sym here)
      ]
    ]

-- ---- the loop
-- the first lines are followed up to a place, and those of the first 64 are kept
pub record Followed (t neighbours codes : List ℕ) (used count at : ℕ) : Type 0 where
  pub upto : take at t ≡ record_lines_text count (line_read t)
  pub from : drop at t ≡ from_line t count
  pub inside : at ≤ length t
  pub fewer : count ≤ at
  pub neighbours-long : length neighbours ≡ 64
  pub codes-long : length codes ≡ 64
  pub words : count ≤ 64 → Filled 64 (λ q. (line_read t q).word) neighbours count
  pub marks : count ≤ 64 → Filled 64 (λ q. (line_read t q).code) codes count
  pub used-word : count ≤ 64 → used ≡ word_of count (λ q. (line_read t q).used)

-- the test of the names
module _ (t : List ℕ) {r : Bool} (e : r ≡ pointwise eqb record_names (take 27 t)) where
  pub names-there : r ≡ true → take 27 t ≡ record_names
  names-there same = sym ((bytes_eq-Decides record_names (take 27 t)).0 (sym e ∙ same))

  pub names-other : r ≡ false → take 27 t ≡ record_names → ⊥
  names-other differs h = false≢true (sym differs ∙ e ∙ (bytes_eq-Decides record_names (take 27 t)).1 (sym h))

module _ (t : List ℕ) where
  abbrev L : ℕ → RecordLine
  L = line_read t

  -- the names
  pub none-followed : take 27 t ≡ record_names → (nb cs : List ℕ) → length nb ≡ 64 → length cs ≡ 64 →
      Followed t nb cs 0 0 27
  unfolding record_lines_text numbered_lines from_line word_of
  none-followed e nb cs ln lc =
      record {
        upto = e;
        from = refl;
        inside = omega (arith, ap length e, length-take 27 t);
        fewer = omega arith;
        neighbours-long = ln;
        codes-long = lc;
        words = λ few. fill_start 64 _ nb ln;
        marks = λ few. fill_start 64 _ cs lc;
        used-word = λ few. refl;
      }

  pub names-missing : (take 27 t ≡ record_names → ⊥) → record_form t ≡ false
  unfolding record_lines_text
  names-missing h =
      never_true (record_form t) (λ form. h (ap (take 27) (form-text t form)
      ∙ take_at record_names (numbered_lines (qubit_count t) L) 27 refl))

  module _ {nb cs : List ℕ} {used count at : ℕ} (F : Followed t nb cs used count at) where
    -- the part that is lent for the next line
    pub rest-is : take (length t - at) (drop at t) ≡ from_line t count
    rest-is = take_all (length t - at) (drop at t) (omega (arith, length-drop at t)) ∙ F.from

    -- a text of the form that goes on has one more line
    line-follows : at < length t → record_form t ≡ true →
        take (length (numbered_line count (L count))) (from_line t count) ≡ numbered_line count (L count)
    line-follows l form = elim (lt-or-ge count (qubit_count t)) [
      | inl more ↦ let N = text-next L more in
          ap (take (length (numbered_line count (L count)))) (sym F.from
          ∙ ap (drop at) (form-text t form ∙ N.text)
          ∙ drop_at (record_lines_text count L) (numbered_line count (L count) ++ N.rest) at
          (sym (ap length F.upto) ∙ length-take-le at t F.inside))
          ∙ take-append_seam (numbered_line count (L count)) N.rest
      | inr few ↦ absurd (omega (
        arith,
        l,
        ap length (form-text t form),
        text-longer L few,
        ap length F.upto,
        length-take-le at t F.inside,
      ))
    ]

    module _ (l : at < length t) where
      pub line-missing : (r : ReadLine) → LineOther count (from_line t count) r → record_form t ≡ false
      line-missing r T =
          never_true (record_form t) (λ form. T.other
          (ap (λ k. take k (from_line t count)) T.size ∙ line-follows l form))

      module _ (r : ReadLine) (T : LineThere count (from_line t count) r) where
        size-inside : at + r.size ≤ length t
        size-inside =
            omega (
              arith,
              F.inside,
              l,
              T.size,
              ap length (T.there),
              length-take r.size (from_line t count),
              ap length F.from,
              length-drop at t,
            )

        size-some : 0 < r.size
        unfolding numbered_line
        size-some =
            omega (
              arith,
              T.size,
              length-append (numeral count ++ space) (columns (L count)),
              length-append (numeral count) space,
            )

        pub place-below : count % 64 < 64
        place-below = omega arith

        pub next-inside : (at + r.size ≤ length t) × (0 < r.size)
        next-inside = (size-inside, size-some)

        pub one-followed : {used' : ℕ} → ((j : ℕ) → bit used' j ≡ put (bit used) (count % 64) r.line.used j) →
            Followed t (set nb (count % 64) r.line.word) (set cs (count % 64) r.line.code) used' (count + 1)
            (at + r.size)
        unfolding from_line
        one-followed {used'} h =
            record {
              upto = take-add at r.size t ∙ ap₂ ◌++◌ F.upto (ap (take r.size) F.from ∙ T.there)
                  ∙ sym (text-more L count) ∙ ap (λ k. record_lines_text k L) (sym (add-one count));
              from = sym (drop-drop r.size at t) ∙ ap₂ drop T.size F.from
                  ∙ ap (from_line t) (sym (add-one count));
              inside = size-inside;
              fewer = omega (arith, F.fewer, size-some);
              neighbours-long = length-set nb (count % 64) r.line.word ∙ F.neighbours-long;
              codes-long = length-set cs (count % 64) r.line.code ∙ F.codes-long;
              words = λ few. subst (λ p. Filled 64 (λ q. (L q).word) (set nb p r.line.word) (count + 1))
                  (sym (here few))
                  (fill_step 64 _ nb count r.line.word (F.words (omega arith)) (omega arith)
                  (ap (λ v. v.word) T.line));
              marks = λ few. subst (λ p. Filled 64 (λ q. (L q).code) (set cs p r.line.code) (count + 1))
                  (sym (here few))
                  (fill_step 64 _ cs count r.line.code (F.marks (omega arith)) (omega arith)
                  (ap (λ v. v.code) T.line));
              used-word = λ few. marked count (λ q. (L q).used) used' (ap (λ v. v.used) T.line)
                  (λ j. h j ∙ ap₂ (λ w p. put (bit w) p r.line.used j) (F.used-word (omega arith)) (here few));
            }
          where
            here : count + 1 ≤ 64 → count % 64 ≡ count
            here few = mod-eq_of_lt (omega arith)

    -- the end of the text
    part_filled : (f : ℕ → ℕ) (array : List ℕ) → count ≤ 64 → Filled 64 f array count → take count array ≡ tabulate
        count f
    part_filled f array few P =
        tabulate-is count f (take count array) (part-long count array few P.long)
        (λ i k. get_or-take count array i 0 k ∙ P.done i k)

    pub all-followed : length t ≤ at →
        TextTold t (Some (record { count = count; neighbours = nb; codes = cs; used = used }))
    all-followed l =
        let O = own-lines t count (sym (take_all at t l) ∙ F.upto) in
        record {
          form = sym O.0;
          lines = record {
            count = sym O.1;
            neighbours = λ few. part_filled _ nb few (F.words few);
            codes = λ few. part_filled _ cs few (F.marks few);
            used = λ few. F.used-word few;
          };
        }

-- a text without the form
pub told_none : (t : List ℕ) → record_form t ≡ false → TextTold t None
told_none t h = record { form = sym h; lines = tt }
