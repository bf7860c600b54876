-- What it means that no line of the measurement of a row holds.
use mathlib.Core.Bool.{◌&&◌, Bool, false, not, true, ◌||◌}
use mathlib.Core.Logic.{◌↔◌}
use mathlib.Core.Path.{ap, refl, sym, ◌∙◌, ◌≡◌}
use Prim.Native.Nat.{◌<◌, ◌^◌, ℕ}
use lib.Bits.{bit_and, bit_or, or_lt}
use lib.Dec.{eqb, leb}
use borrow.Author.Tests.{eqb-false, eqb-true, leb-false}
use Rattle.buffers.proofs.Fitting.{decides, fits-at, is-first, none-fits-of, none-holds, skips}
use Rattle.buffers.specs.Answers.{here, later, none}
use Rattle.buffers.specs.Refusals.{first_fitting}
use Rattle.operations.proofs.UsedPassing.{lines-pass}
use Rattle.operations.proofs.UsedStaying.{used-below}
use Rattle.operations.specs.Used.{UsedRecord, used_stray, used_wrong}
use Rattle.record.proofs.AcceptedRecords.{accepted-record}
use Rattle.record.specs.Accepted.{AcceptedRecord}
use Rattle.record.specs.Lent.{record_codes, record_lines}
use Rattle.stabilizer.proofs.Verdicts.{some-bit}
use Rattle.words.proofs.BitLaws.{and-lt-right, bit-and, bit-or, zero_bit}
use Rattle.words.proofs.Flags.{neither}
use Rattle.words.proofs.SearchLaws.{some-false, some_in, some-none}
use Rattle.words.specs.Bits.{bit}
use Rattle.words.specs.Search.{some}
use Rattle.parity.specs.RowLines.{acts_on_used, measure_row_lines, row_arguments}

-- the arguments are in order
pub record RowReady (u : UsedRecord) (z x b : ℕ) : Type 0 where
  pub held : AcceptedRecord u.held
  pub no_stray : used_stray u ≡ false
  pub none-wrong : used_wrong u ≡ false
  pub z-below : z < 2 ^ u.held.n
  pub x_below : x < 2 ^ u.held.n
  pub bit_below : b < 2

-- the row has I at each used qubit
abbrev pub IdleOnUsed : UsedRecord → ℕ → ℕ → Type 0
IdleOnUsed u z x = (q : ℕ) → bit u.used q ≡ true → (bit z q ≡ false) × (bit x q ≡ false)

module _ (u : UsedRecord) (z x b : ℕ) where
  pub row-ready : first_fitting (row_arguments u z x b) ≡ 0 → RowReady u z x b
  row-ready e =
      let bound = 2 ^ u.held.n in
      let h = (lines-pass u false _ (leb 2 b)).0 e in
      let five = neither (used_stray u) _ h.1 in
      let both = neither (leb bound z) (leb bound x) five.1 in
      let six = (none-holds (record_lines u.held false (leb 2 b)) refl h.0).1.1.1.0 in
      record {
        held = accepted-record u.held false (leb 2 b) h.0;
        no_stray = five.0;
        none-wrong = h.2;
        z-below = leb-false bound z both.0;
        x_below = leb-false bound x both.1;
        bit_below = leb-false 2 b (neither (record_codes u.held) _ six).1;
      }

  -- none of the lines before 16, then 16
  pub row-early : {k : ℕ} → k ≡ first_fitting (row_arguments u z x b) → k ≡ 0 → acts_on_used u z x ≡ true
      → 16 ≡ first_fitting (measure_row_lines u z x b)
  row-early e h t = decides (row_arguments u z x b) refl e h (here t)

  pub row-accepted : {k : ℕ} → k ≡ first_fitting (row_arguments u z x b) → k ≡ 0 → acts_on_used u z x ≡ false
      → 0 ≡ first_fitting (measure_row_lines u z x b)
  row-accepted e h t = decides (row_arguments u z x b) refl e h (later t none)

  -- and back: what 0 and 16 say
  pub row-passes : first_fitting (measure_row_lines u z x b) ≡ 0
      → (first_fitting (row_arguments u z x b) ≡ 0) × (acts_on_used u z x ≡ false)
  row-passes e =
      let h = none-holds (measure_row_lines u z x b) refl e in (
        none-fits-of (row_arguments u z x b) (h.0, (h.1.0, (h.1.1.0, (h.1.1.1.0, (h.1.1.1.1.0, tt))))),
        h.1.1.1.1.1.0,
      )

  pub row-sixteen : (first_fitting (measure_row_lines u z x b) ≡ 16)
      ↔ ((first_fitting (row_arguments u z x b) ≡ 0) × (acts_on_used u z x ≡ true))
  row-sixteen = (
    (λ e. let p = skips (row_arguments u z x b) 16 refl e (fits-at (measure_row_lines u z x b) refl) in
        (none-fits-of (row_arguments u z x b) p.0, is-first p.1 refl e)),
    (λ h. sym (row-early (sym h.0) refl h.1)),
  )

  -- no used qubit has a letter
  pub idle-on-used : acts_on_used u z x ≡ false → used_stray u ≡ false → used_wrong u ≡ false → IdleOnUsed u z x
  unfolding acts_on_used
  idle-on-used e s w q m =
      neither (bit z q) (bit x q) (ap (λ d. d && (bit z q || bit x q)) (sym m)
      ∙ some-false u.held.n _ e q (used-below u w s q m))

  pub idle-passes : IdleOnUsed u z x → acts_on_used u z x ≡ false
  unfolding acts_on_used
  idle-passes h = some-none u.held.n _ (λ q l. at q (bit u.used q) refl)
    where
      at : (q : ℕ) (d : Bool) → bit u.used q ≡ d → (d && (bit z q || bit x q)) ≡ false
      at q false m = refl
      at q true m = ap (λ a. a || bit x q) (h q m).0 ∙ (h q m).1

-- the test on words: the used word and the union of the row's two
module _ (u : UsedRecord) (z x : ℕ) (hz : z < 2 ^ u.held.n) (hx : x < 2 ^ u.held.n) where
  abbrev both : ℕ
  both = bit_and u.used (bit_or z x)

  both-bit : (q : ℕ) → bit both q ≡ (bit u.used q && (bit z q || bit x q))
  both-bit q = bit-and u.used (bit_or z x) q ∙ ap (λ b. bit u.used q && b) (bit-or z x q)

  pub acts-by-word : not (eqb (bit_and u.used (bit_or z x)) 0) ≡ acts_on_used u z x
  unfolding acts_on_used
  acts-by-word = go (eqb both 0) refl
    where
      go : (d : Bool) → eqb both 0 ≡ d → not d ≡ some u.held.n (λ q. bit u.used q && (bit z q || bit x q))
      go true e = sym (some-none u.held.n _ (λ q l. sym (both-bit q) ∙ ap (λ v. bit v q) (eqb-true both 0 e) ∙
          zero_bit q))
      go false e = let s = some-bit u.held.n both (and-lt-right u.held.n u.used (bit_or z x) (or_lt u.held.n z x hz hx))
          (eqb-false both 0 e) in sym (some_in u.held.n _ s.0 s.1 (sym (both-bit s.0) ∙ s.2))
