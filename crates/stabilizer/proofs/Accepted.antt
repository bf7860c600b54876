-- What it means that a list is accepted.
use mathlib.Core.Bool.{Bool, false, ◌||◌}
use mathlib.Core.List.{List}
use mathlib.Core.Path.{ap, ap₂, subst, sym, ◌∙◌, ◌≡◌}
use Prim.Native.Nat.{◌<◌, ◌^◌, ℕ, ◌≤◌}
use native.Mathlib.Decide.{ℕ_discrete}
use lib.Dec.{lit<}
use lib.ListN.{get_or, length}
use Rattle.buffers.proofs.Lines.{
  Numbered,
  more-accepted,
  more-refused,
  none-fits,
  none-of-all,
  not-held,
  passed,
}
use Rattle.buffers.proofs.Reaching.{below_all}
use Rattle.buffers.specs.Refusals.{first_fitting, reaching}
use Rattle.pauli.proofs.PhaseLaws.{minus-real}
use Rattle.words.proofs.Flags.{neither}
use Rattle.words.specs.Bits.{is_odd}
use Rattle.stabilizer.proofs.EarlyLines.{FormPassed, form-numbered, form-passed, list-lengths-are}
use Rattle.stabilizer.proofs.Pairs.{word-within}
use Rattle.stabilizer.proofs.SharedTests.{below-passes, count-passes, counted, length-passes}
use Rattle.stabilizer.proofs.Verdicts.{independent-exactly, not-clashing, not-dependent}
use Rattle.stabilizer.specs.Groups.{Commuting, Proper, Within}
use Rattle.stabilizer.specs.Lists.{
  GeneratorList,
  dependent,
  early_lines,
  form_lines,
  list_lengths,
  list_lines,
  rows,
}

-- ---- accepted lists
-- lines 2, 4, 5 and 6 do not hold
pub record WellFormed (l : GeneratorList) : Type 0 where
  pub positive : 1 ≤ l.n
  pub upto : l.n ≤ 64
  pub signs-length : length l.signs ≡ l.n
  pub z-length : length l.z ≡ l.n
  pub x-length : length l.x ≡ l.n
  pub signs-below : (j : ℕ) → j < l.n → get_or l.signs j 0 < 2
  pub z-below : (j : ℕ) → j < l.n → get_or l.z j 0 < 2 ^ l.n
  pub x_below : (j : ℕ) → j < l.n → get_or l.x j 0 < 2 ^ l.n

-- .. nor line 9
pub record EarlyAccepted (l : GeneratorList) : Type 0 where
  pub formed : WellFormed l
  pub commuting : Commuting l.n l.n (rows l)
  pub within : (j : ℕ) → j < l.n → Within l.n (rows l j)

-- .. nor line 10
pub record AcceptedList (l : GeneratorList) : Type 0 where
  pub formed : WellFormed l
  pub proper : Proper l.n (rows l)

pub well-formed : (l : GeneratorList) (others : Bool) → FormPassed l others → WellFormed l
well-formed l others P =
    let lengths = list-lengths-are l (neither (list_lengths l) others P.lengths).0 in
    let strays = neither (reaching (2 ^ l.n) l.z) (reaching (2 ^ l.n) l.x) P.strays in
    let count = counted l.n P.count in
    record {
      positive = count.0;
      upto = count.1;
      signs-length = lengths.0;
      z-length = lengths.1;
      x-length = lengths.2;
      signs-below = λ j k. below_all 2 l.signs P.signs j (subst (λ m. j < m) (sym lengths.0) k);
      z-below = λ j k. below_all (2 ^ l.n) l.z strays.0 j (subst (λ m. j < m) (sym lengths.1) k);
      x_below = λ j k. below_all (2 ^ l.n) l.x strays.1 j (subst (λ m. j < m) (sym lengths.2) k);
    }

pub formed-within : (l : GeneratorList) → WellFormed l → (j : ℕ) → j < l.n → Within l.n (rows l j)
formed-within l F j k =
    word-within l.n _ (get_or l.z j 0) (get_or l.x j 0) (F.z-below j k) (F.x_below j k)

pub early-form : (l : GeneratorList) (others : Bool) → first_fitting (early_lines l others) ≡ 0 → FormPassed l others
early-form l others e = form-passed l others (none-of-all (form_lines l others) _ (form-numbered l others) e).0

pub early-accepted : (l : GeneratorList) (others : Bool) → first_fitting (early_lines l others) ≡ 0
    → EarlyAccepted l
early-accepted l others e =
    let h9 = (none-of-all (form_lines l others) _ (form-numbered l others) e).1 in
    let F = well-formed l others (early-form l others e) in
    record {
      formed = F;
      commuting =
          record {
            signed = λ j k. minus-real (is_odd (get_or l.signs j 0));
            commute = (not-clashing l.n (rows l)).0 (not-held 8 _ _ h9).0;
          };
      within = formed-within l F;
    }

-- the early lines have numbers other than 0
pub early-numbered : (l : GeneratorList) (others : Bool) → Numbered (early_lines l others)
early-numbered l others = (lit< tt, (lit< tt, (lit< tt, (lit< tt, (lit< tt, tt)))))

-- a list that is not refused has no early line, and is not dependent
pub list-passed : (l : GeneratorList) (others : Bool) → first_fitting (list_lines l others) ≡ 0 →
    (first_fitting (early_lines l others) ≡ 0) × (dependent l.n (rows l) ≡ false)
list-passed l others e = go (ℕ_discrete (first_fitting (early_lines l others)) 0)
  where
    go : Dec (first_fitting (early_lines l others) ≡ 0) →
        (first_fitting (early_lines l others) ≡ 0) × (dependent l.n (rows l) ≡ false)
    go (yes h) = (
      h,
      (not-held 9 _ _ (sym (more-accepted (early_lines l others) _ (early-numbered l others) h) ∙ e)).0,
    )
    go (no h) = absurd (h (sym (more-refused (early_lines l others) _ h) ∙ e))

pub accepted-list : (l : GeneratorList) (others : Bool) → first_fitting (list_lines l others) ≡ 0
    → AcceptedList l
accepted-list l others e =
    let h = list-passed l others e in
    let E = early-accepted l others h.0 in
    record {
      formed = E.formed;
      proper =
          record {
            commuting = E.commuting;
            independent = not-dependent l.n (rows l) h.1;
            within = E.within;
          };
    }

-- ---- and back: such a list is refused by no line of its own
pub formed-passes : (l : GeneratorList) → WellFormed l → Proper l.n (rows l)
    → first_fitting (list_lines l false) ≡ 0
formed-passes l F P =
    passed 2 _ (count-passes l.n F.positive F.upto)
    ∙ passed 4 _ (ap (λ b. b || false) lengths)
    ∙ passed 5 _ (ap₂ ◌||◌ (words l.z F.z-length F.z-below)
    (words l.x F.x-length F.x_below))
    ∙ passed 6 _ (below-passes 2 l.signs
    (λ j k. F.signs-below j (subst (λ m. j < m) F.signs-length k)))
    ∙ passed 9 _ ((not-clashing l.n (rows l)).1 P.commuting.commute)
    ∙ passed 10 _ ((independent-exactly l.n (rows l)).1 P.independent) ∙ none-fits
  where
    lengths : list_lengths l ≡ false
    lengths = ap₂ ◌||◌ (length-passes l.n l.signs F.signs-length)
        (ap₂ ◌||◌ (length-passes l.n l.z F.z-length) (length-passes l.n l.x F.x-length))

    words : (ws : List ℕ) → length ws ≡ l.n → ((j : ℕ) → j < l.n → get_or ws j 0 < 2 ^ l.n) →
        reaching (2 ^ l.n) ws ≡ false
    words ws e h = below-passes (2 ^ l.n) ws (λ j k. h j (subst (λ m. j < m) e k))
