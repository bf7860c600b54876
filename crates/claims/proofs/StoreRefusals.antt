-- 17 and 18: exactly where no earlier line holds and the name is not held, or each place holds another name.
use mathlib.Core.Bool.{Bool, cond, false, not, true, ◌||◌}
use mathlib.Core.Path.{◌∙◌, ◌≡◌, ap, refl, sym}
use Prim.Native.Nat.{ℕ}
use native.Mathlib.Omega.{arith}
use borrow.Author.Tests.{not-true}
use Rattle.buffers.specs.Refusals.{first_fitting}
use Rattle.buffers.proofs.Fitting.{decides, fits-at, is-first, none-fits-of, skips}
use Rattle.buffers.specs.Answers.{here}
use Rattle.store.proofs.Lookups.{found_nowhere}
use Rattle.store.specs.Places.{Store, found, holds_name, nothing, place_at, place_of}
use Rattle.store.specs.StoreLines.{holds_line, named_lines, of_record, record_tests, save_lines, store_lines}
use Rattle.operations.specs.Used.{UsedRecord}
use Rattle.claims.specs.StoreDemand.{FullStore, NotHeld}

nothing-held : (st : Store) (name : ℕ) (b : Bool)
    → cond b (found (place_at st (place_of 8 st.heads name))) nothing ≡ nothing → b ≡ false
nothing-held st name true e = let z : ◌≡◌ {A = ℕ} 0 1 = cc in absurd (omega (arith, z))
nothing-held st name false e = refl

pub not-held-exactly : (name : ℕ) (st : Store) (others : Bool) {r : ℕ} → r ≡ first_fitting (named_lines 8 name st others)
    → NotHeld name st others r
not-held-exactly name st others e = (
  (λ z. let h = skips (store_lines 8 st others) 17 refl z (fits-at (named_lines 8 name st others) e) in (
    none-fits-of (store_lines 8 st others) h.0,
    found_nowhere 8 st name (not-true (holds_name 8 st.heads name) (is-first h.1 refl z)),
  )),
  (λ h. e ∙ sym (decides (store_lines 8 st others) refl (sym h.0) refl
      (here (ap not (nothing-held st name (holds_name 8 st.heads name) h.1))))),
)

pub full-exactly : (u : UsedRecord) (name : ℕ) (st : Store) {r : ℕ} → r ≡ first_fitting (save_lines 8 u name st)
    → FullStore u name st r
full-exactly u name st e = (
  (λ z. let h = skips (record_tests (λ m. of_record u m || holds_line m (store_lines 8 st false))) 18 refl z
      (fits-at (save_lines 8 u name st) e) in (
        none-fits-of (record_tests (λ m. of_record u m || holds_line m (store_lines 8 st false))) h.0,
        is-first h.1 refl z,
      )),
  (λ h. e ∙ sym (decides (record_tests (λ m. of_record u m || holds_line m (store_lines 8 st false))) refl (sym h.0) refl
      (here h.1))),
)
