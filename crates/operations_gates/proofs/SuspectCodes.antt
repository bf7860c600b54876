-- Words that have every vertex whose code is odd, or 8 or more: a vertex out of place has such a code.
use mathlib.Core.Bool.{◌&&◌, Bool, false, true, ◌||◌}
use mathlib.Core.List.{List}
use mathlib.Core.Path.{ap, refl, subst, sym, ◌∙◌, ◌≡◌}
use Prim.Native.Nat.{ℕ, ◌≤◌}
use native.Mathlib.Nat.{lt_of_lt_of_le}
use native.Mathlib.Omega.{arith}
use lib.Dec.{leb}
use lib.ListN.{get_or-eq_default, get_or, length}
use borrow.Author.Tests.{le-leb, leb-true}
use Rattle.operations_gates.specs.internal.Suspects.{Marked, suspect}
use Rattle.operations.proofs.UnrefusedRecords.{unrefused-codes, unrefused-long, unrefused-short}
use Rattle.operations.specs.internal.InPlace.{Unrefused, record_in}
use Rattle.words.proofs.BitLaws.{bit_mask, lt-of-bits}
use Rattle.words.specs.Bits.{is_odd}
use Rattle.operations_gates.specs.internal.Watching.{Suspected, Watched}

-- a vertex out of place has such a code
pub out-suspect : (code : ℕ) (b : Bool) → (leb 12 code || (is_odd code || (leb 8 code && b))) ≡ true → suspect code ≡
    true
out-suspect code b h = high (leb 12 code) refl h
  where
    odd : (o e : Bool) → (o || (e && b)) ≡ true → (o || e) ≡ true
    odd true e k = refl
    odd false true k = refl
    odd false false k = k

    large : (o : Bool) → (o || true) ≡ true
    large true = refl
    large false = refl

    high : (t : Bool) → leb 12 code ≡ t → (t || (is_odd code || (leb 8 code && b))) ≡ true → suspect code ≡ true
    high true e k = ap (λ v. is_odd code || v) (le-leb 8 code (omega (arith, leb-true 12 code e))) ∙ large (is_odd code)
    high false e k = odd (is_odd code) (leb 8 code) k

pub suspects-held : (words codes : List ℕ) (all : ℕ) → Unrefused (record_in words codes)
    → Marked codes all → Suspected words codes all
suspects-held words codes all U M =
    let C = unrefused-codes words codes U in
    record { held = λ q l e. M.marked C.0 C.1 q ∙ e }

pub suspects-watched : (words codes : List ℕ) (all : ℕ) → Unrefused (record_in words codes)
    → Marked codes all → Watched words codes all
suspects-watched words codes all U M =
    let C = unrefused-codes words codes U in
    record {
      short = lt-of-bits (length words) all (λ q l. M.marked C.0 C.1 q ∙ ap suspect
          (get_or-eq_default codes 0 (subst (λ m. m ≤ q) (sym (unrefused-long words codes U)) l)));
      seen = λ q l e. (suspects-held words codes all U M).held q l (out-suspect (get_or codes q 0) _ e);
    }

-- where nothing is known of the codes, the word has every vertex
pub all-suspected : (words codes : List ℕ) → Unrefused (record_in words codes)
    → Suspected words codes 0xFFFFFFFFFFFFFFFF
all-suspected words codes U =
    record { held = λ q l e. bit_mask 64 q (lt_of_lt_of_le l (unrefused-short words codes U)) }
