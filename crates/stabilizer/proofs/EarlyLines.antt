-- The number that a list is refused with before any elimination, from the answers of the tests in their order.
use mathlib.Core.Bool.{Bool, false, ◌||◌}
use mathlib.Core.Path.{ap₂, refl, sym, ◌∙◌, ◌≡◌}
use Prim.Native.Nat.{◌^◌, ℕ, ◌≤◌}
use lib.Dec.{lit<}
use lib.ListN.{length}
use Rattle.buffers.proofs.Lines.{Numbered, not-held}
use Rattle.buffers.specs.Refusals.{bad_count, first_fitting, other_than, reaching}
use Rattle.pauli.specs.Pauli.{anticommute}
use Rattle.words.proofs.Flags.{neither}
use Rattle.stabilizer.proofs.Pairs.{letters_of}
use Rattle.stabilizer.proofs.SharedTests.{counted, has-length}
use Rattle.stabilizer.specs.Lists.{
  GeneratorList,
  clashing,
  form_lines,
  list_lengths,
  list_signs,
  list_stray,
  rows,
}

-- what a test that answers v says, where v is b
pub says : {v b t : Bool} → v ≡ b → v ≡ t → b ≡ t
says e h = sym e ∙ h

pub either-says : {v w b c t : Bool} → v ≡ b → w ≡ c → (v || w) ≡ t → (b || c) ≡ t
either-says e f h = sym (ap₂ ◌||◌ e f) ∙ h

-- commutation is a matter of the letters
pub clashing-letters : (l : GeneratorList)
    → clashing l.n (letters_of l.z l.x) ≡ clashing l.n (rows l)
unfolding clashing anticommute
clashing-letters l = refl

-- these lines have numbers other than 0
pub form-numbered : (l : GeneratorList) (others : Bool) → Numbered (form_lines l others)
form-numbered l others = (lit< tt, (lit< tt, (lit< tt, (lit< tt, tt))))

-- the lines passed over, one by one
pub record FormPassed (l : GeneratorList) (others : Bool) : Type 0 where
  pub count : bad_count l.n ≡ false
  pub lengths : (list_lengths l || others) ≡ false
  pub strays : list_stray l ≡ false
  pub signs : list_signs l ≡ false

pub form-passed : (l : GeneratorList) (others : Bool) → first_fitting (form_lines l others) ≡ 0 → FormPassed l others
form-passed l others e =
    let h2 = not-held 1 _ _ e in
    let h4 = not-held 3 _ _ h2.1 in
    let h5 = not-held 4 _ _ h4.1 in
    let h6 = not-held 5 _ _ h5.1 in
    record { count = h2.0; lengths = h4.0; strays = h5.0; signs = h6.0 }

-- ---- what the test of line 9 asks for
-- line 4 does not hold: each buffer has n places
pub list-lengths-are : (l : GeneratorList) → list_lengths l ≡ false →
    (length l.signs ≡ l.n) × (length l.z ≡ l.n) × (length l.x ≡ l.n)
list-lengths-are l e =
    let h = neither (other_than l.n l.signs) (other_than l.n l.z || other_than l.n l.x) e in
    let k = neither (other_than l.n l.z) (other_than l.n l.x) h.1 in (
      has-length l.n l.signs h.0,
      has-length l.n l.z k.0,
      has-length l.n l.x k.1,
    )

-- what the test of line 9 asks for, where no line before it holds
pub clash-tested : (l : GeneratorList) (others : Bool) (k : ℕ) → k ≡ first_fitting (form_lines l others) → k ≡ 0 →
    ((l.n ≤ 64) × (length l.z ≡ l.n) × (length l.x ≡ l.n))
    × ((reaching (2 ^ l.n) l.z ≡ false) × (reaching (2 ^ l.n) l.x ≡ false))
clash-tested l others k e z =
    let P = form-passed l others (sym e ∙ z) in
    let lengths = list-lengths-are l (neither (list_lengths l) others P.lengths).0 in
    (((counted l.n P.count).1, lengths.1, lengths.2), neither _ _ P.strays)
