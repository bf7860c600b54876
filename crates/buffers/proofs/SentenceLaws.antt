-- Lines and sentences: where each test decides its sentence, the first fitting line has the number of the first true
-- one.
use mathlib.Core.Bool.{◌&&◌, Bool, false, false≢true, not, or-false, true, true≢false, ◌||◌}
use mathlib.Core.List.{◌++◌, List, [], ◌∷◌}
use mathlib.Core.Logic.{inl, inr, ◌↔◌, ◌⊎◌}
use mathlib.Core.Path.{ap, ap₂, refl, sym, ◌∙◌, ◌≡◌}
use Prim.Native.Nat.{◌<◌, ◌^◌, ◌≤◌, suc, ℕ}
use native.Mathlib.Nat.{lt_irrefl, lt_of_lt_of_le}
use native.Mathlib.Omega.{arith}
use lib.Dec.{eqb, leb, ltb}
use lib.ListN.{get_or, length}
use borrow.Author.Tests.{eq-eqb, eqb-true, le-leb, leb-false, leb-true, lt-ltb, ltb-true, not-true}
use Rattle.words.proofs.BitLaws.{bit-above, lt-of-bits, lt-pow}
use Rattle.words.proofs.Flags.{both_true, either, never_true}
use Rattle.words.proofs.SearchLaws.{some-false, some_in, some-true}
use Rattle.words.proofs.Sums.{lt-or-ge}
use Rattle.words.specs.Bits.{bit}
use Rattle.words.specs.Search.{first, some}
use Rattle.buffers.proofs.Lines.{fits, none-fits, passed}
use Rattle.buffers.specs.Refusals.{Refusal, bad_count, first_fitting, line, other_than, reaching}
use Rattle.buffers.specs.Sentences.{
  BadCount,
  FirstTrue,
  OtherLength,
  Sentence,
  SomeAbove,
  SomeStray,
  Stray,
  sentence,
}

-- the test is true exactly if the sentence is
abbrev pub Decides : Bool → Type 0 → Type 0
Decides b P = (b ≡ true) ↔ P

-- a test that is true, and one that is not
by-case : (b : Bool) → (b ≡ true) ⊎ (b ≡ false)
by-case true = inl refl
by-case false = inr refl

not_so : {b : Bool} {P : Type 0} → Decides b P → b ≡ false → P → ⊥
not_so D e p = true≢false (sym (D.1 p) ∙ e)

-- ---- lists of both
-- line after line: the same number, and the test decides the sentence, where no line before holds
abbrev pub Matches : List Refusal → List Sentence → Type 0
Matches [] [] = Unit
Matches [] (s ∷ ss) = ⊥
Matches (l ∷ ls) [] = ⊥
Matches (l ∷ ls) (s ∷ ss) =
    (l.number ≡ s.number) × (Decides l.holds s.says × (l.holds ≡ false → Matches ls ss))

pub first-true : (ls : List Refusal) (ss : List Sentence) → Matches ls ss → {r : ℕ} → r ≡ first_fitting ls
    → FirstTrue ss r
first-true [] [] M e = e ∙ none-fits
first-true [] (s ∷ ss) M e = absurd M
first-true (l ∷ ls) [] M e = absurd M
first-true (l ∷ ls) (s ∷ ss) M {r} e = elim (by-case l.holds) [
  | inl h ↦ inl (M.1.0.0 h, e ∙ fits l.number ls h ∙ M.0)
  | inr h ↦ inr (not_so M.1.0 h, first-true ls ss (M.1.1 h) (e ∙ passed l.number ls h))
]

-- more lines after these, which are looked at where none of these holds
pub and_then : (ls ms : List Refusal) (ss ts : List Sentence) → Matches ls ss
    → (first_fitting ls ≡ 0 → Matches ms ts) → Matches (ls ++ ms) (ss ++ ts)
and_then [] ms [] ts M more = more none-fits
and_then [] ms (s ∷ ss) ts M more = absurd M
and_then (l ∷ ls) ms [] ts M more = absurd M
and_then (l ∷ ls) ms (s ∷ ss) ts M more = (
  M.0,
  (M.1.0, λ h. and_then ls ms ss ts (M.1.1 h) (λ z. more (passed l.number ls h ∙ z))),
)

-- one more line
pub and-line : (ls : List Refusal) (ss : List Sentence) (k : ℕ) {b : Bool} {P : Type 0} → Matches ls ss
    → (first_fitting ls ≡ 0 → Decides b P) → Matches (ls ++ (line k b ∷ [])) (ss ++ (sentence k P ∷ []))
and-line ls ss k {b} {P} M D = and_then ls (line k b ∷ []) ss (sentence k P ∷ []) M (λ e. (refl, (D e, λ h. tt)))

-- ---- tests made of others
pub or-decides : {a b : Bool} {P Q : Type 0} → Decides a P → Decides b Q → Decides (a || b) (P ⊎ Q)
or-decides {a} {b} D E = (
  (λ e. elim (either a b e) [
    | inl h ↦ inl (D.0 h)
    | inr h ↦ inr (E.0 h)
  ]),
  (λ s. elim s [
    | inl x ↦ ap (λ v. v || b) (D.1 x)
    | inr y ↦ last a (E.1 y)
  ]),
)
  where
    last : (a : Bool) → b ≡ true → (a || b) ≡ true
    last false e = e
    last true e = refl

-- a test that never holds says nothing
pub or-none : {a : Bool} {P : Type 0} → Decides a P → Decides (a || false) P
or-none {a} D = ((λ e. D.0 (sym (or-false a) ∙ e)), (λ x. or-false a ∙ D.1 x))

pub never : Decides false ⊥
never = (false≢true, absurd)

pub and-decides : {a b : Bool} {P Q : Type 0} → Decides a P → Decides b Q → Decides (a && b) (P × Q)
and-decides {a} {b} D E = (
  (λ e. let h = both_true a b e in (D.0 h.0, E.0 h.1)),
  (λ h. ap₂ ◌&&◌ (D.1 h.0) (E.1 h.1)),
)

pub not-decides : {a : Bool} {P : Type 0} → Decides a P → Decides (not a) (P → ⊥)
not-decides {a} D = ((λ e. not_so D (not-true a e)), (λ h. ap not (never_true a (λ e. h (D.0 e)))))

pub itself : {a : Bool} → Decides a (a ≡ true)
itself = ((λ e. e), (λ e. e))

-- ---- tests of numbers
pub at_most : (a b : ℕ) → Decides (leb a b) (a ≤ b)
at_most a b = (leb-true a b, le-leb a b)

pub above : (a b : ℕ) → Decides (ltb a b) (a < b)
above a b = (ltb-true a b, lt-ltb a b)

-- the same for a number and the next
pub from : (a b : ℕ) → Decides (leb (suc a) b) (a < b)
from a b = ((λ e. omega (arith, leb-true (suc a) b e)), (λ h. le-leb (suc a) b (omega (arith, h))))

pub equal : (a b : ℕ) → Decides (eqb a b) (a ≡ b)
equal a b = (eqb-true a b, eq-eqb a b)

pub bad-count : (n : ℕ) → Decides (bad_count n) (BadCount n)
bad-count n = or-decides (equal n 0) (above 64 n)

pub other_length : (k : ℕ) (buffer : List ℕ) → Decides (other_than k buffer) (OtherLength k buffer)
other_length k buffer = not-decides (equal (length buffer) k)

-- ---- tests over a buffer
pub some-decides : (b : ℕ) (f : ℕ → Bool) (P : ℕ → Type 0) → ((j : ℕ) → Decides (f j) (P j))
    → Decides (some b f) ((j : ℕ) × (j < b) × P j)
some-decides b f P D = (
  (λ e. let F = some-true b f e in (first b f, F.below, (D (first b f)).0 F.passes)),
  (λ h. some_in b f h.0 h.1 ((D h.0).1 h.2)),
)

pub some-above : (k : ℕ) (buffer : List ℕ) → Decides (reaching (suc k) buffer) (SomeAbove k buffer)
unfolding reaching
some-above k buffer = some-decides (length buffer) _ _ (λ j. from k (get_or buffer j 0))

-- a word of 2 ^ n or more has a bit at or above n
pub stray : (n word : ℕ) → Decides (leb (2 ^ n) word) (Stray n word)
stray n word = (
  (λ e. elim (by-case (some word bits)) [
    | inl s ↦ let F = some-true word bits s in
        let h = both_true (leb n (first word bits)) (bit word (first word bits)) F.passes in
        (first word bits, leb-true n _ h.0, h.1)
    | inr none ↦ absurd (lt_irrefl word (lt_of_lt_of_le (lt-of-bits n word (λ q l. dark none q l))
        (leb-true (2 ^ n) word e)))
  ]),
  (λ s. elim (by-case (leb (2 ^ n) word)) [
    | inl e ↦ e
    | inr e ↦ absurd (false≢true (sym (bit-above n word (leb-false (2 ^ n) word e) s.0 s.1) ∙ s.2))
  ]),
)
  where
    -- the bits at or above n
    bits : ℕ → Bool
    bits q = leb n q && bit word q

    dark : some word bits ≡ false → (q : ℕ) → n ≤ q → bit word q ≡ false
    dark none q l = elim (lt-or-ge q word) [
      | inl h ↦ ap (λ v. v && bit word q) (sym (le-leb n q l)) ∙ some-false word bits none q h
      | inr h ↦ bit-above word word (lt-pow word) q h
    ]

pub some-stray : (n : ℕ) (buffer : List ℕ) → Decides (reaching (2 ^ n) buffer) (SomeStray n buffer)
unfolding reaching
some-stray n buffer = some-decides (length buffer) _ _ (λ j. stray n (get_or buffer j 0))
