-- The bits of one qubit exchanged in four words, as the code does for the class or the signs of a choice.
use mathlib.Core.Bool.{Bool}
use mathlib.Core.List.{List, [], ◌∷◌}
use mathlib.Core.Path.{ap, refl, ◌∙◌, ◌≡◌}
use Prim.Native.Nat.{◌+◌, ◌/◌, ◌<◌, suc, zero, ℕ, ◌≤◌}
use native.Mathlib.Omega.{arith}
use lib.Dec.{lit<}
use lib.ListN.{get_or, length}
use Rattle.clifford.specs.Clifford.{class_of}
use Rattle.clifford.specs.Vectors.{codes_of}
use Rattle.words.specs.Bits.{bit, put}
use Rattle.comparison.specs.internal.Equations.{assignment_of, class_assignment, entry, sign_assignment}
use Rattle.comparison.specs.internal.Places.{Placed, SignsPlaced}
use Rattle.comparison.specs.internal.Searches.{with_class, with_signs}
use Rattle.comparison.proofs.PlacedWords.{class-put, sign-put}
use Rattle.comparison.proofs.WordsByBits.{
  ClassesBelow,
  SignsBelow,
  all-signs,
  no-classes,
  no-signs,
  one-class-more,
  one-sign-more,
}

-- four words that the code makes one by one
pub placed_by : (w : List ℕ) (q four a b c d : ℕ) {x y z t : Bool}
    → x ≡ bit four 0 → ((j : ℕ) → bit a j ≡ put (bit (get_or w 0 0)) q x j)
    → y ≡ bit four 1 → ((j : ℕ) → bit b j ≡ put (bit (get_or w 1 0)) q y j)
    → z ≡ bit four 2 → ((j : ℕ) → bit c j ≡ put (bit (get_or w 2 0)) q z j)
    → t ≡ bit four 3 → ((j : ℕ) → bit d j ≡ put (bit (get_or w 3 0)) q t j) → Placed w (a ∷ b ∷ c ∷ d ∷ []) q four
placed_by w q four a b c d hx pa hy pb hz pc ht pd zero k j = pa j ∙ ap (λ v. put (bit (get_or w 0 0)) q v j) hx
placed_by w q four a b c d hx pa hy pb hz pc ht pd (suc zero) k j = pb j ∙ ap (λ v. put (bit (get_or w 1 0)) q v j) hy
placed_by w q four a b c d hx pa hy pb hz pc ht pd (suc (suc zero)) k j =
    pc j ∙ ap (λ v. put (bit (get_or w 2 0)) q v j) hz
placed_by w q four a b c d hx pa hy pb hz pc ht pd (suc (suc (suc zero))) k j =
    pd j ∙ ap (λ v. put (bit (get_or w 3 0)) q v j) ht
placed_by w q four a b c d hx pa hy pb hz pc ht pd (suc (suc (suc (suc l)))) k j = absurd (omega (arith, k))

-- the four words of the classes below q
abbrev pub ClassesIn : ℕ → List ℕ → ℕ → List ℕ → Type 0
ClassesIn n choice q w = ClassesBelow n choice q (get_or w 0 0) (get_or w 1 0) (get_or w 2 0) (get_or w 3 0)

-- .. and of the signs below q
abbrev pub SignsIn : ℕ → List ℕ → ℕ → List ℕ → Type 0
SignsIn n choice q w = SignsBelow n choice q (get_or w 0 0) (get_or w 1 0) × (get_or w 2 0 ≡ 1) × (get_or w 3 0 ≡ 0)

module _ (n : ℕ) (choice : List ℕ) (q : ℕ) (w r : List ℕ) (l : q < n) where
  -- one class more
  pub class-next : (four : ℕ) → Placed w r q four
      → ((l : ℕ) → l < 4 → bit four l ≡ entry l (class_of (get_or choice q 0 / 4)))
      → ClassesIn n choice q w → ClassesIn n choice (q + 1) r
  class-next four P is S =
      one-class-more n choice q _ _ _ _ S l refl refl _ _ _ _ (is 0 (lit< tt)) (P 0 (lit< tt)) (is 1 (lit< tt))
      (P 1 (lit< tt)) (is 2 (lit< tt)) (P 2 (lit< tt)) (is 3 (lit< tt)) (P 3 (lit< tt))

  pub sign-next : SignsPlaced w r q (get_or choice q 0) → SignsIn n choice q w → SignsIn n choice (q + 1) r
  sign-next P S = (one-sign-more n choice q _ _ S.0 l _ _ P.0 P.1, P.2 ∙ S.1, P.3 ∙ S.2)

  -- class v, or signs v, put in at q
  pub class-placed : (four v : ℕ) → Placed w r q four → q < length choice
      → ((l : ℕ) → l < 4 → bit four l ≡ entry l (class_of v))
      → assignment_of w ≡ class_assignment n (codes_of choice)
      → assignment_of r ≡ class_assignment n (codes_of (with_class choice q v))
  class-placed four v P long is h =
      class-put n choice q v long l (assignment_of w) h refl refl _ _ _ _ (is 0 (lit< tt)) (P 0 (lit< tt))
      (is 1 (lit< tt)) (P 1 (lit< tt)) (is 2 (lit< tt)) (P 2 (lit< tt)) (is 3 (lit< tt)) (P 3 (lit< tt))

  pub sign-placed : (v : ℕ) → SignsPlaced w r q v → q < length choice
      → assignment_of w ≡ sign_assignment n (codes_of choice)
      → assignment_of r ≡ sign_assignment n (codes_of (with_signs choice q v))
  unfolding sign_assignment
  sign-placed v P long h =
      (λ i. record {
        a = get_or r 0 0;
        b = get_or r 1 0;
        c = (P.2 ∙ ap (λ w. w.c) h) i;
        d = (P.3 ∙ ap (λ w. w.d) h) i;
      })
      ∙ sign-put n choice q v long l (assignment_of w) h _ _ P.0 P.1

-- the loops over the classes and over the signs of a choice: how they begin, and how the second ends
pub no-class-words : (n : ℕ) (choice : List ℕ) → ClassesIn n choice 0 (0 ∷ 0 ∷ 0 ∷ 0 ∷ [])
no-class-words n choice = no-classes n choice

pub no-sign-words : (n : ℕ) (choice : List ℕ) → SignsIn n choice 0 (0 ∷ 0 ∷ 1 ∷ 0 ∷ [])
no-sign-words n choice = (no-signs n choice, refl, refl)

pub all-sign-words : (n : ℕ) (choice : List ℕ) (q : ℕ) (w : List ℕ) → SignsIn n choice q w → n ≤ q
    → assignment_of w ≡ sign_assignment n (codes_of choice)
all-sign-words n choice q w S l =
    (λ i. record { a = get_or w 0 0; b = get_or w 1 0; c = S.1 i; d = S.2 i }) ∙ all-signs n choice q _ _ S.0 l
