-- Six rounds are the transpose: where the numbers of row and column come from, by a computed test.
use mathlib.Core.List.{List, [], ◌∷◌}
use mathlib.Core.Path.{ap₂, refl, ◌∙◌, ◌≡◌}
use Prim.Native.Nat.{◌<◌, ℕ, ◌≤◌}
use native.Mathlib.Nat.{lt_of_lt_of_le}
use lib.Dec.{eqb}
use lib.ListN.{get_or}
use borrow.Author.Tests.{eqb-true}
use Rattle.words.proofs.SearchLaws.{every-at}
use Rattle.words.specs.Bits.{bit}
use Rattle.words.specs.Search.{every}
use Rattle.words.specs.internal.Squares.{Exchanged, Transposed, crossed, lacks}

-- the row, after rounds with these numbers, the last round first
unfoldable origin : List ℕ → ℕ → ℕ → ℕ
origin [] r c = r
origin (s ∷ rounds) r c = origin rounds (crossed s r c) (crossed s c r)

data Rounds (m : ℕ) : List ℕ → List ℕ → List ℕ → Type 0 where
  none : {rows : List ℕ} → Rounds m [] rows rows
  more : {s : ℕ} {rounds rows rows₁ rows₂ : List ℕ} → Exchanged m s rows₁ rows₂ → Rounds m rounds rows rows₁
      → Rounds m (s ∷ rounds) rows rows₂

comes : {m : ℕ} {rounds rows rows' : List ℕ} → Rounds m rounds rows rows' → (r c : ℕ) → r < m → c < m
    → bit (get_or rows' r 0) c ≡ bit (get_or rows (origin rounds r c) 0) (origin rounds c r)
unfolding origin
comes none r c hr hc = refl
comes (more E R) r c hr hc = E.moved r c hr hc ∙ comes R _ _ (E.inside r c hr hc) (E.inside c r hc hr)

abbrev six : List ℕ
six = 1 ∷ 2 ∷ 4 ∷ 8 ∷ 16 ∷ 32 ∷ []

exchanged-places : (r c : ℕ) → r < 64 → c < 64 → origin six r c ≡ c
unfolding origin crossed lacks every
exchanged-places r c hr hc = eqb-true (origin six r c) c (every-at 64 (λ c. eqb (origin six r c) c)
    (every-at 64 (λ r. every 64 (λ c. eqb (origin six r c) c)) refl r hr) c hc)

pub six-rounds : (n m : ℕ) → n ≤ m → m ≤ 64 → (rows rows₁ rows₂ rows₃ rows₄ rows₅ rows₆ : List ℕ)
    → Exchanged m 32 rows rows₁ → Exchanged m 16 rows₁ rows₂ → Exchanged m 8 rows₂ rows₃
    → Exchanged m 4 rows₃ rows₄ → Exchanged m 2 rows₄ rows₅ → Exchanged m 1 rows₅ rows₆
    → Transposed n rows rows₆
six-rounds n m l small rows rows₁ rows₂ rows₃ rows₄ rows₅ rows₆ E₁ E₂ E₃ E₄ E₅ E₆ =
    record {
      long = E₆.long;
      turned = λ r c hr hc.
          let hr' = lt_of_lt_of_le hr l in
          let hc' = lt_of_lt_of_le hc l in
          comes (more E₆ (more E₅ (more E₄ (more E₃ (more E₂ (more E₁ none)))))) r c hr' hc'
          ∙ ap₂ (λ u v. bit (get_or rows u 0) v)
          (exchanged-places r c (lt_of_lt_of_le hr' small) (lt_of_lt_of_le hc' small))
          (exchanged-places c r (lt_of_lt_of_le hc' small) (lt_of_lt_of_le hr' small));
    }
