-- The number over many records is the least of theirs that is not 0.
use mathlib.Core.Bool.{Bool, cond, false, ◌||◌}
use mathlib.Core.List.{List, [], ◌∷◌}
use mathlib.Core.Path.{ap, refl, ◌∙◌, ◌≡◌}
use Prim.Native.Nat.{suc, zero, ℕ}
use lib.Dec.{eqb, eqb→eq}
use Rattle.buffers.specs.Refusals.{Refusal, first_fitting, line, with_test}
use Rattle.buffers.specs.internal.Earlier.{earlier_of, earliest_of}
use Rattle.words.proofs.Finite.{Law, Of, law}
use Rattle.words.specs.Search.{some}
use Rattle.store.specs.StoreLines.{holds_line, record_tests}

-- the lines that speak of a record
abbrev pub five : Bool → Bool → Bool → Bool → Bool → List Refusal
five a b c d e = line 2 a ∷ line 4 b ∷ line 5 c ∷ line 6 d ∷ line 7 e ∷ []

-- each line's test is told by its number
abbrev told : Of 5 ℕ
told a b c d e = first_fitting (record_tests (λ m. holds_line m (five a b c d e)))

abbrev plain : Of 5 ℕ
plain a b c d e = first_fitting (five a b c d e)

pub told-by-number : Law ℕ 5 told plain
unfolding first_fitting
told-by-number = law eqb eqb→eq 5 told plain tt

-- two: a line holds of both together where it does of one
abbrev joined : Of 10 ℕ
joined a b c d e f g h i j = first_fitting (five (a || f) (b || g) (c || h) (d || i) (e || j))

abbrev apart : Of 10 ℕ
apart a b c d e f g h i j = earlier_of (first_fitting (five a b c d e)) (first_fitting (five f g h i j))

earlier-joined : Law ℕ 10 joined apart
unfolding first_fitting
earlier-joined = law eqb eqb→eq 10 joined apart tt

pub earlier-of-two : (s t : ℕ → Bool) → first_fitting (record_tests (λ m. s m || t m))
    ≡ earlier_of (first_fitting (record_tests s)) (first_fitting (record_tests t))
earlier-of-two s t = earlier-joined (s 2) (s 4) (s 5) (s 6) (s 7) (t 2) (t 4) (t 5) (t 6) (t 7)

-- k of them
pub earlier-of : (k : ℕ) (t : ℕ → ℕ → Bool) → first_fitting (record_tests (λ m. some k (λ i. t i m)))
    ≡ earliest_of k (λ i. first_fitting (record_tests (t i)))
unfolding some earliest_of first_fitting
earlier-of zero t = refl
earlier-of (suc k) t =
    earlier-of-two (λ m. some k (λ i. t i m)) (t k)
    ∙ ap (λ r. earlier_of r (first_fitting (record_tests (t k)))) (earlier-of k t)

-- ---- a further test of the last line
abbrev tested : Of 6 ℕ
tested a b c d e t = first_fitting (with_test 7 t (with_test 4 false (five a b c d e)))

abbrev decided : Of 6 ℕ
decided a b c d e t = cond (eqb (first_fitting (five a b c d e)) 0) (cond t 7 0) (first_fitting (five a b c d e))

pub last-tested : Law ℕ 6 tested decided
unfolding first_fitting
last-tested = law eqb eqb→eq 6 tested decided tt
