-- Items copied to the first places of a buffer, as the callers of `copy_first` and `copy_front` read them.
use mathlib.Core.List.{List, [], ◌∷◌, ◌++◌}
use mathlib.Core.Path.{ap, refl, ◌∙◌, ◌≡◌}
use Prim.Native.Nat.{◌<◌, suc, zero, ℕ, ◌≤◌}
use native.Mathlib.Omega.{arith}
use lib.ListN.{drop, get_or, length, set, take}
use native.Mathlib.Nat.{le_of_suc-le-suc, not-suc-le-zero}
use lib.Seq.{get_or-take}
use Rattle.std.proofs.lemmas.List.{append-nil, length-take}
use Rattle.buffers.specs.Buffers.{tabulate}
use Rattle.buffers.proofs.Mapping.{zeros, zeros-at}
use Rattle.buffers.proofs.Tabulate.{tabulate-is}

-- a buffer that took the first items of another, place by place
pub first-copied : (n : ℕ) (from to : List ℕ) → to ≡ take n from → n ≤ length from →
    to ≡ tabulate n (λ j. get_or from j 0)
first-copied n from to e l =
    tabulate-is n (λ j. get_or from j 0) to (ap length e ∙ long) (λ i b. ap (λ v. get_or v i 0) e ∙ below i b)
  where
    long : length (take n from) ≡ n
    long = grind (arith, length-take)

    below : (i : ℕ) → i < n → get_or (take n from) i 0 ≡ get_or from i 0
    below i b = get_or-take n from i 0 b

-- lent words before zeros are the lent words: past their end both have 0
pub front-copied : (n : ℕ) (lent : List ℕ) (i : ℕ) → get_or (lent ++ drop (length lent) (zeros n)) i 0 ≡ get_or lent i 0
unfolding zeros
front-copied n [] i = zeros-at n i
front-copied zero (v ∷ lent) zero = refl
front-copied zero (v ∷ lent) (suc i) = ap (λ vs. get_or vs i 0) (append-nil lent)
front-copied (suc n) (v ∷ lent) zero = refl
front-copied (suc n) (v ∷ lent) (suc i) = front-copied n lent i

-- one item more copied
pub front-more : {A : Type 0} (new old : List A) (i : ℕ) (v : A) → i < length new → i < length old →
    v ≡ get_or new i v → set (take i new ++ drop i old) i v ≡ take (suc i) new ++ drop (suc i) old
front-more [] old i v l k e = absurd (not-suc-le-zero l)
front-more (x ∷ new) [] i v l k e = absurd (not-suc-le-zero k)
front-more (x ∷ new) (w ∷ old) zero v l k e = ap (λ y. y ∷ old) e
front-more {A} (x ∷ new) (w ∷ old) (suc i) v l k e =
    ap {B = List A} (λ vs. x ∷ vs) (front-more new old i v (le_of_suc-le-suc l) (le_of_suc-le-suc k) e)
