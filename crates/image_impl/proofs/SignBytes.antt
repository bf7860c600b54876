-- The sign bytes of the image graph on words.
use mathlib.Core.Bool.{◌&&◌, false}
use mathlib.Core.List.{List}
use mathlib.Core.Path.{ap, ap₂, ◌∙◌, ◌≡◌}
use Prim.Native.Nat.{◌<◌, ◌^◌, ℕ, ◌≤◌}
use lib.ListN.{get_or}
use Rattle.clifford.specs.Clifford.{Clifford}
use Rattle.words.proofs.BitLaws.{lt-of-bits}
use Rattle.words.proofs.OnesLaws.{dot-bits}
use Rattle.words.proofs.Sums.{fold-ext}
use Rattle.words.specs.Bits.{bit, digit, ◌⊕◌}
use Rattle.words.specs.internal.Bits.{dot}
use Rattle.image.proofs.Signs.{minus_at}
use Rattle.record.specs.NeighbourWords.{graph_in}

-- the sign at j: of X at j, and of Z at the neighbours of j
abbrev pub SignAt : List ℕ → ℕ → ℕ → ℕ → ℕ → Type 0
SignAt graph sx sz j v = v ≡ digit (bit sx j ⊕ dot (get_or graph j 0) sz)

-- it is the sign of generator j, where the words hold the signs of the codes
pub sign-formula : (n : ℕ) (words : List ℕ) (c : ℕ → Clifford) (sx sz : ℕ) → ((q : ℕ) → q < n → bit sx q ≡ (c q).sx)
    → ((q : ℕ) → q < n → bit sz q ≡ (c q).sz) → ((q : ℕ) → n ≤ q → bit sz q ≡ false) → (j : ℕ) → j < n →
    get_or words j 0 < 2 ^ n → bit sx j ⊕ dot (get_or words j 0) sz ≡ minus_at n (graph_in words) c j
sign-formula n words c sx sz x-here z-here z-above j l h =
    ap₂ ◌⊕◌ (x-here j l)
    (dot-bits n (get_or words j 0) sz h (lt-of-bits n sz z-above)
    ∙ fold-ext false ◌⊕◌ n (λ q m. ap (λ b. bit (get_or words j 0) q && b) (z-here q m)))
