-- A row added to later rows, one place of the two arrays after another, and what that does to the rows' bits.
use mathlib.Core.Bool.{◌&&◌, Bool, cond, false, true}
use mathlib.Core.List.{List}
use mathlib.Core.Path.{ap, ap₂, refl, sym, ◌∙◌, ◌≡◌}
use Prim.Native.Nat.{◌+◌, ◌<◌, ℕ, ◌≤◌}
use native.Mathlib.Omega.{arith}
use lib.Bits.{bit_xor}
use lib.Dec.{ltb}
use lib.ListN.{get_or, length, set}
use borrow.Author.Tests.{le-ltb, lt-ltb}
use Rattle.buffers.proofs.Mapping.{Mapped, mapped-store}
use Rattle.words.proofs.BitLaws.{bit-cond, bit-xor}
use Rattle.words.specs.Bits.{bit, ◌⊕◌}
use Rattle.stabilizer.proofs.Pairs.{letters_of}
use Rattle.stabilizer_impl.proofs.Pivots.{letter_bit}
use Rattle.stabilizer_impl.specs.internal.Additions.{Added, later_with, sum_where}

pub sum-bit : (b : Bool) (words : List ℕ) (k j q : ℕ)
    → bit (sum_where b words k j) q ≡ bit (get_or words j 0) q ⊕ (b && bit (get_or words k 0) q)
sum-bit b words k j q =
    bit-xor (get_or words j 0) (cond b (get_or words k 0) 0) q
    ∙ ap (λ c. bit (get_or words j 0) q ⊕ c) (bit-cond b (get_or words k 0) q)

module _ (n k : ℕ) (in-x : Bool) (i : ℕ) (z x : List ℕ) where
  abbrev named : ℕ → Bool
  named = later_with n k in-x i z x

  -- the rows before those of the loop
  pub not-later : (j : ℕ) → j ≤ k → named j ≡ false
  not-later j l = ap (λ b. (b && ltb j n) && bit (cond in-x (get_or x j 0) (get_or z j 0)) i) (le-ltb k j l)

  is_later : (j : ℕ) → k < j → j < n → named j ≡ bit (cond in-x (get_or x j 0) (get_or z j 0)) i
  is_later j l m = ap₂ (λ a b. (a && b) && bit (cond in-x (get_or x j 0) (get_or z j 0)) i) (lt-ltb k j l) (lt-ltb j n m)

  abbrev Wanted : List ℕ → ℕ → ℕ → Type 0
  Wanted words j v = v ≡ sum_where (named j) words k j

  -- the loop's invariant
  pub record Adding (z' x' : List ℕ) (j : ℕ) : Type 0 where
    pub past : k < j
    pub upto : j ≤ n
    pub z-mapped : Mapped (Wanted z) z z' j
    pub x-mapped : Mapped (Wanted x) x x' j

  module _ (z' x' : List ℕ) (j : ℕ) (A : Adding z' x' j) where
    module _ (more : j < n) (z-fits : n ≤ length z) (x_fits : n ≤ length x)
        (word : ℕ) (w : word ≡ cond in-x (get_or x' j 0) (get_or z' j 0)) where
      chosen : bit word i ≡ named j
      chosen = ap (λ v. bit v i) (w ∙ ap₂ (cond in-x) (A.x-mapped.rest j (omega arith))
          (A.z-mapped.rest j (omega arith)))
          ∙ sym (is_later j A.past more)

      wanted : (words words' : List ℕ) → Mapped (Wanted words) words words' j → (by part : ℕ)
          → by ≡ get_or words k 0 → part ≡ cond (bit word i) by 0 → Wanted words j (bit_xor (get_or words' j 0) part)
      wanted words words' M by part b p =
          ap₂ bit_xor (M.rest j (omega arith)) (p ∙ ap₂ (λ c v. cond c v 0) chosen b)

      pub adding-step : (by-z by-x part-z part-x : ℕ) → by-z ≡ get_or z k 0 → by-x ≡ get_or x k 0
          → part-z ≡ cond (bit word i) by-z 0 → part-x ≡ cond (bit word i) by-x 0
          → Adding (set z' j (bit_xor (get_or z' j 0) part-z)) (set x' j (bit_xor (get_or x' j 0) part-x)) (j + 1)
      adding-step by-z by-x part-z part-x bz bx pz px =
          record {
            past = omega (arith, A.past);
            upto = omega arith;
            z-mapped = mapped-store (Wanted z) z z' j _ A.z-mapped (omega arith)
                (wanted z z' A.z-mapped by-z part-z bz pz);
            x-mapped = mapped-store (Wanted x) x x' j _ A.x-mapped (omega arith)
                (wanted x x' A.x-mapped by-x part-x bx px);
          }

  -- ---- the bits of the rows
  module _ (z' x' : List ℕ) (A : Added n k in-x i z x z' x') where
    pub added-z : (j q : ℕ) → bit (get_or z' j 0) q ≡ bit (get_or z j 0) q ⊕ (named j && bit (get_or z k 0) q)
    added-z j q = ap (λ v. bit v q) (A.z-words j) ∙ sum-bit (named j) z k j q

    pub added-x : (j q : ℕ) → bit (get_or x' j 0) q ≡ bit (get_or x j 0) q ⊕ (named j && bit (get_or x k 0) q)
    added-x j q = ap (λ v. bit v q) (A.x-words j) ∙ sum-bit (named j) x k j q

    pub added-bit : (b : Bool) (q j : ℕ) → letter_bit b q (letters_of z' x' j)
        ≡ letter_bit b q (letters_of z x j) ⊕ (named j && letter_bit b q (letters_of z x k))
    added-bit false q j = added-z j q
    added-bit true q j = added-x j q

    -- a later row has the bit where it is named
    pub later-named : (j : ℕ) → k < j → j < n → named j ≡ letter_bit in-x i (letters_of z x j)
    later-named j l m = is_later j l m ∙ go in-x
      where
        go : (b : Bool) → bit (cond b (get_or x j 0) (get_or z j 0)) i ≡ letter_bit b i (letters_of z x j)
        go false = refl
        go true = refl
