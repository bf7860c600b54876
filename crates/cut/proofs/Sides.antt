-- The side that is marked: "an empty or full side gives 0", since no edge leaves it; and the other side gives the same.
use mathlib.Core.Bool.{◌&&◌, Bool, and-false, false, not, true}
use mathlib.Core.Path.{ap, fun_ext, refl, sym, ◌∙◌, ◌≡◌}
use Prim.Native.Nat.{◌-◌, ◌<◌, ◌^◌, ℕ}
use Rattle.record.specs.Graph.{Graph, Simple}
use Rattle.record.proofs.ColumnLaws.{column-dependent}
use Rattle.record.specs.Columns.{is_column_dependent}
use Rattle.words.proofs.BitLaws.{bit_mask, zero_bit}
use Rattle.words.proofs.Finite.{bits}
use Rattle.words.proofs.Sums.{bit_monoid, fold-unit}
use Rattle.words.specs.Bits.{Word, bit, ◌⊕◌}
use Rattle.cut.proofs.RankLaws.{rank-none}
use Rattle.cut.proofs.Transposed.{rank-transposed}
use Rattle.cut.specs.Cut.{crossing, cut_rank}
use Rattle.cut.specs.Rank.{rank}

-- a column of zeros is the sum of no columns
zero-column : (m : ℕ) (M : ℕ → Word) (q : ℕ) → ((j : ℕ) → j < m → M j q ≡ false) → is_column_dependent m M q ≡ true
zero-column m M q h = (column-dependent m M q).1
    ((λ t. false), λ j l. h j l ∙ sym (fold-unit false ◌⊕◌ bit_monoid q (λ t k. refl)))

module _ (n : ℕ) (side : Word) (θ : Graph) where
  pub no_edges : ((j q : ℕ) → j < n → q < n → crossing side θ j q ≡ false) → cut_rank n side θ ≡ 0
  no_edges h = rank-none n n (crossing side θ) (λ q l. zero-column n (crossing side θ) q (λ j k. h j q k l))

  pub empty-side : ((q : ℕ) → q < n → side q ≡ false) → cut_rank n side θ ≡ 0
  empty-side h = no_edges (λ j q k l. ap (λ b. (b && not (side q)) && θ j q) (h j k))

  pub full-side : ((q : ℕ) → q < n → side q ≡ true) → cut_rank n side θ ≡ 0
  full-side h = no_edges (λ j q k l. ap (λ b. (side j && not b) && θ j q) (h q l)
      ∙ ap (λ b. b && θ j q) (and-false (side j)))

-- as words: no bit, and every bit below n
pub empty-word : (n : ℕ) (θ : Graph) → cut_rank n (bit 0) θ ≡ 0
empty-word n θ = empty-side n (bit 0) θ (λ q l. zero_bit q)

pub full-word : (n : ℕ) (θ : Graph) → cut_rank n (bit (2 ^ n - 1)) θ ≡ 0
full-word n θ = full-side n (bit (2 ^ n - 1)) θ (bit_mask n)

-- the other side marked
pub other-side : (n : ℕ) (side : Word) (θ : Graph) → Simple n θ
    → cut_rank n side θ ≡ cut_rank n (λ q. not (side q)) θ
other-side n side θ S = rank-transposed n (crossing side θ)
    ∙ ap (rank n n) (fun_ext (λ j. fun_ext (λ k. turned (side k) (side j) (θ k j)
    ∙ ap (λ e. (not (side j) && not (not (side k))) && e) (S.symmetric k j))))
  where
    turned : (a b e : Bool) → ((a && not b) && e) ≡ ((not b && not (not a)) && e)
    turned = bits 3 (λ a b e. (a && not b) && e) (λ a b e. (not b && not (not a)) && e) tt
