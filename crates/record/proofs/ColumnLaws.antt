-- Columns that are sums of earlier ones: the test agrees, sums of rows keep the dependence, and for the x
-- bits of a list it is a matter of the group alone.
use mathlib.Core.Bool.{◌&&◌, Bool, and-false, false, true}
use mathlib.Core.Logic.{◌↔◌}
use mathlib.Core.Path.{ap, sym, ◌∙◌, ◌≡◌}
use Prim.Native.Nat.{◌^◌, ℕ}
use Rattle.pauli.specs.Pauli.{Pauli}
use Rattle.stabilizer.proofs.GroupLaws.{in_row}
use Rattle.stabilizer.proofs.Products.{product-x}
use Rattle.stabilizer.specs.Groups.{InGroup}
use Rattle.words.proofs.BitLaws.{bit-word_of, word_of-lt}
use Rattle.words.proofs.Finite.{and-exchange, and-⊕, ⊕-comm}
use Rattle.words.proofs.Flags.{same_bit-true, true-same_bit}
use Rattle.words.proofs.SearchLaws.{every-at, every_in, some_in, some-true}
use Rattle.words.proofs.Sums.{bit_monoid, fold-ext, fold-hom, fold-swap}
use Rattle.words.specs.Bits.{Word, bit, parity, same_bit, word_of, ◌⊕◌}
use Rattle.words.specs.Search.{every, first}
use Rattle.record.specs.Columns.{ColumnDependent, is_column_dependent}
use Rattle.record.specs.Reduced.{x_words}

-- ---- the test
module _ (m : ℕ) (M : ℕ → Word) (q : ℕ) where
  abbrev is_sum : ℕ → Bool
  is_sum v = every m (λ j. same_bit (M j q) (parity q (λ t. bit v t && M j t)))

  pub column-dependent : (is_column_dependent m M q ≡ true) ↔ ColumnDependent m M q
  unfolding is_column_dependent
  column-dependent = (
    (λ e. (
      bit (first (2 ^ q) is_sum),
      λ j l. true-same_bit (M j q) (parity q (λ t. bit (first (2 ^ q) is_sum) t && M j t))
          (every-at m _ (some-true (2 ^ q) is_sum e).passes j l),
    )),
    (λ D. some_in (2 ^ q) is_sum (word_of q D.0) (word_of-lt q D.0)
        (every_in m _ (λ j l. same_bit-true (D.1 j l
        ∙ sym (fold-ext false ◌⊕◌ q (λ t k. ap (λ b. b && M j t) (bit-word_of q D.0 t k))))))),
  )

  -- a sum of rows depends in the same way
  pub dependent-sum : (D : ColumnDependent m M q) (u : Word)
      → parity m (λ j. u j && M j q) ≡ parity q (λ t. D.0 t && parity m (λ j. u j && M j t))
  dependent-sum D u =
      fold-ext false ◌⊕◌ m (λ j l. ap (λ b. u j && b) (D.1 j l)
      ∙ fold-hom false ◌⊕◌ false ◌⊕◌ (λ b. u j && b) (and-false (u j)) (and-⊕ (u j)) q _)
      ∙ fold-swap false ◌⊕◌ bit_monoid ⊕-comm m q (λ j t. u j && (D.0 t && M j t))
      ∙ fold-ext false ◌⊕◌ q (λ t l. fold-ext false ◌⊕◌ m (λ j k. and-exchange (u j) (D.0 t) (M j t))
      ∙ sym (fold-hom false ◌⊕◌ false ◌⊕◌ (λ b. D.0 t && b) (and-false (D.0 t)) (and-⊕ (D.0 t)) m
      (λ j. u j && M j t)))

-- ---- the x bits of a list
pub element-dependent : (n : ℕ) (rows : ℕ → Pauli) (q : ℕ) (D : ColumnDependent n (x_words rows) q) (p : Pauli)
    → InGroup n n rows p → p.x q ≡ parity q (λ t. D.0 t && p.x t)
element-dependent n rows q D p a =
    x-of q ∙ dependent-sum n (x_words rows) q D a.0
    ∙ fold-ext false ◌⊕◌ q (λ t l. ap (λ b. D.0 t && b) (sym (x-of t)))
  where
    x-of : (t : ℕ) → p.x t ≡ parity n (λ j. a.0 j && (rows j).x t)
    x-of t = ap (λ r. r.x t) a.1 ∙ product-x n n a.0 rows t

pub dependent-same : (n : ℕ) (rows others : ℕ → Pauli)
    → ((p : Pauli) → InGroup n n others p → InGroup n n rows p)
    → (q : ℕ) → ColumnDependent n (x_words rows) q → ColumnDependent n (x_words others) q
dependent-same n rows others h q D =
    (D.0, λ j l. element-dependent n rows q D (others j) (h (others j) (in_row n n others j l)))
