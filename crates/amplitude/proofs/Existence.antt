-- Every list has a supported word, so a smallest one; some element leads from it to each supported word, and whatever
-- element does gives the ratio.
use mathlib.Core.Bool.{true}
use mathlib.Core.Path.{◌∙◌, ◌≡◌, ap, refl, sym}
use Prim.Native.Nat.{◌^◌, ℕ}
use Rattle.operations.specs.internal.ReducedForms.{ReducedForm}
use Rattle.pauli.specs.Pauli.{Pauli}
use Rattle.record.proofs.ReducedRecords.{reduced-is}
use Rattle.record.specs.Records.{GraphRecord, rows_of}
use Rattle.record.specs.Reduced.{ReductionOf, reduced}
use Rattle.stabilizer.proofs.GroupLaws.{same-sym}
use Rattle.stabilizer.specs.Groups.{InGroup, Proper, product}
use Rattle.words.proofs.BitLaws.{bit-word_of, word_of-lt}
use Rattle.words.proofs.Flags.{same_bit-true, true-same_bit}
use Rattle.words.proofs.SearchLaws.{every-at, every_in, some_in, some-true}
use Rattle.words.specs.Bits.{Word, ◌⊕◌, bit, same_bit, word_of}
use Rattle.words.specs.Search.{IsFirst, every, first}
use Rattle.operations.proofs.FormOfReduced.{form-of-reduced}
use Rattle.amplitude.proofs.FormWords.{
  between,
  first-solves,
  first_word,
  leads-between,
  Solves,
  solves-supported,
  supported-solves,
}
use Rattle.amplitude.proofs.Support.{named, supported-exactly, supported-ext, supported-of-group, turns-agree}
use Rattle.amplitude.specs.Ratios.{Leads, chosen_by, leading, lowest, ratio, is_supported}
use Rattle.amplitude.specs.internal.Ratios.{Supported}
use Rattle.amplitude.specs.Turns.{turns_at}

module _ (n : ℕ) (R : ℕ → Pauli) (P : Proper n R) where
  abbrev r : GraphRecord
  r = reduced n R

  D : ReductionOf n R r
  D = reduced-is n R P

  F : ReducedForm n r
  F = form-of-reduced n R P

  to-form : (y : Word) → Supported n R y → Supported n (rows_of n r) y
  to-form = supported-of-group n R (rows_of n r) D.group

  -- some word is supported
  abbrev word : Word
  word = first_word n r D.simple F

  word-supported : is_supported n R (word_of n word) ≡ true
  word-supported = (supported-exactly n R (word_of n word)).1
      (supported-ext n R word (bit (word_of n word)) (λ q l. sym (bit-word_of n word q l))
      (supported-of-group n (rows_of n r) R (same-sym D.group) word
      (solves-supported n r D.simple F word (first-solves n r D.simple F))))

  pub lowest-is : IsFirst (2 ^ n) (is_supported n R) (lowest n R)
  lowest-is = some-true (2 ^ n) (is_supported n R)
      (some_in (2 ^ n) (is_supported n R) (word_of n word) (word_of-lt n word) word-supported)

  -- some element leads from one to another
  pub some-leads : (a b : Word) → Supported n R a → Supported n R b → (p : Pauli) × InGroup n n R p × Leads n p a b
  some-leads a b H K = (
    product n n chosen (rows_of n r),
    D.group.back (product n n chosen (rows_of n r)) (chosen, refl),
    leads-between n r D.simple F a b H' K',
  )
    where
      H' : Solves n r D.simple F a
      H' = supported-solves n r D.simple F a (to-form a H)

      K' : Solves n r D.simple F b
      K' = supported-solves n r D.simple F b (to-form b K)

      chosen : Word
      chosen = between n r D.simple F a b H' K'

  -- and the search finds the first that does
  pub leading-leads : (a b : ℕ) → is_supported n R a ≡ true → is_supported n R b ≡ true
      → Leads n (chosen_by n R (leading n R a b)) (bit a) (bit b)
  unfolding leading
  leading-leads a b H K q l = true-same_bit _ _ (every-at n _ found.passes q l)
    where
      some_one : (p : Pauli) × InGroup n n R p × Leads n p (bit a) (bit b)
      some_one = some-leads (bit a) (bit b) ((supported-exactly n R a).0 H) ((supported-exactly n R b).0 K)

      found : IsFirst (2 ^ n) (λ v. every n (λ q. same_bit ((chosen_by n R v).x q) (bit a q ⊕ bit b q)))
          (first (2 ^ n) (λ v. every n (λ q. same_bit ((chosen_by n R v).x q) (bit a q ⊕ bit b q))))
      found = some-true (2 ^ n) _ (some_in (2 ^ n) _ (word_of n some_one.1.0) (word_of-lt n some_one.1.0)
          (every_in n _ (λ q l. same_bit-true (ap (λ p. p.x q) (named n R some_one.1.0 ∙ sym some_one.1.1)
          ∙ some_one.2 q l))))

  pub lowest-supported : Supported n R (bit (lowest n R))
  lowest-supported = (supported-exactly n R (lowest n R)).0 lowest-is.passes

  -- "A group element whose x part leads from that word to y fixes the ratio"
  pub any-element : (y : ℕ) → is_supported n R y ≡ true → (p : Pauli) → InGroup n n R p
      → Leads n p (bit (lowest n R)) (bit y) → turns_at n p (bit (lowest n R)) ≡ ratio n R y
  unfolding ratio
  any-element y H p a h = turns-agree n R P.commuting (bit (lowest n R)) lowest-supported p
      (chosen_by n R (leading n R (lowest n R) y)) a (bit (leading n R (lowest n R) y), refl)
      (λ q l. h q l ∙ sym (leading-leads (lowest n R) y lowest-is.passes H q l))
