-- The test for a choice that carries a group says what it should.
use mathlib.Core.Bool.{◌&&◌, Bool, true}
use mathlib.Core.Logic.{◌↔◌}
use mathlib.Core.Path.{ap, ap₂, refl, subst, sym, ◌∙◌, ◌≡◌}
use Prim.Native.Nat.{◌<◌, ◌^◌, ℕ}
use Rattle.clifford.specs.Clifford.{Clifford}
use Rattle.clifford.specs.Vectors.{act}
use Rattle.pauli.specs.Pauli.{Pauli, identity, mul}
use Rattle.stabilizer.proofs.Carried.{act-product, carries_same}
use Rattle.stabilizer.proofs.MembershipLaws.{in-member, member-in}
use Rattle.stabilizer.proofs.Within.{act-within, product-within}
use Rattle.stabilizer.specs.Carries.{Carries}
use Rattle.stabilizer.specs.Groups.{InGroup, SameGroup, Within, chosen, product}
use Rattle.stabilizer.specs.Membership.{member}
use Rattle.words.proofs.BitLaws.{bit-word_of, word_of-lt}
use Rattle.words.proofs.Flags.{both_true}
use Rattle.words.proofs.SearchLaws.{every-at, every_in}
use Rattle.words.proofs.Sums.{fold-ext}
use Rattle.words.specs.Bits.{Word, bit, word_of}
use Rattle.words.specs.Search.{every}
use Rattle.comparison.specs.Choices.{is_carrying}

-- a product names only the bits below n of its word
word-product : (n : ℕ) (w : Word) (rows : ℕ → Pauli)
    → product n n (bit (word_of n w)) rows ≡ product n n w rows
word-product n w rows = fold-ext identity (mul n) n (λ j l. ap (λ b. chosen b (rows j)) (bit-word_of n w j l))

-- ---- a choice carries the group exactly if the test says so
module _ (n : ℕ) (c : ℕ → Clifford) (rows others : ℕ → Pauli) (W : (j : ℕ) → j < n → Within n (rows j))
    (W' : (j : ℕ) → j < n → Within n (others j)) where
  sent : ℕ → Pauli
  sent j = act n c (rows j)

  sent-within : (j : ℕ) → j < n → Within n (sent j)
  unfolding sent
  sent-within j l = act-within n n c (W j l)

  there : Bool
  there = every (2 ^ n) (λ v. member n others (act n c (product n n (bit v) rows)))

  back : Bool
  back = every (2 ^ n) (λ v. member n sent (product n n (bit v) others))

  test-same : is_carrying n c rows others ≡ true → SameGroup n n sent others
  unfolding is_carrying sent there back
  test-same e =
      record {
        there = λ p a. subst (InGroup n n others)
            (act-product n n rows c (bit (word_of n a.0)) ∙ word-product n a.0 sent ∙ sym a.1)
            (member-in n others W' _ (outside (word_of n a.0)) (every-at (2 ^ n)
            (λ v. member n others (act n c (product n n (bit v) rows))) b.0 (word_of n a.0)
            (word_of-lt n a.0)));
        back = λ p a. subst (InGroup n n sent) (word-product n a.0 others ∙ sym a.1)
            (member-in n sent sent-within _ (product-within n n (bit (word_of n a.0)) others W')
            (every-at (2 ^ n)
            (λ v. member n sent (product n n (bit v) others)) b.1 (word_of n a.0) (word_of-lt n a.0)));
      }
    where
      b : (there ≡ true) × (back ≡ true)
      b = both_true there back e

      outside : (v : ℕ) → Within n (act n c (product n n (bit v) rows))
      outside v = act-within n n c (product-within n n (bit v) rows W)

  same_test : SameGroup n n sent others → is_carrying n c rows others ≡ true
  unfolding is_carrying sent there back
  same_test S =
      ap₂ ◌&&◌
      (every_in (2 ^ n) (λ v. member n others (act n c (product n n (bit v) rows)))
      (λ v l. in-member n others _ (S.there _ (bit v, act-product n n rows c (bit v)))))
      (every_in (2 ^ n) (λ v. member n sent (product n n (bit v) others))
      (λ v l. in-member n sent _ (S.back _ (bit v, refl))))

  pub carries-is : (is_carrying n c rows others ≡ true) ↔ Carries n c rows others
  unfolding sent
  carries-is = (
    (λ e. (carries_same n c rows others).1 (test-same e)),
    (λ C. same_test ((carries_same n c rows others).0 C)),
  )
