-- Edges that leave a party, looked for vertex by vertex.
use mathlib.Core.Bool.{◌&&◌, Bool, cond, false, not, true, true≢false, ◌||◌}
use mathlib.Core.List.{List, []}
use mathlib.Core.Path.{ap, ap₂, refl, sym, ◌∙◌, ◌≡◌}
use Prim.Native.Nat.{◌+◌, ◌<◌, ◌^◌, ℕ, ◌≤◌}
use native.Mathlib.Nat.{add-suc, add-zero}
use native.Mathlib.Omega.{arith}
use lib.Bits.{bit_and}
use lib.Dec.{eqb}
use lib.ListN.{get_or}
use lib.Pow.{pow_pos}
use borrow.Author.Tests.{eq-eqb, ne_eqb}
use Rattle.parties.specs.Masks.{crosses, reaches_out}
use Rattle.record_impl.proofs.Squares.{SomeTo, some-to-all}
use Rattle.operations.specs.Used.{UsedRecord, used_record}
use Rattle.words.proofs.BitLaws.{and-lt-right, bit-and, bit-ext, bit-word_of, zero_bit}
use Rattle.words.proofs.Finite.{bits}
use Rattle.words.proofs.SearchLaws.{some-ext, some-false, some-true}
use Rattle.words.specs.Bits.{bit, same_bit, word_of}
use Rattle.words.specs.Search.{first, some}

-- ---- searches without an exit
pub some-to-none : (n : ℕ) (f : ℕ → Bool) → SomeTo 0 n f false
unfolding some
some-to-none n f = record { upto = omega arith; held = refl }

pub some-to-one : (i n : ℕ) (f : ℕ → Bool) (found here : Bool) → i < n → here ≡ f i → SomeTo i n f found
    → SomeTo (i + 1) n f (found || here)
unfolding some
some-to-one i n f found here l e S =
    record { upto = omega arith; held = rw (add-suc, add-zero) (ap₂ ◌||◌ S.held e) }

-- words with a bit in common
pub common-bit : (a b : ℕ) → b < 2 ^ 64 → not (eqb (bit_and a b) 0) ≡ some 64 (λ k. bit a k && bit b k)
common-bit a b h = go (some 64 (λ k. bit a k && bit b k)) refl
  where
    go : (v : Bool) → some 64 (λ k. bit a k && bit b k) ≡ v → not (eqb (bit_and a b) 0) ≡ v
    go true e =
        let F = some-true 64 (λ k. bit a k && bit b k) e in
        ap not (ne_eqb (bit_and a b) 0 (λ z. true≢false (sym F.passes ∙ sym (bit-and a b _)
        ∙ ap (λ v. bit v (first 64 (λ k. bit a k && bit b k))) z ∙ zero_bit _)))
    go false e =
        ap not (eq-eqb (bit_and a b) 0 (bit-ext 64 (bit_and a b) 0 (and-lt-right 64 a b h) (pow_pos 64)
        (λ q l. bit-and a b q ∙ some-false 64 (λ k. bit a k && bit b k) e q l ∙ sym (zero_bit q))))

-- ---- edges between the parties
abbrev pub crossing_at : ℕ → List ℕ → ℕ → Bool
crossing_at word nb j = some 64 (λ k. bit (get_or nb j 0) k && not (same_bit (bit word j) (bit word k)))

pub crossing-here : (word : ℕ) (nb : List ℕ) (j : ℕ) {o v : ℕ} {here : Bool} → o ≡ word_of 64 (λ q. not (bit word q))
    → v ≡ cond (bit word j) o word → here ≡ some 64 (λ k. bit (get_or nb j 0) k && bit v k)
    → here ≡ crossing_at word nb j
crossing-here word nb j {o} {v} eo ev eh = eh ∙ some-ext 64 _ _ (λ k l. ap (λ b. bit (get_or nb j 0) k && b)
    (ap (λ w. bit w k) ev ∙ other-side (bit word j) k l))
  where
    other-side : (b : Bool) (k : ℕ) → k < 64 → bit (cond b o word) k ≡ not (same_bit b (bit word k))
    other-side true k l = ap (λ w. bit w k) eo ∙ bit-word_of 64 _ k l ∙ ap not (own (bit word k))
      where
        own : (c : Bool) → c ≡ same_bit true c
        own = bits 1 (λ c. c) (λ c. same_bit true c) tt
    other-side false k l = other (bit word k)
      where
        other : (c : Bool) → c ≡ not (same_bit false c)
        other = bits 1 (λ c. c) (λ c. not (same_bit false c)) tt

-- the record of 64 qubits that these neighbour words are of
abbrev words_only : List ℕ → UsedRecord
words_only nb = used_record 64 nb [] 0

pub crossing-all : (word : ℕ) (nb : List ℕ) {found : Bool} {j : ℕ} → SomeTo j 64 (crossing_at word nb) found → 64 ≤ j
    → found ≡ crosses word (words_only nb)
unfolding crosses
crossing-all word nb F l = some-to-all _ 64 _ _ l F

-- ---- neighbours outside a word
abbrev pub out_at : ℕ → List ℕ → ℕ → Bool
out_at own nb j = some 64 (λ k. bit (get_or nb j 0) k && not (bit own k))

pub out-here : (own : ℕ) (nb : List ℕ) (j : ℕ) {o : ℕ} {here : Bool} → o ≡ word_of 64 (λ q. not (bit own q))
    → here ≡ some 64 (λ k. bit (get_or nb j 0) k && bit o k) → here ≡ out_at own nb j
out-here own nb j eo eh = eh ∙ some-ext 64 _ _ (λ k l. ap (λ b. bit (get_or nb j 0) k && b)
    (ap (λ w. bit w k) eo ∙ bit-word_of 64 _ k l))

pub out-all : (own : ℕ) (nb : List ℕ) {found : Bool} {j : ℕ} → SomeTo j 64 (out_at own nb) found → 64 ≤ j
    → found ≡ reaches_out (bit own) (words_only nb)
unfolding reaches_out
out-all own nb F l = some-to-all _ 64 _ _ l F
