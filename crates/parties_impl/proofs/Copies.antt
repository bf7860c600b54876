-- The copy of a party's vertices, and what is put back from it, from the words of the party's qubits.
use mathlib.Core.Bool.{◌&&◌}
use mathlib.Core.List.{List}
use mathlib.Core.Path.{ap, refl, ◌∙◌, ◌≡◌}
use Prim.Native.Nat.{ℕ}
use Rattle.parties.specs.Masks.{in_party, masked, merged}
use Rattle.parties_impl.proofs.OwnWords.{masked-own, merged-own}
use Rattle.words.specs.Bits.{bit, word_of}
use Rattle.parties_impl.specs.internal.BeforeEight.{PutBack}
use Rattle.operations.specs.Used.{used_record}

module _ (word g : ℕ) {own : ℕ} where
  pub taken : (nb cs : List ℕ) (used : ℕ) → own ≡ word_of 64 (in_party word g) → {words bytes : List ℕ} {r : ℕ}
      → words ≡ (masked (bit own) (used_record 64 nb cs 0)).held.neighbours
      → bytes ≡ (masked (bit own) (used_record 64 nb cs 0)).held.codes
      → r ≡ word_of 64 (λ q. bit own q && bit used q)
      → used_record 64 words bytes r
      ≡ masked (in_party word g) (used_record 64 nb cs used)
  taken nb cs used e en ec eu =
      (λ i. used_record 64 (en i) (ec i) (eu i))
      ∙ masked-own own (in_party word g) e
      (used_record 64 nb cs used) refl

  pub put_back : (words bytes nb cs : List ℕ) → own ≡ word_of 64 (in_party word g) → {nb' cs' : List ℕ}
      → nb' ≡ (merged (bit own) (used_record 64 words bytes 0)
      (used_record 64 nb cs 0)).held.neighbours
      → cs' ≡ (merged (bit own) (used_record 64 words bytes 0)
      (used_record 64 nb cs 0)).held.codes
      → PutBack (in_party word g) words bytes nb cs nb' cs'
  put_back words bytes nb cs e en ec =
      let M = merged-own own (in_party word g) e
      (used_record 64 words bytes 0)
      (used_record 64 nb cs 0) refl in
      record { neighbours = en ∙ ap (λ w. w.held.neighbours) M; codes = ec ∙ ap (λ w. w.held.codes) M }
