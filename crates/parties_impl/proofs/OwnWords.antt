-- The words of a party's qubits, and records with the vertices of such a word alone or put back.
use mathlib.Core.Bool.{◌&&◌, Bool, cond, false, not, true, ◌||◌}
use mathlib.Core.Path.{ap, ap₂, subst, sym, ◌∙◌, ◌≡◌}
use Prim.Native.Nat.{◌<◌, ◌^◌, ℕ}
use lib.Bits.{bit_and, bit_or, or_lt}
use lib.Dec.{eqb}
use lib.ListN.{get_or}
use Rattle.buffers.proofs.Tabulate.{tabulate-cong}
use Rattle.parties.specs.Masks.{crosses, in_party, masked, merged, reaches_out}
use Rattle.operations.specs.Used.{UsedRecord}
use Rattle.words.proofs.Complement.{word-of}
use Rattle.words.proofs.BitLaws.{and-lt-right, bit-and, bit-or, bit-word_of, word-cong}
use Rattle.words.proofs.Finite.{bits}
use Rattle.words.proofs.SearchLaws.{some-ext}
use Rattle.words.specs.Bits.{Word, bit, same_bit, word_of}
use Rattle.words.specs.Search.{some}

-- party 1 has the bits of the word, any other the others
module _ (word g : ℕ) where
  pub party-one : word < 2 ^ 64 → eqb g 1 ≡ true → word ≡ word_of 64 (in_party word g)
  party-one h e = word-of _ _ h (λ q l. as_one (bit word q) ∙ ap (same_bit (bit word q)) (sym e))
    where
      as_one : (b : Bool) → b ≡ same_bit b true
      as_one = bits 1 (λ b. b) (λ b. same_bit b true) tt

  pub party-other : eqb g 1 ≡ false → word_of 64 (λ q. not (bit word q)) ≡ word_of 64 (in_party word g)
  party-other e = word-cong 64 _ _ (λ q l. as-other (bit word q) ∙ ap (same_bit (bit word q)) (sym e))
    where
      as-other : (b : Bool) → not b ≡ same_bit b false
      as-other = bits 1 not (λ b. same_bit b false) tt

-- ---- used qubits
pub both_words : (a b : ℕ) → b < 2 ^ 64 → bit_and a b ≡ word_of 64 (λ q. bit a q && bit b q)
both_words a b h = word-of _ _ (and-lt-right 64 a b h) (λ q l. bit-and a b q)

pub either-word : (own new used o : ℕ) → new < 2 ^ 64 → used < 2 ^ 64 → o ≡ word_of 64 (λ q. not (bit own q))
    → bit_or (bit_and own new) (bit_and o used) ≡ word_of 64 (λ q. cond (bit own q) (bit new q) (bit used q))
either-word own new used o hn hu e =
    word-of _ _ (or_lt 64 _ _ (and-lt-right 64 own new hn) (and-lt-right 64 o used hu))
    (λ q l. bit-or _ _ q ∙ ap₂ ◌||◌ (bit-and own new q)
    (bit-and o used q ∙ ap (λ b. b && bit used q) (ap (λ w. bit w q) e ∙ bit-word_of 64 _ q l))
    ∙ one_of (bit own q) (bit new q) (bit used q))
  where
    one_of : (a b c : Bool) → ((a && b) || (not a && c)) ≡ cond a b c
    one_of = bits 3 (λ a b c. (a && b) || (not a && c)) (λ a b c. cond a b c) tt

-- ---- the vertices of the word `own` are those of s
module _ (own : ℕ) (s : Word) (e : own ≡ word_of 64 s) where
  pub own-bit : (q : ℕ) → q < 64 → bit own q ≡ s q
  own-bit q l = ap (λ w. bit w q) e ∙ bit-word_of 64 s q l

  at_own : (n : ℕ) → n ≡ 64 → (q : ℕ) → q < n → bit own q ≡ s q
  at_own n z q l = own-bit q (subst (λ m. q < m) z l)

  pub masked-own : (u : UsedRecord) → u.held.n ≡ 64 → masked (bit own) u ≡ masked s u
  masked-own u z = λ j. record {
    held = record {
      n = u.held.n;
      neighbours = tabulate-cong u.held.n _ _ (λ q l. ap (λ b. cond b (get_or u.held.neighbours q 0) 0)
          (at_own _ z q l)) j;
      codes = tabulate-cong u.held.n _ _ (λ q l. ap (λ b. cond b (get_or u.held.codes q 0) 8) (at_own _ z q l)) j;
    };
    used = word-cong u.held.n _ _ (λ q l. ap (λ b. b && bit u.used q) (at_own _ z q l)) j;
  }

  pub merged-own : (a u : UsedRecord) → u.held.n ≡ 64 → merged (bit own) a u ≡ merged s a u
  merged-own a u z = λ j. record {
    held = record {
      n = u.held.n;
      neighbours = tabulate-cong u.held.n _ _ (λ q l. ap
          (λ b. cond b (get_or a.held.neighbours q 0) (get_or u.held.neighbours q 0)) (at_own _ z q l)) j;
      codes = tabulate-cong u.held.n _ _ (λ q l. ap (λ b. cond b (get_or a.held.codes q 0)
          (get_or u.held.codes q 0)) (at_own _ z q l)) j;
    };
    used = word-cong u.held.n _ _ (λ q l. ap (λ b. cond b (bit a.used q) (bit u.used q)) (at_own _ z q l)) j;
  }

  pub reaches-own : (u : UsedRecord) → u.held.n ≡ 64 → reaches_out (bit own) u ≡ reaches_out s u
  unfolding reaches_out
  reaches-own u z = some-ext u.held.n _ _ (λ j m. some-ext u.held.n _ _
      (λ k l. ap (λ b. bit (get_or u.held.neighbours j 0) k && not b) (at_own _ z k l)))

-- ---- what is read of a record: its count and its neighbour words
module _ (u v : UsedRecord) (count : u.held.n ≡ v.held.n) (same : u.held.neighbours ≡ v.held.neighbours) where
  pub crosses-reads : (word : ℕ) → crosses word u ≡ crosses word v
  unfolding crosses
  crosses-reads word = ap₂ (λ n nb. some n (λ j. some n (λ k.
      bit (get_or nb j 0) k && not (same_bit (bit word j) (bit word k))))) count same

  pub reaches-reads : (s : Word) → reaches_out s u ≡ reaches_out s v
  unfolding reaches_out
  reaches-reads s = ap₂ (λ n nb. some n (λ j. some n (λ k. bit (get_or nb j 0) k && not (s k)))) count same
