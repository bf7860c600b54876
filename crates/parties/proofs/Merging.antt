-- A party's vertices alone, after vertices of one party were put back: those of that party are as they were put back,
-- and those of the other as they were.
use mathlib.Core.Bool.{◌&&◌, Bool, cond, false, true}
use mathlib.Core.Path.{ap, refl, sym, ◌∙◌, ◌≡◌}
use Prim.Native.Nat.{◌<◌, ℕ}
use lib.ListN.{get_or}
use Rattle.buffers.proofs.Tabulate.{tabulate-at, tabulate-cong}
use Rattle.buffers.specs.Buffers.{tabulate}
use Rattle.operations.specs.Used.{UsedRecord}
use Rattle.words.proofs.BitLaws.{bit-word_of, word-cong}
use Rattle.words.specs.Bits.{Word, bit, word_of}
use Rattle.parties.specs.Masks.{masked, merged}

-- ---- where a test is true, or is not asked
module _ {A : Type 0} where
  where-true : (b : Bool) (z : A) {x y : A} → (b ≡ true → x ≡ y) → cond b x z ≡ cond b y z
  where-true true z h = h refl
  where-true false z h = refl

both-where : (b : Bool) {x y : Bool} → (b ≡ true → x ≡ y) → (b && x) ≡ (b && y)
both-where true h = h refl
both-where false h = refl

-- ---- two records with the same vertices in s are the same with the others away
pub record SameIn (s : Word) (a b : UsedRecord) : Type 0 where
  pub count : a.held.n ≡ b.held.n
  pub word : (q : ℕ) → q < a.held.n → s q ≡ true → get_or a.held.neighbours q 0 ≡ get_or b.held.neighbours q 0
  pub code : (q : ℕ) → q < a.held.n → s q ≡ true → get_or a.held.codes q 0 ≡ get_or b.held.codes q 0
  pub used : (q : ℕ) → q < a.held.n → s q ≡ true → bit a.used q ≡ bit b.used q

pub masked_same : (s : Word) (a b : UsedRecord) → SameIn s a b → masked s a ≡ masked s b
masked_same s a b S = λ j. record {
  held = record {
    n = S.count j;
    neighbours = (tabulate-cong a.held.n _ _ (λ q l. where-true (s q) 0 (S.word q l)) ∙ ap
        (λ n. tabulate n (λ q. cond (s q) (get_or b.held.neighbours q 0) 0)) S.count) j;
    codes = (tabulate-cong a.held.n _ _ (λ q l. where-true (s q) 8 (S.code q l)) ∙ ap
        (λ n. tabulate n (λ q. cond (s q) (get_or b.held.codes q 0) 8)) S.count) j;
  };
  used = (word-cong a.held.n _ _ (λ q l. both-where (s q) (S.used q l)) ∙ ap
      (λ n. word_of n (λ q. s q && bit b.used q)) S.count) j;
}

-- ---- a vertex of a merged record
module _ (s : Word) (a u : UsedRecord) (q : ℕ) (l : q < u.held.n) where
  pub merged-word : (b : Bool) → s q ≡ b → get_or (merged s a u).held.neighbours q 0
      ≡ cond b (get_or a.held.neighbours q 0) (get_or u.held.neighbours q 0)
  merged-word b e = tabulate-at u.held.n _ q l
      ∙ ap (λ t. cond t (get_or a.held.neighbours q 0) (get_or u.held.neighbours q 0)) e

  pub merged-code : (b : Bool) → s q ≡ b → get_or (merged s a u).held.codes q 0
      ≡ cond b (get_or a.held.codes q 0) (get_or u.held.codes q 0)
  merged-code b e = tabulate-at u.held.n _ q l
      ∙ ap (λ t. cond t (get_or a.held.codes q 0) (get_or u.held.codes q 0)) e

  pub merged-used : (b : Bool) → s q ≡ b → bit (merged s a u).used q ≡ cond b (bit a.used q) (bit u.used q)
  merged-used b e = bit-word_of u.held.n _ q l ∙ ap (λ t. cond t (bit a.used q) (bit u.used q)) e

-- ---- the party itself
pub masked-merged-own : (s : Word) (a u : UsedRecord) → a.held.n ≡ u.held.n → masked s (merged s a u) ≡ masked s a
masked-merged-own s a u e = masked_same s (merged s a u) a (record {
  count = sym e;
  word = λ q l h. merged-word s a u q l true h;
  code = λ q l h. merged-code s a u q l true h;
  used = λ q l h. merged-used s a u q l true h;
})

-- ---- the other: no vertex is in both
pub masked-merged-other : (s t : Word) → ((q : ℕ) → t q ≡ true → s q ≡ false) → (a u : UsedRecord) →
    masked t (merged s a u) ≡ masked t u
masked-merged-other s t apart a u = masked_same t (merged s a u) u (record {
  count = refl;
  word = λ q l h. merged-word s a u q l false (apart q h);
  code = λ q l h. merged-code s a u q l false (apart q h);
  used = λ q l h. merged-used s a u q l false (apart q h);
})
