-- A graph is simple exactly if its square of bits is its own transpose and has no bit on the diagonal.
use mathlib.Core.Bool.{◌&&◌, Bool, and-false, and-true, false, not, or-false, true, true≢false, ◌||◌}
use mathlib.Core.List.{List}
use mathlib.Core.Path.{ap, ap₂, refl, subst, sym, ◌∙◌, ◌≡◌}
use Prim.Native.Nat.{◌%◌, ◌*◌, ◌+◌, ◌-◌, ◌<◌, ◌^◌, ℕ, ◌≤◌}
use native.Mathlib.Decide.{ℕ_discrete}
use native.Mathlib.Nat.{add-suc, add-zero, mod-eq_of_lt, not-suc-le-zero}
use native.Mathlib.Omega.{arith}
use lib.Bits.{bit_and, bit_or, bit_xor}
use lib.Dec.{eqb, ltb}
use lib.ListN.{get_or, length, length-set, set}
use lib.Pow.{ones_lt, pow-add, pow-lt, pow_pos}
use lib.Seq.{get_or-set_other, get_or-set_same}
use borrow.Author.Tests.{eq-eqb, le-ltb, lt-ltb, ne_eqb}
use Rattle.record.specs.Lent.{not_simple}
use Rattle.words.proofs.BitLaws.{and-lt-right, bit-and, bit-ext, bit_mask, bit-or, bit-single, bit-xor, zero_bit}
use Rattle.words.proofs.Finite.{bits}
use Rattle.words.proofs.Places.{other_place, same_place, upto-other}
use Rattle.words.proofs.SearchLaws.{some-ext, some-false, some-true}
use Rattle.words.specs.Bits.{bit, same_bit, ◌⊕◌}
use Rattle.words.specs.Search.{first, some}
use Rattle.record_impl.specs.internal.Copies.{Copied}

-- ---- the copy: its first i words
pub record CopiedTo (i n : ℕ) (words rows : List ℕ) : Type 0 where
  pub upto : i ≤ n
  pub copied : Copied i words rows

pub copied_none : (n : ℕ) (words rows : List ℕ) → length rows ≡ 64 → CopiedTo 0 n words rows
copied_none n words rows e =
    record { upto = omega arith; copied = record { long = e; same = λ j l. absurd (not-suc-le-zero l) } }

pub copied-one : (i n : ℕ) (words rows : List ℕ) → n ≤ 64 → i < n → CopiedTo i n words rows
    → CopiedTo (i + 1) n words (set rows i (get_or words i 0))
copied-one i n words rows small l C =
    record {
      upto = omega arith;
      copied = record {
        long = length-set rows i (get_or words i 0) ∙ C.copied.long;
        same = λ j h. at j h
            (ℕ_discrete j i);
      };
    }
  where
    there : i < length rows
    there = omega (arith, C.copied.long)

    at : (j : ℕ) → j < i + 1 → Dec (j ≡ i) → get_or (set rows i (get_or words i 0)) j 0 ≡ get_or words j 0
    at j h (yes e) = ap (λ k. get_or (set rows i (get_or words i 0)) k 0) e ∙ get_or-set_same rows i (get_or words i 0) 0 there
        ∙ ap (λ k. get_or words k 0) (sym e)
    at j h (no d) = get_or-set_other rows i j (get_or words i 0) 0 d ∙ C.copied.same j (omega (arith, d))

-- ---- the diagonal: the bits of the first i words at their own places, and the place of the next
pub record OwnTo (i n : ℕ) (words rows : List ℕ) (own place : ℕ) : Type 0 where
  pub copied : CopiedTo i n words rows
  pub next : i < 64 → place ≡ 2 ^ i
  pub held : (c : ℕ) → bit own c ≡ (ltb c i && bit (get_or words c 0) c)

pub own-none : (n : ℕ) (words rows : List ℕ) → length rows ≡ 64 → OwnTo 0 n words rows 0 1
own-none n words rows e =
    record {
      copied = copied_none n words rows e;
      next = λ l. refl;
      held = λ c. zero_bit c ∙ ap (λ b. b && bit (get_or words c 0) c) (sym (le-ltb c 0 (omega arith)));
    }

-- the place moves on by a shift, which loses nothing below the last
pub next_place : (i place : ℕ) → i + 1 < 64 → place ≡ 2 ^ i → place * 2 % 18446744073709551616 ≡ 2 ^ (i + 1)
next_place i place l e =
    let doubled : place * 2 ≡ 2 ^ (i + 1) = ap (λ v. v * 2) e ∙ sym (pow-add 2 i 1) in
    ap (λ v. v % 18446744073709551616) doubled ∙ mod-eq_of_lt (pow-lt l)

pub own-one : (i n : ℕ) (words rows : List ℕ) (own place place' : ℕ) → n ≤ 64 → i < n → OwnTo i n words rows own place
    → (i + 1 < 64 → place ≡ 2 ^ i → place' ≡ 2 ^ (i + 1))
    → OwnTo (i + 1) n words (set rows i (get_or words i 0)) (bit_or own (bit_and (get_or words i 0) place)) place'
own-one i n words rows own place place' small l S moved =
    record {
      copied = copied-one i n words rows small l S.copied;
      next = λ h. moved h (S.next (omega arith));
      held = λ c. bit-or own (bit_and (get_or words i 0) place) c
          ∙ ap₂ ◌||◌ (S.held c) (bit-and (get_or words i 0) place c
          ∙ ap (λ w. bit (get_or words i 0) c && bit w c) (S.next (omega arith))
          ∙ ap (λ b. bit (get_or words i 0) c && b) (bit-single i c))
          ∙ at c (ℕ_discrete c i);
    }
  where
    at : (c : ℕ) → Dec (c ≡ i) → ((ltb c i && bit (get_or words c 0) c) || (bit (get_or words i 0) c && eqb c i))
        ≡ (ltb c (i + 1) && bit (get_or words c 0) c)
    at c (yes e) = subst (λ c. ((ltb c i && bit (get_or words c 0) c) || (bit (get_or words i 0) c && eqb c i))
        ≡ (ltb c (i + 1) && bit (get_or words c 0) c)) (sym e)
        (ap₂ (λ u v. (u && bit (get_or words i 0) i) || (bit (get_or words i 0) i && v)) (le-ltb i i (omega arith))
        (same_place i)
        ∙ and-true (bit (get_or words i 0) i)
        ∙ ap (λ b. b && bit (get_or words i 0) i) (sym (lt-ltb i (i + 1) (omega arith))))
    at c (no d) = ap₂ (λ u v. (u && bit (get_or words c 0) c) || (bit (get_or words i 0) c && v)) (sym (upto-other c i d))
        (other_place d)
        ∙ ap (λ b. (ltb c (i + 1) && bit (get_or words c 0) c) || b) (and-false (bit (get_or words i 0) c))
        ∙ or-false (ltb c (i + 1) && bit (get_or words c 0) c)

-- ---- searches without an exit
pub record SomeTo (i n : ℕ) (f : ℕ → Bool) (found : Bool) : Type 0 where
  pub upto : i ≤ n
  pub held : found ≡ some i f

pub some-to-all : (i n : ℕ) (f : ℕ → Bool) (found : Bool) → n ≤ i → SomeTo i n f found → found ≡ some n f
some-to-all i n f found l S =
    let upto : i ≤ n = S.upto in
    let whole : i ≡ n = omega arith in
    S.held ∙ ap (λ k. some k f) whole

-- ---- the columns that differ
abbrev pub differ_at : List ℕ → List ℕ → ℕ → ℕ → Bool
differ_at words rows c i = bit (get_or words i 0) c ⊕ bit (get_or rows i 0) c

pub differ-none : (n : ℕ) (words rows : List ℕ) (c : ℕ) → SomeTo 0 n (differ_at words rows c) (bit 0 c)
unfolding some
differ-none n words rows c = record { upto = omega arith; held = zero_bit c }

pub differ-one : (i n : ℕ) (words rows : List ℕ) (all : ℕ) → i < n
    → ((c : ℕ) → SomeTo i n (differ_at words rows c) (bit all c))
    → (c : ℕ) → SomeTo (i + 1) n (differ_at words rows c) (bit (bit_or all (bit_xor (get_or words i 0) (get_or rows i 0))) c)
unfolding some
differ-one i n words rows all l S c =
    record {
      upto = omega arith;
      held = rw (add-suc, add-zero) (bit-or all (bit_xor (get_or words i 0) (get_or rows i 0)) c
          ∙ ap₂ ◌||◌ (S c).held (bit-xor (get_or words i 0) (get_or rows i 0) c));
    }

-- ---- the verdict
-- a word has a bit below n exactly if what the mask leaves is not 0
masked-some : (n w : ℕ) → not (eqb (bit_and w (2 ^ n - 1)) 0) ≡ some n (bit w)
masked-some n w = go (some n (bit w)) refl
  where
    left : (q : ℕ) → q < n → bit (bit_and w (2 ^ n - 1)) q ≡ bit w q
    left q l = bit-and w (2 ^ n - 1) q ∙ ap (λ b. bit w q && b) (bit_mask n q l) ∙ and-true (bit w q)

    go : (v : Bool) → some n (bit w) ≡ v → not (eqb (bit_and w (2 ^ n - 1)) 0) ≡ v
    go true e =
        let F = some-true n (bit w) e in
        ap not (ne_eqb (bit_and w (2 ^ n - 1)) 0 (λ z. true≢false (sym F.passes ∙ sym (left _ F.below)
        ∙ ap (λ v. bit v (first n (bit w))) z ∙ zero_bit _)))
    go false e =
        ap not (eq-eqb (bit_and w (2 ^ n - 1)) 0 (bit-ext n (bit_and w (2 ^ n - 1)) 0
        (and-lt-right n w (2 ^ n - 1) (ones_lt n)) (pow_pos n)
        (λ q l. left q l ∙ some-false n (bit w) e q l ∙ sym (zero_bit q))))

-- the transpose of the copy is that of the words
pub turned-back : (n : ℕ) (words rows rows' : List ℕ) → Copied n words rows
    → ((r c : ℕ) → r < n → c < n → bit (get_or rows' r 0) c ≡ bit (get_or rows c 0) r)
    → (r c : ℕ) → r < n → c < n → bit (get_or rows' r 0) c ≡ bit (get_or words c 0) r
turned-back n words rows rows' C turned r c hr hc = turned r c hr hc ∙ ap (λ w. bit w r) (C.same c hc)

pub square-verdict : (n : ℕ) (words rows : List ℕ) (own w m : ℕ)
    → ((r c : ℕ) → r < n → c < n → bit (get_or rows r 0) c ≡ bit (get_or words c 0) r)
    → ((c : ℕ) → bit own c ≡ (ltb c n && bit (get_or words c 0) c))
    → ((c : ℕ) → bit w c ≡ some n (differ_at words rows c)) → m ≡ 2 ^ n - 1
    → not (eqb (bit_and (bit_or own w) m) 0) ≡ not_simple n (λ j. bit (get_or words j 0))
unfolding not_simple
square-verdict n words rows own w m turned eo ew em =
    ap (λ k. not (eqb (bit_and (bit_or own w) k) 0)) em ∙ masked-some n (bit_or own w)
    ∙ some-ext n _ _ (λ i l. bit-or own w i
    ∙ ap₂ ◌||◌ (eo i ∙ ap (λ b. b && bit (get_or words i 0) i) (lt-ltb i n l)) (column i l))
  where
    unlike : (a b : Bool) → b ⊕ a ≡ not (same_bit a b)
    unlike = bits 2 (λ a b. b ⊕ a) (λ a b. not (same_bit a b)) tt

    column : (i : ℕ) → i < n
        → bit w i ≡ some n (λ j. not (same_bit (bit (get_or words i 0) j) (bit (get_or words j 0) i)))
    column i l = ew i ∙ some-ext n _ _ (λ j k. ap (λ v. bit (get_or words j 0) i ⊕ v) (turned j i k l)
        ∙ unlike (bit (get_or words i 0) j) (bit (get_or words j 0) i))
