-- How many numbers below a bound pass a test: an injection shows that no more pass one test than another.
use mathlib.Core.Bool.{◌&&◌, Bool, and-true, false, not, true}
use mathlib.Core.Logic.{inl, inr, ◌⊎◌}
use mathlib.Core.Path.{ap, ap₂, refl, subst, sym, ◌∙◌, ◌≡◌}
use Prim.Native.Nat.{◌+◌, ◌/◌, ◌<◌, ◌^◌, ◌≤◌, suc, zero, zero-le, ℕ}
use native.Mathlib.Nat.{add_assoc, add-suc, add-zero, le_antisymm, lt_irrefl, not-suc-le-zero, zero-add}
use native.Mathlib.Omega.{arith}
use lib.Arith.{lt-one}
use lib.Bits.{bit_xor, xor_lt}
use lib.Count.{ones, ones_step}
use lib.Dec.{eqb}
use Rattle.words.proofs.BitLaws.{bit-ext∞, bit-suc, bit-xor, bit-zero, digit-odd, half_lt}
use Rattle.words.proofs.Finite.{⊕-twice}
use Rattle.words.proofs.Places.{other_place, same_place}
use Rattle.words.proofs.Sums.{Monoid, fold-ext, fold-shift, last_or}
use Rattle.words.specs.Bits.{bit, digit, fold, ◌⊕◌}
use Rattle.cut.specs.Kernel.{count}

pub count-ext : (b : ℕ) (f g : ℕ → Bool) → ((v : ℕ) → v < b → f v ≡ g v) → count b f ≡ count b g
count-ext b f g h = fold-ext 0 ◌+◌ b (λ v l. ap digit (h v l))

pub count_none : (b : ℕ) (f : ℕ → Bool) → ((v : ℕ) → v < b → f v ≡ false) → count b f ≡ 0
unfolding fold
count_none zero f h = refl
count_none (suc b) f h = ap₂ (λ c v. c + digit v) (count_none b f (λ v l. h v (omega arith))) (h b (omega arith))

pub count-upto : (b : ℕ) (f : ℕ → Bool) → count b f ≤ b
unfolding fold
count-upto zero f = zero-le
count-upto (suc b) f = go (f b) (count-upto b f)
  where
    go : (v : Bool) → count b f ≤ b → count b f + digit v ≤ suc b
    go false h = omega arith
    go true h = omega arith

-- those that pass, and those that do not
pub count-both : (b : ℕ) (f : ℕ → Bool) → count b f + count b (λ v. not (f v)) ≡ b
unfolding fold
count-both zero f = refl
count-both (suc b) f = go (f b) (count-both b f)
  where
    go : (s : Bool) → count b f + count b (λ v. not (f v)) ≡ b
        → (count b f + digit s) + (count b (λ v. not (f v)) + digit (not s)) ≡ suc b
    go false h = omega arith
    go true h = omega arith

-- the numbers below a, and those from there on
pub count_add : (a b : ℕ) (f : ℕ → Bool) → count (a + b) f ≡ count a f + count b (λ v. f (a + v))
unfolding fold
count_add a zero f = simp add-zero
count_add a (suc b) f =
    ap (λ c. count c f) (add-suc a b) ∙ ap (λ c. c + digit (f (a + b))) (count_add a b f)
    ∙ add_assoc (count a f) (count b (λ v. f (a + v))) (digit (f (a + b)))

-- the ones of a word
pub sums : Monoid ℕ 0 ◌+◌
sums = record { assoc = add_assoc; unit-l = zero-add; unit-r = add-zero }

pub ones-count : (n w : ℕ) → w < 2 ^ n → ones w ≡ count n (bit w)
unfolding fold ones
ones-count zero w h = ap ones (lt-one h)
ones-count (suc n) w h =
    ones_step w
    ∙ ap₂ ◌+◌ (sym (ap digit (bit-zero w) ∙ digit-odd w))
    (ones-count n (w / 2) (half_lt n h) ∙ fold-ext 0 ◌+◌ n (λ q l. ap digit (sym (bit-suc w q))))
    ∙ sym (fold-shift 0 ◌+◌ sums n (λ q. digit (bit w q)))

-- ---- one number less
abbrev pub except : (ℕ → Bool) → ℕ → ℕ → Bool
except f u v = f v && not (eqb v u)

kept : (f : ℕ → Bool) (u v : ℕ) → (v ≡ u → ⊥) → except f u v ≡ f v
kept f u v d = ap (λ b. f v && not b) (other_place d) ∙ and-true (f v)

pub count-except : (b : ℕ) (f : ℕ → Bool) (u : ℕ) → u < b → f u ≡ true → count b f ≡ suc (count b (except f u))
unfolding fold
count-except zero f u l e = absurd (not-suc-le-zero l)
count-except (suc b) f u l e = go (λ k. count-except b f u k e) (last_or l)
  where
    go : (u < b → count b f ≡ suc (count b (except f u))) → (u ≡ b) ⊎ (u < b)
        → count b f + digit (f b) ≡ suc (count b (except f u) + digit (except f u b))
    go ih (inl p) =
        let same : count b (except f u) ≡ count b f =
        count-ext b (except f u) f (λ v k. kept f u v (λ q. lt_irrefl v (subst (λ w. v < w) (sym p ∙ sym q) k))) in
        let here : digit (f b) ≡ 1 = ap digit (ap f (sym p) ∙ e) in
        let gone : digit (except f u b) ≡ 0 = ap₂ (λ w s. digit (w && not s)) (ap f (sym p) ∙ e)
        (ap (λ w. eqb w u) (sym p) ∙ same_place u) in
        omega (arith, same, here, gone)
    go ih (inr k) =
        let last : digit (except f u b) ≡ digit (f b) =
        ap digit (kept f u b (λ q. lt_irrefl b (subst (λ w. w < b) (sym q) k))) in
        omega (arith, ih k, last)

-- ---- injections
-- the numbers below b that pass f go, each to another one, to numbers below c that pass h
pub record Injection (b : ℕ) (f : ℕ → Bool) (c : ℕ) (h : ℕ → Bool) : Type 0 where
  pub to : (v : ℕ) → v < b → f v ≡ true → ℕ
  pub below : (v : ℕ) (l : v < b) (e : f v ≡ true) → to v l e < c
  pub passes : (v : ℕ) (l : v < b) (e : f v ≡ true) → h (to v l e) ≡ true
  pub apart : (v w : ℕ) (l : v < b) (k : w < b) (e : f v ≡ true) (d : f w ≡ true) → to v l e ≡ to w k d → v ≡ w

pub count-le : (b : ℕ) (f : ℕ → Bool) (c : ℕ) (h : ℕ → Bool) → Injection b f c h → count b f ≤ count c h
unfolding fold
count-le zero f c h J = zero-le
count-le (suc b) f c h J = go (f b) refl (count-le b f c)
  where
    up : {v : ℕ} → v < b → v < suc b
    up l = omega arith

    go : (s : Bool) → f b ≡ s → ((h' : ℕ → Bool) → Injection b f c h' → count b f ≤ count c h')
        → count b f + digit s ≤ count c h
    go false e ih = rw add-zero (ih h (record {
      to = λ v l. J.to v (up l);
      below = λ v l. J.below v (up l);
      passes = λ v l. J.passes v (up l);
      apart = λ v w l k. J.apart v w (up l) (up k);
    }))
    go true e ih =
        let last : b < suc b = omega arith in
        let fewer : count b f ≤ count c (except h (J.to b last e)) = ih (except h (J.to b last e)) (record {
          to = λ v l. J.to v (up l);
          below = λ v l. J.below v (up l);
          passes = λ v l d. kept h (J.to b last e) (J.to v (up l) d)
              (λ q. lt_irrefl b (subst (λ w. w < b) (J.apart v b (up l) last d e q) l))
              ∙ J.passes v (up l) d;
          apart = λ v w l k. J.apart v w (up l) (up k);
        }) in
        omega (arith, fewer, count-except c h (J.to b last e) (J.below b last e) (J.passes b last e))

-- ---- words
xor-apart : (d v w : ℕ) → bit_xor v d ≡ bit_xor w d → v ≡ w
xor-apart d v w e = bit-ext∞ v w (λ t. sym (⊕-twice (bit v t) (bit d t))
    ∙ ap (λ b. b ⊕ bit d t) (sym (bit-xor v d t) ∙ ap (λ u. bit u t) e ∙ bit-xor w d t)
    ∙ ⊕-twice (bit w t) (bit d t))

-- adding a word exchanges the words that pass two tests
pub count-exchange : (n d : ℕ) → d < 2 ^ n → (f g : ℕ → Bool) → ((v : ℕ) → f v ≡ true → g (bit_xor v d) ≡ true)
    → ((v : ℕ) → g v ≡ true → f (bit_xor v d) ≡ true) → count (2 ^ n) f ≡ count (2 ^ n) g
count-exchange n d h f g forth back = le_antisymm (count-le (2 ^ n) f (2 ^ n) g (added f g forth))
    (count-le (2 ^ n) g (2 ^ n) f (added g f back))
  where
    added : (f g : ℕ → Bool) → ((v : ℕ) → f v ≡ true → g (bit_xor v d) ≡ true) → Injection (2 ^ n) f (2 ^ n) g
    added f g k =
        record {
          to = λ v l e. bit_xor v d;
          below = λ v l e. xor_lt n v d l h;
          passes = λ v l e. k v e;
          apart = λ v w l m e c. xor-apart d v w;
        }
