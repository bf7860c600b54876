-- Parts: the test of closed sets agrees, a part is the least closed set that has its vertex, and the vertices of a
-- part have the same one.
use mathlib.Core.Bool.{◌&&◌, Bool, false, not, true, true≢false, ◌||◌}
use mathlib.Core.Logic.{◌↔◌}
use mathlib.Core.Path.{ap, ap₂, fun_ext, refl, sym, ◌∙◌, ◌≡◌}
use Prim.Native.Nat.{◌<◌, ◌^◌, ℕ}
use borrow.Author.Tests.{not-true}
use Rattle.record.specs.Graph.{Graph}
use Rattle.words.proofs.BitLaws.{bit-word_of, word_of-lt}
use Rattle.words.proofs.Flags.{both_true, implied, implies, same-by-both}
use Rattle.words.proofs.SearchLaws.{every-at, every_in}
use Rattle.words.specs.Bits.{Word, bit, word_of}
use Rattle.words.specs.Search.{every}
use Rattle.comparison.specs.internal.Parts.{Closed}
use Rattle.comparison.specs.Parts.{Path, along, is_closed, here, part_of}

pub both : {a b : Bool} → a ≡ true → b ≡ true → (a && b) ≡ true
both e f = ap₂ ◌&&◌ e f

module _ (n : ℕ) (θ : Graph) where
  pub closed_is : (s : Word) → (is_closed n θ s ≡ true) ↔ Closed n θ s
  unfolding is_closed
  closed_is s = (
    (λ e i j k l a b. implied (s i && θ i j) (s j)
        (every-at n (λ j. not (s i && θ i j) || s j)
        (every-at n (λ i. every n (λ j. not (s i && θ i j) || s j)) e i k) j l) (both a b)),
    (λ C. every_in n (λ i. every n (λ j. not (s i && θ i j) || s j))
        (λ i k. every_in n (λ j. not (s i && θ i j) || s j)
        (λ j l. implies (s i && θ i j) (s j) (λ e. let h = both_true (s i) (θ i j) e in C i j k l h.0 h.1)))),
  )

  -- closed sets that are equal below n
  pub closed-ext : (s t : Word) → ((q : ℕ) → q < n → s q ≡ t q) → Closed n θ s → Closed n θ t
  closed-ext s t h C i j k l a b = sym (h j l) ∙ C i j k l (h i k ∙ a) b

  -- every closed set that has q has its part
  pub part-within : (s : Word) → Closed n θ s → (q t : ℕ) → q < n → t < n → s q ≡ true → part_of n θ q t ≡ true
      → s t ≡ true
  unfolding part_of
  part-within s C q t k l a e =
      sym (bit-word_of n s t l)
      ∙ implied (is_closed n θ (bit (word_of n s)) && bit (word_of n s) q) (bit (word_of n s) t)
      (every-at (2 ^ n) (λ v. not (is_closed n θ (bit v) && bit v q) || bit v t) e (word_of n s) (word_of-lt n s))
      (both ((closed_is (bit (word_of n s))).1 (closed-ext s (bit (word_of n s)) (λ j m. sym (bit-word_of n s j m)) C))
      (bit-word_of n s q k ∙ a))

  -- and what every closed set with q has is in the part
  pub in-part : (q t : ℕ) → ((v : ℕ) → Closed n θ (bit v) → bit v q ≡ true → bit v t ≡ true)
      → part_of n θ q t ≡ true
  unfolding part_of
  in-part q t h = every_in (2 ^ n) (λ v. not (is_closed n θ (bit v) && bit v q) || bit v t)
      (λ v l. implies (is_closed n θ (bit v) && bit v q) (bit v t)
      (λ e. let b = both_true (is_closed n θ (bit v)) (bit v q) e in h v ((closed_is (bit v)).0 b.0) b.1))

  pub part-has : (q : ℕ) → part_of n θ q q ≡ true
  part-has q = in-part q q (λ v C a. a)

  -- what a set with q has, as of every closed one
  pub of_part : (q t v : ℕ) → v < 2 ^ n → part_of n θ q t ≡ true → Closed n θ (bit v) → bit v q ≡ true
      → bit v t ≡ true
  unfolding part_of
  of_part q t v l e C a =
      implied (is_closed n θ (bit v) && bit v q) (bit v t)
      (every-at (2 ^ n) (λ v. not (is_closed n θ (bit v) && bit v q) || bit v t) e v l)
      (both ((closed_is (bit v)).1 C) a)

  pub part-closed : (q : ℕ) → q < n → Closed n θ (part_of n θ q)
  part-closed q k i j l m a b =
      in-part q j (λ v C h. C i j l m (part-within (bit v) C q i k l h a) b)

  -- a path stays in every closed set, so in the part
  path-within : (s : Word) → Closed n θ s → (q : ℕ) → {t : ℕ} → Path n θ q t → s q ≡ true → s t ≡ true
  path-within s C q here a = a
  path-within s C q (along u t k l p e) a = C u t k l (path-within s C q p a) e

  pub path-in-part : (q t : ℕ) → Path n θ q t → part_of n θ q t ≡ true
  path-in-part q t p = in-part q t (λ v C a. path-within (bit v) C q p a)

  -- edges have no direction: what a closed set leaves over is closed
  pub rest-closed : ((i j : ℕ) → θ i j ≡ θ j i) → (s : Word) → Closed n θ s → Closed n θ (λ q. not (s q))
  rest-closed symmetric s C i j k l a b = go (s j) refl
    where
      go : (v : Bool) → s j ≡ v → not v ≡ true
      go false e = refl
      go true e = absurd (true≢false (sym (C j i l k e (symmetric j i ∙ b)) ∙ not-true (s i) a))

  -- two vertices of a part lie in one another's
  pub part-together : ((i j : ℕ) → θ i j ≡ θ j i) → (q i j : ℕ) → q < n → i < n → j < n → part_of n θ q i ≡ true
      → part_of n θ q j ≡ true → part_of n θ i j ≡ true
  part-together symmetric q i j k l m a b = in-part i j (λ v C h. go v C h (bit v q) refl)
    where
      go : (v : ℕ) → Closed n θ (bit v) → bit v i ≡ true → (x : Bool) → bit v q ≡ x → bit v j ≡ true
      go v C h true e = part-within (bit v) C q j k m e b
      go v C h false e =
          absurd (true≢false (sym h ∙ not-true (bit v i)
          (part-within (λ t. not (bit v t)) (rest-closed symmetric (bit v) C) q i k l (ap not e) a)))

-- graphs with the same closed sets have the same parts
pub same_parts : (n : ℕ) (θ φ : Graph) → ((s : Word) → Closed n θ s → Closed n φ s)
    → ((s : Word) → Closed n φ s → Closed n θ s) → (q t : ℕ) → part_of n θ q t ≡ part_of n φ q t
unfolding part_of
same_parts n θ φ there back q t =
    ap (λ f. every (2 ^ n) (λ v. not (f v && bit v q) || bit v t)) (fun_ext (λ v.
    same-by-both (is_closed n θ (bit v)) (is_closed n φ (bit v))
    (λ e. (closed_is n φ (bit v)).1 (there (bit v) ((closed_is n θ (bit v)).0 e)))
    (λ e. (closed_is n θ (bit v)).1 (back (bit v) ((closed_is n φ (bit v)).0 e)))))
