-- One number more is marked and put behind the others; the numbers of two visits are those of one.
use mathlib.Core.Bool.{◌&&◌, and-true, false, not, true, true≢false}
use mathlib.Core.List.{List}
use mathlib.Core.Logic.{inl, inr, ◌≢◌, ◌⊎◌}
use mathlib.Core.Path.{ap, ap₂, refl, subst, sym, ◌∙◌, ◌≡◌}
use Prim.Native.Nat.{◌%◌, ◌+◌, ◌/◌, ◌<◌, ◌^◌, suc, ℕ, ◌≤◌}
use native.Mathlib.Decide.{ℕ_discrete}
use native.Mathlib.Omega.{arith}
use lib.Bits.{bit_xor}
use lib.Dec.{eqb}
use lib.ListN.{get_or, length, length-set, set}
use lib.Seq.{get_or-set_other, get_or-set_same}
use Rattle.cut.proofs.Counting.{count-except, count-ext, count-upto, except}
use Rattle.cut.specs.Kernel.{count}
use Rattle.words.proofs.BitLaws.{bit-flip}
use Rattle.words.proofs.Finite.{⊕-zero}
use Rattle.words.proofs.Places.{other_place, same_place}
use Rattle.words.proofs.Sums.{last_or}
use Rattle.words.specs.Bits.{bit, ◌⊕◌}
use Rattle.orbits_impl.specs.internal.Marks.{Queue, Visited, marked}

-- ---- a mark
-- the marks with that of h flipped
abbrev pub flipped : List ℕ → ℕ → List ℕ
flipped marks h = set marks (h / 64) (bit_xor (get_or marks (h / 64) 0) (2 ^ (h % 64)))

pub flipped-mark : (marks : List ℕ) (h : ℕ) → length marks ≡ 512 → h < 32768 → (u : ℕ)
    → marked (flipped marks h) u ≡ marked marks u ⊕ eqb u h
unfolding marked
flipped-mark marks h long small u = go (ℕ_discrete (u / 64) (h / 64)) (ℕ_discrete u h)
  where
    word : ℕ
    word = bit_xor (get_or marks (h / 64) 0) (2 ^ (h % 64))

    go : Dec (u / 64 ≡ h / 64) → Dec (u ≡ h)
        → bit (get_or (set marks (h / 64) word) (u / 64) 0) (u % 64) ≡ bit (get_or marks (u / 64) 0) (u % 64) ⊕ eqb u h
    go (yes d) e =
        ap (λ w. bit w (u % 64))
        (ap (λ i. get_or (set marks (h / 64) word) i 0) d ∙ get_or-set_same marks (h / 64) word 0 (omega (arith, long)))
        ∙ bit-flip (get_or marks (h / 64) 0) (h % 64) (u % 64)
        ∙ ap₂ (λ i b. bit (get_or marks i 0) (u % 64) ⊕ b) (sym d) (places e)
      where
        places : Dec (u ≡ h) → eqb (u % 64) (h % 64) ≡ eqb u h
        places (yes e) = ap₂ eqb (ap (λ v. v % 64) e) refl ∙ same_place (h % 64) ∙ sym
            (ap (λ v. eqb v h) e ∙ same_place h)
        places (no e) = other_place {i = u % 64} {j = h % 64} (λ f. e (omega (arith, d, f))) ∙ sym (other_place e)
    go (no d) e =
        ap (λ w. bit w (u % 64)) (get_or-set_other marks (h / 64) (u / 64) word 0 d)
        ∙ sym (ap (λ b. bit (get_or marks (u / 64) 0) (u % 64) ⊕ b) (other_place (λ f. d (ap (λ v. v / 64) f)))
        ∙ ⊕-zero (bit (get_or marks (u / 64) 0) (u % 64)))

-- ---- a visit
pub tail-fits : {marks list : List ℕ} {tail : ℕ} → Queue marks list tail → tail ≤ 32768
tail-fits {marks} Q = subst (λ k. k ≤ 32768) Q.counted (count-upto 32768 (marked marks))

module _ (h : ℕ) (small : h < 32768) (marks list : List ℕ) (tail : ℕ) (Q : Queue marks list tail) where
  -- the number was there
  pub visited-before : marked marks h ≡ true → Visited (λ u. u ≡ h) marks list tail marks list tail
  visited-before e = record {
    queue = Q;
    more = λ u d. d;
    all = λ u d. ap (marked marks) d ∙ e;
    only = λ u d. inl d;
    upto = omega arith;
    kept = λ i l. refl;
    past = λ i l. refl;
  }

  -- it was not
  module _ (e : marked marks h ≡ false) where
    new-mark : marked (flipped marks h) h ≡ true
    new-mark = flipped-mark marks h Q.words small h ∙ ap₂ ◌⊕◌ e (same_place h)

    other-mark : (u : ℕ) → u ≢ h → marked (flipped marks h) u ≡ marked marks u
    other-mark u d =
        flipped-mark marks h Q.words small u ∙ ap (λ b. marked marks u ⊕ b) (other_place d) ∙ ⊕-zero (marked marks u)

    grown : (u : ℕ) → marked marks u ≡ true → marked (flipped marks h) u ≡ true
    grown u d = other-mark u (λ f. true≢false (sym d ∙ ap (marked marks) f ∙ e)) ∙ d

    one_more : count 32768 (marked (flipped marks h)) ≡ suc tail
    one_more =
        count-except 32768 (marked (flipped marks h)) h small new-mark
        ∙ ap suc (count-ext 32768 (except (marked (flipped marks h)) h) (marked marks)
        (λ u l. without u (ℕ_discrete u h))
        ∙ Q.counted)
      where
        without : (u : ℕ) → Dec (u ≡ h) → except (marked (flipped marks h)) h u ≡ marked marks u
        without u (yes d) =
            ap₂ (λ a b. a && not b) (ap (marked (flipped marks h)) d ∙ new-mark) (ap (λ v. eqb v h) d ∙ same_place h)
            ∙ sym (ap (marked marks) d ∙ e)
        without u (no d) =
            ap (λ b. marked (flipped marks h) u && not b) (other_place d) ∙ and-true _ ∙ other-mark u d

    pub room : tail < length list
    room = omega (arith, one_more, count-upto 32768 (marked (flipped marks h)), Q.places)

    behind : Visited (λ u. u ≡ h) marks list tail (flipped marks h) (set list tail h) (tail + 1)
    behind = record {
      queue = record {
        words = length-set marks (h / 64) _ ∙ Q.words;
        places = length-set list tail h ∙ Q.places;
        counted = one_more ∙ omega arith;
        listed = λ u d. found u d (ℕ_discrete u h);
        entries = λ i l. entry i (last_or (omega (arith, l)));
      };
      more = grown;
      all = λ u d. ap (marked (flipped marks h)) d ∙ new-mark;
      only = λ u d. either_way u d (ℕ_discrete u h);
      upto = omega arith;
      kept = λ i l. get_or-set_other list tail i h 0 (λ d. absurd (omega (arith, l, d)));
      past = λ i l. get_or-set_other list tail i h 0 (λ d. absurd (omega (arith, l, d)));
    }
      where
        found : (u : ℕ) → marked (flipped marks h) u ≡ true → Dec (u ≡ h)
            → (i : ℕ) × (i < tail + 1) × (get_or (set list tail h) i 0 ≡ u)
        found u d (yes f) = (tail, omega arith, get_or-set_same list tail h 0 room ∙ sym f)
        found u d (no f) =
            let o = Q.listed u (sym (other-mark u f) ∙ d) in (
              o.0,
              omega (arith, o.1),
              get_or-set_other list tail o.0 h 0 (λ c. absurd (omega (arith, o.1, c))) ∙
                  o.2,
            )

        entry : (i : ℕ) → (i ≡ tail) ⊎ (i < tail) → marked (flipped marks h) (get_or (set list tail h) i 0) ≡ true
        entry i (inl d) =
            ap (marked (flipped marks h)) (ap (λ i. get_or (set list tail h) i 0) d ∙ get_or-set_same list tail h 0 room)
            ∙ new-mark
        entry i (inr l) =
            ap (marked (flipped marks h)) (get_or-set_other list tail i h 0 (λ d. absurd (omega (arith, l, d))))
            ∙ grown (get_or list i 0) (Q.entries i l)

        either_way : (u : ℕ) → marked (flipped marks h) u ≡ true → Dec (u ≡ h) → (marked marks u ≡ true) ⊎ (u ≡ h)
        either_way u d (yes f) = inr f
        either_way u d (no f) = inl (sym (other-mark u f) ∙ d)

    pub visited-anew : (word : ℕ) → word ≡ bit_xor (get_or marks (h / 64) 0) (2 ^ (h % 64))
        → Visited (λ u. u ≡ h) marks list tail (set marks (h / 64) word) (set list tail h) (tail + 1)
    visited-anew word f =
        subst (λ w. Visited (λ u. u ≡ h) marks list tail (set marks (h / 64) w) (set list tail h) (tail + 1)) (sym f)
        behind

-- ---- several visits
pub visited-none : (P : ℕ → Type 0) (marks list : List ℕ) (tail : ℕ) → Queue marks list tail → ((u : ℕ) → P u → ⊥)
    → Visited P marks list tail marks list tail
visited-none P marks list tail Q none = record {
  queue = Q;
  more = λ u d. d;
  all = λ u d. absurd (none u d);
  only = λ u d. inl d;
  upto = omega arith;
  kept = λ i l. refl;
  past = λ i l. refl;
}

pub visited-both : {P R : ℕ → Type 0} (S : ℕ → Type 0) {m l m₁ l₁ m₂ l₂ : List ℕ} {t t₁ t₂ : ℕ}
    → Visited P m l t m₁ l₁ t₁ → Visited R m₁ l₁ t₁ m₂ l₂ t₂ → ((u : ℕ) → P u → S u) → ((u : ℕ) → R u → S u)
    → ((u : ℕ) → S u → P u ⊎ R u) → Visited S m l t m₂ l₂ t₂
visited-both {P = P} {R = R} S {m = m} {m₁ = m₁} {m₂ = m₂} A B left right out = record {
  queue = B.queue;
  more = λ u d. B.more u (A.more u d);
  all = λ u d. elim (out u d) [ inl p ↦ B.more u (A.all u p) | inr r ↦ B.all u r ];
  only = λ u d. before u (B.only u d);
  upto = omega (arith, A.upto, B.upto);
  kept = λ i l. B.kept i (omega (arith, l, A.upto)) ∙ A.kept i l;
  past = λ i l. B.past i l ∙ A.past i (omega (arith, l, B.upto));
}
  where
    before : (u : ℕ) → (marked m₁ u ≡ true) ⊎ R u → (marked m u ≡ true) ⊎ S u
    before u (inr r) = inr (right u r)
    before u (inl d) = elim (A.only u d) [ inl e ↦ inl e | inr p ↦ inr (left u p) ]
