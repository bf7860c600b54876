-- The numbers below a bound that pass a test, as a rising list.
use mathlib.Core.Bool.{◌&&◌, Bool, and-true, cond, false, not, true}
use mathlib.Core.List.{List, [], ◌++◌, ◌∷◌, append_assoc, append-nil, map}
use mathlib.Core.Logic.{inl, inr, ◌⊎◌}
use mathlib.Core.Path.{ap, ap₂, refl, subst, sym, ◌∙◌, ◌≡◌}
use Prim.Native.Nat.{◌+◌, ◌-◌, ◌<◌, ◌≤◌, suc, zero, ℕ}
use native.Mathlib.Nat.{add-suc, add-zero, lt_irrefl, not-suc-le-zero}
use native.Mathlib.Omega.{arith}
use lib.Dec.{eqb}
use lib.ListN.{get_or-append, get_or, length, length-append}
use lib.Seq.{get_or_at}
use Rattle.cut.proofs.Counting.{except}
use Rattle.cut.specs.Kernel.{count}
use Rattle.words.proofs.Places.{other_place, same_place}
use Rattle.words.proofs.Sums.{last_or, lt-or-ge}
use Rattle.words.specs.Bits.{digit, fold}
use Rattle.words.specs.Search.{IsFirst}
use Rattle.orbits.specs.Orbits.{On, Rising, selected}

abbrev more : Bool → ℕ → List ℕ → List ℕ
more v b l = cond v (l ++ (b ∷ [])) l

pub selected-ext : (b : ℕ) (f g : ℕ → Bool) → ((v : ℕ) → v < b → f v ≡ g v) → selected b f ≡ selected b g
unfolding selected
selected-ext zero f g h = refl
selected-ext (suc b) f g h =
    ap₂ (λ v l. more v b l) (h b (omega arith)) (selected-ext b f g (λ v l. h v (omega arith)))

pub selected-none : (b : ℕ) (f : ℕ → Bool) → ((v : ℕ) → v < b → f v ≡ false) → selected b f ≡ []
unfolding selected
selected-none zero f h = refl
selected-none (suc b) f h =
    ap₂ (λ v l. more v b l) (h b (omega arith)) (selected-none b f (λ v l. h v (omega arith)))

pub selected-length : (b : ℕ) (f : ℕ → Bool) → length (selected b f) ≡ count b f
unfolding selected fold
selected-length zero f = refl
selected-length (suc b) f = go (f b) (selected b f) (selected-length b f)
  where
    go : (v : Bool) (l : List ℕ) {k : ℕ} → length l ≡ k → length (more v b l) ≡ k + digit v
    go false l e = e ∙ sym (add-zero _)
    go true l e = length-append l (b ∷ []) ∙ ap (λ k. k + 1) e

-- the numbers below a, and those from there on
pub selected-add : (a b : ℕ) (f : ℕ → Bool)
    → selected (a + b) f ≡ selected a f ++ map (λ v. a + v) (selected b (λ v. f (a + v)))
unfolding selected
selected-add a zero f = ap (λ c. selected c f) (add-zero a) ∙ sym (append-nil (selected a f))
selected-add a (suc b) f =
    ap (λ c. selected c f) (add-suc a b) ∙ ap (more (f (a + b)) (a + b)) (selected-add a b f)
    ∙ go (f (a + b)) (selected b (λ v. f (a + v)))
  where
    map_last : (l : List ℕ) → map (λ v. a + v) l ++ ((a + b) ∷ []) ≡ map (λ v. a + v) (l ++ (b ∷ []))
    map_last [] = refl
    map_last (u ∷ l) = ap (λ (k : List ℕ). (a + u) ∷ k) (map_last l)

    go : (v : Bool) (l : List ℕ)
        → more v (a + b) (selected a f ++ map (λ v. a + v) l) ≡ selected a f ++ map (λ v. a + v) (more v b l)
    go false l = refl
    go true l =
        append_assoc (selected a f) (map (λ v. a + v) l) ((a + b) ∷ []) ∙ ap (λ k. selected a f ++ k) (map_last l)

-- none passes from a on
pub selected-upto : (a b : ℕ) (f : ℕ → Bool) → a ≤ b → ((v : ℕ) → a ≤ v → f v ≡ false) → selected b f ≡ selected a f
selected-upto a b f l h =
    let rest : a + (b - a) ≡ b = omega arith in
    ap (λ c. selected c f) (sym rest) ∙ selected-add a (b - a) f
    ∙ ap (λ k. selected a f ++ map (λ v. a + v) k)
    (selected-none (b - a) (λ v. f (a + v)) (λ v m. h (a + v) (omega arith)))
    ∙ append-nil (selected a f)

-- the first that passes, and the others
pub selected-first : (b : ℕ) (f : ℕ → Bool) (i : ℕ) → IsFirst b f i → selected b f ≡ i ∷ selected b (except f i)
unfolding selected
selected-first zero f i F = absurd (not-suc-le-zero F.below)
selected-first (suc b) f i F =
    go (λ l. selected-first b f i (record { below = l; passes = F.passes; least = F.least })) (last_or F.below)
  where
    alone : i ≡ b → (v : ℕ) → v < suc b → except f i v ≡ false
    alone e v l = at (last_or l)
      where
        at : (v ≡ b) ⊎ (v < b) → except f i v ≡ false
        at (inl d) = ap (except f i) (d ∙ sym e) ∙ ap₂ (λ x y. x && not y) F.passes (same_place i)
        at (inr k) = ap (λ x. x && not (eqb v i)) (F.least v (subst (λ w. v < w) (sym e) k))

    behind : (v : Bool) (l : List ℕ) → more v b (i ∷ l) ≡ i ∷ more v b l
    behind false l = refl
    behind true l = refl

    go : (i < b → selected b f ≡ i ∷ selected b (except f i)) → (i ≡ b) ⊎ (i < b)
        → more (f b) b (selected b f) ≡ i ∷ more (except f i b) b (selected b (except f i))
    go ih (inl e) =
        ap₂ (λ v l. more v b l) (ap f (sym e) ∙ F.passes)
        (selected-none b f (λ v l. F.least v (subst (λ w. v < w) (sym e) l)))
        ∙ ap {B = List ℕ} (λ v. v ∷ []) (sym e)
        ∙ ap {B = List ℕ} (λ l. i ∷ l) (sym (ap₂ (λ v l. more v b l) (alone e b (omega arith))
        (selected-none b (except f i) (λ v l. alone e v (omega arith)))))
    go ih (inr l) =
        ap (more (f b) b) (ih l) ∙ behind (f b) (selected b (except f i))
        ∙ ap {B = List ℕ} (λ v. i ∷ more v b (selected b (except f i)))
        (sym (ap (λ v. f b && not v) (other_place (λ e. lt_irrefl b (subst (λ w. w < b) (sym e) l))) ∙ and-true (f b)))

-- ---- what stands on the list
on-more : (v : Bool) (b : ℕ) (l : List ℕ) (h : ℕ) → On l h → On (more v b l) h
on-more false b l h o = o
on-more true b l h o = record {
  place = o.place;
  within = omega (arith, o.within, length-append l (b ∷ []));
  holds = get_or-append l (b ∷ []) 0 o.place o.within ∙ o.holds;
}

on-last : (b : ℕ) (l : List ℕ) → On (l ++ (b ∷ [])) b
on-last b l = record {
  place = length l;
  within = omega (arith, length-append l (b ∷ []));
  holds = get_or_at l b [] 0 (length l) refl;
}

of-last : (b : ℕ) (l : List ℕ) (h : ℕ) → On (l ++ (b ∷ [])) h → On l h ⊎ (h ≡ b)
of-last b l h o = go (lt-or-ge o.place (length l))
  where
    go : (o.place < length l) ⊎ (length l ≤ o.place) → On l h ⊎ (h ≡ b)
    go (inl k) = inl (record {
      place = o.place;
      within = k;
      holds = sym (get_or-append l (b ∷ []) 0 o.place k) ∙ o.holds;
    })
    go (inr k) =
        let end : o.place ≡ length l = omega (arith, o.within, length-append l (b ∷ [])) in
        inr (sym o.holds ∙ get_or_at l b [] 0 o.place (sym end))

pub on-selected : (b : ℕ) (f : ℕ → Bool) (h : ℕ) → h < b → f h ≡ true → On (selected b f) h
unfolding selected
on-selected zero f h l e = absurd (not-suc-le-zero l)
on-selected (suc b) f h l e = go (λ k. on-selected b f h k e) (last_or l)
  where
    go : (h < b → On (selected b f) h) → (h ≡ b) ⊎ (h < b) → On (more (f b) b (selected b f)) h
    go ih (inl d) =
        subst (λ v. On (more v b (selected b f)) h) (sym (ap f (sym d) ∙ e))
        (subst (λ w. On (selected b f ++ (b ∷ [])) w) (sym d) (on-last b (selected b f)))
    go ih (inr k) = on-more (f b) b (selected b f) h (ih k)

pub selected-on : (b : ℕ) (f : ℕ → Bool) (h : ℕ) → On (selected b f) h → (h < b) × (f h ≡ true)
unfolding selected
selected-on zero f h o = absurd (not-suc-le-zero o.within)
selected-on (suc b) f h o = go (f b) refl (selected-on b f h) o
  where
    up : (h < b) × (f h ≡ true) → (h < suc b) × (f h ≡ true)
    up k = (omega (arith, k.0), k.1)

    go : (v : Bool) → f b ≡ v → (On (selected b f) h → (h < b) × (f h ≡ true))
        → On (more v b (selected b f)) h → (h < suc b) × (f h ≡ true)
    go false e ih o = up (ih o)
    go true e ih o = at (of-last b (selected b f) h o)
      where
        at : On (selected b f) h ⊎ (h ≡ b) → (h < suc b) × (f h ≡ true)
        at (inl k) = up (ih k)
        at (inr d) = (omega (arith, d), ap f d ∙ e)

-- ---- in which order
rises-last : (b : ℕ) (s : List ℕ) → Rising s → ((i : ℕ) → i < length s → get_or s i 0 < b) → Rising (s ++ (b ∷ []))
rises-last b s R below i j l k = at (lt-or-ge j (length s))
  where
    old : (i : ℕ) → i < length s → get_or (s ++ (b ∷ [])) i 0 ≡ get_or s i 0
    old i h = get_or-append s (b ∷ []) 0 i h

    at : (j < length s) ⊎ (length s ≤ j) → get_or (s ++ (b ∷ [])) i 0 < get_or (s ++ (b ∷ [])) j 0
    at (inl h) = subst (λ v. v < get_or (s ++ (b ∷ [])) j 0) (sym (old i (omega arith)))
        (subst (λ v. get_or s i 0 < v) (sym (old j h)) (R i j l h))
    at (inr h) =
        let end : j ≡ length s = omega (arith, k, length-append s (b ∷ [])) in
        subst (λ v. v < get_or (s ++ (b ∷ [])) j 0) (sym (old i (omega arith)))
        (subst (λ v. get_or s i 0 < v) (sym (get_or_at s b [] 0 j (sym end))) (below i (omega arith)))

pub selected-rises : (b : ℕ) (f : ℕ → Bool) → Rising (selected b f)
unfolding selected
selected-rises zero f = λ i j l k. absurd (not-suc-le-zero k)
selected-rises (suc b) f = go (f b) (selected-rises b f)
  where
    go : (v : Bool) → Rising (selected b f) → Rising (more v b (selected b f))
    go false ih = ih
    go true ih = λ i j l k. rises-last b (selected b f) ih
        (λ i h. (selected-on b f (get_or (selected b f) i 0) (record { place = i; within = h; holds = refl })).0) i j l k
