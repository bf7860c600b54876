-- The first fitting line, from the answers of the tests in their order, and back.
use mathlib.Core.Bool.{Bool, cond, false, not, true, true≢false}
use mathlib.Core.List.{◌++◌, List, [], ◌∷◌}
use mathlib.Core.Path.{ap, refl, subst, sym, ◌∙◌, ◌≡◌}
use Prim.Native.Nat.{ℕ}
use lib.Dec.{eqb}
use borrow.Author.Tests.{eqb-false, not-true}
use Rattle.buffers.proofs.Lines.{more-refused}
use Rattle.buffers.specs.Refusals.{Refusal, first_fitting}
use Rattle.buffers.specs.Answers.{FirstFits, here, later, none}

-- the number at the place where the tests end: `first-is (later h2 (later h4 (here h5)))`
pub first-is : {ls : List Refusal} {r : ℕ} → FirstFits ls r → r ≡ first_fitting ls
unfolding first_fitting
first-is none = refl
first-is (here {l} {ls} e) = sym (ap (λ b. cond b l.number (first_fitting ls)) e)
first-is (later {l} {ls} e f) = first-is f ∙ sym (ap (λ b. cond b l.number (first_fitting ls)) e)

pub first_fits : (ls : List Refusal) → FirstFits ls (first_fitting ls)
unfolding first_fitting
first_fits [] = none
first_fits (l ∷ ls) = go l.holds refl (first_fits ls)
  where
    go : (b : Bool) → l.holds ≡ b → FirstFits ls (first_fitting ls) →
        FirstFits (l ∷ ls) (cond b l.number (first_fitting ls))
    go true e rest = here e
    go false e rest = later e rest

-- ---- no line holds
abbrev pub NoneHolds : List Refusal → Type 0
NoneHolds [] = Unit
NoneHolds (l ∷ ls) = (l.holds ≡ false) × NoneHolds ls

-- no line has the number 0: true by computing
abbrev pub numbered : List Refusal → Bool
numbered [] = true
numbered (l ∷ ls) = cond (eqb l.number 0) false (numbered ls)

pub none-holds : (ls : List Refusal) → numbered ls ≡ true → first_fitting ls ≡ 0 → NoneHolds ls
unfolding first_fitting
none-holds [] n e = tt
none-holds (l ∷ ls) n e = go l.holds (eqb l.number 0) refl refl n e (none-holds ls)
  where
    go : (b z : Bool) → l.holds ≡ b → eqb l.number 0 ≡ z → cond z false (numbered ls) ≡ true →
        cond b l.number (first_fitting ls) ≡ 0 → (numbered ls ≡ true → first_fitting ls ≡ 0 → NoneHolds ls) →
        NoneHolds (l ∷ ls)
    go b true eb ez n e rest = absurd (true≢false (sym n))
    go true false eb ez n e rest = absurd (eqb-false l.number 0 ez e)
    go false false eb ez n e rest = (eb, rest n e)

-- a list passed over, and the lines after it: `passing ls (none-holds ls refl e) (here h)`
pub passing : (ls : List Refusal) {ms : List Refusal} {r : ℕ} → NoneHolds ls → FirstFits ms r → FirstFits (ls ++ ms) r
passing [] h f = f
passing (l ∷ ls) h f = later h.0 (passing ls h.1 f)

pub none-fits-of : (ls : List Refusal) → NoneHolds ls → first_fitting ls ≡ 0
none-fits-of ls h = sym (first-is (all-later ls h))
  where
    all-later : (ls : List Refusal) → NoneHolds ls → FirstFits ls 0
    all-later [] h = none
    all-later (l ∷ ls) h = later h.0 (all-later ls h.1)

-- ---- lines after others that gave k
-- another number than 0 stays
pub stays : (ls ms : List Refusal) {k : ℕ} → k ≡ first_fitting ls → (k ≡ 0 → ⊥) → k ≡ first_fitting (ls ++ ms)
stays ls ms e h = e ∙ sym (more-refused ls ms (λ z. h (e ∙ z)))

-- after 0 the later lines decide: `decides ls refl e z (here h)`
pub decides : (ls : List Refusal) {ms : List Refusal} {k r : ℕ} → numbered ls ≡ true → k ≡ first_fitting ls → k ≡ 0 →
    FirstFits ms r → r ≡ first_fitting (ls ++ ms)
decides ls n e z f = first-is (passing ls (none-holds ls n (sym e ∙ z)) f)

-- ---- the number says something of the lines
pub fits-at : (ls : List Refusal) {k : ℕ} → k ≡ first_fitting ls → FirstFits ls k
fits-at ls e = subst (FirstFits ls) (sym e) (first_fits ls)

-- another number than a line's has passed it
pub not_first : {l : Refusal} {ls : List Refusal} {k : ℕ} → FirstFits (l ∷ ls) k → (k ≡ l.number → ⊥) →
    (l.holds ≡ false) × FirstFits ls k
not_first (here e) h = absurd (h refl)
not_first (later e f) h = (e, f)

-- a line's number, which no later line has, comes from that line: `is-first f refl z`
abbrev pub apart : ℕ → List Refusal → Bool
apart k [] = not (eqb k 0)
apart k (l ∷ ls) = cond (eqb k l.number) false (apart k ls)

never-apart : {ls : List Refusal} {k : ℕ} (m : ℕ) → FirstFits ls k → apart m ls ≡ true → m ≡ k → ⊥
never-apart m none a e = eqb-false m 0 (not-true (eqb m 0) a) e
never-apart m (here {l} {ls} h) a e = other (eqb m l.number) refl a
  where
    other : (z : Bool) → eqb m l.number ≡ z → cond z false (apart m ls) ≡ true → ⊥
    other true ez a = true≢false (sym a)
    other false ez a = eqb-false m l.number ez e
never-apart m (later {l} {ls} h f) a e = other (eqb m l.number) a (λ b. never-apart m f b e)
  where
    other : (z : Bool) → cond z false (apart m ls) ≡ true → (apart m ls ≡ true → ⊥) → ⊥
    other true a rest = true≢false (sym a)
    other false a rest = rest a

pub is-first : {l : Refusal} {ls : List Refusal} {k : ℕ} → FirstFits (l ∷ ls) k → apart l.number ls ≡ true →
    k ≡ l.number → l.holds ≡ true
is-first (here e) a z = e
is-first (later {l} e f) a z = absurd (never-apart l.number f a (sym z))

-- a number that none of these lines has comes from the later ones
pub skips : (ls : List Refusal) {ms : List Refusal} {k : ℕ} (m : ℕ) → apart m ls ≡ true → k ≡ m → FirstFits (ls ++ ms) k
    →
    NoneHolds ls × FirstFits ms k
skips [] m a z f = (tt, f)
skips (l ∷ ls) {ms} {k} m a z f = go (eqb m l.number) refl a (λ b. skips ls m b z)
  where
    go : (v : Bool) → eqb m l.number ≡ v → cond v false (apart m ls) ≡ true →
        (apart m ls ≡ true → FirstFits (ls ++ ms) k → NoneHolds ls × FirstFits ms k) →
        NoneHolds (l ∷ ls) × FirstFits ms k
    go true e a rest = absurd (true≢false (sym a))
    go false e a rest =
        let p = not_first f (λ y. eqb-false m l.number e (sym z ∙ y)) in
        let q = rest a p.1 in
        ((p.0, q.0), q.1)
