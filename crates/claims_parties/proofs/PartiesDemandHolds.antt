-- What a party sees of a run is what it sees of its own calls alone: so two runs with the same calls of the party
-- look the same to it.
use mathlib.Core.Bool.{Bool, cond, false, true, true≢false}
use mathlib.Core.List.{List, [], ◌∷◌}
use mathlib.Core.Path.{ap, ap₂, refl, subst, sym, ◌∙◌, ◌≡◌}
use Prim.Native.Nat.{◌<◌, ℕ}
use native.Mathlib.Omega.{arith}
use lib.Dec.{eqb}
use lib.ListN.{get_or-replicate}
use borrow.Author.Tests.{eq-eqb, eqb-false, eqb-true}
use Rattle.claims.specs.StoreDemand.{Session}
use Rattle.parties.proofs.Edges.{none-crosses}
use Rattle.jobs.proofs.Starting.{started-stands}
use Rattle.words.proofs.BitLaws.{zero_bit}
use Rattle.words.specs.Bits.{bit}
use Rattle.claims_parties.proofs.OtherCalls.{accepted-party, left-good, other-left}
use Rattle.claims_parties.proofs.OwnCalls.{own-left, own-measured, own-number}
use Rattle.claims_parties.proofs.Views.{Good, alike_refl, alike-sym, alike-trans, good}
use Rattle.claims_parties.specs.PartyRuns.{
  CallOf,
  SharedCall,
  measured_numbers,
  observations,
  observed,
  own_calls,
  shared_after,
  shared_left,
  shared_measured,
  shared_number,
  shared_start,
}
use Rattle.claims_parties.specs.PartiesDemand.{PartiesApart, LooksAlike, NonInterference, NonInterferenceFrom}

-- ---- one call
-- accepted, or nothing changed
after-cases : (word g : ℕ) (s : Session) (c : SharedCall) (P : Session → Type 0) →
    (shared_number word g s c ≡ 0 → P (shared_left word g s c)) → P s → P (shared_after word g s c)
after-cases word g s c P left kept = go (eqb (shared_number word g s c) 0) (eqb-true (shared_number word g s c) 0)
  where
    go : (b : Bool) → (b ≡ true → shared_number word g s c ≡ 0) → P (cond b (shared_left word g s c) s)
    go true z = left (z refl)
    go false z = kept

after-good : (word g : ℕ) (s : Session) → Good word s → (c : SharedCall) → Good word (shared_after word g s c)
after-good word g s S c = after-cases word g s c (Good word)
    (λ z. left-good word g (accepted-party word g s c z) s S c z) S

after-other : (word g h : ℕ) → g < 2 → (h ≡ g → ⊥) → (s : Session) → Good word s → (c : SharedCall) →
    LooksAlike word g (shared_after word h s c) s
after-other word g h lg ne s S c = after-cases word h s c (λ r. LooksAlike word g r s)
    (λ z. other-left word g h lg (accepted-party word h s c z) ne s S c z) (alike_refl word g s)

-- ---- a party's own call on two states that look alike
module _ (word g : ℕ) (lg : g < 2) (s t : Session) (S : Good word s) (T : Good word t) (A : LooksAlike word g s t)
    (c : SharedCall) where
  abbrev r : ℕ
  r = shared_number word g s c

  same : shared_number word g s c ≡ shared_number word g t c
  same = own-number word g lg s t S T A c

  -- what holds of both by whether they are accepted
  own-after : LooksAlike word g (shared_after word g s c) (shared_after word g t c)
  own-after = subst (λ m. LooksAlike word g (shared_after word g s c) (cond (eqb m 0) (shared_left word g t c) t)) same
      (go (eqb r 0) (eqb-true r 0))
    where
      go : (b : Bool) → (b ≡ true → r ≡ 0) → LooksAlike word g (cond b (shared_left word g s c) s)
          (cond b (shared_left word g t c) t)
      go true z = own-left word g lg s t S T A c (z refl)
      go false z = A

  measured-same : shared_measured word g s c ≡ shared_measured word g t c
  measured-same = go (eqb r 0) (eqb-true r 0) ∙ ap (λ m. cond (eqb m 0) (measured_numbers t c) []) same
    where
      go : (b : Bool) → (b ≡ true → r ≡ 0) → cond b (measured_numbers s c) [] ≡ cond b (measured_numbers t c) []
      go true z = own-measured word g lg s t S T A c (z refl)
      go false z = refl

  own-observed : observed word g s c ≡ observed word g t c
  own-observed = λ j. record {
    refusal = same j;
    measured = measured-same j;
    vertices = own-after.vertices j;
    saved-states = own-after.places j;
  }

-- ---- runs
-- the calls of one party alone
abbrev alone : ℕ → List SharedCall → List CallOf
alone g [] = []
alone g (c ∷ cs) = record { party = g; call = c } ∷ alone g cs

-- one call of a run, with what holds of the rest
module _ (word g : ℕ) (lg : g < 2) (s t : Session) (S : Good word s) (T : Good word t) (A : LooksAlike word g s t)
    (c : CallOf)
    (cs : List CallOf) (rest : (s t : Session) → Good word s → Good word t → LooksAlike word g s t →
    observations word g s cs ≡ observations word g t (alone g (own_calls g cs))) where
  one_more : (b : Bool) → eqb c.party g ≡ b →
      cond b (observed word g s c.call ∷ observations word g (shared_after word c.party s c.call) cs)
      (observations word g (shared_after word c.party s c.call) cs)
      ≡ observations word g t (alone g (cond b (c.call ∷ own_calls g cs) (own_calls g cs)))
  one_more true e =
      ap₂ ◌∷◌ (own-observed word g lg s t S T A c.call)
      (ap (λ h. observations word g (shared_after word h s c.call) cs) (eqb-true c.party g e)
      ∙ rest (shared_after word g s c.call) (shared_after word g t c.call) (after-good word g s S c.call)
      (after-good word g t T c.call) (own-after word g lg s t S T A c.call))
      ∙ sym (ap (λ b. cond b
      (observed word g t c.call ∷ observations word g (shared_after word g t c.call) (alone g (own_calls g cs)))
      (observations word g (shared_after word g t c.call) (alone g (own_calls g cs)))) (eq-eqb g g refl))
  one_more false e =
      rest (shared_after word c.party s c.call) t (after-good word c.party s S c.call) T
      (alike-trans (after-other word g c.party lg (eqb-false c.party g e) s S c.call) A)

run_alone : (word g : ℕ) → g < 2 → (s t : Session) → Good word s → Good word t → LooksAlike word g s t →
    (cs : List CallOf) →
    observations word g s cs ≡ observations word g t (alone g (own_calls g cs))
run_alone word g lg s t S T A [] = refl
run_alone word g lg s t S T A (c ∷ cs) =
    one_more word g lg s t S T A c cs (λ s t S T A. run_alone word g lg s t S T A cs) (eqb c.party g) refl

pub non-interference-from : NonInterferenceFrom
non-interference-from word g lg s t S T A cs ds e =
    run_alone word g lg s s (good word s S) (good word s S) (alike_refl word g s) cs
    ∙ ap (λ own. observations word g s (alone g own)) e
    ∙ sym (run_alone word g lg t s (good word t T) (good word s S) (alike-sym A) ds)

-- ---- "all start in +Z"
start-apart : (word : ℕ) → PartiesApart word shared_start
start-apart word =
    record {
      count = refl;
      passes = (started-stands 64 (omega arith) (omega arith)).still;
      no-crossing = none-crosses word shared_start.current (λ j k hj hk t. absurd (true≢false (sym t
          ∙ ap (λ w. bit w k) (get_or-replicate 64 j 0 0 hj) ∙ zero_bit k)));
      lengths = refl;
    }

pub non-interference : NonInterference
non-interference word g lg = non-interference-from word g lg shared_start shared_start (start-apart word)
    (start-apart word)
    (alike_refl word g shared_start)
