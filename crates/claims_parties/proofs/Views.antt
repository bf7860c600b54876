-- States with the parties apart, and states that look alike to a party.
use mathlib.Core.Bool.{Bool, false, not, true, true≢false, ◌||◌}
use mathlib.Core.Path.{ap, refl, sym, ◌∙◌, ◌≡◌}
use Prim.Native.Nat.{◌<◌, ℕ}
use lib.Dec.{eqb}
use Rattle.buffers.specs.Refusals.{other_than}
use Rattle.claims.specs.StoreDemand.{Session}
use Rattle.parties.proofs.OwnPlaces.{EightLong}
use Rattle.parties.specs.Masks.{in_party}
use Rattle.parties.specs.internal.Apart.{Apart}
use Rattle.stabilizer.proofs.SharedTests.{has-length}
use Rattle.words.proofs.BitLaws.{two_cases}
use Rattle.words.proofs.Flags.{neither}
use Rattle.words.specs.Bits.{bit, same_bit}
use Rattle.claims_parties.specs.PartiesDemand.{PartiesApart, LooksAlike}

-- no edge between the parties, a record that passes, and a store of eight places
pub record Good (word : ℕ) (s : Session) : Type 0 where
  pub apart : Apart word s.current
  pub long : EightLong s.store

pub good : (word : ℕ) (s : Session) → PartiesApart word s → Good word s
good word s G =
    let p = neither (other_than 24 s.store.heads)
    (other_than 512 s.store.neighbours || other_than 512 s.store.codes) G.lengths in
    let q = neither (other_than 512 s.store.neighbours) (other_than 512 s.store.codes) p.1 in
    record {
      apart = record { count = G.count; passes = G.passes; no-crossing = G.no-crossing };
      long = record {
        heads = has-length 24 s.store.heads p.0;
        words = has-length 512 s.store.neighbours q.0;
        codes = has-length 512 s.store.codes q.1;
      };
    }

-- ---- looking alike
module _ {word g : ℕ} {s t : Session} where
  pub alike-sym : LooksAlike word g s t → LooksAlike word g t s
  alike-sym a = record { vertices = sym a.vertices; places = sym a.places }

  pub alike-trans : {r : Session} → LooksAlike word g s t → LooksAlike word g t r → LooksAlike word g s r
  alike-trans a b = record { vertices = a.vertices ∙ b.vertices; places = a.places ∙ b.places }

pub alike_refl : (word g : ℕ) (s : Session) → LooksAlike word g s s
alike_refl word g s = record { vertices = refl; places = refl }

-- ---- no qubit is in both parties
module _ (g h : ℕ) (lg : g < 2) (lh : h < 2) (ne : h ≡ g → ⊥) where
  other-flag : eqb h 1 ≡ not (eqb g 1)
  other-flag = two_cases (λ m. (h ≡ m → ⊥) → eqb h 1 ≡ not (eqb m 1))
      (two_cases (λ k. (k ≡ 0 → ⊥) → eqb k 1 ≡ true) (λ n. absurd (n refl)) (λ n. refl) h lh)
      (two_cases (λ k. (k ≡ 1 → ⊥) → eqb k 1 ≡ false) (λ n. refl) (λ n. absurd (n refl)) h lh) g lg ne

  unlike : (b x : Bool) → same_bit b x ≡ true → same_bit b (not x) ≡ false
  unlike true true e = refl
  unlike true false e = absurd (true≢false (sym e))
  unlike false true e = absurd (true≢false (sym e))
  unlike false false e = refl

  pub not-in-both : (word q : ℕ) → in_party word g q ≡ true → in_party word h q ≡ false
  not-in-both word q e = ap (same_bit (bit word q)) other-flag ∙ unlike (bit word q) (eqb g 1) e
