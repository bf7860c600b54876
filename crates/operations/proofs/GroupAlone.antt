-- What is answered depends on the group alone: the reduced record, the group after CZ, whether a measurement is
-- determined, and the group afterwards.
use mathlib.Core.Bool.{Bool, false, true}
use mathlib.Core.Logic.{inl, inr, ◌≢◌}
use mathlib.Core.Path.{refl, subst, sym, ◌∙◌, ◌≡◌}
use Prim.Native.Nat.{◌<◌, ℕ}
use Rattle.pauli.specs.Pauli.{Pauli}
use Rattle.pauli.specs.declared.Letter.{Letter}
use Rattle.record.proofs.ReducedRecords.{equal-exactly}
use Rattle.record.proofs.Unique.{record-path}
use Rattle.record.specs.Reduced.{reduced}
use Rattle.stabilizer.proofs.GroupLaws.{same-sym}
use Rattle.stabilizer.specs.Groups.{InGroup, Proper, SameGroup}
use Rattle.words.proofs.Flags.{same-by-both}
use Rattle.operations.proofs.CzGroups.{cz-group}
use Rattle.operations.proofs.Determined.{determined-exactly, determined-kept, measured-group}
use Rattle.operations.specs.Cz.{cz_rows}
use Rattle.operations.specs.Measurement.{Measured, is_determined, joined, kept, measured_rows, single}

pub reduced-of-group : (n : ℕ) (R S : ℕ → Pauli) → Proper n R → Proper n S → SameGroup n n R S
    → reduced n R ≡ reduced n S
reduced-of-group n R S P Q E = record-path (reduced n R) (reduced n S) ((equal-exactly n R S P Q).1 E)

pub cz-of-group : (n a b : ℕ) → a < n → b < n → a ≢ b → (R S : ℕ → Pauli) → SameGroup n n R S
    → SameGroup n n (cz_rows a b R) (cz_rows a b S)
cz-of-group n a b ha hb ab R S E = record { there = moved R S E.there; back = moved S R E.back }
  where
    moved : (A B : ℕ → Pauli) → ((p : Pauli) → InGroup n n A p → InGroup n n B p)
        → (p : Pauli) → InGroup n n (cz_rows a b A) p → InGroup n n (cz_rows a b B) p
    moved A B h p i = let f = (cz-group n a b ha hb ab A p).0 i in
        (cz-group n a b ha hb ab B p).1 (f.0, h f.0 f.1, f.2)

module _ (n : ℕ) (l : Letter) (q : ℕ) (hq : q < n) where
  determined-there : (R S : ℕ → Pauli) → Proper n R → Proper n S → SameGroup n n R S
      → is_determined n R l q ≡ true → is_determined n S l q ≡ true
  determined-there R S P Q E e =
      (determined-exactly n S Q l q hq).1 (elim ((determined-exactly n R P l q hq).0 e) [
        | inl a ↦ inl (E.there (single l q false) a)
        | inr a ↦ inr (E.there (single l q true) a)
      ])

  module _ (R S : ℕ → Pauli) (P : Proper n R) (Q : Proper n S) (E : SameGroup n n R S) where
    pub determined-of-group : is_determined n R l q ≡ is_determined n S l q
    determined-of-group = same-by-both (is_determined n R l q) (is_determined n S l q)
        (determined-there R S P Q E) (determined-there S R Q P (same-sym E))

    moved : {A B : ℕ → Pauli} → SameGroup n n A B → (p : Pauli) {r : Pauli} → Measured n A p r
        → Measured n B p r
    moved F p (kept a c) = kept (F.there _ a) c
    moved F p (joined a c) = joined (F.there _ a) c

    pub measured-of-group : (b : Bool) → SameGroup n n (measured_rows n R l q b) (measured_rows n S l q b)
    measured-of-group b = go (is_determined n R l q) refl
      where
        go : (d : Bool) → is_determined n R l q ≡ d
            → SameGroup n n (measured_rows n R l q b) (measured_rows n S l q b)
        go true e = subst (λ A. SameGroup n n A (measured_rows n S l q b))
            (sym (determined-kept n R P l q hq e b))
            (subst (SameGroup n n R)
            (sym (determined-kept n S Q l q hq (sym determined-of-group ∙ e) b)) E)
        go false e =
            let f = sym determined-of-group ∙ e in
            record {
              there = λ p a. (measured-group n S Q l q hq f b p).1
                  (moved E (single l q b) ((measured-group n R P l q hq e b p).0 a));
              back = λ p a. (measured-group n R P l q hq e b p).1
                  (moved (same-sym E) (single l q b) ((measured-group n S Q l q hq f b p).0 a));
            }
