-- A gate and a cz on qubits of s: what each does to the party of a record follows from what it does to the party of the
-- vertices of s, and the rows of the other vertices stay.
use mathlib.Core.Bool.{◌&&◌, Bool, false, true}
use mathlib.Core.Logic.{inl, inr, ◌≢◌, ◌⊎◌}
use mathlib.Core.Path.{ap, ap₂, refl, subst, sym, ◌∙◌, ◌≡◌}
use Prim.Native.Nat.{◌<◌, ℕ}
use native.Mathlib.Decide.{ℕ_discrete}
use Rattle.clifford.proofs.VectorLaws.{act-agree, act-id}
use Rattle.clifford.specs.Clifford.{Clifford, identity_clifford, image}
use Rattle.clifford.specs.Vectors.{act, only}
use Rattle.operations.proofs.CzGroups.{cz-group}
use Rattle.operations.proofs.CzLaws.{cz-fixed}
use Rattle.operations.proofs.Gating.{gate-carries}
use Rattle.operations.specs.Cz.{cz, cz_rows}
use Rattle.operations.specs.Gates.{gated}
use Rattle.pauli.specs.Pauli.{Pauli, letter, letter_at, x_bit, z_bit}
use Rattle.pauli.specs.declared.Letter.TheVariants.{I}
use Rattle.record.specs.Records.{GraphRecord, rows_of}
use Rattle.stabilizer.proofs.GroupLaws.{in_row}
use Rattle.stabilizer.specs.Groups.{InGroup}
use Rattle.words.proofs.Finite.{bits, ⊕-zero}
use Rattle.words.proofs.Places.{other_place, put_other}
use Rattle.words.specs.Bits.{Word, ◌⊕◌}
use Rattle.parties.proofs.SameGroupsRows.{apart, row-free}
use Rattle.parties.proofs.SameGroupsTogether.{mask-inner}
use Rattle.parties.specs.internal.Sides.{Followed, Free, MaskOf}

-- ---- the gate's code at one qubit
module _ (n : ℕ) (s : Word) (q : ℕ) (own : s q ≡ true) (k : Clifford) where
  code-away : (t : ℕ) → s t ≡ false → only q k t ≡ identity_clifford
  code-away t e = put_other (λ _. identity_clifford) q k t (apart s true own e)

  -- it keeps the letters outside s
  gate-back : (p : Pauli) → Free n s false (act n (only q k) p) → Free n s false p
  unfolding act
  gate-back p F =
      record {
        no-x = λ t l e. sym (kept-x (p.z t) (p.x t)) ∙ ap (λ c. x_bit (image c (letter_at p t))) (sym (code-away t e))
            ∙ F.no-x t l e;
        no-z = λ t l e. sym (kept-z (p.z t) (p.x t)) ∙ ap (λ c. z_bit (image c (letter_at p t))) (sym (code-away t e))
            ∙ F.no-z t l e;
      }
    where
      kept-x : (z x : Bool) → x_bit (image identity_clifford (letter z x)) ≡ x
      kept-x = bits 2 (λ z x. x_bit (image identity_clifford (letter z x))) (λ z x. x) tt

      kept-z : (z x : Bool) → z_bit (image identity_clifford (letter z x)) ≡ z
      kept-z = bits 2 (λ z x. z_bit (image identity_clifford (letter z x))) (λ z x. z) tt

  -- and fixes the rows that have I on s
  gate-fixes : q < n → (p : Pauli) → Free n s true p → act n (only q k) p ≡ p
  gate-fixes hq p F = act-agree n (only q k) (λ t. identity_clifford) p (λ t. at t (ℕ_discrete t q)) ∙ act-id n p
    where
      at : (t : ℕ) → Dec (t ≡ q) → (only q k t ≡ identity_clifford) ⊎ (letter_at p t ≡ I)
      at t (no d) = inl (put_other (λ _. identity_clifford) q k t d)
      at t (yes e) = inr (ap (letter_at p) e ∙ ap₂ letter (F.no-z q hq own) (F.no-x q hq own))

-- ---- cz of two qubits
module _ (n : ℕ) (s : Word) (a b : ℕ) (own-a : s a ≡ true) (own-b : s b ≡ true) where
  cz-back : (p : Pauli) → Free n s false (cz a b p) → Free n s false p
  unfolding cz
  cz-back p F =
      record {
        no-x = F.no-x;
        no-z = λ t l e. sym (ap₂ (λ u v. p.z t ⊕ ((u && p.x b) ⊕ (v && p.x a)))
            (other_place (apart s true own-a e)) (other_place (apart s true own-b e)) ∙ ⊕-zero (p.z t))
            ∙ F.no-z t l e;
      }

-- ---- both carry every element
module _ (n : ℕ) (s : Word) (r m : GraphRecord) (K : MaskOf n s r m) where
  abbrev rows : ℕ → Pauli
  rows = rows_of n r

  abbrev part : ℕ → Pauli
  part = rows_of n m

  carried : (f : Pauli → Pauli) → ((p : Pauli) → Free n s false (f p) → Free n s false p)
      → ((p : Pauli) → Free n s true p → f p ≡ p) → (new left : ℕ → Pauli)
      → ((p : Pauli) → InGroup n n rows p → InGroup n n new (f p))
      → ((p : Pauli) → InGroup n n left p → (e : Pauli) × InGroup n n part e × (p ≡ f e))
      → Followed n s rows new left
  carried f back fixes new left into onto =
      record {
        inner = λ p i F.
            let h = onto p i in
            subst (InGroup n n new) (sym h.2) (into h.0
            (mask-inner n s r m K h.0 h.1 (back h.0 (subst (Free n s false) h.2 F))));
        outer = λ j l e. subst (InGroup n n new)
            (fixes (rows j) (row-free n s false r K.simple K.split j l e))
            (into (rows j) (in_row n n rows j l));
      }

  pub gate-followed : (q : ℕ) → q < n → s q ≡ true → (k : Clifford)
      → Followed n s (rows_of n r) (rows_of n (gated r q k)) (rows_of n (gated m q k))
  gate-followed q hq e k =
      carried (act n (only q k)) (gate-back n s q e k) (gate-fixes n s q e k hq) _ _ (gate-carries n r q k).into
      (gate-carries n m q k).onto

  pub cz-followed : (a b : ℕ) → a < n → b < n → a ≢ b → s a ≡ true → s b ≡ true
      → Followed n s (rows_of n r) (cz_rows a b (rows_of n r)) (cz_rows a b (rows_of n m))
  cz-followed a b ha hb ab ea eb =
      carried (cz a b) (cz-back n s a b ea eb) (λ p F. cz-fixed a b p (F.no-x a ha ea) (F.no-x b hb eb)) _ _
      (λ p i. (cz-group n a b ha hb ab rows (cz a b p)).1 (p, i, refl)) (λ p i. (cz-group n a b ha hb ab part p).0 i)
