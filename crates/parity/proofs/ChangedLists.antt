-- A list changed place by place, as the loop does it; and the reduced record of what comes of it.
use mathlib.Core.Bool.{◌&&◌, Bool, beq, and-true, false, not, true}
use mathlib.Core.List.{List}
use mathlib.Core.Logic.{◌≢◌}
use mathlib.Core.Path.{ap, ap₂, refl, subst, sym, ◌∙◌, ◌≡◌}
use Prim.Native.Nat.{◌+◌, ◌<◌, ℕ, ◌≤◌}
use native.Mathlib.Decide.{ℕ_discrete}
use native.Mathlib.Nat.{lt_of_lt_of_le, not-suc-le-zero}
use native.Mathlib.Omega.{arith}
use lib.Bits.{bit_xor}
use lib.Dec.{eqb}
use lib.ListN.{get_or, length, length-set, set}
use lib.Seq.{get_or-set_other, get_or-set_same}
use borrow.Author.Count.{below_more}
use Rattle.operations.specs.Measurement.{projected}
use Rattle.pauli.proofs.PauliLaws.{anticommute-letters, mul-identity}
use Rattle.pauli.proofs.WordRows.{signed_mul}
use Rattle.pauli.specs.Pauli.{Pauli, anticommute, i⁰, minus, mul, row, signed_row}
use Rattle.pauli.specs.declared.Generator.{Generator}
use Rattle.pauli.specs.internal.Rows.{generator_of}
use Rattle.stabilizer.specs.Groups.{chosen}
use Rattle.stabilizer.specs.Lists.{GeneratorList, rows}
use Rattle.words.proofs.BitLaws.{is_odd-digit}
use Rattle.words.proofs.Finite.{unequal}
use Rattle.words.proofs.Places.{other_place, put_other, put_same}
use Rattle.words.specs.Bits.{digit, is_odd, ◌⊕◌}
use Rattle.parity.proofs.RowGroups.{row-anticommute}
use Rattle.parity.specs.internal.Lists.{AsLong, Changed, list_in}

-- ---- one row
-- commutation reads the letters alone
pub letters-commute : (p g : Generator) → anticommute 64 (generator_of p) (generator_of g)
    ≡ anticommute 64 (row i⁰ p.z p.x) (row i⁰ g.z g.x)
letters-commute p g = anticommute-letters 64 (row i⁰ p.z p.x) (row i⁰ g.z g.x) (minus p.minus)
    (minus g.minus)

-- it commutes with the row of two words
pub left_alone : (s : Bool) (a b z x : ℕ) (p : Pauli) → anticommute 64 (row i⁰ a b) (row i⁰ z x) ≡ false
    → signed_row s a b ≡ mul 64 (signed_row s a b) (chosen (anticommute 64 (signed_row s a b) (signed_row false z x)) p)
left_alone s a b z x p e = sym (ap (λ t. mul 64 (signed_row s a b) (chosen t p))
    (anticommute-letters 64 (row i⁰ a b) (row i⁰ z x) (minus s) i⁰ ∙ e) ∙ mul-identity 64 (signed_row s a b))

-- it does not
pub multiplied : (p g : Generator) (z x : ℕ) → anticommute 64 (row i⁰ p.z p.x) (row i⁰ z x) ≡ true → (s : Bool)
    → (mul 64 (row i⁰ p.z p.x) (row i⁰ g.z g.x)).phase ≡ minus s
    → generator_of (record {
      minus = not (beq (not (beq p.minus g.minus)) s);
      z = bit_xor p.z g.z;
      x = bit_xor p.x g.x;
    }) ≡ mul 64 (generator_of p) (chosen (anticommute 64 (generator_of p) (signed_row false z x)) (generator_of g))
multiplied p g z x e s h = ap (λ t. signed_row t (bit_xor p.z g.z) (bit_xor p.x g.x))
    (unequal (not (beq p.minus g.minus)) s ∙ ap (λ b. b ⊕ s) (unequal p.minus g.minus))
    ∙ sym (signed_mul 64 p.z p.x g.z g.x p.minus g.minus s h)
    ∙ sym (ap (λ t. mul 64 (generator_of p) (chosen t (generator_of g)))
    (anticommute-letters 64 (row i⁰ p.z p.x) (row i⁰ z x) (minus p.minus) i⁰ ∙ e))

-- ---- a row stored
module _ (signs z x : List ℕ) (ez : length z ≡ length signs) (ex : length x ≡ length signs) (j : ℕ)
    (h : j < length signs) (s a b : ℕ) where
  pub stored_here : rows (list_in (set signs j s) (set z j a) (set x j b)) j ≡ signed_row (is_odd s) a b
  stored_here =
      ap (λ v. signed_row (is_odd v) (get_or (set z j a) j 0) (get_or (set x j b) j 0)) (get_or-set_same signs j s 0 h)
      ∙ ap₂ (signed_row (is_odd s)) (get_or-set_same z j a 0 (subst (λ m. j < m) (sym ez) h))
      (get_or-set_same x j b 0 (subst (λ m. j < m) (sym ex) h))

  pub stored-elsewhere : (i : ℕ) → i ≢ j → rows (list_in (set signs j s) (set z j a) (set x j b)) i ≡ rows
      (list_in signs z x) i
  stored-elsewhere i d =
      ap (λ v. signed_row (is_odd v) (get_or (set z j a) i 0) (get_or (set x j b) i 0)) (get_or-set_other signs j i s 0 d)
      ∙ ap₂ (signed_row (is_odd (get_or signs i 0))) (get_or-set_other z j i a 0 d) (get_or-set_other x j i b 0 d)

  pub stored-long : AsLong (list_in signs z x) (list_in (set signs j s) (set z j a) (set x j b))
  stored-long =
      record {
        signs-length = length-set signs j s;
        z-length = length-set z j a;
        x-length = length-set x j b;
      }

-- ---- the loop
module _ (z x g : ℕ) (old : GeneratorList) where
  -- row g times a row, where it does not commute with the row of two words
  abbrev gone_into : Pauli → Pauli
  gone_into p = mul 64 p (chosen (anticommute 64 p (signed_row false z x)) (rows old g))

  -- the rows below j are changed, the others are as they were
  pub record ChangedBelow (signs zs xs : List ℕ) (j : ℕ) : Type 0 where
    pub long : AsLong old (list_in signs zs xs)
    pub done : (i : ℕ) → i < j
        → rows (list_in signs zs xs) i ≡ mul 64 (rows old i) (chosen (anticommute 64 (rows old i) (signed_row false z x))
        (rows old g))
    pub rest : (i : ℕ) → j ≤ i → rows (list_in signs zs xs) i ≡ rows old i

  pub none-changed : ChangedBelow old.signs old.z old.x 0
  none-changed =
      record {
        long = record { signs-length = refl; z-length = refl; x-length = refl };
        done = λ i l. absurd (not-suc-le-zero l);
        rest = λ i l. refl;
      }

  module _ (ez : length old.z ≡ length old.signs) (ex : length old.x ≡ length old.signs)
      (signs zs xs : List ℕ)
      (j : ℕ) (B : ChangedBelow signs zs xs j) where
    pub z-long : length zs ≡ length signs
    z-long = B.long.z-length ∙ ez ∙ sym B.long.signs-length

    pub x-long : length xs ≡ length signs
    x-long = B.long.x-length ∙ ex ∙ sym B.long.signs-length

    pub one-changed : j < length signs → (m : Bool) (a b s : ℕ) → s ≡ digit m
        → signed_row m a b ≡ mul 64 (rows (list_in signs zs xs) j)
        (chosen (anticommute 64 (rows (list_in signs zs xs) j) (signed_row false z x)) (rows old g))
        → ChangedBelow (set signs j s) (set zs j a) (set xs j b) (j + 1)
    one-changed h m a b s es e =
        record {
          long =
              record {
                signs-length = length-set signs j s ∙ B.long.signs-length;
                z-length = length-set zs j a ∙ B.long.z-length;
                x-length = length-set xs j b ∙ B.long.x-length;
              };
          done = below_more _ j
              (λ i l. stored-elsewhere signs zs xs z-long x-long j h s a b i (λ p. absurd (omega (arith, l, p))) ∙
              B.done i l)
              (stored_here signs zs xs z-long x-long j h s a b ∙ ap (λ t. signed_row t a b) (ap is_odd es ∙ is_odd-digit m)
              ∙ e
              ∙ ap gone_into (B.rest j (omega arith)));
          rest = λ i l. stored-elsewhere signs zs xs z-long x-long j h s a b i (λ p. absurd (omega (arith, l, p)))
              ∙ B.rest i (omega arith);
        }

    -- at the end the row takes its place
    pub all_changed : length signs ≤ j → g < length signs → (m : Bool) (s : ℕ) → s ≡ digit m
        → Changed z x m g old (list_in (set signs g s) (set zs g z) (set xs g x))
    all_changed k hg m s es =
        record {
          long =
              record {
                signs-length = length-set signs g s ∙ B.long.signs-length;
                z-length = length-set zs g z ∙ B.long.z-length;
                x-length = length-set xs g x ∙ B.long.x-length;
              };
          row = λ i l. at i l (ℕ_discrete i g);
        }
      where
        put-at-g : rows (list_in (set signs g s) (set zs g z) (set xs g x)) g ≡ signed_row m z x
        put-at-g = stored_here signs zs xs z-long x-long g hg s z x ∙ ap (λ t. signed_row t z x)
            (ap is_odd es ∙ is_odd-digit m)

        at : (i : ℕ) → i < length old.signs → Dec (i ≡ g)
            → rows (list_in (set signs g s) (set zs g z) (set xs g x)) i ≡ projected 64 (rows old) (signed_row m z x) g i
        at i l (yes e) = subst (λ v. rows (list_in (set signs g s) (set zs g z) (set xs g x)) v
            ≡ projected 64 (rows old) (signed_row m z x) g v) (sym e) (put-at-g ∙ sym (put_same _ g (signed_row m z x)))
        at i l (no d) = stored-elsewhere signs zs xs z-long x-long g hg s z x i d
            ∙ B.done i (lt_of_lt_of_le l (subst (λ v. v ≤ j) B.long.signs-length k))
            ∙ ap (λ t. mul 64 (rows old i) (chosen t (rows old g))) (named i d)
            ∙ sym (put_other _ g (signed_row m z x) i d)
          where
            named : (i : ℕ) → i ≢ g → anticommute 64 (rows old i) (signed_row false z x)
                ≡ (anticommute 64 (rows old i) (signed_row m z x) && not (eqb i g))
            named i d = row-anticommute 64 (rows old i) z x false m ∙ sym
                (ap (λ t. anticommute 64 (rows old i) (signed_row m z x) && not t) (other_place d)
                ∙ and-true (anticommute 64 (rows old i) (signed_row m z x)))
