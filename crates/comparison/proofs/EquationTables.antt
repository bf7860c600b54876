-- The tables of equations: one more equation, those on the classes and those on the signs.
use mathlib.Core.Bool.{◌&&◌, Bool, false, true}
use mathlib.Core.List.{List}
use mathlib.Core.Logic.{inl, inr, ◌⊎◌}
use mathlib.Core.Path.{ap, ap₂, refl, sym, ◌∙◌, ◌≡◌}
use Prim.Native.Nat.{◌%◌, ◌*◌, ◌+◌, ◌/◌, ◌<◌, suc, zero, ℕ, ◌≤◌}
use native.Mathlib.Nat.{not-suc-le-zero}
use native.Mathlib.Omega.{arith}
use lib.Bits.{bit_and}
use lib.Dec.{lit<}
use lib.ListN.{get_or}
use Rattle.pauli.specs.internal.Rows.{generator_of}
use Rattle.pauli.specs.declared.Generator.{Generator}
use Rattle.stabilizer.specs.Groups.{Within}
use Rattle.words.proofs.BitLaws.{bit-above, bit-and, zero_bit}
use Rattle.words.proofs.Sums.{last_or}
use Rattle.words.specs.Bits.{bit, digit}
use Rattle.comparison.proofs.EquationLaws.{Short}
use Rattle.comparison.specs.internal.Equations.{
  Assignment,
  Equation,
  Inserted,
  Solves,
  Triangular,
  class_equation,
  fails,
  sign_equation,
  word_at,
}
use Rattle.comparison.specs.internal.Searches.{ClassAsked, ClassTable, TableOf}
use Rattle.comparison.specs.internal.Setting.{no_generator}

-- nothing asked
pub nothing-asked : (A : Equation → Type 0) → ((e : Equation) → A e → ⊥) → (table : List Equation) → Triangular table
    → ((w : Assignment) → Solves table w) → TableOf A table
nothing-asked A none table T S =
    record { triangular = T; kept = λ w h. S w; asks = λ w s e a. absurd (none e a) }

-- ---- one equation more
pub one-asked : (A B : Equation → Type 0) (table : List Equation) (e : Equation) (result : List Equation)
    → TableOf A table → Inserted table e result → ((f : Equation) → B f → A f ⊎ (f ≡ e))
    → ((f : Equation) → A f → B f) → B e → TableOf B result
one-asked A B table e result T I split old new =
    record {
      triangular = I.triangular;
      kept = keep;
      asks = λ w s f b. ask w s f (split f b);
    }
  where
    keep : (w : Assignment) → ((f : Equation) → B f → fails f w ≡ false) → Solves result w
    keep w h = I.kept w (h e new) (T.kept w (λ f a. h f (old f a)))

    ask : (w : Assignment) → Solves result w → (f : Equation) → A f ⊎ (f ≡ e) → fails f w ≡ false
    ask w s f (inl a) = T.asks w (I.older w s) f a
    ask w s f (inr p) = ap (λ f. fails f w) p ∙ I.asked w s

pub asked-same : (A B : Equation → Type 0) (table : List Equation) → ((f : Equation) → B f → A f)
    → ((f : Equation) → A f → B f) → TableOf A table → TableOf B table
asked-same A B table back to T =
    record {
      triangular = T.triangular;
      kept = λ w h. T.kept w (λ f a. h f (to f a));
      asks = λ w s f b. T.asks w s f (back f b);
    }

-- ---- the equations have no unknowns from qubit n on
by-words : (n : ℕ) (e : Equation) → ((q : ℕ) → n ≤ q → bit e.a q ≡ false) → ((q : ℕ) → n ≤ q → bit e.b q ≡ false)
    → ((q : ℕ) → n ≤ q → bit e.c q ≡ false) → ((q : ℕ) → n ≤ q → bit e.d q ≡ false) → Short n e
by-words n e a b c d j l = go (j % 4)
  where
    quarter : (n j : ℕ) → 4 * n ≤ j → n ≤ j / 4
    quarter n j l = omega (arith, l)

    go : (k : ℕ) → bit (word_at k e.a e.b e.c e.d) (j / 4) ≡ false
    go zero = a (j / 4) (quarter n j l)
    go (suc zero) = b (j / 4) (quarter n j l)
    go (suc (suc zero)) = c (j / 4) (quarter n j l)
    go (suc (suc (suc k))) = d (j / 4) (quarter n j l)

pub class-short : (n : ℕ) (g h : Generator) → Within n (generator_of g) → Short n (class_equation g h)
class-short n g h W =
    by-words n (class_equation g h) (part g.z h.x W.no-z) (part g.x h.x W.no-x)
    (part g.z h.z W.no-z) (part g.x h.z W.no-x)
  where
    part : (u v : ℕ) → ((q : ℕ) → n ≤ q → bit u q ≡ false) → (q : ℕ) → n ≤ q → bit (bit_and u v) q ≡ false
    part u v k q l = bit-and u v q ∙ ap (λ b. b && bit v q) (k q l)

pub sign-short : (n : ℕ) (g : Generator) (s : Bool) → 0 < n → Within n (generator_of g) → Short n (sign_equation g s)
sign-short n g s some W =
    by-words n (sign_equation g s) W.no-x W.no-z (one s) (λ q l. zero_bit q)
  where
    one : (s : Bool) (q : ℕ) → n ≤ q → bit (digit s) q ≡ false
    one false q l = zero_bit q
    one true q l = bit-above 1 1 (lit< tt) q (omega (arith, some, l))

-- ---- the equations on the classes
module _ (n : ℕ) (first second : List Generator) where
  pub class-start : (table : List Equation) → Triangular table → ((w : Assignment) → Solves table w)
      → ClassTable n first second 0 0 table
  class-start table T S = nothing-asked (ClassAsked n first second 0 0) (λ e a. none a.3) table T S
    where
      none : {s t : ℕ} → (s < 0) ⊎ ((s ≡ 0) × (t < 0)) → ⊥
      none (inl l) = not-suc-le-zero l
      none (inr p) = not-suc-le-zero p.1

  pub class-more : (i j : ℕ) → j < n → (table : List Equation) (e : Equation) (result : List Equation)
      → ClassTable n first second i j table → e ≡ class_equation (get_or first i no_generator) (get_or second j no_generator)
      → Inserted table e result → ClassTable n first second i (j + 1) result
  class-more i j l table e result T he I =
      one-asked (ClassAsked n first second i j) (ClassAsked n first second i (j + 1)) table e result T I
      (λ f b. split f b.0 b.1 b.2 b.3 b.4)
      (λ f a. (a.0, a.1, a.2, wider a.3, a.4)) (i, j, l, inr (refl, omega arith), he)
    where
      wider : {s t : ℕ} → (s < i) ⊎ ((s ≡ i) × (t < j)) → (s < i) ⊎ ((s ≡ i) × (t < j + 1))
      wider (inl l) = inl l
      wider (inr p) = inr (p.0, up p.1)
        where
          up : {t : ℕ} → t < j → t < j + 1
          up l = omega (arith, l)

      split : (f : Equation) (s t : ℕ) → t < n → (s < i) ⊎ ((s ≡ i) × (t < j + 1))
          → f ≡ class_equation (get_or first s no_generator) (get_or second t no_generator)
          → ClassAsked n first second i j f ⊎ (f ≡ e)
      split f s t m (inl k) h = inl (s, t, m, inl k, h)
      split f s t m (inr p) h = go (last_or (less p.1))
        where
          less : t < j + 1 → t < suc j
          less l = omega (arith, l)

          go : (t ≡ j) ⊎ (t < j) → ClassAsked n first second i j f ⊎ (f ≡ e)
          go (inr k) = inl (s, t, m, inr (p.0, k), h)
          go (inl q) =
              inr (h ∙ ap₂ (λ s t. class_equation (get_or first s no_generator) (get_or second t no_generator)) p.0 q ∙ sym
              he)

  pub class-row : (i j : ℕ) → n ≤ j → (table : List Equation) → ClassTable n first second i j table
      → ClassTable n first second (i + 1) 0 table
  class-row i j l table T =
      asked-same (ClassAsked n first second i j) (ClassAsked n first second (i + 1) 0) table
      (λ f b. (b.0, b.1, b.2, back b.1 b.2 b.3, b.4)) (λ f a. (a.0, a.1, a.2, to a.3, a.4)) T
    where
      back : {s : ℕ} (t : ℕ) → t < n → (s < i + 1) ⊎ ((s ≡ i + 1) × (t < 0)) → (s < i) ⊎ ((s ≡ i) × (t < j))
      back {s} t m (inl k) = go (last_or (less k))
        where
          less : s < i + 1 → s < suc i
          less l = omega (arith, l)

          go : (s ≡ i) ⊎ (s < i) → (s < i) ⊎ ((s ≡ i) × (t < j))
          go (inr k) = inl k
          go (inl p) = inr (p, wide m l)
            where
              wide : t < n → n ≤ j → t < j
              wide a b = omega (arith, a, b)
      back t m (inr p) = absurd (not-suc-le-zero p.1)

      to : {s t : ℕ} → (s < i) ⊎ ((s ≡ i) × (t < j)) → (s < i + 1) ⊎ ((s ≡ i + 1) × (t < 0))
      to {s} (inl k) = inl (up k)
        where
          up : s < i → s < i + 1
          up l = omega (arith, l)
      to {s} (inr p) = inl (here p.0)
        where
          here : s ≡ i → s < i + 1
          here e = omega (arith, e)
