-- For classes that send each generator into the second group up to a sign, the sign equations have a common solution,
-- so their table is exact: signs that satisfy the equations of the first qubits extend to a solution, and what solves
-- all works.
use mathlib.Core.Bool.{◌&&◌, Bool, beq, and_comm, and-false, false, not, true}
use mathlib.Core.List.{List}
use mathlib.Core.Logic.{inl, inr, ◌⊎◌}
use mathlib.Core.Path.{ap, ap₂, refl, subst, sym, ◌∙◌, ◌≡◌}
use Prim.Native.Nat.{◌*◌, ◌+◌, ◌<◌, ◌≤◌, suc, zero-le, ℕ}
use native.Mathlib.Nat.{le_refl, le_trans, lt_of_lt_of_le, not-le_of_lt, not-suc-le-zero}
use native.Mathlib.Omega.{arith}
use lib.Dec.{eqb}
use lib.ListN.{get_or}
use borrow.Author.Count.{below_more}
use Rattle.clifford.proofs.VectorLaws.{act-anticommute, act-cong}
use Rattle.clifford.specs.Clifford.{Clifford}
use Rattle.clifford.specs.Clifford.Class.{XZ}
use Rattle.clifford.specs.Vectors.{act}
use Rattle.record.specs.Graph.{graph_generator}
use Rattle.pauli.proofs.PhaseLaws.{minus-injective, minus-⊕}
use Rattle.pauli.specs.Pauli.{Pauli, anticommute, i⁰, i², minus, scaled}
use Rattle.pauli.specs.internal.Rows.{generator_of}
use Rattle.pauli.specs.declared.Generator.{Generator}
use Rattle.stabilizer.proofs.Products.{anticommute-form}
use Rattle.stabilizer.proofs.Within.{act-wide}
use Rattle.stabilizer.specs.Carries.{Carries}
use Rattle.stabilizer.specs.Groups.{InGroup, Proper, Within}
use Rattle.words.proofs.BitLaws.{bit-ext∞, bit-word_of}
use Rattle.words.proofs.Finite.{bits, unequal, ⊕-comm, ⊕-self, ⊕-zero}
use Rattle.words.proofs.Places.{parity-at}
use Rattle.words.proofs.Sums.{bit_monoid, fold-ext, fold-unit, last_or, lt-or-ge}
use Rattle.words.specs.Bits.{Word, bit, digit, parity, word_of, ◌⊕◌}
use Rattle.words.specs.internal.Bits.{dot}
use Rattle.comparison.proofs.ClassEquations.{dot_word, x-word-lt, z-word-lt}
use Rattle.comparison.proofs.EquationLaws.{SameBelow, fails-below, zero-dot}
use Rattle.comparison.proofs.EquationTables.{nothing-asked, one-asked, sign-short}
use Rattle.comparison.proofs.Extension.{extended}
use Rattle.comparison.proofs.RecordElements.{framed-proper}
use Rattle.comparison.proofs.SignEquations.{dot-digit, letters-determine, sign-equation, sign-sends}
use Rattle.comparison.specs.Choices.{class_key, sign_key}
use Rattle.comparison.specs.internal.Equations.{
  Assignment,
  Equation,
  Inserted,
  Solves,
  Triangular,
  equation_at,
  fails,
  sign_assignment,
  sign_equation,
}
use Rattle.comparison.specs.internal.Searches.{Extendable, SentUpToSign, SignAsked, SignFor, SignTable}
use Rattle.comparison.specs.internal.Setting.{Guessed, Setting, without_signs, generators_of, no_generator}

module _ (n : ℕ) (first second : List Generator) (frame : List ℕ) (S : Setting n first second frame) (c : ℕ → Clifford)
  where
    abbrev gen : ℕ → Generator
    gen i = get_or first i no_generator

    proper : Proper n (generators_of second)
    proper = framed-proper n (generators_of second) _ S.framed

    module _ (sent : SentUpToSign n first second c) where
      abbrev Image : ℕ → Pauli
      Image j = act n (λ q. without_signs (c q)) (generators_of first j)

      -- ---- which images are to change their sign
      abbrev which : (p : Pauli) → InGroup n n (generators_of second) p ⊎ InGroup n n (generators_of second) (scaled i² p)
          → Bool
      which p (inl a) = false
      which p (inr a) = true

      abbrev flag_at : (j : ℕ) → (j < n) ⊎ (n ≤ j) → Bool
      flag_at j (inl l) = which (Image j) (sent j l)
      flag_at j (inr l) = false

      flag : Word
      flag j = flag_at j (lt-or-ge j n)

      sign-which : (j : ℕ) (e : Equation) (F : SignFor n first second c j e)
          → (k : InGroup n n (generators_of second) (Image j) ⊎ InGroup n n (generators_of second) (scaled i² (Image j)))
          → F.sent.minus ⊕ F.element.minus ≡ which (Image j) k
      sign-which j e F (inl a) =
          ap (λ b. F.sent.minus ⊕ b) (sym (minus-injective _ _ (ap (λ r. r.phase) same))) ∙ ⊕-self F.sent.minus
        where
          same : generator_of F.sent ≡ generator_of F.element
          same = letters-determine n (generators_of second) proper
              (subst (InGroup n n (generators_of second)) (sym F.image) a) F.inside
              (λ q. ap (λ w. bit w q) F.same-z) (λ q. ap (λ w. bit w q) F.same-x)
      sign-which j e F (inr a) =
          ap (λ b. F.sent.minus ⊕ b) (sym turned) ∙ bits 1 (λ a. a ⊕ (true ⊕ a)) (λ a. true) tt F.sent.minus
        where
          same : scaled i² (generator_of F.sent) ≡ generator_of F.element
          same = letters-determine n (generators_of second) proper
              (subst (λ p. InGroup n n (generators_of second) (scaled i² p)) (sym F.image) a) F.inside
              (λ q. ap (λ w. bit w q) F.same-z) (λ q. ap (λ w. bit w q) F.same-x)

          turned : true ⊕ F.sent.minus ≡ F.element.minus
          turned = minus-injective _ _ (minus-⊕ true F.sent.minus ∙ ap (λ r. r.phase) same)

      sign-flag : (j : ℕ) → j < n → (e : Equation) (F : SignFor n first second c j e)
          → F.sent.minus ⊕ F.element.minus ≡ flag j
      unfolding flag
      sign-flag j l e F = go (lt-or-ge j n)
        where
          go : (k : (j < n) ⊎ (n ≤ j)) → F.sent.minus ⊕ F.element.minus ≡ flag_at j k
          go (inl k) = sign-which j e F (sent j k)
          go (inr k) = absurd (not-le_of_lt l k)

      -- ---- Z at these vertices, sent through the codes of the first record, anticommutes with just these generators
      marked : Pauli
      marked = record { phase = i⁰; z = flag; x = λ q. false }

      turner : Pauli
      turner = act n S.joined.codes marked

      turns : (j : ℕ) → j < n → anticommute n (generators_of first j) turner ≡ flag j
      unfolding turner marked
      turns j l =
          ap (λ g. anticommute n g turner) (S.joined.generators j l)
          ∙ act-anticommute n S.joined.codes (graph_generator S.joined.graph j) marked
          ∙ anticommute-form n (graph_generator S.joined.graph j) marked
          ∙ ap₂ ◌⊕◌ (fold-unit false ◌⊕◌ bit_monoid n (λ q k. and-false (S.joined.graph j q)))
          (fold-ext false ◌⊕◌ n (λ q k. and_comm (eqb q j) (flag q)) ∙ parity-at n flag j l)

      known : Assignment
      known = record { a = word_of n turner.z; b = word_of n turner.x; c = 1; d = 0 }

      known-value : (j : ℕ) → j < n → (s : Bool) → fails (sign_equation (gen j) s) known ≡ flag j ⊕ s
      unfolding fails known bit
      known-value j l s =
          ap₂ ◌⊕◌
          (ap₂ ◌⊕◌ (dot_word n (gen j).x _ (x-word-lt n (gen j) W)) (dot_word n (gen j).z _ (z-word-lt n (gen j) W))
          ∙ ⊕-comm (parity n (λ q. bit (gen j).x q && turner.z q)) (parity n (λ q. bit (gen j).z q && turner.x q))
          ∙ sym (anticommute-form n (generators_of first j) turner) ∙ turns j l)
          (ap₂ ◌⊕◌ (dot-digit s 1 refl) (zero-dot 0) ∙ ⊕-zero s)
        where
          W : Within n (generator_of (gen j))
          W = S.proper.within j l

      known-holds : (i : ℕ) → i ≤ n → (e : Equation) → SignAsked n first second c i e → fails e known ≡ false
      known-holds i l e a =
          ap (λ f. fails f known) a.2.is ∙ known-value a.0 (lt_of_lt_of_le a.1 l) _
          ∙ ap (λ b. flag a.0 ⊕ b) (sign-flag a.0 (lt_of_lt_of_le a.1 l) e a.2) ∙ ⊕-self (flag a.0)

      -- ---- the table
      pub sign-start : (table : List Equation) → Triangular table → ((w : Assignment) → Solves table w)
          → SignTable n first second c 0 table
      sign-start table T h = (
        nothing-asked (SignAsked n first second c 0) (λ e a. not-suc-le-zero a.1) table T h,
        λ j l. absurd (not-suc-le-zero l),
      )

      pub sign-more : (i : ℕ) → i < n → (table : List Equation) (e : Equation) (result : List Equation)
          → SignTable n first second c i table → SignFor n first second c i e → Inserted table e result
          → SignTable n first second c (i + 1) result
      sign-more i l table e result T F I = (
        one-asked (SignAsked n first second c i) (SignAsked n first second c (i + 1)) table e result T.0 I
            (λ f b. split f b.0 b.1 b.2) (λ f a. (a.0, up a.1, a.2)) (i, here, F),
        below_more _ _ T.1 (e, F),
      )
        where
          up : {j : ℕ} → j < i → j < i + 1
          up k = omega (arith, k)

          here : i < i + 1
          here = omega arith

          split : (f : Equation) (j : ℕ) → j < i + 1 → SignFor n first second c j f
              → SignAsked n first second c i f ⊎ (f ≡ e)
          split f j k G = go (last_or (less k))
            where
              less : j < i + 1 → j < suc i
              less l = omega (arith, l)

              go : (j ≡ i) ⊎ (j < i) → SignAsked n first second c i f ⊎ (f ≡ e)
              go (inr m) = inl (j, m, G)
              go (inl p) =
                  inr (G.is ∙ ap₂ (λ t s. sign_equation (gen t) s) p
                  (sign-flag j (subst (λ t. t < n) (sym p) l) f G ∙ ap flag p ∙ sym (sign-flag i l e F)) ∙ sym F.is)

      -- the equation that the code makes, from the image and the element found
      pub sign-found : ((q : ℕ) → c q ≡ without_signs (c q)) → (i : ℕ) → i < n → (p h : Generator)
          → generator_of p ≡ act 64 c (generators_of first i)
          → Guessed n (generators_of second) (generator_of p) (generator_of h) → (e : Equation)
          → e ≡ sign_equation (gen i) (not (beq p.minus h.minus)) → SignFor n first second c i e
      sign-found plain i l p h ep G e he =
          record {
            sent = p;
            element = h;
            image = image;
            inside = G.element;
            same-z = bit-ext∞ _ _ (λ q. go (λ r. r.z q) refl (sent i l));
            same-x = bit-ext∞ _ _ (λ q. go (λ r. r.x q) refl (sent i l));
            is = he ∙ ap (sign_equation (gen i)) (unequal p.minus h.minus);
          }
        where
          image : generator_of p ≡ act n (λ q. without_signs (c q)) (generators_of first i)
          image = ep ∙ act-wide n 64 S.few (S.proper.within i l) c ∙ act-cong n plain (generators_of first i)

          -- the letters are those of the image, in each case
          go : (f : Pauli → Bool) → f (generator_of p) ≡ f (scaled i² (generator_of p))
              → InGroup n n (generators_of second) (act n (λ q. without_signs (c q)) (generators_of first i))
              ⊎ InGroup n n (generators_of second) (scaled i² (act n (λ q. without_signs (c q)) (generators_of first i)))
              → f (generator_of p) ≡ f (generator_of h)
          go f e (inl a) = ap f (sym (G.right (subst (InGroup n n (generators_of second)) (sym image) a)))
          go f e (inr a) =
              e ∙ ap f (sym (G.negative (subst (λ r. InGroup n n (generators_of second) (scaled i² r)) (sym image) a)))

    -- ---- the solutions of the table
    some : {j : ℕ} → j < n → 0 < n
    some l = omega (arith, l)

    module _ (table : List Equation) (T : SignTable n first second c n table) where
      -- a sign equation sees two words alone, where unknown c of qubit 0 is 1
      two-words : (g : Generator) (s : Bool) (w : Assignment) → bit w.c 0 ≡ true
          → fails (sign_equation g s) w ≡ fails (sign_equation g s) (record { a = w.a; b = w.b; c = 1; d = 0 })
      unfolding fails bit
      two-words g s w one =
          ap (λ b. (dot g.x w.a ⊕ dot g.z w.b) ⊕ b)
          (ap₂ ◌⊕◌ (dot-digit s w.c one) (zero-dot w.d) ∙ sym (ap₂ ◌⊕◌ (dot-digit s 1 refl) (zero-dot 0)))

      abbrev signs_for : Assignment → ℕ → Clifford
      signs_for w q = record { class = XZ; sx = bit w.a q; sz = bit w.b q }

      signs-solve : (w : Assignment) → bit w.c 0 ≡ true → Solves table w → Solves table
          (sign_assignment n (signs_for w))
      unfolding sign_assignment
      signs-solve w one s = T.0.kept (sign_assignment n (signs_for w)) (λ e a. go e a.0 a.1 a.2)
        where
          same : SameBelow n (record { a = w.a; b = w.b; c = 1; d = 0 }) (sign_assignment n (signs_for w))
          same = record {
            a = λ q l. sym (bit-word_of n _ q l);
            b = λ q l. sym (bit-word_of n _ q l);
            c = λ q l. refl;
            d = λ q l. refl;
          }

          go : (e : Equation) (j : ℕ) → j < n → SignFor n first second c j e
              → fails e (sign_assignment n (signs_for w)) ≡ false
          go e j l F =
              ap (λ e. fails e (sign_assignment n (signs_for w))) F.is
              ∙ sym (fails-below (sign_equation (gen j) (F.sent.minus ⊕ F.element.minus)) n
              (sign-short n (gen j) (F.sent.minus ⊕ F.element.minus) (some l) (S.proper.within j l))
              (record { a = w.a; b = w.b; c = 1; d = 0 })
              (sign_assignment n (signs_for w)) same)
              ∙ sym (two-words (gen j) (F.sent.minus ⊕ F.element.minus) w one)
              ∙ ap (λ e. fails e w) (sym F.is) ∙ T.0.asks w s e (j, l, F)

      -- no sign is chosen yet: the known solution; after the first qubit the table extends what is chosen
      pub signs-extend : SentUpToSign n first second c → Extendable (sign_assignment n) sign_key 0 n table
      unfolding sign_assignment known bit
      signs-extend sent d q more l h = go (lt-or-ge 0 q)
        where
          go : (0 < q) ⊎ (q ≤ 0) → (d' : ℕ → Clifford) × ((u : ℕ) → u < q → sign_key (d' u) ≡ sign_key (d u))
              × Solves table (sign_assignment n d')
          go (inl k) = (
            signs_for R.0,
            (λ u k. ap₂ (λ a b. 2 * digit a + digit b) (R.1.a u k ∙ bit-word_of n _ u (lt_of_lt_of_le k l))
                (R.1.b u k ∙ bit-word_of n _ u (lt_of_lt_of_le k l))),
            signs-solve R.0 (R.1.c 0 k) R.2,
          )
            where
              R : (w : Assignment) × SameBelow q w (sign_assignment n d) × Solves table w
              R = extended table T.0.triangular q (le_trans l S.few) (sign_assignment n d) h
          go (inr k) = (
            signs_for (known sent),
            (λ u m. absurd (not-le_of_lt m (le_trans k zero-le))),
            signs-solve (known sent) refl (T.0.kept (known sent) (known-holds sent n (le_refl n))),
          )

      -- signs that satisfy the equations of all qubits, with these classes, work
      pub signs-send : (d : ℕ → Clifford) → ((q : ℕ) → q < n → class_key (d q) ≡ class_key (c q))
          → ((i : ℕ) → i < 4 * n → fails (equation_at table i) (sign_assignment n d) ≡ false)
          → (j : ℕ) → j < n → InGroup n n (generators_of second) (act n d (generators_of first j))
      signs-send d hc h j l =
          subst (InGroup n n (generators_of second))
          (sym (sign-sends n (generators_of first) (generators_of second) S.proper proper d j l (gen j) refl c hc
          F.sent F.element F.image F.same-z F.same-x
          (sym (fails-below (sign_equation (gen j) (F.sent.minus ⊕ F.element.minus)) n
          (sign-short n (gen j) (F.sent.minus ⊕ F.element.minus) (some l) (S.proper.within j l)) R.0
          (sign_assignment n d) R.1)
          ∙ ap (λ e. fails e R.0) (sym F.is) ∙ T.0.asks R.0 R.2 (T.1 j l).0 (j, l, F)))) F.inside
        where
          F : SignFor n first second c j (T.1 j l).0
          F = (T.1 j l).1

          R : (w : Assignment) × SameBelow n w (sign_assignment n d) × Solves table w
          R = extended table T.0.triangular n S.few (sign_assignment n d) h

      -- every choice that works and has these classes solves the table
      pub signs-kept : (d : ℕ → Clifford) → Carries n d (generators_of first) (generators_of second)
          → ((q : ℕ) → q < n → class_key (d q) ≡ class_key (c q)) → Solves table (sign_assignment n d)
      signs-kept d C hc =
          T.0.kept (sign_assignment n d) (λ e a. ap (λ f. fails f (sign_assignment n d)) a.2.is
          ∙ sign-equation n (generators_of first) (generators_of second) S.proper proper d C a.0 a.1 (gen a.0)
          refl
          c hc a.2.sent a.2.element a.2.image a.2.inside a.2.same-z a.2.same-x)
