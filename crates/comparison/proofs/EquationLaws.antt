-- Equations add, and an equation cannot tell apart assignments that agree where it has unknowns.
use mathlib.Core.Bool.{◌&&◌, Bool, false}
use mathlib.Core.Logic.{inl, inr, ◌⊎◌}
use mathlib.Core.Path.{ap, ap₂, sym, ◌∙◌, ◌≡◌}
use Prim.Native.Nat.{◌%◌, ◌*◌, ◌+◌, ◌/◌, ◌<◌, ◌≤◌, suc, zero, ℕ}
use native.Mathlib.Nat.{not-suc-le-zero}
use native.Mathlib.Omega.{arith}
use lib.Bits.{bit_and}
use lib.Count.{ones}
use lib.Dec.{lit<}
use lib.Pow.{pow_pos}
use Rattle.words.proofs.BitLaws.{bit-and, bit-ext∞, bit-xor, lt-pow, zero_bit}
use Rattle.words.proofs.Finite.{bits}
use Rattle.words.proofs.OnesLaws.{dot-bits, dot-comm, dot-xor}
use Rattle.words.proofs.Sums.{bit_monoid, fold-unit, lt-or-ge}
use Rattle.words.specs.Bits.{bit, is_odd, ◌⊕◌}
use Rattle.words.specs.internal.Bits.{dot}
use Rattle.comparison.specs.internal.Equations.{
  Assignment,
  Equation,
  added,
  empty_equation,
  fails,
  unknown,
  word_at,
}

pub zero-dot : (w : ℕ) → dot 0 w ≡ false
zero-dot w = dot-bits w 0 w (pow_pos w) (lt-pow w)
    ∙ fold-unit false ◌⊕◌ bit_monoid w (λ q l. ap (λ b. b && bit w q) (zero_bit q))

pub empty_holds : (w : Assignment) → fails empty_equation w ≡ false
unfolding fails
empty_holds w =
    ap₂ ◌⊕◌
    (ap₂ ◌⊕◌ (zero-dot w.a) (zero-dot w.b)) (ap₂ ◌⊕◌ (zero-dot w.c) (zero-dot w.d))

pub fails-added : (e f : Equation) (w : Assignment) → fails (added e f) w ≡ fails e w ⊕ fails f w
unfolding fails
fails-added e f w =
    ap₂ ◌⊕◌
    (ap₂ ◌⊕◌ (dot-xor e.a f.a w.a) (dot-xor e.b f.b w.b))
    (ap₂ ◌⊕◌ (dot-xor e.c f.c w.c) (dot-xor e.d f.d w.d))
    ∙ regroup (dot e.a w.a) (dot f.a w.a) (dot e.b w.b) (dot f.b w.b)
    (dot e.c w.c)
    (dot f.c w.c) (dot e.d w.d) (dot f.d w.d)
  where
    regroup : (a a' b b' c c' d d' : Bool) → ((a ⊕ a') ⊕ (b ⊕ b')) ⊕ ((c ⊕ c') ⊕ (d ⊕ d'))
        ≡ ((a ⊕ b) ⊕ (c ⊕ d)) ⊕ ((a' ⊕ b') ⊕ (c' ⊕ d'))
    regroup =
        bits 8 (λ a a' b b' c c' d d'. ((a ⊕ a') ⊕ (b ⊕ b')) ⊕ ((c ⊕ c') ⊕ (d ⊕ d')))
        (λ a a' b b' c c' d d'. ((a ⊕ b) ⊕ (c ⊕ d)) ⊕ ((a' ⊕ b') ⊕ (c' ⊕ d'))) tt

-- ---- unknowns
-- the assignment of zeros
abbrev pub zero_assignment : Assignment
zero_assignment = record { a = 0; b = 0; c = 0; d = 0 }

pub fails-zero : (e : Equation) → fails e zero_assignment ≡ false
unfolding fails
fails-zero e =
    ap₂ ◌⊕◌ (ap₂ ◌⊕◌ (none e.a) (none e.b)) (ap₂ ◌⊕◌ (none e.c) (none e.d))
  where
    none : (u : ℕ) → dot u 0 ≡ false
    none u = dot-comm u 0 ∙ zero-dot u

pub empty-unknown : (j : ℕ) → unknown empty_equation j ≡ false
empty-unknown j = go (j % 4)
  where
    go : (l : ℕ) → bit (word_at l 0 0 0 0) (j / 4) ≡ false
    go zero = zero_bit (j / 4)
    go (suc zero) = zero_bit (j / 4)
    go (suc (suc zero)) = zero_bit (j / 4)
    go (suc (suc (suc l))) = zero_bit (j / 4)

-- unknown l of qubit q
pub unknown-at : (e : Equation) (q l : ℕ) → l < 4
    → unknown e (4 * q + l) ≡ bit (word_at l e.a e.b e.c e.d) q
unknown-at e q l k =
    ap₂ (λ r t. bit (word_at r e.a e.b e.c e.d) t) (rest q l k) (whole q l k)
  where
    rest : (q l : ℕ) → l < 4 → (4 * q + l) % 4 ≡ l
    rest q l k = omega (arith, k)

    whole : (q l : ℕ) → l < 4 → (4 * q + l) / 4 ≡ q
    whole q l k = omega (arith, k)

-- no unknown at the qubits from m on
abbrev pub Short : ℕ → Equation → Type 0
Short m e = (j : ℕ) → 4 * m ≤ j → unknown e j ≡ false

pub short-word : (e : Equation) (m : ℕ) → Short m e → (l : ℕ) → l < 4 → (q : ℕ) → m ≤ q
    → bit (word_at l e.a e.b e.c e.d) q ≡ false
short-word e m h l k q n = sym (unknown-at e q l k) ∙ h (4 * q + l) (omega (arith, n))

-- two assignments that agree below qubit m
pub record SameBelow (m : ℕ) (w v : Assignment) : Type 0 where
  pub a : (q : ℕ) → q < m → bit w.a q ≡ bit v.a q
  pub b : (q : ℕ) → q < m → bit w.b q ≡ bit v.b q
  pub c : (q : ℕ) → q < m → bit w.c q ≡ bit v.c q
  pub d : (q : ℕ) → q < m → bit w.d q ≡ bit v.d q

dot-below : (m e u v : ℕ) → ((q : ℕ) → m ≤ q → bit e q ≡ false)
    → ((q : ℕ) → q < m → bit u q ≡ bit v q) → dot e u ≡ dot e v
unfolding dot
dot-below m e u v h k =
    ap (λ w. is_odd (ones w))
    (bit-ext∞ (bit_and e u) (bit_and e v) (λ q. bit-and e u q ∙ place q (lt-or-ge q m) ∙ sym (bit-and e v q)))
  where
    place : (q : ℕ) → (q < m) ⊎ (m ≤ q) → (bit e q && bit u q) ≡ (bit e q && bit v q)
    place q (inl l) = ap (λ b. bit e q && b) (k q l)
    place q (inr l) = ap (λ b. b && bit u q) (h q l) ∙ sym (ap (λ b. b && bit v q) (h q l))

-- an equation cannot tell them apart if it has no unknown from m on
pub fails-below : (e : Equation) (m : ℕ) → Short m e → (w v : Assignment) → SameBelow m w v → fails e w ≡ fails e v
unfolding fails
fails-below e m h w v s =
    ap₂ ◌⊕◌
    (ap₂ ◌⊕◌ (dot-below m e.a w.a v.a (short-word e m h 0 (lit< tt)) s.a)
    (dot-below m e.b w.b v.b (short-word e m h 1 (lit< tt)) s.b))
    (ap₂ ◌⊕◌ (dot-below m e.c w.c v.c (short-word e m h 2 (lit< tt)) s.c)
    (dot-below m e.d w.d v.d (short-word e m h 3 (lit< tt)) s.d))

pub no-unknowns : (e : Equation) → ((j : ℕ) → unknown e j ≡ false) → (w : Assignment) → fails e w ≡ false
no-unknowns e h w = fails-below e 0 (λ j l. h j) w zero_assignment nothing ∙ fails-zero e
  where
    nothing : SameBelow 0 w zero_assignment
    nothing =
        record {
          a = λ q l. absurd (not-suc-le-zero l);
          b = λ q l. absurd (not-suc-le-zero l);
          c = λ q l. absurd (not-suc-le-zero l);
          d = λ q l. absurd (not-suc-le-zero l);
        }

pub unknown-added : (e f : Equation) (j : ℕ) → unknown (added e f) j ≡ unknown e j ⊕ unknown f j
unknown-added e f j = go (j % 4)
  where
    go : (l : ℕ) → bit (word_at l (added e f).a (added e f).b (added e f).c (added e f).d) (j / 4)
        ≡ bit (word_at l e.a e.b e.c e.d) (j / 4) ⊕ bit (word_at l f.a f.b f.c f.d) (j / 4)
    go zero = bit-xor e.a f.a (j / 4)
    go (suc zero) = bit-xor e.b f.b (j / 4)
    go (suc (suc zero)) = bit-xor e.c f.c (j / 4)
    go (suc (suc (suc l))) = bit-xor e.d f.d (j / 4)
