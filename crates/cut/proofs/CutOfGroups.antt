-- The rank across a cut is a matter of the elements of the group that act on one side alone: where those of one record
-- embed into those of another, the other's rank is no larger.
use mathlib.Core.Bool.{◌&&◌, Bool, cond, false, not, true}
use mathlib.Core.Path.{ap, refl, subst, sym, ◌∙◌, ◌≡◌}
use Prim.Native.Nat.{◌<◌, ◌≤◌, ◌^◌, ℕ}
use native.Mathlib.Nat.{le_antisymm}
use Rattle.record.specs.Graph.{Simple}
use Rattle.pauli.specs.Pauli.{Pauli, identity, mul}
use Rattle.record.specs.Records.{GraphRecord, rows_of}
use Rattle.stabilizer.specs.Groups.{InGroup, chosen, product}
use Rattle.words.proofs.BitLaws.{bit-ext, bit-word_of, word_of-lt}
use Rattle.words.proofs.Sums.{fold-ext}
use Rattle.words.specs.Bits.{Word, bit, word_of}
use Rattle.cut.proofs.Counting.{Injection, count-le}
use Rattle.cut.proofs.OneSidedElements.{avoids-kernel, clear-on-side, kernel-avoids, off_side, word-determined}
use Rattle.cut.proofs.RankLaws.{rank-by-kernels}
use Rattle.cut.specs.Cut.{crossing, cut_rank}
use Rattle.cut.specs.Kernel.{in_kernel}
use Rattle.cut.specs.OneSided.{Avoids}
use Rattle.cut.specs.internal.OneSided.{Embeds}

module _ (n : ℕ) (side : Word) (r s : GraphRecord) (R : Simple n r.graph) (S : Simple n s.graph)
    (E : Embeds n side (rows_of n r) (rows_of n s)) where
  abbrev passes : ℕ → Type 0
  passes v = in_kernel n n (crossing side r.graph) v ≡ true

  -- the element that a word of the kernel chooses, and its image
  abbrev element : ℕ → Pauli
  element v = product n n (off_side side (bit v)) (rows_of n r)

  landed : (v : ℕ) → passes v → InGroup n n (rows_of n s) (E.to (element v))
  landed v e = E.lands (element v) (off_side side (bit v), refl) (kernel-avoids n r R side v e)

  landed-avoids : (v : ℕ) (e : passes v) → Avoids n side (product n n (landed v e).0 (rows_of n s))
  landed-avoids v e = subst (Avoids n side) (landed v e).1
      (E.avoids (element v) (off_side side (bit v), refl) (kernel-avoids n r R side v e))

  -- the image's word, with the old word's places on the marked side
  abbrev joined : (v : ℕ) → passes v → Word
  joined v e t = cond (side t) (bit v t) ((landed v e).0 t)

  joined-off : (v : ℕ) (e : passes v) (t : ℕ) → side t ≡ false → joined v e t ≡ (landed v e).0 t
  joined-off v e t h = ap (λ b. cond b (bit v t) ((landed v e).0 t)) h

  joined-on : (v : ℕ) (e : passes v) (t : ℕ) → side t ≡ true → joined v e t ≡ bit v t
  joined-on v e t h = ap (λ b. cond b (bit v t) ((landed v e).0 t)) h

  module _ (v w : ℕ) (l : v < 2 ^ n) (k : w < 2 ^ n) (e : passes v) (d : passes w)
      (same : (t : ℕ) → t < n → joined v e t ≡ joined w d t) where
    same-landed : (t : ℕ) → t < n → (b : Bool) → side t ≡ b → (landed v e).0 t ≡ (landed w d).0 t
    same-landed t h true p = clear-on-side n s S side (landed v e).0 (landed-avoids v e) t h p
        ∙ sym (clear-on-side n s S side (landed w d).0 (landed-avoids w d) t h p)
    same-landed t h false p = sym (joined-off v e t p) ∙ same t h ∙ joined-off w d t p

    same-element : element v ≡ element w
    same-element = E.apart (element v) (element w) (off_side side (bit v), refl) (off_side side (bit w), refl)
        ((landed v e).1
        ∙ fold-ext identity (mul n) n (λ t h. ap (λ b. chosen b (rows_of n s t)) (same-landed t h (side t) refl))
        ∙ sym (landed w d).1)

    same_bit : (t : ℕ) → t < n → (b : Bool) → side t ≡ b → bit v t ≡ bit w t
    same_bit t h true p = sym (joined-on v e t p) ∙ same t h ∙ joined-on w d t p
    same_bit t h false p =
        ap (λ b. not b && bit v t) (sym p)
        ∙ word-determined n r R (off_side side (bit v)) (off_side side (bit w)) same-element t h
        ∙ ap (λ b. not b && bit w t) p

    same_word : v ≡ w
    same_word = bit-ext n v w l k (λ t h. same_bit t h (side t) refl)

  kernels-inject : Injection (2 ^ n) (in_kernel n n (crossing side r.graph)) (2 ^ n)
      (in_kernel n n (crossing side s.graph))
  kernels-inject = record {
    to = λ v l e. word_of n (joined v e);
    below = λ v l e. word_of-lt n (joined v e);
    passes = λ v l e. avoids-kernel n s S side (landed v e).0 (landed-avoids v e) (word_of n (joined v e))
        (λ t h p. bit-word_of n (joined v e) t h ∙ joined-off v e t p);
    apart = λ v w l k e d q. same_word v w l k e d (λ t h. sym (bit-word_of n (joined v e) t h)
        ∙ ap (λ u. bit u t) q ∙ bit-word_of n (joined w d) t h);
  }

  pub cut-falls : cut_rank n side s.graph ≤ cut_rank n side r.graph
  cut-falls = rank-by-kernels n n (crossing side r.graph) (crossing side s.graph)
      (count-le (2 ^ n) _ (2 ^ n) _ kernels-inject)

-- embedded into one another
module _ (n : ℕ) (side : Word) (r s : GraphRecord) (R : Simple n r.graph) (S : Simple n s.graph) where
  pub same-cut : Embeds n side (rows_of n r) (rows_of n s) → Embeds n side (rows_of n s) (rows_of n r)
      → cut_rank n side r.graph ≡ cut_rank n side s.graph
  same-cut E F = le_antisymm (cut-falls n side s r S R F) (cut-falls n side r s R S E)

  -- a map of rows, undone by another, that sends one group onto the other; both keep what avoids the side
  pub mapped-cut : (f g : Pauli → Pauli) → ((p : Pauli) → g (f p) ≡ p)
      → ((p : Pauli) → Avoids n side p → Avoids n side (f p))
      → ((p : Pauli) → Avoids n side p → Avoids n side (g p))
      → ((p : Pauli) → InGroup n n (rows_of n r) p → InGroup n n (rows_of n s) (f p))
      → ((p : Pauli) → InGroup n n (rows_of n s) p → (t : Pauli) × InGroup n n (rows_of n r) t × (p ≡ f t))
      → cut_rank n side r.graph ≡ cut_rank n side s.graph
  mapped-cut f g undo keeps keeps-back into onto = same-cut
      (record {
        to = f;
        lands = λ p a A. into p a;
        avoids = λ p a A. keeps p A;
        apart = λ p t a b e. sym (undo p) ∙ ap g e ∙ undo t;
      })
      (record {
        to = g;
        lands = λ p a A. subst (InGroup n n (rows_of n r)) (sym (source p a)) (onto p a).1;
        avoids = λ p a A. keeps-back p A;
        apart = λ p t a b e. (onto p a).2 ∙ ap f (sym (source p a) ∙ e ∙ source t b) ∙ sym (onto t b).2;
      })
    where
      source : (p : Pauli) (a : InGroup n n (rows_of n s) p) → g p ≡ (onto p a).0
      source p a = ap g (onto p a).2 ∙ undo (onto p a).0
