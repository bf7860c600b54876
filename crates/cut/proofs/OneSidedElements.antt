-- The elements of a record's group that act on one side of a cut alone are chosen by the words in the kernel of the
-- edges between the sides.
use mathlib.Core.Bool.{◌&&◌, Bool, and-false, false, not, true}
use mathlib.Core.Path.{ap, ap₂, refl, subst, sym, ◌∙◌, ◌≡◌}
use Prim.Native.Nat.{◌<◌, ℕ}
use Rattle.clifford.proofs.VectorLaws.{act-inverse}
use Rattle.clifford.specs.Clifford.{Clifford, image, inverse}
use Rattle.clifford.specs.Vectors.{act}
use Rattle.record.proofs.GraphGroups.{element-x, element-z}
use Rattle.record.specs.Graph.{Simple, graph_generator}
use Rattle.pauli.specs.Pauli.{Pauli, identity, letter, mul, x_bit, z_bit}
use Rattle.record.specs.Records.{GraphRecord, rows_of}
use Rattle.stabilizer.proofs.Carried.{act-product}
use Rattle.stabilizer.specs.Groups.{chosen, product}
use Rattle.words.proofs.Finite.{bits}
use Rattle.words.proofs.Sums.{bit_monoid, fold-ext, fold-unit}
use Rattle.words.specs.Bits.{Word, bit, parity, ◌⊕◌}
use Rattle.cut.proofs.KernelLaws.{in-kernel}
use Rattle.cut.specs.Cut.{crossing}
use Rattle.cut.specs.Kernel.{in_kernel}
use Rattle.cut.specs.OneSided.{Avoids}

-- codes send I to I alone
pub avoids-act : (n : ℕ) (side : Word) (c : ℕ → Clifford) (p : Pauli) → Avoids n side p → Avoids n side (act n c p)
unfolding act
avoids-act n side c p A =
    record {
      no-x = λ q l h. ap₂ (λ z x. x_bit (image (c q) (letter z x))) (A.no-z q l h) (A.no-x q l h);
      no-z = λ q l h. ap₂ (λ z x. z_bit (image (c q) (letter z x))) (A.no-z q l h) (A.no-x q l h);
    }

-- the word without its places on the marked side
abbrev pub off_side : Word → Word → Word
off_side side w t = not (side t) && w t

module _ (n : ℕ) (r : GraphRecord) (S : Simple n r.graph) where
  -- the element of the plain graph that a word chooses
  abbrev plain : Word → Pauli
  plain w = product n n w (graph_generator r.graph)

  coded : (w : Word) → act n r.codes (plain w) ≡ product n n w (rows_of n r)
  coded w = act-product n n (graph_generator r.graph) r.codes w

  decoded : (w : Word) → act n (λ q. inverse (r.codes q)) (product n n w (rows_of n r)) ≡ plain w
  decoded w = ap (act n (λ q. inverse (r.codes q))) (sym (coded w)) ∙ act-inverse n r.codes (plain w)

  -- the word of an element
  pub word-determined : (w v : Word) → product n n w (rows_of n r) ≡ product n n v (rows_of n r) → (t : ℕ) → t < n
      → w t ≡ v t
  word-determined w v e t l =
      sym (element-x n r.graph S w t l)
      ∙ ap (λ p. p.x t) (sym (decoded w) ∙ ap (act n (λ q. inverse (r.codes q))) e ∙ decoded v)
      ∙ element-x n r.graph S v t l

  module _ (side : Word) where
    -- a sum of columns at a marked vertex is a z bit there
    sum-is-z : (w : Word) (q : ℕ) → side q ≡ true
        → parity n (λ t. w t && crossing side r.graph q t) ≡ (plain (off_side side w)).z q
    sum-is-z w q h =
        fold-ext false ◌⊕◌ n (λ t l. ap (λ s. w t && ((s && not (side t)) && r.graph q t)) h
        ∙ regroup (w t) (side t) (r.graph q t) ∙ ap (λ e. off_side side w t && e) (S.symmetric q t))
        ∙ sym (element-z n r.graph S (off_side side w) q)
      where
        regroup : (w s e : Bool) → (w && ((true && not s) && e)) ≡ ((not s && w) && e)
        regroup = bits 3 (λ w s e. w && ((true && not s) && e)) (λ w s e. (not s && w) && e) tt

    -- ---- a word of the kernel chooses such an element
    pub kernel-avoids : (v : ℕ) → in_kernel n n (crossing side r.graph) v ≡ true
        → Avoids n side (product n n (off_side side (bit v)) (rows_of n r))
    kernel-avoids v e = subst (Avoids n side) (coded (off_side side (bit v)))
        (avoids-act n side r.codes (plain (off_side side (bit v))) (record {
          no-x = λ q l h. element-x n r.graph S (off_side side (bit v)) q l ∙ ap (λ s. not s && bit v q) h;
          no-z = λ q l h. sym (sum-is-z (bit v) q h) ∙ (in-kernel n n (crossing side r.graph) v).0 e q l;
        }))

    -- ---- and such an element is chosen by words of the kernel
    module _ (w : Word) (A : Avoids n side (product n n w (rows_of n r))) where
      plain-avoids : Avoids n side (plain w)
      plain-avoids = subst (Avoids n side) (decoded w) (avoids-act n side (λ q. inverse (r.codes q)) _ A)

      pub clear-on-side : (t : ℕ) → t < n → side t ≡ true → w t ≡ false
      clear-on-side t l h = sym (element-x n r.graph S w t l) ∙ plain-avoids.no-x t l h

      -- whatever they hold on the marked side
      pub avoids-kernel : (v : ℕ) → ((t : ℕ) → t < n → side t ≡ false → bit v t ≡ w t)
          → in_kernel n n (crossing side r.graph) v ≡ true
      avoids-kernel v agree = (in-kernel n n (crossing side r.graph) v).1 (λ j l. row j l (side j) refl)
        where
          same : (t : ℕ) → t < n → (s : Bool) → side t ≡ s → off_side side (bit v) t ≡ w t
          same t l true h = ap (λ s. not s && bit v t) h ∙ sym (clear-on-side t l h)
          same t l false h = ap (λ s. not s && bit v t) h ∙ agree t l h

          row : (j : ℕ) → j < n → (s : Bool) → side j ≡ s
              → parity n (λ t. bit v t && crossing side r.graph j t) ≡ false
          row j l true h = sum-is-z (bit v) j h
              ∙ ap (λ p. p.z j) (fold-ext identity (mul n) n
              (λ t k. ap (λ b. chosen b (graph_generator r.graph t)) (same t k (side t) refl)))
              ∙ plain-avoids.no-z j l h
          row j l false h = fold-unit false ◌⊕◌ bit_monoid n
              (λ t k. ap (λ s. bit v t && ((s && not (side t)) && r.graph j t)) h ∙ and-false (bit v t))
