-- Words of the vertices that may be out of place: one more where a code is stored.
use mathlib.Core.Bool.{Bool, false, not, or-true, true, ◌&&◌, ◌||◌}
use mathlib.Core.List.{List}
use mathlib.Core.Path.{ap, refl, subst, sym, ◌∙◌, ◌≡◌}
use Prim.Native.Nat.{◌/◌, ◌<◌, ◌^◌, ℕ}
use lib.Bits.{bit_or, or_lt}
use lib.Dec.{eqb, leb}
use lib.ListN.{get_or, length, set}
use lib.Pow.{pow-lt}
use lib.Seq.{get_or-set_other}
use borrow.Author.Tests.{eqb-false}
use Rattle.operations_gates.specs.internal.Watching.{Suspected, Watched, suspect_at}
use Rattle.operations.specs.internal.KeptGroups.{unsettled}
use Rattle.words.proofs.BitLaws.{bit-or, bit-single}
use Rattle.words.specs.Bits.{bit, is_odd}

-- ---- a code stored at q
module _ (words codes : List ℕ) (q c : ℕ) (codes' : List ℕ) (e : codes' ≡ set codes q c) (w all : ℕ) (f : w ≡ 2 ^ q)
  where
    -- q is in the word
    own : (p : ℕ) → eqb p q ≡ true → bit (bit_or all w) p ≡ true
    own p d = bit-or all w p ∙ ap (λ v. bit all p || bit v p) f ∙ ap (λ v. bit all p || v) (bit-single q p ∙ d)
        ∙ or-true (bit all p)

    -- and every other vertex that was
    other : (p : ℕ) → bit all p ≡ true → bit (bit_or all w) p ≡ true
    other p d = bit-or all w p ∙ ap (λ v. v || bit w p) d

    kept : (p : ℕ) → eqb p q ≡ false → get_or codes p 0 ≡ get_or codes' p 0
    kept p d = sym (ap (λ t. get_or t p 0) e ∙ get_or-set_other codes q p c 0 (eqb-false p q d))

    pub gate-watched : q < length words → Watched words codes all → Watched words codes' (bit_or all w)
    gate-watched hq W =
        record {
          short = or_lt (length words) all w W.short (subst (λ v. v < 2 ^ length words) (sym f) (pow-lt hq));
          seen = λ p l out. here p l out (eqb p q) refl;
        }
      where
        here : (p : ℕ) → p < length words → unsettled words codes' p ≡ true → (b : Bool) → eqb p q ≡ b
            → bit (bit_or all w) p ≡ true
        here p l out true d = own p d
        here p l out false d = other p (W.seen p l
            (ap (λ k. leb 12 k || (is_odd k || (leb 8 k && not (eqb (get_or words p 0 / 2 ^ p) 0)))) (kept p d) ∙ out))

    pub gate-suspected : Suspected words codes all → Suspected words codes' (bit_or all w)
    gate-suspected S = record { held = λ p l out. here p l out (eqb p q) refl }
      where
        here : (p : ℕ) → p < length words → suspect_at codes' p ≡ true → (b : Bool) → eqb p q ≡ b
            → bit (bit_or all w) p ≡ true
        here p l out true d = own p d
        here p l out false d = other p (S.held p l (ap (λ k. is_odd k || leb 8 k) (kept p d) ∙ out))
