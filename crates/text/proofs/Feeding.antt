-- Feeding a scanner piece by piece: after two pieces, after one more byte of a block, after blocks, and what each byte
-- keeps. One set of laws for the scanners of lists and of jobs.
use mathlib.Core.Path.{◌≡◌, refl, sym, ap, ◌∙◌, subst}
use mathlib.Core.List.{List, [], ◌∷◌, ◌++◌, append_assoc, append-nil, flatten}
use Prim.Native.Nat.{ℕ, ◌+◌, ◌<◌}
use native.Mathlib.Numerals.{add-one}
use lib.ListN.{length, get_or, take}
use lib.Seq.{take-suc}
use Rattle.text.specs.internal.Feeding.{fed_bytes, fed_blocks}

module _ {W : Type 0} (feed : W → ℕ → W) where
  -- the state after a text a ++ b is that after b, fed to the state after a
  pub fed-append : (w : W) (a b : List ℕ) → fed_bytes feed w (a ++ b) ≡ fed_bytes feed (fed_bytes feed w a) b
  unfolding fed_bytes
  fed-append w [] b = refl
  fed-append w (c ∷ a) b = fed-append (feed w c) a b

  pub fed-one : (w : W) (a : List ℕ) (b : ℕ) → fed_bytes feed w (a ++ b ∷ []) ≡ feed (fed_bytes feed w a) b
  unfolding fed_bytes
  fed-one w a b = fed-append w a (b ∷ [])

  -- blocks fed one after the other are fed as the text that they make
  pub blocks-fed : (w : W) (blocks : List (List ℕ)) → fed_blocks feed w blocks ≡ fed_bytes feed w (flatten blocks)
  unfolding fed_blocks fed_bytes flatten
  blocks-fed w [] = refl
  blocks-fed w (block ∷ blocks) =
      blocks-fed (fed_bytes feed w block) blocks ∙ sym (fed-append w block (flatten blocks))

  -- a turn of the loop over a block
  pub fed-more : (w now : W) (block : List ℕ) (i : ℕ) → i < length block → now ≡ fed_bytes feed w (take i block)
      → (next : W) → next ≡ feed now (get_or block i 0) → next ≡ fed_bytes feed w (take (i + 1) block)
  fed-more w now block i inside sofar next e =
      e ∙ ap (λ v. feed v (get_or block i 0)) sofar ∙ sym (fed-one w (take i block) (get_or block i 0))
      ∙ ap (fed_bytes feed w) (sym (take-suc block i 0 inside))
      ∙ ap (λ k. fed_bytes feed w (take k block)) (sym (add-one i))

  -- what each byte keeps, of the state and the text read, a text keeps
  pub fed-keeps : (P : W → List ℕ → Type 0)
      → ((w : W) (t : List ℕ) (b : ℕ) → P w t → P (feed w b) (t ++ b ∷ []))
      → (u t : List ℕ) (w : W) → P w t → P (fed_bytes feed w u) (t ++ u)
  unfolding fed_bytes
  fed-keeps P step [] t w h = subst (P w) (sym (append-nil t)) h
  fed-keeps P step (b ∷ u) t w h =
      subst (P (fed_bytes feed (feed w b) u)) (append_assoc t (b ∷ []) u)
      (fed-keeps P step u (t ++ b ∷ []) (feed w b) (step w t b h))
