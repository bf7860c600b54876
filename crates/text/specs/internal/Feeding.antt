-- Bytes fed to a scanner one after the other, and block after block. What the scanner does with one byte is given.
use Rattle.std.specs.Prelude.{List, [], ◌∷◌, ℕ}

module _ {W : Type 0} (feed : W → ℕ → W) where
  -- one more byte after the other
  unfoldable pub fed_bytes : W → List ℕ → W
  fed_bytes w [] = w
  fed_bytes w (b ∷ bs) = fed_bytes (feed w b) bs

  -- block after block
  unfoldable pub fed_blocks : W → List (List ℕ) → W
  fed_blocks w [] = w
  fed_blocks w (block ∷ blocks) = fed_blocks (fed_bytes w block) blocks
