-- The table of a plot, as a list of bytes: 10 ends a line, 32 is the space, 48 the digit 0, 97 the letter a.
use Rattle.std.specs.Prelude.{List, [], ◌∷◌, ◌++◌, ℕ, zero, suc, Float}
use Rattle.std.specs.Float.{binary64}
use Rattle.std.specs.Float.Ieee.{to_bits}
use Rattle.amplitude.specs.declared.PlotLine.{PlotLine}
use Rattle.text.specs.Text.{digits, hex_text, newline, space}

-- "under the names `y re im p`"
abbrev pub plot_names : List ℕ
plot_names = 121 ∷ 32 ∷ 114 ∷ 101 ∷ 32 ∷ 105 ∷ 109 ∷ 32 ∷ 112 ∷ 10 ∷ []

-- a float's "bits as 16 hexadecimal digits"
abbrev pub float_text : Float → List ℕ
float_text v = hex_text 16 (to_bits binary64 v)

-- "y in decimal and the three floats' bits as 16 hexadecimal digits each"; the layout is that of `reduce`: "fields
-- parted by one space, every line ended by a newline"
unfoldable pub point_text : ℕ → PlotLine → List ℕ
point_text y l =
    digits 4 y ++ space ++ float_text l.re ++ space ++ float_text l.im ++ space ++ float_text l.p ++ newline

-- "for y rising from 0": the lines of the words below k
unfoldable pub point_texts : ℕ → (ℕ → PlotLine) → List ℕ
point_texts zero points = []
point_texts (suc y) points = point_texts y points ++ point_text y (points y)

-- the print of a plot
unfoldable pub table_text : ℕ → (ℕ → PlotLine) → List ℕ
table_text k points = plot_names ++ point_texts k points
