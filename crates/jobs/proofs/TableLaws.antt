-- The lines of a plot's table: their parts and their lengths.
use mathlib.Core.List.{List, [], ◌∷◌, ◌++◌, append_assoc}
use mathlib.Core.Path.{◌≡◌, ap, subst, sym, ◌∙◌}
use Prim.Native.Nat.{ℕ, zero, suc, ◌+◌, ◌*◌, ◌≤◌}
use native.Mathlib.Numerals.{add-one}
use native.Mathlib.Omega.{arith}
use lib.Ieee.{Float, binary64, to_bits}
use lib.ListN.{length, length-append}
use Rattle.amplitude.specs.declared.PlotLine.{PlotLine}
use Rattle.jobs.proofs.ResultLaws.{length-step}
use Rattle.text.proofs.HexLaws.{length-hex}
use Rattle.text.specs.Text.{digits, newline, space}
use Rattle.jobs.specs.Table.{float_text, point_text, point_texts}

-- a float has 16 digits, and a byte stands behind them
pub length_float : (v : Float) (end : ℕ) → length (float_text v ++ end ∷ []) ≡ 17
length_float v end =
    length-append (float_text v) (end ∷ []) ∙ ap (λ k. k + 1) (length-hex 16 (to_bits binary64 v))

-- a line is a field, three floats with a byte behind each
module _ (y : ℕ) (l : PlotLine) where
  abbrev pub up_to_real : List ℕ
  up_to_real = (digits 4 y ++ space) ++ (float_text l.re ++ space)

  abbrev pub up_to_imaginary : List ℕ
  up_to_imaginary = up_to_real ++ (float_text l.im ++ space)

  pub point-parts : up_to_imaginary ++ (float_text l.p ++ newline) ≡ point_text y l
  unfolding point_text
  point-parts =
      sym (append_assoc up_to_imaginary (float_text l.p) newline)
      ∙ ap (λ t. t ++ float_text l.p ++ newline)
      (sym (append_assoc up_to_real (float_text l.im) space)
      ∙ ap (λ t. t ++ float_text l.im ++ space)
      (sym (append_assoc (digits 4 y ++ space) (float_text l.re) space)))

  pub length-real : length up_to_real ≤ 22
  length-real =
      omega (
        arith,
        length-append (digits 4 y ++ space) (float_text l.re ++ space),
        length_float l.re 32,
        length-step y,
      )

  pub length-imaginary : length up_to_imaginary ≤ 39
  length-imaginary =
      omega (
        arith,
        length-append up_to_real (float_text l.im ++ space),
        length_float l.im 32,
        length-real,
      )

  pub length-point : length (point_text y l) ≤ 56
  length-point =
      subst (λ t. length t ≤ 56) point-parts
      (omega (
        arith,
        length-append up_to_imaginary (float_text l.p ++ newline),
        length_float l.p 10,
        length-imaginary,
      ))

-- the lines of the words below k
pub length-points : (k : ℕ) (points : ℕ → PlotLine) → length (point_texts k points) ≤ k * 56
unfolding point_texts
length-points zero points = omega arith
length-points (suc y) points =
    simp length-append (omega (arith, length-points y points, length-point y (points y)))

-- one line more
pub points-more : (k : ℕ) (points : ℕ → PlotLine)
    → point_texts k points ++ point_text k (points k) ≡ point_texts (k + 1) points
unfolding point_texts
points-more k points = sym (ap (λ m. point_texts m points) (add-one k))
