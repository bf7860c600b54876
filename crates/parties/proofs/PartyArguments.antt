-- The lines of a party's measurement but for the outcome that contradicts the record, and those of the whole record.
use mathlib.Core.Bool.{not, ◌||◌}
use mathlib.Core.List.{List}
use mathlib.Core.Path.{refl, ◌≡◌}
use Prim.Native.Nat.{ℕ}
use lib.Dec.{eqb, lit<, ltb}
use Rattle.buffers.proofs.AddedLines.{before-passes, test-numbered, test-passes}
use Rattle.buffers.proofs.Lines.{Numbered}
use Rattle.buffers.specs.Refusals.{Refusal, first_fitting, inserted_before, line, with_test}
use Rattle.operations.specs.Steps.{measurement_of}
use Rattle.operations.specs.Used.{UsedRecord, used_arguments_of}
use Rattle.parties.specs.PartyLines.{outsider, with_party}
use Rattle.parties.specs.Masks.{crosses, in_party}

abbrev pub whole : UsedRecord → ℕ → ℕ → ℕ → List Refusal
whole u pauli q b = used_arguments_of u (measurement_of pauli q b)

abbrev pub arguments : ℕ → ℕ → UsedRecord → ℕ → ℕ → ℕ → List Refusal
arguments word g u pauli q b =
    inserted_before 8 (line 19 (crosses word u || outsider (in_party word g) u.held.n q))
    (with_party g u.held.n (whole u pauli q b))

-- where these lines pass, those of the whole record do
pub whole-passes : (word g : ℕ) (u : UsedRecord) (pauli q b : ℕ)
    → first_fitting (arguments word g u pauli q b) ≡ 0 → first_fitting (whole u pauli q b) ≡ 0
whole-passes word g u pauli q b e =
    let lines : List Refusal = whole u pauli q b in
    let N : Numbered lines = (lit< tt, (lit< tt, (lit< tt, (lit< tt, (lit< tt, (lit< tt, (lit< tt, tt))))))) in
    let N6 = test-numbered 6 (ltb 1 g) lines N in
    let h19 = (before-passes 8 18 _ (with_party g u.held.n lines)
    (test-numbered 2 (not (eqb u.held.n 64)) (with_test 6 (ltb 1 g) lines) N6) refl).0 e in
    let h2 = (test-passes 2 (not (eqb u.held.n 64)) (with_test 6 (ltb 1 g) lines) N6 refl).0 h19.0 in
    ((test-passes 6 (ltb 1 g) lines N refl).0 h2.0).0
