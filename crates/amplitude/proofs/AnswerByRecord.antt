-- The answer of a record of reduced form is the one read off it.
use mathlib.Core.Bool.{Bool, cond, false, true}
use mathlib.Core.Path.{◌∙◌, ◌≡◌, ap, refl, sym}
use Prim.Native.Nat.{ℕ}
use Rattle.record.specs.Graph.{Simple}
use Rattle.operations.specs.internal.ReducedForms.{ReducedForm}
use Rattle.pauli.proofs.PhaseLaws.{+ᵖ-assoc, +ᵖ-zero, four-times}
use Rattle.pauli.specs.Pauli.{◌+ᵖ◌, Phase, exponent}
use Rattle.record.specs.Records.{GraphRecord, rows_of}
use Rattle.words.specs.Bits.{bit}
use Rattle.amplitude.proofs.CountedWords.{support-fits}
use Rattle.amplitude.proofs.KeptRatios.{ratio-by-turns}
use Rattle.amplitude.specs.internal.ByRecord.{answer_over, over}
use Rattle.amplitude.specs.internal.KeptTurns.{kept_turns}
use Rattle.amplitude.specs.Plotting.{turned}
use Rattle.amplitude.specs.Ratios.{amplitude_of, lowest, ratio, is_supported}
use Rattle.amplitude.specs.declared.Amplitude.TheVariants.{Nothing}

taken-over : (a b c : Phase) → a +ᵖ b ≡ c → a ≡ over c b
taken-over a b c e = sym (ap (λ t. over t b) (sym e) ∙ +ᵖ-assoc a b (b +ᵖ (b +ᵖ b)) ∙ ap (λ t. a +ᵖ t) (four-times b)
    ∙ +ᵖ-zero a)

module _ (n : ℕ) (r : GraphRecord) (S : Simple n r.graph) (F : ReducedForm n r) where
  -- by the smallest word
  pub form-answer-over : (y : ℕ) → amplitude_of n (rows_of n r) y ≡ answer_over n r (lowest n (rows_of n r)) y
  form-answer-over y = go (is_supported n (rows_of n r) y) refl
      ∙ ap (λ b. cond b (turned (exponent (over (kept_turns n r (bit y)) (kept_turns n r (bit (lowest n (rows_of n r)))))))
      Nothing) (support-fits n r S F y)
    where
      go : (b : Bool) → is_supported n (rows_of n r) y ≡ b
          → cond b (turned (exponent (ratio n (rows_of n r) y))) Nothing
          ≡ cond b (turned (exponent (over (kept_turns n r (bit y)) (kept_turns n r (bit (lowest n (rows_of n r)))))))
          Nothing
      go true e = ap (λ t. turned (exponent t)) (taken-over (ratio n (rows_of n r) y)
          (kept_turns n r (bit (lowest n (rows_of n r)))) (kept_turns n r (bit y)) (ratio-by-turns n r S F y e))
      go false e = refl
