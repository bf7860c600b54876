-- The demands of amplitudes, from the laws of the vector and the contract of the call.
use mathlib.Core.Bool.{Bool, cond, false, true}
use mathlib.Core.Path.{ap, refl, subst, sym, ◌∙◌, ◌≡◌}
use Prim.Native.Nat.{ℕ}
use lib.Ieee.{Float}
use Rattle.amplitude.proofs.CountedWords.{words_count}
use Rattle.amplitude.proofs.Turning.{turned-one-some}
use Rattle.amplitude.proofs.VectorLaws.{
  amplitudes-stabilized,
  any-element-fixes,
  lowest-least,
  only-vector,
  only-vector-over,
  zero-exactly,
}
use Rattle.amplitude.specs.Plotting.{plotted, turned}
use Rattle.amplitude.specs.Ratios.{is_supported, plot_at, ratio}
use Rattle.amplitude.specs.Vectors.{Gaussian, none, one, turn_by}
use Rattle.amplitude.specs.declared.Amplitude.TheVariants.{Nothing}
use Rattle.cut.specs.Rank.{rank}
use Rattle.pauli.specs.Pauli.{Pauli, Phase, exponent, i¹, i², i³, i⁰}
use Rattle.record.specs.Lent.{held_rows}
use Rattle.record.specs.Reduced.{x_words}
use Rattle.stabilizer.specs.Groups.{Proper}
use Rattle.claims.proofs.PlotBits.{AllBack, line-back}
use Rattle.claims.proofs.families.Amplitudes.{amplitude-lines}
use Rattle.claims.specs.AmplitudeDemand.{
  AmplitudeDemand,
  AmplitudesAnswer,
  PlottedAs,
  StatesAreMultiples,
  float_in,
  imaginary,
  real,
}

pub amplitude-demand : (n : ℕ) (R : ℕ → Pauli) → Proper n R → AmplitudeDemand n R
amplitude-demand n R P =
    record {
      fixed = amplitudes-stabilized n R P;
      only = only-vector n R P;
      zero = zero-exactly n R P;
      smallest = lowest-least n R P;
      ratio = any-element-fixes n R P;
      words = words_count n R P;
    }

pub states-are-multiples : StatesAreMultiples
states-are-multiples u y re im p re' im' p' C = only-vector-over u.held.n (held_rows u.held)
    ((amplitude-lines u y).0 (sym C.number)).0.held.proper

-- the line of a power of i, and of nothing
pub plotted-as : (b : Bool) (t : Phase) (k : ℕ) → let l = plotted (cond b (turned (exponent t)) Nothing) k in
    PlottedAs (cond b (turn_by t one) none) k l.re l.im l.p
plotted-as false t k =
    record {
      nothing = λ e. (refl, refl, refl);
      value = λ h. absurd (h refl);
      real-part = refl;
      imaginary-part = refl;
    }
plotted-as true i⁰ k =
    record {
      nothing = λ e. absurd (turned-one-some i⁰ e);
      value = λ h. (real false, refl);
      real-part = refl;
      imaginary-part = refl;
    }
plotted-as true i¹ k =
    record {
      nothing = λ e. absurd (turned-one-some i¹ e);
      value = λ h. (imaginary false, refl);
      real-part = refl;
      imaginary-part = refl;
    }
plotted-as true i² k =
    record {
      nothing = λ e. absurd (turned-one-some i² e);
      value = λ h. (real true, refl);
      real-part = refl;
      imaginary-part = refl;
    }
plotted-as true i³ k =
    record {
      nothing = λ e. absurd (turned-one-some i³ e);
      value = λ h. (imaginary true, refl);
      real-part = refl;
      imaginary-part = refl;
    }

-- the same of floats that are equal to these
as-held : {v : Gaussian} {k : ℕ} {re im p re' im' p' : Float} → re' ≡ re → im' ≡ im → p' ≡ p
    → PlottedAs v k re im p → PlottedAs v k re' im' p'
as-held {v} {k} {re} {im} {p} {re'} {im'} {p'} a b c H =
    subst (λ z. PlottedAs v k re' im' z) (sym c) (subst (λ z. PlottedAs v k re' z p) (sym b)
    (subst (λ z. PlottedAs v k z im p) (sym a) H))

pub amplitudes-answer : AmplitudesAnswer
amplitudes-answer u y re im p re' im' p' C =
    let n = u.held.n in
    let R = held_rows u.held in
    let fits = (amplitude-lines u y).0 (sym C.number) in
    let back : AllBack (plot_at n R y) = line-back n R y fits.0.held.upto in
    record {
      vector = amplitude-demand n R fits.0.held.proper;
      line = as-held (ap float_in C.held.0 ∙ back.re) (ap float_in C.held.1.0 ∙ back.im)
          (ap float_in C.held.1.1.0 ∙ back.p) (plotted-as (is_supported n R y) (ratio n R y)
          (rank n n (x_words R)));
    }
