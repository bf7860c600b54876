-- The words with a nonzero amplitude, and each amplitude over that of the smallest of them (02, §11), by search over
-- the products of the generators.
use Rattle.std.specs.Prelude.{Bool, ◌||◌, cond, ◌≡◌, ◌<◌, ◌^◌, ℕ}
use Rattle.cut.specs.Rank.{rank}
use Rattle.pauli.specs.Pauli.{Pauli, Phase, exponent, i⁰, same_phase}
use Rattle.record.specs.Reduced.{x_words}
use Rattle.stabilizer.specs.Groups.{product}
use Rattle.words.specs.Bits.{Word, ◌⊕◌, bit, same_bit}
use Rattle.words.specs.Search.{every, first, some}
use Rattle.amplitude.specs.Plotting.{plotted, turned}
use Rattle.amplitude.specs.Turns.{turns_at}
use Rattle.amplitude.specs.declared.Amplitude.{Amplitude}
use Rattle.amplitude.specs.declared.Amplitude.TheVariants.{Nothing}
use Rattle.amplitude.specs.declared.PlotLine.{PlotLine}

-- ---- as relations
-- "whose x part leads from that word to y"
abbrev pub Leads : ℕ → Pauli → Word → Word → Type 0
Leads n p a b = (q : ℕ) → q < n → p.x q ≡ a q ⊕ b q

-- ---- as functions of the list; v names the product of the generators that it chooses
abbrev pub chosen_by : ℕ → (ℕ → Pauli) → ℕ → Pauli
chosen_by n R v = product n n (bit v) R

-- the same as a test, by search over the products of the generators
unfoldable pub is_supported : ℕ → (ℕ → Pauli) → ℕ → Bool
is_supported n R y = every (2 ^ n) (λ v. some n (λ q. (chosen_by n R v).x q)
    || same_phase (turns_at n (chosen_by n R v) (bit y)) i⁰)

-- "the smallest word with a nonzero amplitude"
abbrev pub lowest : ℕ → (ℕ → Pauli) → ℕ
lowest n R = first (2 ^ n) (is_supported n R)

-- the first element "whose x part leads from that word to y"
unfoldable pub leading : ℕ → (ℕ → Pauli) → ℕ → ℕ → ℕ
leading n R a b = first (2 ^ n) (λ v. every n (λ q. same_bit ((chosen_by n R v).x q) (bit a q ⊕ bit b q)))

-- ".. fixes the ratio": the power of i that it gives the smallest word
unfoldable pub ratio : ℕ → (ℕ → Pauli) → ℕ → Phase
ratio n R y = turns_at n (chosen_by n R (leading n R (lowest n R) y)) (bit (lowest n R))

-- "the answer is nothing, exactly where the amplitude is 0, or a value on the real axis, or .. on the imaginary axis"
abbrev pub amplitude_of : ℕ → (ℕ → Pauli) → ℕ → Amplitude
amplitude_of n R y = cond (is_supported n R y) (turned (exponent (ratio n R y))) Nothing

-- "exactly 2^−r with r the rank of the x words": the line of the plot at y
abbrev pub plot_at : ℕ → (ℕ → Pauli) → ℕ → PlotLine
plot_at n R y = plotted (amplitude_of n R y) (rank n n (x_words R))
