-- From the words of the code to letters: commutation and the phase of a product are counts of ones.
use mathlib.Core.Bool.{◌&&◌, Bool, cond, false}
use mathlib.Core.Path.{ap, ap₂, refl, sym, ◌∙◌, ◌≡◌}
use Prim.Native.Nat.{◌%◌, ◌*◌, ◌+◌, ◌/◌, ◌<◌, ◌^◌, suc, zero, ℕ}
use native.Mathlib.Nat.{div-add-mod', mod-lt, mul-add, mul-one, mul-zero, one-mul, suc-add, suc-mul, zero-add}
use native.Mathlib.Omega.{arith}
use lib.Arith.{lt-one}
use lib.Bits.{and_lt, bit_and, bit_xor, xor_lt}
use lib.Count.{ones, ones_step}
use lib.Dec.{eqb, lit<}
use Rattle.words.proofs.BitLaws.{and-lt-right, bit-and, bit-suc, bit-xor, bit-zero, half_lt, low_digit}
use Rattle.words.proofs.OnesLaws.{parity-ones}
use Rattle.words.proofs.Sums.{fold-ext, fold-shift}
use Rattle.words.specs.Bits.{bit, fold, is_odd, ◌⊕◌}
use Rattle.pauli.proofs.PauliLaws.{Pauli-path, clash-form, mul-x, mul-z, signed_product}
use Rattle.pauli.proofs.PhaseLaws.{+ᵖ-assoc, exponent-two, minus-⊕, phase_monoid, phases, sign-of-phase}
use Rattle.pauli.proofs.PhaseLaws.{sum_phase-add}
use Rattle.pauli.specs.Pauli.{
  ◌+ᵖ◌,
  Phase,
  anticommute,
  exponent,
  i¹,
  i⁰,
  letter,
  letter_at,
  letter_phase,
  minus,
  mul,
  power,
  row,
  signed_row,
  sum_phase,
  times_i,
}

-- ---- a weighted count of ones as a power of i
pub power-add : (a b : ℕ) → power (a + b) ≡ power a +ᵖ power b
unfolding power
power-add zero b = ap power (zero-add b)
power-add (suc a) b = ap power (suc-add a b) ∙ ap times_i (power-add a b)
    ∙ sym (+ᵖ-assoc i¹ (power a) (power b))

power-digit : (m w k : ℕ) → power (m * (w % 2 + k)) ≡ cond (is_odd w) (power m) i⁰ +ᵖ power (m * k)
power-digit m w k =
    low_digit (λ u. power (m * (u + k)) ≡ cond (eqb u 1) (power m) i⁰ +ᵖ power (m * k))
    (ap (λ j. power (m * j)) (zero-add k))
    (ap power (mul-add m 1 k ∙ ap (λ j. j + m * k) (mul-one m)) ∙ power-add m (m * k)) w

-- m for each set bit
power-ones : (m n w : ℕ) → w < 2 ^ n → power (m * ones w) ≡ sum_phase n (λ q. cond (bit w q) (power m) i⁰)
unfolding fold power ones
power-ones m zero w h = ap (λ k. power (m * ones k)) (lt-one h) ∙ ap power (mul-zero m)
power-ones m (suc n) w h =
    ap (λ k. power (m * k)) (ones_step w) ∙ power-digit m w (ones (w / 2))
    ∙ ap₂ (λ b t. cond b (power m) i⁰ +ᵖ t) (sym (bit-zero w))
    (power-ones m n (w / 2) (half_lt n h)
    ∙ fold-ext i⁰ ◌+ᵖ◌ n (λ q l. ap (λ b. cond b (power m) i⁰) (sym (bit-suc w q))))
    ∙ sym (fold-shift i⁰ ◌+ᵖ◌ phase_monoid n (λ q. cond (bit w q) (power m) i⁰))

-- an exponent counts modulo 4
pub power-mod : (k : ℕ) → power (k % 4) ≡ power k
unfolding power
power-mod k = sym (ap power (sym (div-add-mod' k 4)) ∙ power-add (k / 4 * 4) (k % 4)
    ∙ ap (λ t. t +ᵖ power (k % 4)) (fours (k / 4)))
  where
    fours : (j : ℕ) → power (j * 4) ≡ i⁰
    fours zero = refl
    fours (suc j) = ap power (suc-mul j 4) ∙ power-add (j * 4) 4 ∙ ap (λ t. t +ᵖ power 4) (fours j)

pub exponent-power : (k : ℕ) → k < 4 → exponent (power k) ≡ k
unfolding power
exponent-power zero l = refl
exponent-power (suc zero) l = refl
exponent-power (suc (suc zero)) l = refl
exponent-power (suc (suc (suc zero))) l = refl
exponent-power (suc (suc (suc (suc k)))) l = absurd (omega arith)

pub exponent-mod : (k : ℕ) → exponent (power k) ≡ k % 4
exponent-mod k = ap exponent (sym (power-mod k)) ∙ exponent-power (k % 4) (mod-lt k (lit< tt))

-- ---- the phase of a product: i for each place where both act and differ, and minus one more for each of
-- these where the letters stand in falling order: YX, ZY and XZ
abbrev pub clash_word : ℕ → ℕ → ℕ → ℕ → ℕ
clash_word z x z' x' = bit_xor (bit_and z x') (bit_and x z')

abbrev pub back_word : ℕ → ℕ → ℕ → ℕ → ℕ
back_word z x z' x' = bit_and (bit_xor (bit_xor (bit_xor x x') (bit_xor z z')) (bit_and x z')) (clash_word z x z' x')

abbrev pub count_phase : ℕ → ℕ → ℕ → ℕ → ℕ
count_phase z x z' x' = ones (clash_word z x z' x') + 2 * ones (back_word z x z' x')

abbrev clash_bit : Bool → Bool → Bool → Bool → Bool
clash_bit z x z' x' = (z && x') ⊕ (x && z')

abbrev back_bit : Bool → Bool → Bool → Bool → Bool
back_bit z x z' x' = (((x ⊕ x') ⊕ (z ⊕ z')) ⊕ (x && z')) && clash_bit z x z' x'

abbrev place_phase : Bool → Bool → Bool → Bool → Phase
place_phase z x z' x' = cond (clash_bit z x z' x') (power 1) i⁰ +ᵖ cond (back_bit z x z' x') (power 2) i⁰

place-phase : (z x z' x' : Bool) → letter_phase (letter z x) (letter z' x') ≡ place_phase z x z' x'
unfolding power
place-phase = phases 4 (λ z x z' x'. letter_phase (letter z x) (letter z' x')) place_phase tt

module _ (n z x z' x' : ℕ) (hz : z < 2 ^ n) (hx : x < 2 ^ n) (hz' : z' < 2 ^ n) (hx' : x' < 2 ^ n)
    (s t : Phase) where
  -- commutation is the parity of one count of ones
  pub anticommute-count : anticommute n (row s z x) (row t z' x') ≡ is_odd
      (ones (bit_xor (bit_and z x') (bit_and x z')))
  unfolding anticommute
  anticommute-count =
      fold-ext false ◌⊕◌ n
      (λ q l. clash-form (bit z q) (bit x q) (bit z' q) (bit x' q)
      ∙ sym (bit-xor (bit_and z x') (bit_and x z') q ∙ ap₂ ◌⊕◌ (bit-and z x' q) (bit-and x z' q)))
      ∙ sym (parity-ones n _
      (xor_lt n (bit_and z x') (bit_and x z') (and_lt n z x' hz hx') (and_lt n x z' hx hz')))

  bit-clash : (q : ℕ) → bit (clash_word z x z' x') q ≡ clash_bit (bit z q) (bit x q) (bit z' q) (bit x' q)
  bit-clash q = bit-xor (bit_and z x') (bit_and x z') q ∙ ap₂ ◌⊕◌ (bit-and z x' q) (bit-and x z' q)

  bit-back : (q : ℕ) → bit (back_word z x z' x') q ≡ back_bit (bit z q) (bit x q) (bit z' q) (bit x' q)
  bit-back q =
      bit-and (bit_xor (bit_xor (bit_xor x x') (bit_xor z z')) (bit_and x z')) (clash_word z x z' x') q
      ∙ ap₂ ◌&&◌
      (bit-xor (bit_xor (bit_xor x x') (bit_xor z z')) (bit_and x z') q
      ∙ ap₂ ◌⊕◌ (bit-xor (bit_xor x x') (bit_xor z z') q
      ∙ ap₂ ◌⊕◌ (bit-xor x x' q) (bit-xor z z' q)) (bit-and x z' q))
      (bit-clash q)

  clash-lt : clash_word z x z' x' < 2 ^ n
  clash-lt = xor_lt n (bit_and z x') (bit_and x z') (and_lt n z x' hz hx') (and_lt n x z' hx hz')

  phase-count :
      sum_phase n (λ q. letter_phase (letter_at (row s z x) q) (letter_at (row t z' x') q)) ≡ power
      (count_phase z x z' x')
  phase-count =
      fold-ext i⁰ ◌+ᵖ◌ n (λ q l. place-phase (bit z q) (bit x q) (bit z' q) (bit x' q)) ∙ sum_phase-add n _ _
      ∙ ap₂ ◌+ᵖ◌
      (fold-ext i⁰ ◌+ᵖ◌ n (λ q l. ap (λ b. cond b (power 1) i⁰) (sym (bit-clash q)))
      ∙ sym (power-ones 1 n (clash_word z x z' x') clash-lt) ∙ ap power (one-mul (ones (clash_word z x z' x'))))
      (fold-ext i⁰ ◌+ᵖ◌ n (λ q l. ap (λ b. cond b (power 2) i⁰) (sym (bit-back q)))
      ∙ sym (power-ones 2 n (back_word z x z' x') (and-lt-right n
      (bit_xor (bit_xor (bit_xor x x') (bit_xor z z')) (bit_and x z')) (clash_word z x z' x') clash-lt)))
      ∙ sym (power-add (ones (clash_word z x z' x')) (2 * ones (back_word z x z' x')))

  -- the product of two rows: xor on the words, and a count for the power of i
  pub row-mul : mul n (row s z x) (row t z' x')
      ≡ row ((s +ᵖ t) +ᵖ power (count_phase z x z' x')) (bit_xor z z') (bit_xor x x')
  unfolding mul
  row-mul =
      Pauli-path (ap (λ u. (s +ᵖ t) +ᵖ u) phase-count) (λ q. sym (bit-xor z z' q)) (λ q. sym (bit-xor x x' q))

  -- the exponent, as the code computes it
  pub letters-exponent : exponent (mul n (row i⁰ z x) (row i⁰ z' x')).phase ≡ count_phase z x z' x' % 4
  unfolding mul
  letters-exponent = ap exponent phase-count ∙ exponent-mod (count_phase z x z' x')

-- three exponents added, as the code adds them
pub power-sum : (a b c : ℕ) → power (((a % 4 + b % 4) + c % 4) % 4) ≡ (power a +ᵖ power b) +ᵖ power c
power-sum a b c =
    power-mod ((a % 4 + b % 4) + c % 4) ∙ power-add (a % 4 + b % 4) (c % 4)
    ∙ ap₂ ◌+ᵖ◌ (power-add (a % 4) (b % 4) ∙ ap₂ ◌+ᵖ◌ (power-mod a) (power-mod b)) (power-mod c)

-- the letters alone give the phase, the signs are added
pub row-phase : (n z x z' x' : ℕ) (s t : Phase) →
    (mul n (row s z x) (row t z' x')).phase ≡ (s +ᵖ t) +ᵖ (mul n (row i⁰ z x) (row i⁰ z' x')).phase
unfolding mul
row-phase n z x z' x' s t = refl

-- the product as the code has it: its phase, and xor on the words
pub row-times : (n z x z' x' : ℕ) (s t u : Phase) →
    u ≡ (s +ᵖ t) +ᵖ (mul n (row i⁰ z x) (row i⁰ z' x')).phase →
    row u (bit_xor z z') (bit_xor x x') ≡ mul n (row s z x) (row t z' x')
row-times n z x z' x' s t u e =
    Pauli-path (e ∙ sym (row-phase n z x z' x' s t)) (λ q. bit-xor z z' q ∙ sym (mul-z n _ _ q))
    (λ q. bit-xor x x' q ∙ sym (mul-x n _ _ q))

-- ---- signs
-- rows that commute: the phase of their letters' product is a sign, minus where its exponent is 2
pub letters-sign : (n z x z' x' k : ℕ) → anticommute n (row i⁰ z x) (row i⁰ z' x') ≡ false →
    k ≡ exponent (mul n (row i⁰ z x) (row i⁰ z' x')).phase →
    (mul n (row i⁰ z x) (row i⁰ z' x')).phase ≡ minus (eqb k 2)
letters-sign n z x z' x' k h e =
    sign-of-phase _ (signed_product n (row i⁰ z x) (row i⁰ z' x') refl refl h)
    ∙ ap minus (sym (ap (λ j. eqb j 2) e ∙ exponent-two (mul n (row i⁰ z x) (row i⁰ z' x')).phase))

-- signed rows whose letters' product has the sign m
pub signed_mul : (n z x z' x' : ℕ) (s t m : Bool) → (mul n (row i⁰ z x) (row i⁰ z' x')).phase ≡ minus m →
    mul n (signed_row s z x) (signed_row t z' x') ≡ signed_row ((s ⊕ t) ⊕ m) (bit_xor z z') (bit_xor x x')
signed_mul n z x z' x' s t m e =
    sym (row-times n z x z' x' (minus s) (minus t) _
    (minus-⊕ (s ⊕ t) m ∙ ap₂ ◌+ᵖ◌ (minus-⊕ s t) (sym e)))
