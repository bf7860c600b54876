-- The digits of a printed number: how many there are, and one after the other.
use mathlib.Core.Path.{◌≡◌, refl, sym, ap, ap₂, ◌∙◌}
use mathlib.Core.Bool.{Bool, true, false, cond}
use mathlib.Core.List.{List, [], ◌∷◌, ◌++◌}
use Prim.Native.Nat.{ℕ, zero, suc, ◌+◌, ◌-◌, ◌*◌, ◌/◌, ◌%◌, ◌^◌, ◌≤◌, ◌<◌}
use native.Mathlib.Numerals.{add-one}
use native.Mathlib.Omega.{arith}
use lib.Dec.{ltb, lit≤}
use lib.ListN.{length, set, length-append}
use lib.Pow.{shr-shr}
use Rattle.text.specs.Text.{hex_digit, hex_text, decimal, space}
use Rattle.buffers.specs.Writing.{overwritten}
use Rattle.buffers.proofs.Writing.{write-next}

pub length-hex : (k w : ℕ) → length (hex_text k w) ≡ k
unfolding hex_text
length-hex zero w = refl
length-hex (suc k) w =
    length-append (hex_text k (w / 16)) (hex_digit (w % 16) ∷ []) ∙ ap (λ n. n + 1) (length-hex k (w / 16))
    ∙ add-one k

-- one digit more at the low end
pub hex-push : (k w d : ℕ) → d < 16 → hex_text (suc k) (w * 16 + d) ≡ hex_text k w ++ hex_digit d ∷ []
unfolding hex_text
hex-push k w d small =
    ap₂ (λ m e. hex_text k m ++ hex_digit e ∷ []) (omega arith) (omega arith)

-- the digits of a word from the highest on: i digits are those of the word shifted right by 64 - 4 i
pub hex-next : (w i : ℕ) → i < 16
    → hex_text (i + 1) (w / 2 ^ (64 - 4 * (i + 1)))
    ≡ hex_text i (w / 2 ^ (64 - 4 * i)) ++ hex_digit (w / 2 ^ (60 - 4 * i) % 16) ∷ []
unfolding hex_text
hex-next w i inside =
    let here : 64 - 4 * (i + 1) ≡ 60 - 4 * i = omega arith in
    let above : 60 - 4 * i + 4 ≡ 64 - 4 * i = omega arith in
    ap₂ (λ k s. hex_text k (w / 2 ^ s)) (add-one i) here
    ∙ ap (λ v. hex_text i v ++ hex_digit (w / 2 ^ (60 - 4 * i) % 16) ∷ [])
    (shr-shr w (60 - 4 * i) 4 ∙ ap (λ s. w / 2 ^ s) above)

pub length-decimal : (k : ℕ) → length (decimal k) ≤ 2
unfolding decimal
length-decimal k = by_size (ltb k 10)
  where
    by_size : (t : Bool) → length (cond t ((48 + k) ∷ []) ((48 + k / 10) ∷ (48 + k % 10) ∷ [])) ≤ 2
    by_size true = lit≤ tt
    by_size false = lit≤ tt

-- a turn of the loop that prints a word
pub write-digit : (o : List ℕ) (at w i : ℕ) → at + 16 ≤ length o → i < 16
    → set (overwritten o at (hex_text i (w / 2 ^ (64 - 4 * i)))) (at + i) (hex_digit (w / 2 ^ (60 - 4 * i) % 16))
    ≡ overwritten o at (hex_text (i + 1) (w / 2 ^ (64 - 4 * (i + 1))))
write-digit o at w i room inside =
    let sofar = hex_text i (w / 2 ^ (64 - 4 * i)) in
    let d = hex_digit (w / 2 ^ (60 - 4 * i) % 16) in
    let long : length sofar ≡ i = length-hex i (w / 2 ^ (64 - 4 * i)) in
    ap (λ k. set (overwritten o at sofar) (at + k) d) (sym long) ∙ write-next o at sofar d (omega arith)
    ∙ ap (overwritten o at) (sym (hex-next w i inside))

pub length-field : (k : ℕ) → length (decimal k ++ space) ≤ 3
length-field k = omega (arith, length-append (decimal k) space, length-decimal k)
