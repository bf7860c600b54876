-- What the columns from a place on say, from the bytes that are read.
use mathlib.Core.Bool.{Bool, cond}
use mathlib.Core.List.{List}
use mathlib.Core.Path.{ap, ap₂, sym, ◌∙◌, ◌≡◌}
use Prim.Native.Nat.{◌*◌, ◌+◌, suc, ℕ}
use native.Mathlib.Nat.{add-zero}
use native.Mathlib.Omega.{arith}
use lib.Dec.{eqb}
use lib.ListN.{get_or}
use borrow.Author.Tests.{eq-eqb, ne_eqb}
use Rattle.text.proofs.RecordReading.{hex-cong}
use Rattle.text.specs.RecordTexts.{decimal_value, hex_of, line_behind, line_of}
use Rattle.text.specs.declared.records.RecordLine.{RecordLine}

abbrev line_from : ℕ → ℕ → Bool → RecordLine
line_from code word used = record { code = code; word = word; used = used }

module _ (t : List ℕ) (from : ℕ) where
  abbrev byte : ℕ → ℕ
  byte c = get_or t (from + c) 0

  first_byte : get_or t from 0 ≡ byte 0
  first_byte = ap (λ i. get_or t i 0) (sym (add-zero from))

  -- the columns behind a code of some digits
  behind : {code code' word used : ℕ} (k : ℕ) → code ≡ code' → word ≡ hex_of 16 (λ c. get_or t (from + k + c) 0) →
      (f : ℕ → ℕ) → ((c : ℕ) → get_or t (from + k + c) 0 ≡ f c) → used ≡ f 17 →
      line_from code word (eqb used 49) ≡ line_behind code' f
  behind k ec ew f ef eu =
      let word = ew ∙ hex-cong 16 _ f ef in
      λ i. line_from (ec i) (word i) (eqb (eu i) 49)

  module _ {first second : ℕ} (ef : first ≡ decimal_value (get_or t from 0)) (es : second ≡ get_or t (from + 1) 0) where
    pub one-digit : {word used : ℕ} → second ≡ 32 → word ≡ hex_of 16 (λ c. get_or t (from + 2 + c) 0) →
        used ≡ get_or t (from + 19) 0 → line_from first word (eqb used 49) ≡ line_of byte
    unfolding line_of
    one-digit e ew eu =
        behind 2 (ef ∙ ap decimal_value first_byte) ew (λ c. byte (suc (suc c)))
        (λ c. ap (λ i. get_or t i 0) (omega arith)) eu
        ∙ sym (ap (λ b. cond b (line_behind (decimal_value (byte 0)) (λ c. byte (suc (suc c))))
        (line_behind (10 * decimal_value (byte 0) + decimal_value (byte 1)) (λ c. byte (suc (suc (suc c))))))
        (eq-eqb (byte 1) 32 (sym es ∙ e)))

    pub two_digits : {word used d : ℕ} → (second ≡ 32 → ⊥) → d ≡ decimal_value second →
        word ≡ hex_of 16 (λ c. get_or t (from + 3 + c) 0) → used ≡ get_or t (from + 20) 0 →
        line_from (10 * first + d) word (eqb used 49) ≡ line_of byte
    unfolding line_of
    two_digits e ed ew eu =
        behind 3 (ap₂ (λ a b. 10 * a + b) (ef ∙ ap decimal_value first_byte) (ed ∙ ap decimal_value es)) ew
        (λ c. byte (suc (suc (suc c)))) (λ c. ap (λ i. get_or t i 0) (omega arith)) eu
        ∙ sym (ap (λ b. cond b (line_behind (decimal_value (byte 0)) (λ c. byte (suc (suc c))))
        (line_behind (10 * decimal_value (byte 0) + decimal_value (byte 1)) (λ c. byte (suc (suc (suc c))))))
        (ne_eqb (byte 1) 32 (λ z. e (es ∙ z))))
