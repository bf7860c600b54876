-- A list written and read, and a text read and written: each comes back. Equal texts are of equal lists.
use mathlib.Core.Bool.{Bool, true}
use mathlib.Core.List.{◌++◌, List}
use mathlib.Core.Path.{ap, ap₂, refl, sym, ◌∙◌, ◌≡◌}
use Prim.Native.Nat.{◌<◌, suc, zero, ℕ}
use native.Mathlib.Omega.{arith}
use lib.Dec.{eqb}
use Rattle.buffers.proofs.Tabulate.{tabulate-at, tabulate-cong, tabulate-is}
use Rattle.pauli.proofs.PhaseLaws.{sign-minus}
use Rattle.pauli.specs.Pauli.{Pauli, letter, letter_at, minus, sign_bit, x_bit, z_bit}
use Rattle.stabilizer.proofs.Accepted.{WellFormed}
use Rattle.stabilizer.specs.Lists.{GeneratorList, list_of, rows}
use Rattle.words.proofs.BitLaws.{bit-word_of, is_odd-digit, two_cases, word-cong, word_of-bit}
use Rattle.words.proofs.Finite.{bits}
use Rattle.words.specs.Bits.{bit, digit, is_odd, word_of}
use Rattle.text.proofs.StringsFormLaws.{form-text}
use Rattle.text.proofs.LineLaws.{letter-read, line-letter, line-sign, same_line, sign_read}
use Rattle.text.proofs.TextLaws.{lines-count, string-at}
use Rattle.text.specs.Reading.{byte_at, letter_of, line_count, row_of, string_form, string_list}
use Rattle.text.specs.Strings.{string_lines, strings_text}

-- ---- lists and texts depend on signs, and on letters below n, alone
pub record SameRow (n : ℕ) (p r : Pauli) : Type 0 where
  pub sign : sign_bit p.phase ≡ sign_bit r.phase
  pub z : (q : ℕ) → q < n → p.z q ≡ r.z q
  pub x : (q : ℕ) → q < n → p.x q ≡ r.x q

abbrev pub buffers : ℕ → List ℕ → List ℕ → List ℕ → GeneratorList
buffers n s z x = record { n = n; signs = s; z = z; x = x }

pub same-buffers : (n : ℕ) {s z x s' z' x' : List ℕ} → s ≡ s' → z ≡ z' → x ≡ x' → buffers n s z x ≡ buffers n s' z' x'
same-buffers n {s} {z} {x} {s'} {z'} {x'} es ez ex =
    ap (λ v. buffers n v z x) es ∙ ap (λ v. buffers n s' v x) ez ∙ ap (λ v. buffers n s' z' v) ex

module _ (n : ℕ) (R S : ℕ → Pauli) (h : (j : ℕ) → j < n → SameRow n (R j) (S j)) where
  pub same-list : list_of n R ≡ list_of n S
  same-list =
      same-buffers n (tabulate-cong n _ _ (λ j l. ap digit (h j l).sign))
      (tabulate-cong n _ _ (λ j l. word-cong n (R j).z (S j).z (h j l).z))
      (tabulate-cong n _ _ (λ j l. word-cong n (R j).x (S j).x (h j l).x))

same_lines : (n m : ℕ) (R S : ℕ → Pauli) → ((j : ℕ) → j < m → SameRow n (R j) (S j)) →
    string_lines n m R ≡ string_lines n m S
unfolding string_lines
same_lines n zero R S h = refl
same_lines n (suc m) R S h =
    let last = h m (omega arith) in
    ap₂ ◌++◌ (same_lines n m R S (λ j l. h j (omega arith)))
    (same_line n (R m) (S m) last.sign (λ q l. ap₂ letter (last.z q l) (last.x q l)))

-- a letter's bits, a sign's digit
z-letter : (z x : Bool) → z_bit (letter z x) ≡ z
z-letter = bits 2 (λ z x. z_bit (letter z x)) (λ z x. z) tt

x-letter : (z x : Bool) → x_bit (letter z x) ≡ x
x-letter = bits 2 (λ z x. x_bit (letter z x)) (λ z x. x) tt

-- ---- a list written and read
-- the rows of the text
read-row : (n : ℕ) (R : ℕ → Pauli) (j : ℕ) → j < n → SameRow n (row_of (byte_at n (strings_text n R) j)) (R j)
read-row n R j l =
    record {
      sign = sign-minus _ ∙ ap (λ b. eqb b 45) (string-at n n R j 0 l (omega arith) ∙ line-sign n (R j))
          ∙ sign_read (sign_bit (R j).phase);
      z = λ q k. ap z_bit (at-letter q k) ∙ z-letter ((R j).z q) ((R j).x q);
      x = λ q k. ap x_bit (at-letter q k) ∙ x-letter ((R j).z q) ((R j).x q);
    }
  where
    at-letter : (q : ℕ) → q < n → letter_of (byte_at n (strings_text n R) j (suc q)) ≡ letter_at (R j) q
    at-letter q k =
        ap letter_of (string-at n n R j (suc q) l (omega arith) ∙ line-letter n (R j) q k)
        ∙ letter-read (letter_at (R j) q)

pub list_read : (n : ℕ) (R : ℕ → Pauli) → string_list (strings_text n R) ≡ list_of n R
list_read n R =
    ap (λ m. list_of m (λ j. row_of (byte_at m (strings_text n R) j))) (lines-count n n R)
    ∙ same-list n _ R (read-row n R)

-- "Reading back a written list yields that list"
pub list_back : (l : GeneratorList) → WellFormed l → string_list (strings_text l.n (rows l)) ≡ l
list_back l F = list_read l.n (rows l) ∙ listed
  where
    sign_kept : (k : ℕ) → k < 2 → k ≡ digit (sign_bit (minus (is_odd k)))
    sign_kept = two_cases (λ k. k ≡ digit (sign_bit (minus (is_odd k)))) refl refl

    listed : list_of l.n (rows l) ≡ l
    listed =
        sym (same-buffers l.n
        (tabulate-is l.n _ l.signs F.signs-length (λ i k. sign_kept _ (F.signs-below i k)))
        (tabulate-is l.n _ l.z F.z-length (λ i k. sym (word_of-bit l.n _ (F.z-below i k))))
        (tabulate-is l.n _ l.x F.x-length (λ i k. sym (word_of-bit l.n _ (F.x_below i k)))))

-- ---- a text read and written
listed-row : (n : ℕ) (R : ℕ → Pauli) (j : ℕ) → j < n → SameRow n (rows (list_of n R) j) (R j)
listed-row n R j l =
    record {
      sign = sign-minus _ ∙ ap is_odd (tabulate-at n (λ j. digit (sign_bit (R j).phase)) j l)
          ∙ is_odd-digit (sign_bit (R j).phase);
      z = λ q k. ap (λ w. bit w q) (tabulate-at n (λ j. word_of n (R j).z) j l) ∙ bit-word_of n (R j).z q k;
      x = λ q k. ap (λ w. bit w q) (tabulate-at n (λ j. word_of n (R j).x) j l) ∙ bit-word_of n (R j).x q k;
    }

-- "each accepted text is rewritten unchanged"
pub text-back : (t : List ℕ) → string_form t ≡ true → strings_text (line_count t) (rows (string_list t)) ≡ t
text-back t h =
    let n = line_count t in
    let R : ℕ → Pauli = λ j. row_of (byte_at n t j) in
    same_lines n n (rows (string_list t)) R (listed-row n R) ∙ sym (form-text t h)

-- ---- equal texts are of equal lists
pub strings-unique : (n m : ℕ) (R S : ℕ → Pauli) → strings_text n R ≡ strings_text m S → list_of n R ≡ list_of m S
strings-unique n m R S e = sym (list_read n R) ∙ ap string_list e ∙ list_read m S
