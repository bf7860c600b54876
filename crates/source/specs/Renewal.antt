-- A new photon at a used place: its state, the group that it leaves, the lines of the call and the record afterwards.
use Rattle.std.specs.Prelude.{◌&&◌, false, not, ◌++◌, List, [], ◌∷◌, ◌≡◌, ℕ, eqb, leb, set}
use Rattle.buffers.specs.Refusals.{Refusal, line}
use Rattle.clifford.specs.Clifford.{clifford_of, image}
use Rattle.operations.specs.Measurement.{single}
use Rattle.pauli.specs.Pauli.{Pauli, letter_at, mul}
use Rattle.pauli.specs.declared.Letter.TheVariants.{I, X}
use Rattle.operations.specs.Used.{used_code, used_lines, UsedRecord, used_record}
use Rattle.words.specs.Bits.{bit, word_of}

-- the Pauli of a photon at qubit q: X, sent through its code. Codes 0, 2, 4, 6, 8 and 10 give +X, -X, +Y, -Y, +Z and -Z
abbrev pub photon : ℕ → ℕ → Pauli
photon q k = single (image (clifford_of k) X) q (clifford_of k).sx

-- the group afterwards: "the elements with I at the qubit, joined by that Pauli with its sign". G has the elements
-- before
pub data Renewed (n : ℕ) (G : Pauli → Type 0) (q : ℕ) (P : Pauli) : Pauli → Type 0 where
  kept : {p : Pauli} → G p → letter_at p q ≡ I → Renewed n G q P p
  joined : {p : Pauli} → G p → letter_at p q ≡ I → Renewed n G q P (mul n p P)

-- the lines of the call. 6: the code is none of 0, 2, 4, 6, 8 and 10; 8: "A qubit number is n or more"; 20: "the qubit
-- to renew is not used"
abbrev pub renew_lines : UsedRecord → ℕ → ℕ → List Refusal
renew_lines u q k =
    used_lines u false false (not (used_code k)) ++ (line 8 (leb u.held.n q) ∷ line 20 (not (bit u.used q)) ∷ [])

-- "The qubit's bit of `used` becomes 0"
abbrev pub unmarked : UsedRecord → ℕ → ℕ
unmarked u q = word_of u.held.n (λ t. bit u.used t && not (eqb t q))

-- ".. its code is `code`, all else stays": the record after an accepted call
abbrev pub renewed : UsedRecord → ℕ → ℕ → UsedRecord
renewed u q k =
    used_record u.held.n u.held.neighbours (set u.held.codes q k) (unmarked u q)
