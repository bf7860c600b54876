-- The call on a product, from what the functions below it answer.
use mathlib.Core.Bool.{false}
use mathlib.Core.Path.{ap, sym, ◌∙◌, ◌≡◌}
use Prim.Native.Nat.{◌<◌, ℕ, ◌≤◌}
use Rattle.buffers.specs.Refusals.{first_fitting}
use Rattle.buffers.specs.Calls.{Call}
use Rattle.pauli.proofs.WordRows.{exponent-power}
use Rattle.pauli.specs.Pauli.{exponent}
use Rattle.pauli.specs.internal.Rows.{pauli_of}
use Rattle.pauli.specs.declared.Row.{Row}
use Rattle.words.proofs.BitLaws.{bit-ext∞}
use Rattle.words.specs.Bits.{Word, bit, word_of}
use Rattle.stabilizer.proofs.Accepted.{formed-within}
use Rattle.stabilizer.proofs.ReadBack.{word_back}
use Rattle.stabilizer.proofs.Within.{product-within}
use Rattle.stabilizer.specs.Groups.{Within}
use Rattle.stabilizer.specs.Lists.{GeneratorList, rows}
use Rattle.calls.proofs.ProductLines.{accepted-rows}
use Rattle.calls.specs.Products.{chosen_product, product_call, product_lines}

module _ (l : GeneratorList) (chosen : ℕ) (e : first_fitting (product_lines l chosen) ≡ 0) where
  within : Within l.n (chosen_product l chosen)
  within = product-within l.n l.n (bit chosen) (rows l) (formed-within l (accepted-rows l chosen e))

  -- a word that has the bits of the product
  word-is : (w : ℕ) (f : Word) → ((q : ℕ) → l.n ≤ q → f q ≡ false) → ((q : ℕ) → bit w q ≡ f q)
      → w ≡ word_of l.n f
  word-is w f h same = bit-ext∞ w (word_of l.n f) (λ q. same q ∙ sym (word_back l.n f h q))

  pub product-accepted : {z x phase : ℕ} (p : Row) → pauli_of p ≡ chosen_product l chosen → p.phase < 4
      → Call (product_call l chosen z x phase p.z p.x p.phase) 0
  product-accepted p is low =
      record {
        number = sym e;
        held = (
          word-is p.z _ within.no-z (λ q. ap (λ r. r.z q) is),
          (
            word-is p.x _ within.no-x (λ q. ap (λ r. r.x q) is),
            (sym (exponent-power p.phase low) ∙ ap (λ r. exponent r.phase) is, tt),
          ),
        );
      }
