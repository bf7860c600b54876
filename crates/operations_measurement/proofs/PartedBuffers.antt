-- A record rewritten without the edges at a vertex, and Z measured there: the buffers are those of the two steps, of
-- which the second isolates the vertex, one after another.
use mathlib.Core.Bool.{◌&&◌, Bool, beq, and-false, cond, false, not}
use mathlib.Core.List.{List}
use mathlib.Core.Path.{ap, fun_ext, refl, subst, sym, ◌∙◌, ◌≡◌}
use Prim.Native.Nat.{◌<◌, ◌^◌, ℕ, ◌≤◌}
use lib.ListN.{get_or, length, set}
use Rattle.buffers.proofs.Tabulate.{tabulate-length}
use Rattle.buffers.specs.Buffers.{tabulate}
use Rattle.clifford.specs.Clifford.{clifford_of, code_of, identity_clifford, then}
use Rattle.clifford.specs.Vectors.{codes_of}
use Rattle.record.specs.Graph.{Simple}
use Rattle.record.specs.internal.NeighbourWords.{SameGraph}
use Rattle.record.specs.NeighbourWords.{graph_in}
use Rattle.operations.proofs.Isolation.{isolated-simple}
use Rattle.operations.specs.internal.KeptGroups.{BroughtToZ, GroupMeasured}
use Rattle.operations.specs.internal.GraphSteps.{hadamard_code, isolated, pauli_code}
use Rattle.operations.proofs.UnrefusedRecords.{rewritten-held, rewritten-unrefused, unrefused-codes, unrefused-simple}
use Rattle.operations.specs.internal.InPlace.{Rewritten, Unrefused, record_in}
use Rattle.operations_measurement.proofs.RemovedEdges.{parted_from}
use Rattle.operations_rewriting.proofs.Recoding.{written}
use Rattle.pauli.specs.declared.Letter.{Letter}
use Rattle.record.specs.Lent.{code_numbers, held_record, neighbour_words}
use Rattle.record.specs.Records.{GraphRecord}
use Rattle.words.proofs.BitLaws.{bit-above, lt-of-bits}
use Rattle.words.proofs.Finite.{unequal}
use Rattle.words.specs.Bits.{bit, is_odd, put, ◌⊕◌}
use Rattle.operations_measurement.proofs.IsolatedBuffers.{turned-written}
use Rattle.operations_measurement.proofs.MeasuredGroups.{measured-open}

-- the sign of Z, and the codes afterwards
abbrev sign_at : List ℕ → ℕ → Bool → Bool
sign_at codes q b = b ⊕ is_odd (get_or codes q 0)

abbrev turned_at : List ℕ → ℕ → Bool → (ℕ → Bool) → ℕ → List ℕ
turned_at codes q b near m = tabulate m (λ j. code_of (put
    (λ j. then (pauli_code false (sign_at codes q b && near j)) (codes_of codes j)) q
    (then (hadamard_code (sign_at codes q b)) (codes_of codes q)) j))

pub turned-by-calls : (codes : List ℕ) (q : ℕ) (b : Bool) (near w : ℕ) (codes₁ : List ℕ) (v : ℕ) → q < length codes
    → ((j : ℕ) → bit w j ≡ (not (beq b (is_odd (get_or codes q 0))) && bit near j))
    → codes₁ ≡ tabulate (length codes)
    (λ j. code_of (cond (bit w j) (then (clifford_of 2) (codes_of codes j)) (codes_of codes j)))
    → v ≡ code_of (then (hadamard_code (not (beq b (is_odd (get_or codes q 0))))) (codes_of codes q))
    → set codes₁ q v ≡ tabulate (length codes) (λ j. code_of (put
    (λ j. then (pauli_code false ((b ⊕ is_odd (get_or codes q 0)) && bit near j)) (codes_of codes j)) q
    (then (hadamard_code (b ⊕ is_odd (get_or codes q 0))) (codes_of codes q)) j))
turned-by-calls codes q b near w codes₁ v hq hw e₁ ev =
    turned-written codes q (not (beq b (is_odd (get_or codes q 0)))) (bit near) w codes₁ v hq hw e₁ ev
    ∙ ap (λ t. tabulate (length codes) (λ j. code_of (put
    (λ j. then (pauli_code false (t && bit near j)) (codes_of codes j)) q (then (hadamard_code t) (codes_of codes q)) j)))
    (unequal b (is_odd (get_or codes q 0)))

-- a word, or none of its bits, stays below
pub where_below : (m near : ℕ) (t : Bool) (w : ℕ) → near < 2 ^ m → ((j : ℕ) → bit w j ≡ (t && bit near j)) → w < 2 ^ m
where_below m near t w h e =
    lt-of-bits m w (λ j l. e j ∙ ap (λ b. t && b) (bit-above m near h j l) ∙ and-false t)

module _ (words codes : List ℕ) (U : Unrefused (record_in words codes)) (f : GraphRecord → GraphRecord)
    (S : Simple (length words) (f (held_record (record_in words codes))).graph)
    (above : (j : ℕ) → length words ≤ j → (f (held_record (record_in words codes))).codes j ≡ identity_clifford)
    (q : ℕ) (hq : q < length words) (near : ℕ) (codes₁ : List ℕ)
    (coded : codes₁ ≡ code_numbers (length words) (f (held_record (record_in words codes))))
    (joined : (j : ℕ) → bit near j ≡ (f (held_record (record_in words codes))).graph q j) where
  abbrev n : ℕ
  n = length words

  abbrev new : GraphRecord
  new = f (held_record (record_in words codes))

  abbrev mid_words : List ℕ
  mid_words = neighbour_words n new

  abbrev mid_codes : List ℕ
  mid_codes = code_numbers n new

  rewritten : Rewritten words codes f mid_words mid_codes
  rewritten = record { neighbours = refl; numbers = refl }

  held : held_record (record_in mid_words mid_codes) ≡ new
  held = rewritten-held words codes U f mid_words mid_codes rewritten S above

  unrefused : Unrefused (record_in mid_words mid_codes)
  unrefused = rewritten-unrefused words codes U f mid_words mid_codes rewritten S above

  -- what the codes and the word are asked for
  pub parted-asks : ((length codes₁ ≤ 64) × ((j : ℕ) → get_or codes₁ j 0 < 24))
      × ((near < 2 ^ (length codes₁)) × (q < length codes₁))
  parted-asks = (
    subst (λ c. (length c ≤ 64) × ((j : ℕ) → get_or c j 0 < 24)) (sym coded)
        (unrefused-codes mid_words mid_codes unrefused),
    (
      subst (λ m. near < 2 ^ m) (sym long) (lt-of-bits n near (λ j l. joined j ∙ S.below q j l)),
      subst (λ m. q < m) (sym long) hq,
    ),
  )
    where
      long : length codes₁ ≡ n
      long = ap length coded ∙ tabulate-length n _

  -- the second step, from what the first one left
  module _ (b : Bool) (words₂ codes₂ : List ℕ) (long : length words₂ ≡ length words)
      (edges : SameGraph (graph_in words₂) (parted_from (f (held_record (record_in words codes))).graph q))
      (turned : codes₂ ≡ tabulate (length codes₁) (λ j. code_of (put
      (λ j. then (pauli_code false ((b ⊕ is_odd (get_or codes₁ q 0)) && bit near j)) (codes_of codes₁ j)) q
      (then (hadamard_code (b ⊕ is_odd (get_or codes₁ q 0))) (codes_of codes₁ q)) j))) where
    isolated-after : Rewritten mid_words mid_codes (λ g. isolated g q (sign_at mid_codes q b)) words₂ codes₂
    isolated-after =
        written mid_words mid_codes unrefused q below (λ g. isolated g q (sign_at mid_codes q b))
        (isolated-simple (length mid_words) (held_record (record_in mid_words mid_codes))
        (unrefused-simple mid_words mid_codes unrefused) q below b)
        words₂ codes₂
        (turned ∙ ap (λ c. turned_at c q b (bit near) (length c)) coded
        ∙ ap (turned_at mid_codes q b (bit near)) (tabulate-length n _ ∙ sym (tabulate-length n _))
        ∙ ap (λ h. turned_at mid_codes q b h (length mid_words))
        (fun_ext (λ j. joined j ∙ sym (ap (λ g. g.graph q j) held))))
        (long ∙ sym (tabulate-length n _))
        (λ i l. edges i l ∙ sym (ap (λ g. parted_from g.graph q i l) held))
      where
        below : q < length mid_words
        below = subst (λ m. q < m) (sym (tabulate-length n _)) hq

    pub parted-measured : (l : Letter)
        → ((words' codes' : List ℕ) → Rewritten words codes f words' codes' → BroughtToZ words codes q l words' codes')
        → GroupMeasured words codes l q b words₂ codes₂
    parted-measured l brought =
        measured-open words codes U q hq l mid_words mid_codes (brought mid_words mid_codes rewritten) b
        (sign_at mid_codes q b) words₂ codes₂ (sym (unequal b (is_odd (get_or mid_codes q 0)))) isolated-after
