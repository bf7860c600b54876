-- The call on two lists, from what the functions below it answer.
use mathlib.Core.Bool.{Bool, false, true, ◌||◌}
use mathlib.Core.List.{List}
use mathlib.Core.Path.{ap, ap₂, refl, subst, sym, ◌∙◌, ◌≡◌}
use Prim.Native.Nat.{ℕ, ◌≤◌}
use lib.ListN.{length}
use Rattle.buffers.proofs.Lines.{fits, more-accepted, passed}
use Rattle.buffers.specs.Refusals.{first_fitting, other_than}
use Rattle.comparison.specs.Compared.{bad_counts, pair_lines}
use Rattle.buffers.proofs.Calling.{refused, written_all}
use Rattle.buffers.proofs.Fitting.{stays}
use Rattle.buffers.specs.Calls.{Call}
use Rattle.pauli.specs.Pauli.{Pauli}
use Rattle.record.specs.Accepted.{AcceptedRecord}
use Rattle.stabilizer.proofs.Accepted.{accepted-list}
use Rattle.stabilizer.proofs.SharedTests.{has-length, length-passes}
use Rattle.stabilizer.specs.Lists.{GeneratorList, list_lengths, rows}
use Rattle.words.proofs.Finite.{bits}
use Rattle.words.proofs.Flags.{neither}
use Rattle.calls.proofs.PairLines.{pair-number, pair-numbered}
use Rattle.comparison_parts.proofs.ReducedPairs.{reduced-accepted}
use Rattle.calls.specs.internal.Reductions.{reduce_call}
use Rattle.comparison.specs.internal.ComparedPairs.{HoldsReduced, PairAnswered}
use Rattle.buffers.proofs.EarlierNumbers.{earlier-none}
use Rattle.buffers.specs.internal.Earlier.{earlier_of}
use Rattle.calls.specs.internal.Limited.{comparing_call}
use Rattle.record.specs.Lent.{lent_record}

-- ---- two lists on n qubits, and the reductions of both
module _ (limited : Bool) (n : ℕ) (s z x s₂ z₂ x₂ choice list : List ℕ) (positive : 1 ≤ n) (few : n ≤ 64)
    (long : length choice ≡ n) (room : length list ≡ 96) (nb cs nb₂ cs₂ nb' cs' nb₂' cs₂' : List ℕ)
    (nb-long : length nb ≡ n) (cs-long : length cs ≡ n) (nb₂-long : length nb₂ ≡ n)
    (cs₂-long : length cs₂ ≡ n)
    (r r₂ early : ℕ) (C : Call (reduce_call (record { n = n; signs = s; z = z; x = x }) nb cs nb' cs') r)
    (D : Call (reduce_call (record { n = n; signs = s₂; z = z₂; x = x₂ }) nb₂ cs₂ nb₂' cs₂') r₂)
    (e : early ≡ earlier_of r r₂) where
  abbrev l : GeneratorList
  l = record { n = n; signs = s; z = z; x = x }

  abbrev m : GeneratorList
  m = record { n = n; signs = s₂; z = z₂; x = x₂ }

  early-is : early ≡ first_fitting (pair_lines l m choice list)
  early-is =
      e ∙ ap₂ earlier_of C.number D.number
      ∙ sym (pair-number n s z x s₂ z₂ x₂ choice list positive few long room _ _
      (ap₂ ◌||◌ (length-passes n nb nb-long) (length-passes n cs cs-long))
      (ap₂ ◌||◌ (length-passes n nb₂ nb₂-long) (length-passes n cs₂ cs₂-long)))

  -- the earlier number comes back
  pub compare-refused : (count : ℕ) → (early ≡ 0 → ⊥) →
      Call (comparing_call limited l m choice list count choice list count) early
  compare-refused count h = refused _ (stays (pair_lines l m choice list) _ early-is h) h (refl, (refl, (refl, tt)))

  module _ (a : early ≡ 0) where
    none : (r ≡ 0) × (r₂ ≡ 0)
    none = earlier-none r r₂ (sym e ∙ a)

    pub first_reduced : HoldsReduced n (rows l) nb' cs'
    first_reduced =
        record {
          proper = (accepted-list l _ (sym C.number ∙ none.0)).proper;
          words = (written_all C none.0).0;
          numbers = (written_all C none.0).1.0;
        }

    pub second_reduced : HoldsReduced n (rows m) nb₂' cs₂'
    second_reduced =
        record {
          proper = (accepted-list m _ (sym D.number ∙ none.1)).proper;
          words = (written_all D none.1).0;
          numbers = (written_all D none.1).1.0;
        }

    pub first-accepted : AcceptedRecord (lent_record n nb' cs')
    first-accepted = reduced-accepted n (rows l) nb' cs' first_reduced positive few

    pub second-accepted : AcceptedRecord (lent_record n nb₂' cs₂')
    second-accepted = reduced-accepted n (rows m) nb₂' cs₂' second_reduced positive few

    -- and the comparison of the two records decides
    pub compare-decided : (count k : ℕ) (choice' list' : List ℕ) (count' : ℕ) →
        ((R S : ℕ → Pauli) → HoldsReduced n R nb' cs' → HoldsReduced n S nb₂' cs₂' →
        PairAnswered limited n R S choice list count k choice' list' count') →
        Call (comparing_call limited l m choice list count choice' list' count') k
    compare-decided count k choice' list' count' f =
        let P = f (rows l) (rows m) first_reduced second_reduced in
        record {
          number =
              P.number ∙ sym (more-accepted (pair_lines l m choice list) _ (pair-numbered l m choice list)
              (sym early-is ∙ a));
          held = (P.codes, (P.vertices, (P.amount, tt)));
        }

-- ---- the lines before the reductions
module _ (limited : Bool) (l m : GeneratorList) (choice list : List ℕ) (count : ℕ) where
  pub refused-2 : bad_counts l m ≡ true → Call (comparing_call limited l m choice list count choice list count) 2
  refused-2 h = record { number = sym (fits 2 _ h); held = (refl, (refl, (refl, tt))) }

  module _ (p : bad_counts l m ≡ false) where
    module _ (o : Bool) (e : o ≡ (other_than l.n choice || other_than 96 list)) where
      pub refused-4 : o ≡ true → Call (comparing_call limited l m choice list count choice list count) 4
      refused-4 t =
          record {
            number = sym (passed 2 _ p
                ∙ fits 4 _ (ap (λ v. list_lengths l || (list_lengths m || v)) (sym e ∙ t)
                ∙ last-of-three (list_lengths l) (list_lengths m)));
            held = (refl, (refl, (refl, tt)));
          }
        where
          last-of-three : (a b : Bool) → (a || (b || true)) ≡ true
          last-of-three = bits 2 (λ a b. a || (b || true)) (λ a b. true) tt

      pub choice-fits : o ≡ false → length choice ≡ l.n
      choice-fits f =
          has-length l.n choice (neither (other_than l.n choice) (other_than 96 list) (sym e ∙ f)).0

      pub list-fits : o ≡ false → length list ≡ 96
      list-fits f = has-length 96 list (neither (other_than l.n choice) (other_than 96 list) (sym e ∙ f)).1

-- two lists on the same number of qubits
pub same_count : (limited : Bool) (n n₂ : ℕ) → n ≡ n₂ → (s z x s₂ z₂ x₂ choice list : List ℕ) (count r : ℕ)
    (choice' list' : List ℕ) (count' : ℕ) →
    Call (comparing_call limited (record { n = n; signs = s; z = z; x = x })
    (record { n = n; signs = s₂; z = z₂; x = x₂ })
    choice list count choice' list' count') r →
    Call (comparing_call limited (record { n = n; signs = s; z = z; x = x })
    (record { n = n₂; signs = s₂; z = z₂; x = x₂ })
    choice list count choice' list' count') r
same_count limited n n₂ e s z x s₂ z₂ x₂ choice list count r choice' list' count' =
    subst (λ k. Call (comparing_call limited (record { n = n; signs = s; z = z; x = x })
    (record { n = k; signs = s₂; z = z₂; x = x₂ }) choice list count choice' list' count') r) e
