-- What the parts of the comparison answer: the reduced records of two lists, and the comparison of two records.
use Rattle.std.specs.Prelude.{List, ℕ}
use Rattle.clifford.specs.Clifford.{clifford_of}
use Rattle.comparison.specs.Choices.{least_code}
use Rattle.comparison.specs.Compared.{induced}
use Rattle.image.specs.Rule.{image_list}
use Rattle.pauli.specs.Pauli.{Pauli}
use Rattle.record.specs.Records.{GraphRecord}
use Rattle.record.specs.Reduced.{reduced_graph}

-- the first reduced graph "under the codes that the choice induces between the two"
abbrev pub induced_record : ℕ → (ℕ → Pauli) → (ℕ → Pauli) → GraphRecord
induced_record n rows others =
    record {
      graph = reduced_graph n rows;
      codes = induced n rows others (λ q. clifford_of (least_code n rows others q));
    }

-- "The complementation list is that of the image rule, from the first reduced graph to the second"
abbrev pub compare_list : ℕ → (ℕ → Pauli) → (ℕ → Pauli) → List ℕ
compare_list n rows others = image_list n (induced_record n rows others)
