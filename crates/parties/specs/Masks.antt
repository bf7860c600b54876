-- Two parties on one record (02, §13): the vertices of one party alone, and the record with them put back.
use Rattle.std.specs.Prelude.{◌&&◌, Bool, cond, not, ℕ, eqb, get_or}
use Rattle.buffers.specs.Buffers.{tabulate}
use Rattle.operations.specs.Used.{UsedRecord}
use Rattle.words.specs.Bits.{Word, bit, same_bit, word_of}
use Rattle.words.specs.Search.{some}

-- "bit q of a word fixed at the start is qubit q's group": the qubits of party g
abbrev pub in_party : ℕ → ℕ → Word
in_party word g q = same_bit (bit word q) (eqb g 1)

-- the record in which each vertex outside s stands alone in +Z: no neighbour, code 8, not used
abbrev pub masked : Word → UsedRecord → UsedRecord
masked s u =
    record {
      held = record {
        n = u.held.n;
        neighbours = tabulate u.held.n (λ q. cond (s q) (get_or u.held.neighbours q 0) 0);
        codes = tabulate u.held.n (λ q. cond (s q) (get_or u.held.codes q 0) 8);
      };
      used = word_of u.held.n (λ q. s q && bit u.used q);
    }

-- the vertices of s as a has them; "codes and neighbour words of the other stay"
abbrev pub merged : Word → UsedRecord → UsedRecord → UsedRecord
merged s a u =
    record {
      held = record {
        n = u.held.n;
        neighbours = tabulate u.held.n (λ q. cond (s q) (get_or a.held.neighbours q 0)
            (get_or u.held.neighbours q 0));
        codes = tabulate u.held.n (λ q. cond (s q) (get_or a.held.codes q 0) (get_or u.held.codes q 0));
      };
      used = word_of u.held.n (λ q. cond (s q) (bit a.used q) (bit u.used q));
    }

-- "the record has an edge between the groups"
unfoldable pub crosses : ℕ → UsedRecord → Bool
crosses word u =
    some u.held.n (λ j. some u.held.n (λ k.
    bit (get_or u.held.neighbours j 0) k && not (same_bit (bit word j) (bit word k))))

-- a vertex of the record has a neighbour outside s
unfoldable pub reaches_out : Word → UsedRecord → Bool
reaches_out s u =
    some u.held.n (λ j. some u.held.n (λ k. bit (get_or u.held.neighbours j 0) k && not (s k)))
