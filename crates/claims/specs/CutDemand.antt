-- Of cuts: "answers the rank modulo 2 of the edges between the sides. An empty or full side gives 0"; and "gates on
-- single qubits, and CZ inside a side, never change the number, and complementing at any vertex doesn't either". Each
-- is said of an accepted call on any record, reduced or not, and of every cut: the call's number is 0, and a name with
-- a prime is what is held at exit.
use Rattle.std.specs.Prelude.{List, ◌≡◌, ◌*◌, ◌-◌, ◌^◌, ℕ}
use Rattle.buffers.specs.Calls.{Call}
use Rattle.cut.specs.Cut.{crossing, cut_rank}
use Rattle.cut.specs.Kernel.{kernel_size}
use Rattle.calls.specs.Cuts.{cut_call}
use Rattle.jobs.specs.Standing.{left}
use Rattle.operations.specs.Steps.{complement_of, cz_on, gate_with}
use Rattle.record.specs.Lent.{LentRecord, held_record}
use Rattle.calls.specs.InPlace.{in_place_call}
use Rattle.operations.specs.Used.{UsedRecord}
use Rattle.words.specs.Bits.{Word, bit}

-- the rank across a cut of the graph that a lent record holds
abbrev pub rank_across : Word → LentRecord → ℕ
rank_across side l = cut_rank l.n side (held_record l).graph

-- what an accepted call on a cut answers
pub record CutAnswer (l : LentRecord) (side rank' : ℕ) : Type 0 where
  pub rank : rank' ≡ rank_across (bit side) l
  -- modulo 2: of the 2^n choices of columns, one in 2^rank adds to 0
  pub sums : 2 ^ rank' * kernel_size l.n l.n (crossing (bit side) (held_record l).graph) ≡ 2 ^ l.n
  pub empty : side ≡ 0 → rank' ≡ 0
  pub full : side ≡ 2 ^ l.n - 1 → rank' ≡ 0

-- of every accepted call
abbrev pub CutsAnswer : Type 0
CutsAnswer = (u : UsedRecord) (side rank rank' : ℕ) → Call (cut_call u side rank rank') 0 →
    CutAnswer u.held side rank'

-- "gates on single qubits"
abbrev pub GatesKeepRanks : Type 0
GatesKeepRanks = (l : LentRecord) (q k : ℕ) (nb' cs' : List ℕ) → Call (in_place_call l (gate_with q k) nb' cs') 0 →
    (side : Word) → rank_across side (left l nb' cs') ≡ rank_across side l

-- "CZ inside a side": both qubits are marked, or neither is
abbrev pub CzKeepsRanks : Type 0
CzKeepsRanks = (l : LentRecord) (a b : ℕ) (nb' cs' : List ℕ) → Call (in_place_call l (cz_on a b) nb' cs') 0 →
    (side : Word) → side a ≡ side b → rank_across side (left l nb' cs') ≡ rank_across side l

-- "complementing at any vertex"
abbrev pub ComplementsKeepRanks : Type 0
ComplementsKeepRanks = (l : LentRecord) (a : ℕ) (nb' cs' : List ℕ) → Call (in_place_call l (complement_of a) nb' cs') 0 →
    (side : Word) → rank_across side (left l nb' cs') ≡ rank_across side l
