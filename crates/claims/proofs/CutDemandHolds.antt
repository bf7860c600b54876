-- The demands of cuts, from what the calls do to the group.
use mathlib.Core.Bool.{false}
use mathlib.Core.List.{List}
use mathlib.Core.Logic.{◌≢◌}
use mathlib.Core.Path.{ap, subst, sym, ◌∙◌, ◌≡◌}
use Prim.Native.Nat.{◌*◌, ◌<◌, ◌^◌, ℕ}
use lib.ListN.{length}
use Rattle.clifford.specs.Clifford.{clifford_of}
use Rattle.clifford.specs.Vectors.{only}
use Rattle.cut.proofs.CutKept.{carried-cut, same-group-cut}
use Rattle.cut.proofs.RankLaws.{rank-kernel}
use Rattle.cut.proofs.Sides.{empty-word, full-word}
use Rattle.cut.specs.Cut.{crossing, cut_rank}
use Rattle.cut.specs.Kernel.{kernel_size}
use Rattle.record.specs.Graph.{Graph, Simple}
use Rattle.jobs.specs.Standing.{StillRecord, left}
use Rattle.record.proofs.AcceptedRecords.{accepted-record}
use Rattle.record.specs.Accepted.{AcceptedRecord}
use Rattle.record.specs.Lent.{LentRecord, held_record}
use Rattle.record.specs.Records.{GraphRecord}
use Rattle.calls.proofs.InPlaceLines.{cz-ready, held-accepted}
use Rattle.words.specs.Bits.{Word, bit}
use Rattle.claims.proofs.CzInsideSide.{entangled-cut}
use Rattle.claims.proofs.GatesFollow.{cz-follows, gates-follow}
use Rattle.claims.proofs.RewritingsKeep.{complements-keep}
use Rattle.claims.specs.CutDemand.{
  ComplementsKeepRanks,
  CutsAnswer,
  CzKeepsRanks,
  GatesKeepRanks,
  rank_across,
}
use Rattle.claims.specs.OperationsDemand.{CzStands, GateStands, RewrittenAs}

pub cuts-answer : CutsAnswer
cuts-answer u side rank rank' C =
    record {
      rank = C.held.0;
      sums = ap (λ k. 2 ^ k * kernel_size n n M) C.held.0 ∙ rank-kernel n n M;
      empty = λ e. C.held.0 ∙ ap (λ s. cut_rank n (bit s) θ) e ∙ empty-word n θ;
      full = λ e. C.held.0 ∙ ap (λ s. cut_rank n (bit s) θ) e ∙ full-word n θ;
    }
  where
    n : ℕ
    n = u.held.n

    θ : Graph
    θ = (held_record u.held).graph

    M : Graph
    M = crossing (bit side) θ

-- the graph of what a call leaves is simple
left-simple : (l : LentRecord) (nb cs : List ℕ) → StillRecord (left l nb cs)
    → Simple l.n (held_record (left l nb cs)).graph
left-simple l nb cs e = (accepted-record (left l nb cs) false false e).simple

pub gates-keep-ranks : GatesKeepRanks
gates-keep-ranks l q k nb' cs' C side =
    sym (carried-cut l.n side (held_record l) (held_record (left l nb' cs'))
    (held-accepted l _ _ (sym C.number)).simple (left-simple l nb' cs' G.still) (only q (clifford_of k))
    G.group)
  where
    G : GateStands l q k (left l nb' cs')
    G = gates-follow l q k nb' cs' C

pub cz-keeps-ranks : CzKeepsRanks
cz-keeps-ranks l a b nb' cs' C side inside =
    sym (entangled-cut l.n side a b (below ready.0) (below ready.1) inside (held_record l)
    (held_record (left l nb' cs')) A.simple (left-simple l nb' cs' G.still) G.group)
  where
    G : CzStands l a b (left l nb' cs')
    G = cz-follows l a b nb' cs' C

    A : AcceptedRecord l
    A = held-accepted l _ _ (sym C.number)

    ready : (a < length l.neighbours) × (b < length l.neighbours) × (a ≢ b)
    ready = (cz-ready l a b (sym C.number)).1

    below : {q : ℕ} → q < length l.neighbours → q < l.n
    below {q} h = subst (λ m. q < m) A.neighbours-length h

-- a record rewritten to one of the same group
pub rewritten-ranks : (l : LentRecord) (nb cs : List ℕ) (new : GraphRecord) → AcceptedRecord l
    → RewrittenAs l (left l nb cs) new → (side : Word) → rank_across side (left l nb cs) ≡ rank_across side l
rewritten-ranks l nb cs new A G side =
    sym (same-group-cut l.n side (held_record l) (held_record (left l nb cs)) A.simple
    (left-simple l nb cs G.still) G.group)

pub complements-keep-ranks : ComplementsKeepRanks
complements-keep-ranks l a nb' cs' C =
    rewritten-ranks l nb' cs' _ (held-accepted l _ _ (sym C.number)) (complements-keep l a nb' cs' C)
