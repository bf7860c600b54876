-- What the loops of `sign_bytes` keep.
use Rattle.buffers.proofs.Mapping.{Mapped}
use Rattle.image_impl.proofs.SignBytes.{SignAt}
use Rattle.image_impl.proofs.answer.sign_bytes.Given as goal

abbrev pub invariant-loop-j : goal.invariant-loop-j
invariant-loop-j l = Mapped (SignAt l.graph l.sx l.sz) l.initial.signs l.signs l.j
