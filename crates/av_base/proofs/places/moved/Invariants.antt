use Rattle.av_base.proofs.Passing.{IsOnTheWay}
use Rattle.av_base.proofs.places.moved.Given as goal

abbrev pub invariant-loop-byte : goal.invariant-loop-byte
invariant-loop-byte l = IsOnTheWay l.fn.place l.place l.byte-index l.bytes
