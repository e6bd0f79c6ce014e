use Rattle.std.proofs.Common.{◌≡◌}
use Rattle.av_poly.specs.Preimages.{rows_before}
use Rattle.av_serial.specs.inner.Lowered.{lowered}
use Rattle.av_serial.proofs.choices.lower_first.Given as goal

-- those so far are lowered
abbrev pub invariant-loop-k : goal.invariant-loop-k
invariant-loop-k l = l.images ≡ rows_before l.last (lowered l.map l.k l.rows)
