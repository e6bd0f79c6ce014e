use Rattle.av_data.proofs.FirstLines.{Goes}
use Rattle.av_data.proofs.lines.first_line.Given as goal

abbrev pub invariant-loop-i : goal.invariant-loop-i
invariant-loop-i l = Goes l.bytes l.i
