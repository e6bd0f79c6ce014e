use Rattle.std.proofs.Common.{◌≡◌, ◌++◌, take, drop}
use Rattle.av_data.specs.Lines.{uncommented}
use Rattle.av_data.proofs.lines.uncommented.Given as goal

abbrev pub invariant-loop-i : goal.invariant-loop-i
invariant-loop-i l = take l.i l.line ++ uncommented (drop l.i l.line) ≡ uncommented l.line
