use Rattle.av_kinds.specs.Written.{program_of}
use Rattle.av_kinds.proofs.Writing.{IsTopFrom}
use Rattle.av_kinds.proofs.top.parts_of.Given as goal

abbrev pub invariant-loop-number : goal.invariant-loop-number
invariant-loop-number l = IsTopFrom (program_of l.program) l.number l.parts
