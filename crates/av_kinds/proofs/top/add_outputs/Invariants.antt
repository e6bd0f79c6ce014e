use Rattle.std.proofs.Common.{◌≡◌, ◌++◌, drop}
use Rattle.av_kinds.specs.Written.{program_of}
use Rattle.av_kinds.specs.Names.{labels}
use Rattle.av_kinds.specs.Tops.{output_drives}
use Rattle.av_kinds.proofs.top.add_outputs.Given as goal

abbrev pub invariant-loop-number : goal.invariant-loop-number
invariant-loop-number l = l.drives ++ output_drives (labels (program_of l.program)) l.number (drop l.number l.program.outputs) ≡ l.initial.drives ++ output_drives (labels (program_of l.program)) 0 l.program.outputs
