use Rattle.std.proofs.Common.{◌≡◌, take, map, slice_get}
use Rattle.av_kinds.specs.Written.{program_of}
use Rattle.av_kinds.specs.Tops.{width_in}
use Rattle.av_kinds.proofs.top.output_widths.Given as goal

abbrev pub invariant-loop-number : goal.invariant-loop-number
invariant-loop-number l = l.widths ≡ map (λ q. width_in (slice_get (program_of l.program).lanes q)) (take l.number-index l.program.outputs)
