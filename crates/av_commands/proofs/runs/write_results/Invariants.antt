use Rattle.std.proofs.Common.{◌≤◌}
use Rattle.av_base.specs.Outside.{Adds}
use Rattle.av_flat.specs.Trees.{view_system}
use Rattle.av_commands.specs.inner.Reported.{names_output}
use Rattle.av_commands.specs.inner.Watching.{bits_of}
use Rattle.av_commands.proofs.ResultLines.{first_results}
use Rattle.av_commands.proofs.runs.write_results.Given as goal

abbrev pub invariant-loop-k : goal.invariant-loop-k
invariant-loop-k g l =
    let S = g.K.Sink.state in
    Adds (S l.fn.sink).held (S l.sink).held (first_results (λ line. names_output (view_system l.flat) line.variable) l.k l.lines (bits_of l.words)) × ((S l.fn.sink).faults ≤ (S l.sink).faults)
