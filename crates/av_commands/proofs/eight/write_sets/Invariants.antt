use Rattle.std.proofs.Common.{◌≤◌, take}
use Rattle.av_base.specs.Outside.{Adds}
use Rattle.av_flat.specs.Trees.{view_system}
use Rattle.av_commands.specs.Eights.{set_lines}
use Rattle.av_commands.specs.inner.Eighting.{result_texts}
use Rattle.av_commands.proofs.eight.write_sets.Given as goal

abbrev pub invariant-loop-k : goal.invariant-loop-k
invariant-loop-k g l =
    let S = g.K.Sink.state in
    Adds (S l.fn.sink).held (S l.sink).held (set_lines 1 (take l.k (result_texts (view_system l.flat) l.lines l.columns))) × ((S l.fn.sink).faults ≤ (S l.sink).faults)
