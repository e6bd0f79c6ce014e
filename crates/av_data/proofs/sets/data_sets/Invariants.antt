use Rattle.std.proofs.Common.{◌+◌, ◌<◌, length, All}
use Rattle.av_data.specs.declared.sets.DataSet.{DataSet}
use Rattle.av_data.proofs.SetLines.{Begins}
use Rattle.av_data.proofs.sets.data_sets.Given as goal

abbrev pub invariant-loop-parts : goal.invariant-loop-parts
invariant-loop-parts l = record {
  so_far : Begins l.bytes l.first_line l.sets l.rest l.line;
  within : All (λ (set : DataSet). set.first_line + length set.bytes.now < 4294967295) l.sets;
  room : l.line + length l.rest < 4294967294;
}

abbrev pub decreases-loop-parts : goal.decreases-loop-parts
decreases-loop-parts l = length l.rest
