use Rattle.std.proofs.Common.{All, map}
use Rattle.av_flat.specs.Trees.{view_system}
use Rattle.av_flat.specs.OneSolution.{AreInputs}
use Rattle.av_data.specs.Inputs.{words_of}
use Rattle.av_commands.proofs.SetsRead.{AreRead}
use Rattle.av_commands.proofs.streams.read_sets.Given as goal

abbrev pub invariant-loop-set : goal.invariant-loop-set
invariant-loop-set l = record {
  read : AreRead (view_system l.flat) l.sets l.set-index (map words_of l.inputs);
  words : All (λ x. AreInputs (view_system l.flat) (words_of x)) l.inputs;
}
