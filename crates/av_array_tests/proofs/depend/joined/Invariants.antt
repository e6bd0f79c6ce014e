use Rattle.std.proofs.Common.{◌<◌, All}
use Rattle.av_array_tests.proofs.depend.joined.Given as goal

abbrev pub invariant-loop-consumer : goal.invariant-loop-consumer
invariant-loop-consumer l = All (λ e. e.consumer < l.nodes) l.list × All (λ e. e.producer < l.nodes) l.list
