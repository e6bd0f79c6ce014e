use Rattle.std.proofs.Common.{◌≡◌, drop}
use Rattle.av_names.specs.Reductions as rules
use Rattle.av_names.proofs.projection.gives_each.Given as goal

abbrev pub invariant-loop-entry : goal.invariant-loop-entry
invariant-loop-entry l = rules.gives_names l.own l.fn.before l.results ≡ rules.gives_names l.own l.before (drop l.entry-index l.results)
