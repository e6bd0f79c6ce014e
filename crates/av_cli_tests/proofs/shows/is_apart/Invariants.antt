use Rattle.std.proofs.Common.{◌≡◌, ◌≢◌, take, All}
use Rattle.av_cli_tests.proofs.shows.is_apart.Given as goal

abbrev pub invariant-loop-other : goal.invariant-loop-other
invariant-loop-other l = All (λ other. l.line.wire ≡ other.wire → l.line.cycle ≢ other.cycle) (take l.other-index l.later)
