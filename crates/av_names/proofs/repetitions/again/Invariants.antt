use Rattle.std.proofs.Common.{◌≡◌, ◌≤◌, length, drop}
use Rattle.std.specs.Prelude.{option_map}
use Rattle.av_names.specs.Repetitions as repeats
use Rattle.av_names.specs.inner.Seen.{SameNames}
use Rattle.av_names.proofs.repetitions.again.Given as goal

abbrev pub invariant-loop-rest : goal.invariant-loop-rest
invariant-loop-rest l =
    (l.rest ≤ length l.names) × (option_map (λ n. n.now) l.first ≡ repeats.again l.sizes (drop l.rest l.names)) × SameNames l.behind (drop l.rest l.names)

abbrev pub decreases-loop-rest : goal.decreases-loop-rest
decreases-loop-rest l = l.rest
