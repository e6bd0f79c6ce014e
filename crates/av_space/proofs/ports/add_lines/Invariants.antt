use Rattle.std.proofs.Common.{◌≡◌, ◌++◌, take}
use Rattle.std.specs.Prelude.{filter}
use Rattle.av_space.specs.inner.Feeding.{is_entered, lines_at}
use Rattle.av_space.proofs.ports.add_lines.Given as goal

abbrev pub invariant-loop-slot : goal.invariant-loop-slot
invariant-loop-slot l =
    l.ins ≡ l.initial.ins ++ lines_at l.wire l.site.input.now.name l.site.map.now (filter (λ t. is_entered l.site.domain.now l.site.direction t.point) (take l.slot-index l.slots))
