use Rattle.std.proofs.Common.{◌≡◌, ◌-◌, ◌++◌, length}
use Rattle.std.specs.List.{range_with_len}
use Rattle.av_build.proofs.order.in_order.Given as goal

abbrev pub invariant-loop-late : goal.invariant-loop-late
invariant-loop-late l = l.order ≡ range_with_len l.start (l.late - l.start)

abbrev pub invariant-loop-early : goal.invariant-loop-early
invariant-loop-early l = l.order ≡ range_with_len l.start (length l.slots - l.start) ++ range_with_len 0 l.early
