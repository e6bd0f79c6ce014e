use Rattle.std.proofs.Common.{◌≡◌, replicate}
use Rattle.av_commands.proofs.lane_showing.zero_rows.Given as goal

abbrev pub invariant-loop : goal.invariant-loop
invariant-loop l = l.rows ≡ replicate l.counter (replicate 8 0)
