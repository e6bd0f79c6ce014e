use Rattle.std.proofs.Common.{◌≤◌}
use Rattle.av_array_tests.proofs.streams.clocked.output_drive.Given as goal

abbrev pub invariant-loop-drive : goal.invariant-loop-drive
invariant-loop-drive l = l.place ≤ l.drive-index
