use Rattle.std.proofs.Common.{◌≡◌, take}
use Rattle.av_net.specs.Names.{targets_of}
use Rattle.av_wave.proofs.feed.targets.Given as goal

abbrev pub invariant-loop-drive : goal.invariant-loop-drive
invariant-loop-drive l = l.targets ≡ take l.drive-index (targets_of l.drives)
