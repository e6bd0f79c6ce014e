use Rattle.std.proofs.Common.{map}
use Rattle.av_flat.specs.Quantities.{of_map, steps}
use Rattle.av_normal.proofs.NeverWide.{never_wide}
use Rattle.av_normal.proofs.distribute.composed_map.Goals as goal

pub unreachable-requires : goal.unreachable-requires
unreachable-requires c = never_wide (map of_map (steps c.args.own.now c.args.under.now)) c.in-Err._fault c.requires.narrow c.in-Err.ensures.first c.in-Err.ensures.over
