use Rattle.std.proofs.Common.{◌≡◌, ◌*◌, ◌≤◌, take}
use Rattle.av_flat.specs.Trees.{view_system}
use Rattle.av_space.specs.Links.{delay_count}
use Rattle.av_space.specs.Lengths.{AreLengths}
use Rattle.av_space.proofs.lines.delay_count.Given as goal

abbrev pub invariant-loop-link : goal.invariant-loop-link
invariant-loop-link l = record {
  lengths : AreLengths (view_system l.scheduled.timed.flat) l.scheduled.timed.helpers l.scheduled.layout.cells (take l.link-index l.links) l.lengths;
  count : l.count ≡ delay_count (view_system l.scheduled.timed.flat) l.scheduled.timed.helpers l.scheduled.layout.cells (take l.link-index l.links);
  small : l.count ≤ 4294967296 * l.link-index;
}
