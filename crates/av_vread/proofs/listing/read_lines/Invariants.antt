use Rattle.std.proofs.Common.{◌-◌}
use Rattle.av_net.specs.Rows.{is_in}
use Rattle.av_vread.proofs.LineWalks.{Reads}
use Rattle.av_vread.proofs.listing.read_lines.Given as goal

abbrev pub invariant-loop-number : goal.invariant-loop-number
invariant-loop-number l = Reads (is_in l.ports) (is_in l.wires) l.bytes l.first l.at l.number l.listing

abbrev pub decreases-loop-number : goal.decreases-loop-number
decreases-loop-number l = l.first - l.number
