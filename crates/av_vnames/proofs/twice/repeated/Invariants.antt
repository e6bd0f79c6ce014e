use Rattle.std.proofs.Common.{◌≡◌, drop}
use Rattle.av_net.specs.Names.{names_of}
use Rattle.av_net.specs.Rows.{first_repeated}
use Rattle.av_vnames.proofs.twice.repeated.Given as goal

abbrev pub invariant-loop-part : goal.invariant-loop-part
invariant-loop-part l = first_repeated l.seen (names_of (drop l.part-index l.parts)) ≡ first_repeated l.fn.seen (names_of l.parts)
