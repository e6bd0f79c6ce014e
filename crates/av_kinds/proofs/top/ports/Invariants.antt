use Rattle.std.proofs.Common.{◌≡◌, ◌++◌, drop}
use Rattle.av_kinds.specs.Names.{numbered}
use Rattle.av_kinds.specs.Tops.{numbered_ports}
use Rattle.av_kinds.proofs.top.ports.Given as goal

abbrev pub invariant-loop-number : goal.invariant-loop-number
invariant-loop-number l = l.ports ++ numbered_ports (numbered l.letter) l.number (drop l.number l.widths) ≡ numbered_ports (numbered l.letter) 0 l.widths
