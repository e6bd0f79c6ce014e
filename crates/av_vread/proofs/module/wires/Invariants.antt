use Rattle.std.proofs.Common.{◌≡◌, ◌++◌, drop, map}
use Rattle.av_net.specs.Rows.{wires_of}
use Rattle.av_vparse.specs.Said.{said_declaration}
use Rattle.av_vread.proofs.module.wires.Given as goal

abbrev pub invariant-loop-declaration : goal.invariant-loop-declaration
invariant-loop-declaration l = l.wires ++ wires_of (map said_declaration (drop l.declaration-index l.declarations)) ≡ wires_of (map said_declaration l.declarations)
