use Rattle.std.proofs.Common.{◌≡◌, ◌++◌, drop, map}
use Rattle.av_net.specs.Rows.{registers_in}
use Rattle.av_vparse.specs.Said.{said_declaration}
use Rattle.av_vread.proofs.module.registers.Given as goal

abbrev pub invariant-loop-declaration : goal.invariant-loop-declaration
invariant-loop-declaration l = l.registers ++ registers_in (map said_declaration (drop l.declaration-index l.declarations)) ≡ registers_in (map said_declaration l.declarations)
