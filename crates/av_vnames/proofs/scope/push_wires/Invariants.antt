use Rattle.std.proofs.Common.{◌≡◌, ◌++◌, drop, map}
use Rattle.av_vnames.specs.Scoped.{texts}
use Rattle.av_net.specs.Names.{names_of}
use Rattle.av_vparse.specs.Said.{said_declaration}
use Rattle.av_net.specs.Rows.{wires_of}
use Rattle.av_vnames.proofs.scope.push_wires.Given as goal

abbrev pub invariant-loop-declaration : goal.invariant-loop-declaration
invariant-loop-declaration l = texts l.names.items ++ names_of (wires_of (map said_declaration (drop l.declaration-index l.declarations))) ≡ texts l.fn.names.items ++ names_of (wires_of (map said_declaration l.declarations))
