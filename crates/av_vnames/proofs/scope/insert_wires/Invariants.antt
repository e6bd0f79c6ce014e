use Rattle.std.proofs.Common.{◌≡◌, ◌++◌, drop, map}
use Rattle.av_vnames.specs.Scoped.{Bytes}
use Rattle.av_vnames.specs.inner.Scoped.{width_found}
use Rattle.av_vparse.specs.Said.{said_declaration}
use Rattle.av_net.specs.Rows.{wires_of}
use Rattle.av_vnames.proofs.scope.insert_wires.Given as goal

abbrev pub invariant-loop-declaration : goal.invariant-loop-declaration
invariant-loop-declaration l = (q : Bytes) → width_found (l.widths ++ wires_of (map said_declaration (drop l.declaration-index l.declarations))) q ≡ width_found (l.fn.widths ++ wires_of (map said_declaration l.declarations)) q
