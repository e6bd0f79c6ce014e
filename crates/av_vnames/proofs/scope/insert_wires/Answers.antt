use Rattle.std.proofs.Common.{List, ◌++◌, map}
use Rattle.av_net.specs.Rows.{wires_of}
use Rattle.av_vparse.specs.declared.parsed.SignalDeclaration.{SignalDeclaration}
use Rattle.av_vparse.specs.Said.{said_declaration}
use Rattle.av_vnames.specs.inner.Scoped.{width_found}
use Rattle.av_vnames.proofs.RowWalks.{widths_more, wires_each}
use Rattle.av_vnames.proofs.scope.insert_wires.Goals as goal

pub loop-declaration-preserved : goal.loop-declaration-preserved
loop-declaration-preserved c =
    widths_more (λ (ds : List SignalDeclaration). wires_of (map said_declaration ds)) wires_each c.loop-declaration.widths c.insert_wire.new.widths
    (width_found (c.args.widths.now ++ wires_of (map said_declaration c.args.declarations.now))) c.args.declarations.now c.loop-declaration.declaration-index c.declaration-item.result
    c.loop-declaration.invariant c.loop-declaration-test.true c.declaration-item.is c.in_ok-insert_wire.ensures
