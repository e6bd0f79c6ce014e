use Rattle.std.proofs.Common.{List, ◌++◌, map}
use Rattle.av_net.specs.Rows.{registers_in}
use Rattle.av_vparse.specs.declared.parsed.SignalDeclaration.{SignalDeclaration}
use Rattle.av_vparse.specs.Said.{said_declaration}
use Rattle.av_vnames.specs.inner.Scoped.{width_found}
use Rattle.av_vnames.proofs.RowWalks.{widths_more, registers_each}
use Rattle.av_vnames.proofs.scope.insert_registers.Goals as goal

pub loop-declaration-preserved : goal.loop-declaration-preserved
loop-declaration-preserved c =
    widths_more (λ (ds : List SignalDeclaration). registers_in (map said_declaration ds)) registers_each c.loop-declaration.widths c.insert_register.new.widths
    (width_found (c.args.widths.now ++ registers_in (map said_declaration c.args.declarations.now))) c.args.declarations.now c.loop-declaration.declaration-index c.declaration-item.result
    c.loop-declaration.invariant c.loop-declaration-test.true c.declaration-item.is c.in_ok-insert_register.ensures
