use Rattle.av_kinds.specs.inner.Numbered.{wire_in}
use Rattle.av_kinds.proofs.Added.{wire_named}
use Rattle.av_kinds.proofs.gates.named.Goals as goal

pub returns-in_default : goal.returns-in_default
returns-in_default c =
    wire_named (wire_in c.args.names) c.args.width c.args.gates.now.items c.on_wire.new.gates.items c.args.root c.on_wire.result c.in_default.not-Plain c.on_wire.ensures.gates c.on_wire.ensures.operand
