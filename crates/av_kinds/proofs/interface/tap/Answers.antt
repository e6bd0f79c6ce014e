use Rattle.av_kinds.specs.Names.{numbered}
use Rattle.av_kinds.proofs.InterfaceSteps.{tap_whole}
use Rattle.av_kinds.proofs.interface.tap.Goals as goal

pub returns : goal.returns
returns c =
    tap_whole (numbered c.args.letter.now) c.args.width c.args.word c.args.bound c.args.selections c.in_ok-arms.field-0 c.in_ok-named.field-0 c.in_ok-arms.ensures c.in_ok-named.ensures
