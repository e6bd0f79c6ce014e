use Rattle.std.proofs.Common.{◌∙◌, ℕ, List, ap}
use Rattle.av_net.specs.declared.operation.Operand.TheVariants.{Name}
use Rattle.av_kinds.specs.Written.{program_of}
use Rattle.av_kinds.proofs.Placing.{line_named}
use Rattle.av_kinds.proofs.instance.operand.Goals as goal

pub returns-in_ok-name-in-Line : goal.returns-in_ok-name-in-Line
returns-in_ok-name-in-Line c =
    rw c.in-Line.is
    (ap (λ (t : List ℕ). Name t) (c.in_ok-name-in-Line.ensures ∙ line_named (program_of c.args.program.now) c.in-Line.lane c.lane_names.result c.lane_names.ensures c.in-Line.delay))
