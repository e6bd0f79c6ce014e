use Rattle.std.proofs.Common.{◌≡◌, ◌++◌, drop, map}
use Rattle.av_net.specs.Rows.{wires_of}
use Rattle.av_vparse.specs.Said.{said_declaration}
use Rattle.av_vread.proofs.module.all_wires.Given as goal

abbrev pub invariant-loop-part : goal.invariant-loop-part
invariant-loop-part l = l.all ++ drop l.part-index l.fn.parts ≡ wires_of (map said_declaration l.top.declarations) ++ l.fn.parts
