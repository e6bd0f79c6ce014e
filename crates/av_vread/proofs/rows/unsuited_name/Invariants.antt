use Rattle.std.proofs.Common.{◌≡◌, drop, map}
use Rattle.av_vparse.specs.Said.{said_module}
use Rattle.av_net.specs.Rows.{first_some, unsuited_in_module}
use Rattle.av_vread.proofs.rows.unsuited_name.Given as goal

abbrev pub invariant-loop-kind : goal.invariant-loop-kind
invariant-loop-kind l = first_some (unsuited_in_module l.kinds) (map said_module (drop l.kind-index l.text.kinds)) ≡ first_some (unsuited_in_module l.kinds) (map said_module l.text.kinds)
