use Rattle.std.proofs.Common.{◌≡◌, [], ◌∷◌, ◌++◌, drop, map}
use Rattle.av_net.specs.Rows.{modules_of, twice_from}
use Rattle.av_vparse.specs.Said.{said_module, said}
use Rattle.av_vnames.proofs.twice.twice_among.Given as goal

abbrev pub invariant-loop-kind : goal.invariant-loop-kind
invariant-loop-kind l = twice_from l.kinds l.modules (map said_module (drop l.kind-index l.text.kinds) ++ said_module l.text.top ∷ []) ≡ twice_from l.kinds l.fn.modules (modules_of (said l.text))
