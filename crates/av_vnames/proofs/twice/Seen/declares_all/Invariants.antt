use Rattle.std.proofs.Common.{drop, map}
use Rattle.av_net.specs.Rows.{declares}
use Rattle.av_vnames.specs.Scoped.{texts}
use Rattle.av_vnames.specs.inner.Seen.{Stands}
use Rattle.av_vnames.proofs.SeenMentions.{GoesOn}
use Rattle.av_vnames.proofs.twice.Seen.declares_all.Given as goal

abbrev pub invariant-loop-name : goal.invariant-loop-name
invariant-loop-name l = GoesOn Stands l.fn.self l.self (map declares (texts (drop l.name-index l.names))) (map declares (texts l.names))
