use Rattle.av_kinds.proofs.Writing.{AreSitesFrom}
use Rattle.av_kinds.proofs.interface.Interface.add_datapath.Given as goal

abbrev pub invariant-loop-site : goal.invariant-loop-site
invariant-loop-site l = AreSitesFrom l.initial.self l.mode.sites l.site-index l.self l.taps
