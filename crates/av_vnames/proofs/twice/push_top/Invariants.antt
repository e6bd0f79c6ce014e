use Rattle.std.proofs.Common.{◌≡◌, ◌++◌, ◌∷◌, drop, map}
use Rattle.av_net.specs.Names.{clk, rst}
use Rattle.av_vparse.specs.Said.{said_item}
use Rattle.av_vnames.specs.Scoped.{texts}
use Rattle.av_vnames.specs.inner.Scoped.{instances_named}
use Rattle.av_vnames.proofs.twice.push_top.Given as goal

abbrev pub invariant-loop-item : goal.invariant-loop-item
invariant-loop-item l = texts l.names.items ++ instances_named (map said_item (drop l.item-index l.items)) ≡ texts l.fn.names.items ++ clk ∷ rst ∷ instances_named (map said_item l.items)
