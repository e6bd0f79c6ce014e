use Rattle.std.proofs.Common.{◌≡◌, ◌+◌, ◌-◌, ◌<◌, length, ap, rules, subst, arith}
use Rattle.std.proofs.lemmas.Grind.{common_steps}
use Rattle.av_kinds.specs.inner.Cells.{datapath_built}
use Rattle.av_kinds.specs.inner.Numbered.{wire_in}
use Rattle.av_kinds.specs.inner.Added.{AddsBuilt, DatapathMade, GuardedDatapathMade, as_datapath}
use Rattle.av_kinds.proofs.Steps.{shift_added}
use Rattle.av_kinds.proofs.datapath.modes.Goals as goal

pub loop-k-preserved : goal.loop-k-preserved
loop-k-preserved c =
    let name = wire_in c.args.names in
    let w = c.args.width in
    let modes = c.as_slice-modes.result.now in
    let x = c.index-modes-k.result in
    let j = c.loop-k.k - 1 in
    let next : j + 1 ≡ c.loop-k.k = search rules in
    let within : j < length modes = search rules in
    let g2 = c.named.new.gates.items in
    let g3 = c.piece-in-loop-k.new.gates.items in
    let g4 = c.named-in-loop-k.new.gates.items in
    let own = subst (λ (u : DatapathMade). AddsBuilt g2 g3 (datapath_built name w c.args.counter.now (length g2) (as_datapath u)) c.in_ok-own.own) (ap (λ (t : GuardedDatapathMade). t.datapath) c.mode.view_is) c.in_ok-own.ensures in
    shift_added name w c.args.counter.now c.args.gates.now.items c.loop-k.gates.items g2 g3 g4 c.in_mode.new.gates.items
    (as_datapath c.args.lane.now.otherwise) modes j c.loop-k.k x c.loop-k.root c.in_ok-own.own c.in_ok-root-2.root c.in_ok-first.first c.in_ok-second.second
    next within c.index-modes-k.is c.loop-k.invariant c.in_ok-second.ensures own c.in_ok-first.ensures c.in_ok-root-2.ensures

pub piece-requires-in-loop-k : goal.piece-requires-in-loop-k
piece-requires-in-loop-k c = grind (arith, common_steps)

pub loop-k-init : goal.loop-k-init
loop-k-init c = grind (arith, common_steps)
