use Rattle.std.proofs.Common.{◌≡◌, ◌+◌, ◌-◌, ◌<◌, length, rules, arith}
use Rattle.std.proofs.lemmas.Grind.{common_steps}
use Rattle.av_kinds.specs.inner.Numbered.{wire_in}
use Rattle.av_kinds.proofs.Steps.{guard_added}
use Rattle.av_kinds.proofs.datapath.in_mode.Goals as goal

pub loop-k-preserved : goal.loop-k-preserved
loop-k-preserved c =
    let guards = c.as_slice-guards.result.now in
    let j = c.loop-k.k - 1 in
    let next : j + 1 ≡ c.loop-k.k = search rules in
    let within : j < length guards = search rules in
    let guarded = c.in_ok-root.ensures in (
      c.loop-k.invariant.0,
      guard_added (wire_in c.args.names) c.args.width c.args.counter.now c.args.gates.now.items c.loop-k.gates.items guarded.between c.in_guard.new.gates.items
          c.args.second c.args.first guards j c.loop-k.k c.index-guards-k.result c.loop-k.root c.in_ok-root.root c.loop-k.first-1 guarded.second
          next within c.index-guards-k.is c.loop-k.invariant.1 guarded.on_wire c.loop-k.invariant.0 guarded.chosen,
    )

pub loop-k-init : goal.loop-k-init
loop-k-init c = grind (arith, common_steps)
