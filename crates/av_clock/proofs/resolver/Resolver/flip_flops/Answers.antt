use Rattle.std.proofs.Common.{◌+◌, List, refl, sym, subst}
use Rattle.av_net.specs.Sound.{IsSound}
use Rattle.av_clock.specs.declared.gate.FlipFlop.{FlipFlop}
use Rattle.av_clock.specs.Gates.{AreStepped}
use Rattle.av_clock.proofs.Resolved.{read_step, register_declared, step_reads, stepped_more}
use Rattle.av_clock.proofs.resolver.Resolver.flip_flops.Goals as goal

pub declared-register-requires : goal.declared-register-requires
declared-register-requires c =
    let step = read_step c.args.self.now c.self.inside.of.now c.as_slice-step-items.result.now c.loop-step.step-index c.step-item.result c.self.view_is c.as_slice-step-items.ensures c.loop-step-test.true c.step-item.is in
    register_declared c.args.self.now c.loop-step.step-index c.step-item.result (subst IsSound c.self.view_is c.self.invariant.sound) step.within step.at

pub reading-next-requires : goal.reading-next-requires
reading-next-requires c =
    let step = read_step c.args.self.now c.self.inside.of.now c.as_slice-step-items.result.now c.loop-step.step-index c.step-item.result c.self.view_is c.as_slice-step-items.ensures c.loop-step-test.true c.step-item.is in
    step_reads c.args.self.now c.loop-step.step-index c.step-item.result (subst IsSound c.self.view_is c.self.invariant.sound) step.within step.at

pub loop-step-preserved : goal.loop-step-preserved
loop-step-preserved c =
    let step = read_step c.args.self.now c.self.inside.of.now c.as_slice-step-items.result.now c.loop-step.step-index c.step-item.result c.self.view_is c.as_slice-step-items.ensures c.loop-step-test.true c.step-item.is in
    let P : List FlipFlop → Type 0 = λ flip_flops. AreStepped c.args.self.now (c.loop-step.step-index + 1) flip_flops in
    subst P (sym c.in_ok-push.ensures.items) (stepped_more c.args.self.now c.loop-step.step-index c.loop-step.flip_flops.items c.step-item.result _ step.within step.at
    (record { register = c.declared-register.ensures.place; reset = refl; next = c.reading-next.ensures }) c.loop-step.invariant)
