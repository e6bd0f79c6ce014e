use Rattle.std.proofs.Common.{◌≡◌, ◌∙◌, ◌+◌, ◌<◌, List, length, get_or, ap, arith}
use Rattle.std.proofs.lemmas.Grind.{common_steps}
use Rattle.av_kinds.specs.inner.Shapes.{ModeShapeMade, LaneShapeMade}
use Rattle.av_kinds.proofs.Writing.{mode_put}
use Rattle.av_kinds.proofs.interface.Interface.add_lane.Goals as goal

pub loop-k-preserved : goal.loop-k-preserved
loop-k-preserved c =
    let k = c.loop-k.k in
    let all = c.args.lane.now.modes in
    let x = c.index-shapes-k.result in
    let items : c.as_slice-shapes.result.now ≡ all = c.as_slice-shapes.ensures ∙ ap (λ (l : LaneShapeMade). l.modes) c.lane.view_is in
    let within : k + 1 < length c.as_slice-shapes.result.now = omega (arith, c.loop-k-test.true) in
    mode_put c.args.self.now all k x c.loop-k.self c.add_mode.new.self c.loop-k.modes c.push.new.self c.in_ok-add_mode.field-0
    (omega (arith, within, ap (λ (xs : List ModeShapeMade). length xs) items)) (c.index-shapes-k.is ∙ ap (λ (xs : List ModeShapeMade). get_or xs k x) items) c.loop-k.invariant
    c.in_ok-add_mode.ensures.ports c.in_ok-add_mode.ensures.datapath c.in_ok-push.ensures.ok

pub returns-clause-datapaths : goal.returns-clause-datapaths
returns-clause-datapaths c = grind (arith, common_steps)

pub returns-clause-ports : goal.returns-clause-ports
returns-clause-ports c = grind (arith, common_steps)
