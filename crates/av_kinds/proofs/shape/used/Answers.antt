use Rattle.std.proofs.Common.{◌≡◌, ◌∙◌, ◌<◌, List, ap, arith, rules, map, length, get_or, filter}
use Rattle.std.proofs.lemmas.Grind.{common_steps}
use Rattle.av_kinds.proofs.ShapeSteps.{used_put}
use Rattle.av_kinds.specs.inner.Shapes.{ModeShapeMade, LaneShapeMade, mode_shape_of}
use Rattle.av_kinds.specs.inner.Shaped.{is_used}
use Rattle.av_kinds.proofs.shape.used.Goals as goal

pub loop-mode-preserved : goal.loop-mode-preserved
loop-mode-preserved c =
    let all = c.args.lane.now.modes in
    let k = c.loop-mode.mode-index in
    let x = c.mode-item.result in
    let items : c.as_slice-mode-items.result.now ≡ all = c.as_slice-mode-items.ensures ∙ ap (λ (l : LaneShapeMade). l.modes) c.lane.view_is in
    let within : k < length c.as_slice-mode-items.result.now = search rules in
    used_put all k x c.loop-mode.modes c.add_used.new.modes (filter is_used (map mode_shape_of all)) (omega (arith, within, ap (λ (xs : List ModeShapeMade). length xs) items)) (c.mode-item.is ∙ ap (λ (xs : List ModeShapeMade). get_or xs k x) items)
    c.loop-mode.invariant c.in_ok-add_used.ensures

pub returns : goal.returns
returns c = grind (arith, common_steps)
