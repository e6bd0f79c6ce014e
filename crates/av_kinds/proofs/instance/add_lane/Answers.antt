use Rattle.std.proofs.Common.{◌≡◌, ◌++◌, ◌∙◌, ◌<◌, length, map, ap, arith}
use Rattle.av_kinds.specs.Written.{LaneMade, program_of, mode_of}
use Rattle.av_kinds.specs.Names.{labels}
use Rattle.av_kinds.specs.inner.Instances.{modes_operands}
use Rattle.av_kinds.specs.inner.Shapes.{ModeShapeMade, LaneShapeMade, mode_shape_of}
use Rattle.av_kinds.proofs.InstanceSteps.{mode_within, mode_suits, mode_reads, mode_added}
use Rattle.av_kinds.proofs.instance.add_lane.Goals as goal

pub bounds-modes-of-inside : goal.bounds-modes-of-inside
bounds-modes-of-inside c =
    let shape = c.args.shape.now in
    let lane = c.args.lane.now in
    let shapes = c.as_slice-shapes.result.now in
    let modes = c.as_slice-modes.result.now in
    let of_shapes : shapes ≡ shape.modes = c.as_slice-shapes.ensures ∙ ap (λ (l : LaneShapeMade). l.modes) c.shape.view_is in
    let of_modes : modes ≡ lane.modes = c.as_slice-modes.ensures ∙ ap (λ (l : LaneMade). l.modes) c.lane.view_is in
    let number : c.of.inside.number ≡ c.index-shapes-k.result.number = ap (λ (m : ModeShapeMade). m.number) c.of.view_is in
    mode_within shape lane shapes modes c.loop-k.k c.of.inside.number c.index-shapes-k.result of_shapes of_modes number c.requires.suit c.loop-k-test.true c.index-shapes-k.is

pub offset_bounds-modes-of-inside : goal.offset_bounds-modes-of-inside
offset_bounds-modes-of-inside c =
    let shape = c.args.shape.now in
    let lane = c.args.lane.now in
    let shapes = c.as_slice-shapes.result.now in
    let modes = c.as_slice-modes.result.now in
    let of_shapes : shapes ≡ shape.modes = c.as_slice-shapes.ensures ∙ ap (λ (l : LaneShapeMade). l.modes) c.shape.view_is in
    let of_modes : modes ≡ lane.modes = c.as_slice-modes.ensures ∙ ap (λ (l : LaneMade). l.modes) c.lane.view_is in
    let number : c.of.inside.number ≡ c.index-shapes-k.result.number = ap (λ (m : ModeShapeMade). m.number) c.of.view_is in
    let within : c.of.inside.number < length modes = mode_within shape lane shapes modes c.loop-k.k c.of.inside.number c.index-shapes-k.result of_shapes of_modes number c.requires.suit c.loop-k-test.true c.index-shapes-k.is in
    omega arith

pub add_mode-requires-clause-suit : goal.add_mode-requires-clause-suit
add_mode-requires-clause-suit c =
    let shape = c.args.shape.now in
    let lane = c.args.lane.now in
    let shapes = c.as_slice-shapes.result.now in
    let modes = c.as_slice-modes.result.now in
    let of_shapes : shapes ≡ shape.modes = c.as_slice-shapes.ensures ∙ ap (λ (l : LaneShapeMade). l.modes) c.shape.view_is in
    let of_modes : modes ≡ lane.modes = c.as_slice-modes.ensures ∙ ap (λ (l : LaneMade). l.modes) c.lane.view_is in
    let number : c.of.inside.number ≡ c.index-shapes-k.result.number = ap (λ (m : ModeShapeMade). m.number) c.of.view_is in
    mode_suits shape lane shapes modes c.loop-k.k c.of.inside.number c.index-shapes-k.result of_shapes of_modes number c.requires.suit c.loop-k-test.true c.index-shapes-k.is c.index-modes-of.result c.index-modes-of.is

pub add_mode-requires-clause-there : goal.add_mode-requires-clause-there
add_mode-requires-clause-there c =
    let shape = c.args.shape.now in
    let lane = c.args.lane.now in
    let shapes = c.as_slice-shapes.result.now in
    let modes = c.as_slice-modes.result.now in
    let of_shapes : shapes ≡ shape.modes = c.as_slice-shapes.ensures ∙ ap (λ (l : LaneShapeMade). l.modes) c.shape.view_is in
    let of_modes : modes ≡ lane.modes = c.as_slice-modes.ensures ∙ ap (λ (l : LaneMade). l.modes) c.lane.view_is in
    let number : c.of.inside.number ≡ c.index-shapes-k.result.number = ap (λ (m : ModeShapeMade). m.number) c.of.view_is in
    mode_reads shape lane shapes modes c.loop-k.k c.of.inside.number c.index-shapes-k.result of_shapes of_modes number c.requires.suit c.loop-k-test.true c.index-shapes-k.is c.index-modes-of.result c.index-modes-of.is (length c.args.program.now.lanes) c.requires.there

pub loop-k-preserved : goal.loop-k-preserved
loop-k-preserved c =
    let shape = c.args.shape.now in
    let lane = c.args.lane.now in
    let shapes = c.as_slice-shapes.result.now in
    let modes = c.as_slice-modes.result.now in
    let of_shapes : shapes ≡ shape.modes = c.as_slice-shapes.ensures ∙ ap (λ (l : LaneShapeMade). l.modes) c.shape.view_is in
    let of_modes : modes ≡ lane.modes = c.as_slice-modes.ensures ∙ ap (λ (l : LaneMade). l.modes) c.lane.view_is in
    let number : c.of.inside.number ≡ c.index-shapes-k.result.number = ap (λ (m : ModeShapeMade). m.number) c.of.view_is in
    let names = labels (program_of c.args.program.now) in
    mode_added shape lane shapes modes c.loop-k.k c.of.inside.number c.index-shapes-k.result of_shapes of_modes number c.requires.suit c.loop-k-test.true c.index-shapes-k.is c.index-modes-of.result c.index-modes-of.is names c.loop-k.operands c.add_mode.new.operands (c.args.operands.now ++ modes_operands names (map mode_shape_of shape.modes) (map mode_of lane.modes))
    c.loop-k.invariant c.in_ok-add_mode.ensures
