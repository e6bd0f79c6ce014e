use Rattle.std.proofs.Common.{◌+◌, map, refl, arith, rules}
use Rattle.std.proofs.lemmas.Grind.{elements}
use Rattle.av_kinds.specs.Written.{mode_of, lane_of}
use Rattle.av_build.specs.inner.SpotPlans.{spot_by}
use Rattle.av_build.proofs.HelperPlaces.{spot_at}
use Rattle.av_build.proofs.HelperModes.{planned, cell_there, piece_low, piece_is, lane_built}
use Rattle.av_build.proofs.blueprint.Blueprint.pipeline.Goals as goal

pub offset_bounds-as_slice-helper : goal.offset_bounds-as_slice-helper
offset_bounds-as_slice-helper c =
    let low = piece_low c.args.self.now c.requires.blueprint c.args.cell.0 c.args.helper c.requires.helper c.as_slice.result.now c.index-as_slice-cell.result c.as_slice.ensures c.index-as_slice-cell.is c.as_slice-2.result.now c.as_slice-2.ensures in
    let most = c.as_slice-2.type_inv.1 in
    omega (arith, low, most)

pub bounds-as_slice-helper : goal.bounds-as_slice-helper
bounds-as_slice-helper c =
    piece_low c.args.self.now c.requires.blueprint c.args.cell.0 c.args.helper c.requires.helper c.as_slice.result.now c.index-as_slice-cell.result c.as_slice.ensures c.index-as_slice-cell.is c.as_slice-2.result.now c.as_slice-2.ensures

pub planned_spot-requires-clause-spot : goal.planned_spot-requires-clause-spot
planned_spot-requires-clause-spot c =
    let b = c.args.self.now in
    let has = c.requires.helper in
    let at = spot_by b.array c.index-as_slice-helper.result in
    let is_at = piece_is b c.requires.blueprint c.args.cell.0 c.args.helper has c.as_slice.result.now c.index-as_slice-cell.result c.as_slice.ensures c.index-as_slice-cell.is
    c.as_slice-2.result.now c.as_slice-2.ensures c.index-as_slice-helper.result c.index-as_slice-helper.is at refl in
    (spot_at b.array c.requires.blueprint.array c.args.cell.0 has.plan.pieces (c.requires.blueprint.plans.pieces c.args.cell.0 has.plan has.is_plan) c.args.helper.piece at is_at).2

pub pipeline_modes-requires-clause-helper : goal.pipeline_modes-requires-clause-helper
pipeline_modes-requires-clause-helper c =
    let at = c.in_ok-spot.spot in
    let is_at = piece_is c.args.self.now c.requires.blueprint c.args.cell.0 c.args.helper c.requires.helper c.as_slice.result.now c.index-as_slice-cell.result c.as_slice.ensures c.index-as_slice-cell.is
    c.as_slice-2.result.now c.as_slice-2.ensures c.index-as_slice-helper.result c.index-as_slice-helper.is at c.in_ok-spot.ensures in
    (planned c.args.self.now c.requires.blueprint c.args.cell.0 c.args.helper c.requires.helper at is_at).on

pub overflow_add-result : goal.overflow_add-result
overflow_add-result c =
    let at = c.in_ok-spot.spot in
    let is_at = piece_is c.args.self.now c.requires.blueprint c.args.cell.0 c.args.helper c.requires.helper c.as_slice.result.now c.index-as_slice-cell.result c.as_slice.ensures c.index-as_slice-cell.is
    c.as_slice-2.result.now c.as_slice-2.ensures c.index-as_slice-helper.result c.index-as_slice-helper.is at c.in_ok-spot.ensures in
    let few = (planned c.args.self.now c.requires.blueprint c.args.cell.0 c.args.helper c.requires.helper at is_at).few in
    let ranks = c.requires.ranks in
    search (rules, few, ranks)

pub line_length-requires-clause-cell : goal.line_length-requires-clause-cell
line_length-requires-clause-cell c = cell_there c.args.self.now c.requires.blueprint c.args.cell.0 c.args.helper c.requires.helper

pub returns : goal.returns
returns c =
    let p = c.args.cell.0 in
    let h = c.args.helper in
    let at = c.in_ok-spot.spot in
    let is_at = piece_is c.args.self.now c.requires.blueprint p h c.requires.helper c.as_slice.result.now c.index-as_slice-cell.result c.as_slice.ensures c.index-as_slice-cell.is
    c.as_slice-2.result.now c.as_slice-2.ensures c.index-as_slice-helper.result c.index-as_slice-helper.is at c.in_ok-spot.ensures in
    lane_built c.args.self.now c.requires.blueprint p h c.requires.helper c.args.counter at is_at (map mode_of c.in_ok-pipeline_modes.field-0) c.in_ok-pipeline_modes.ensures
    (lane_of (record { home = p; rank = h.number + 1; width = at.var.now.width; modes = c.in_ok-pipeline_modes.field-0; length = c.line_length.result })) refl (omega arith) refl refl c.line_length.ensures

pub bounds-as_slice-cell : goal.bounds-as_slice-cell
bounds-as_slice-cell c = grind (arith, elements)

pub offset_bounds-as_slice-cell : goal.offset_bounds-as_slice-cell
offset_bounds-as_slice-cell c = grind (arith, elements)
