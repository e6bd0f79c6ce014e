use Rattle.std.proofs.Common.{ℕ, subst, arith, get_or}
use Rattle.std.proofs.lemmas.Option.{slice_get-get_or}
use Rattle.std.proofs.lemmas.Grind.{elements}
use Rattle.av_flat.specs.Trees.{view}
use Rattle.av_space.specs.Spots.{IsSlotIn}
use Rattle.av_space.proofs.Elements.{at_index}
use Rattle.av_kinds.specs.Counters.{count_in}
use Rattle.av_build.specs.inner.Blueprints.{seen, spot_of, lanes_of}
use Rattle.av_build.specs.inner.Sources.{ArePipelineMomentsTo}
use Rattle.av_build.proofs.PipelineSteps.{no_pipelines, one_pipeline}
use Rattle.av_build.proofs.Pairwise.{element_of}
use Rattle.av_build.proofs.blueprint.Blueprint.pipeline_moments.Goals as goal

pub loop-k-init : goal.loop-k-init
loop-k-init c =
    let b = c.args.self.now in
    let spot = c.args.spot.now in
    let site = c.args.site.now in
    no_pipelines (seen b.array) (count_in c.args.counter) (lanes_of b.cells) (spot_of spot) site.place.site c.args.pipeline.now (view site.place.tree) spot.slots c.args.order.now
    (record { entries = c.new.result; own = c.new-2.result; entry_marks = c.new-3.result; own_marks = c.new-4.result }) c.new.ensures c.new-2.ensures c.new-3.ensures c.new-4.ensures

pub loop-k-preserved : goal.loop-k-preserved
loop-k-preserved c =
    let b = c.args.self.now in
    let spot = c.args.spot.now in
    let site = c.args.site.now in
    let n = c.loop-k.k-index in
    let place = get_or c.args.order.now n 0 in
    let is_place = slice_get-get_or c.args.order.now n 0 c.loop-k-test.true in
    let slot = c.index-slots-k.result in
    let low = c.requires.order.within n place is_place in
    let is_slot = element_of spot.slots c.as_slice-slots.result.now place slot slot c.as_slice-slots.ensures low c.index-slots-k.is in
    one_pipeline (seen b.array) (count_in c.args.counter) (lanes_of b.cells) (spot_of spot) site.place.site c.args.pipeline.now (view site.place.tree) spot.slots c.args.order.now c.requires.order n c.loop-k.moments c.add_pipeline_moment.new.moments c.loop-k.invariant slot
    (record { place = place; is_place = is_place; is_slot = is_slot }) c.number-number.result c.number-number.ensures c.in_ok-add_pipeline_moment.ensures

pub add_pipeline_moment-requires-clause-slot : goal.add_pipeline_moment-requires-clause-slot
add_pipeline_moment-requires-clause-slot c =
    let spot = c.args.spot.now in
    let n = c.loop-k.k-index in
    let place = get_or c.args.order.now n 0 in
    let is_place = slice_get-get_or c.args.order.now n 0 c.loop-k-test.true in
    let slot = c.index-slots-k.result in
    let low = c.requires.order.within n place is_place in
    let is_slot = element_of spot.slots c.as_slice-slots.result.now place slot slot c.as_slice-slots.ensures low c.index-slots-k.is in
    at_index (IsSlotIn c.args.self.now.array spot.cell.0 spot.node.0 spot.piece.now.domain) spot.slots c.requires.spot.are_slots.each place slot is_slot

pub returns : goal.returns
returns c =
    let b = c.args.self.now in
    let spot = c.args.spot.now in
    let site = c.args.site.now in
    let test = c.loop-k-test.false in
    let end = c.loop-k.auto.k-index-end in
    subst (λ (n : ℕ). ArePipelineMomentsTo (seen b.array) (count_in c.args.counter) (lanes_of b.cells) (spot_of spot) site.place.site c.args.pipeline.now (view site.place.tree) spot.slots c.args.order.now n c.loop-k.moments) (omega (arith, test, end)) c.loop-k.invariant

pub bounds-slots-k : goal.bounds-slots-k
bounds-slots-k c = grind (arith, elements)

pub offset_bounds-slots-k : goal.offset_bounds-slots-k
offset_bounds-slots-k c = grind (arith, elements)
