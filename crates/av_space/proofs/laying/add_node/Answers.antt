use Rattle.std.proofs.Common.{◌≡◌, ◌∙◌, ◌-◌, ◌++◌, ◌∷◌, [], List, get_or, sym, subst, ap}
use Rattle.std.proofs.lemmas.Option.{slice_get-get_or}
use Rattle.av_flat.specs.Trees.{view_system}
use Rattle.av_space.specs.inner.Laying.{AreRanked, cell_of}
use Rattle.av_space.specs.declared.layout.Slot.{Slot}
use Rattle.av_tree.specs.Points.{Point}
use Rattle.av_space.proofs.Grouped.{slots_of}
use Rattle.av_space.proofs.Nodes.{time_at}
use Rattle.av_space.proofs.Laid.{laid_none, laid_more, laid_all}
use Rattle.av_space.proofs.laying.add_node.Goals as goal

pub loop-start-init : goal.loop-start-init
loop-start-init c = laid_none (view_system c.args.timed.now.flat) c.args.node.0 c.args.placement.now c.as_slice-ranked.result.now c.args.cells.now c.args.slots.now

pub coordinates-requires-clause-few : goal.coordinates-requires-clause-few
coordinates-requires-clause-few c = (time_at c.args.timed.now c.args.node.0 c.args.placement.now.time c.node_ranked.ensures.legal c.requires.time).few

pub coordinates-requires-clause-fits : goal.coordinates-requires-clause-fits
coordinates-requires-clause-fits c =
    let t = c.args.timed.now in
    let ranked = c.as_slice-ranked.result.now in
    let start = c.loop-start.start in
    let x = c.index-ranked-start.result in
    let are = subst (AreRanked (view_system t.flat) c.args.node.0 c.args.placement.now) (sym c.as_slice-ranked.ensures.value) c.in_ok-all.ensures.ranked in
    (are.each start (get_or ranked start x) (slice_get-get_or ranked start x c.loop-start-test.true)).1.few

pub coordinates-requires-clause-small : goal.coordinates-requires-clause-small
coordinates-requires-clause-small c =
    let t = c.args.timed.now in
    let ranked = c.as_slice-ranked.result.now in
    let start = c.loop-start.start in
    let x = c.index-ranked-start.result in
    let are = subst (AreRanked (view_system t.flat) c.args.node.0 c.args.placement.now) (sym c.as_slice-ranked.ensures.value) c.in_ok-all.ensures.ranked in
    (are.each start (get_or ranked start x) (slice_get-get_or ranked start x c.loop-start-test.true)).1.small

pub loop-start-preserved : goal.loop-start-preserved
loop-start-preserved c =
    let t = c.args.timed.now in
    let p = c.args.placement.now in
    let ranked = c.as_slice-ranked.result.now in
    let start = c.loop-start.start in
    let first = get_or ranked start c.index-ranked-start.result in
    let are = subst (AreRanked (view_system t.flat) c.args.node.0 p) (sym c.as_slice-ranked.ensures.value) c.in_ok-all.ensures.ranked in
    let new : c.push.new.self ≡ c.loop-start.cells ++ cell_of c.args.node.0 p first ∷ [] = c.in_ok-push.ensures.ok ∙ ap (λ (at : Point). c.loop-start.cells ++ record { node = c.args.node.0; at = at } ∷ []) c.coordinates.ensures.value in
    let new_slots : c.push-in-loop-start.new.self ≡ c.loop-start.slots ++ slots_of ranked start (c.run_end-end.result - start) ∷ [] = c.in_ok-push-2.ensures.ok ∙ ap (λ (own : List Slot). c.loop-start.slots ++ own ∷ []) c.in_ok-own.ensures in
    laid_more t c.args.node.0 p ranked start c.run_end-end.result first c.args.cells.now c.loop-start.cells c.push.new.self c.args.slots.now c.loop-start.slots c.push-in-loop-start.new.self c.node_ranked.ensures.legal c.requires.placing c.requires.time are
    (slice_get-get_or ranked start c.index-ranked-start.result c.loop-start-test.true) c.run_end-end.ensures new new_slots c.loop-start.invariant

pub returns-clause-cells : goal.returns-clause-cells
returns-clause-cells c =
    let t = c.args.timed.now in
    let p = c.args.placement.now in
    let are = subst (AreRanked (view_system t.flat) c.args.node.0 p) (sym c.as_slice-ranked.ensures.value) c.in_ok-all.ensures.ranked in
    laid_all t c.args.node.0 p c.as_slice-ranked.result.now c.loop-start.start c.args.cells.now c.loop-start.cells c.args.slots.now c.loop-start.slots c.node_ranked.ensures.legal c.requires.placing c.requires.time are c.loop-start-test.false c.loop-start.invariant
