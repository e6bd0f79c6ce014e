use Rattle.std.specs.Prelude.{slice_get}
use Rattle.std.proofs.lemmas.Option.{slice_get-get_or}
use Rattle.std.proofs.Common.{ℕ, List, [], length, map, sym, ap, subst, ◌∙◌, arith, get_or}
use Rattle.av_flat.specs.declared.timed.Timed.{Timed}
use Rattle.av_flat.specs.Trees.{view_system, view_variable}
use Rattle.av_space.specs.declared.cells.Cell.{Cell}
use Rattle.av_space.specs.declared.layout.Slot.{Slot}
use Rattle.av_space.specs.declared.runs.SiteRun.{SiteRun}
use Rattle.av_space.specs.Taps.{Tap, IsTapped}
use Rattle.av_space.specs.inner.Sites.{TapMade, tap_of, AreNodeTaps}
use Rattle.av_space.specs.inner.Readings.{AreOwn}
use Rattle.av_space.specs.inner.Runs.{AreRuns, AreNodeRuns}
use Rattle.av_space.specs.inner.Stretches.{HasLinks, IsOn}
use Rattle.av_space.proofs.OwnSlots.{pieces_of_consumer}
use Rattle.av_space.proofs.JoinedLinks.{below_more_cells}
use Rattle.av_space.proofs.NodeTaps.{taps_at_node}
use Rattle.av_space.proofs.SiteLinks.{are_links}
use Rattle.av_space.proofs.linking.links.Goals as goal

pub taps_of_node-own-requires : goal.taps_of_node-own-requires
taps_of_node-own-requires c =
    let x = c.consumer_at-consumer.result in
    let l = (taps_at_node (view_system c.args.scheduled.now.timed.flat) c.args.scheduled.now.timed.helpers c.in_ok-sites.sites (subst (λ (t : Timed). AreNodeTaps (view_system t.flat) t.helpers c.in_ok-sites.sites) c.timed.ensures.is c.in_ok-sites.ensures) x.node.0 (view_variable x.var.now) c.consumer_at-consumer.ensures.consumer.is.is_variable []).0 in
    let e = ap (λ (ts : List (List TapMade)). length ts) c.as_slice-in-loop-number.ensures in
    omega (arith, l, e)

pub cell_links-requires-clause-sites : goal.cell_links-requires-clause-sites
cell_links-requires-clause-sites c =
    let x = c.consumer_at-consumer.result in
    let at = (taps_at_node (view_system c.args.scheduled.now.timed.flat) c.args.scheduled.now.timed.helpers c.in_ok-sites.sites (subst (λ (t : Timed). AreNodeTaps (view_system t.flat) t.helpers c.in_ok-sites.sites) c.timed.ensures.is c.in_ok-sites.ensures) x.node.0 (view_variable x.var.now) c.consumer_at-consumer.ensures.consumer.is.is_variable []).1 in
    ap (λ (ts : List TapMade). map tap_of ts) (c.as_slice-in-loop-number-3.ensures ∙ c.taps_of_node-own.ensures ∙ ap (λ (ts : List (List TapMade)). get_or ts x.node.0 []) c.as_slice-in-loop-number.ensures) ∙ at

pub runs_of_node-own_runs-requires : goal.runs_of_node-own_runs-requires
runs_of_node-own_runs-requires c =
    let x = c.consumer_at-consumer.result in
    let l = (taps_at_node (view_system c.args.scheduled.now.timed.flat) c.args.scheduled.now.timed.helpers c.in_ok-sites.sites (subst (λ (t : Timed). AreNodeTaps (view_system t.flat) t.helpers c.in_ok-sites.sites) c.timed.ensures.is c.in_ok-sites.ensures) x.node.0 (view_variable x.var.now) c.consumer_at-consumer.ensures.consumer.is.is_variable []).0 in
    let made = c.in_ok-runs.ensures in
    let many = made.number in
    let e = ap (λ (rs : List (List SiteRun)). length rs) c.as_slice-in-loop-number-2.ensures in
    let f = ap (λ (ts : List (List TapMade)). length ts) c.as_slice.ensures in
    omega (arith, l, many, e, f)

pub cell_links-requires-clause-runs : goal.cell_links-requires-clause-runs
cell_links-requires-clause-runs c =
    let x = c.consumer_at-consumer.result in
    let n = x.node.0 in
    let sites = c.in_ok-sites.sites in
    let at = taps_at_node (view_system c.args.scheduled.now.timed.flat) c.args.scheduled.now.timed.helpers sites (subst (λ (t : Timed). AreNodeTaps (view_system t.flat) t.helpers sites) c.timed.ensures.is c.in_ok-sites.ensures) n (view_variable x.var.now) c.consumer_at-consumer.ensures.consumer.is.is_variable [] in
    let made = subst (λ (ts : List (List TapMade)). AreNodeRuns ts c.in_ok-runs.runs) c.as_slice.ensures c.in_ok-runs.ensures in
    let is_runs = ap (λ (rs : List (List SiteRun)). slice_get rs n) (sym c.as_slice-in-loop-number-2.ensures) ∙ c.runs_of_node-own_runs.ensures in
    subst (λ (ts : List Tap). AreRuns ts c.runs_of_node-own_runs.result.now) at.1 (made.each n (get_or sites n []) c.runs_of_node-own_runs.result.now (slice_get-get_or sites n [] at.0) is_runs)

pub slots_of_pieces-requires : goal.slots_of_pieces-requires
slots_of_pieces-requires c =
    let x = c.consumer_at-consumer.result in
    pieces_of_consumer c.args.scheduled.now.timed c.args.scheduled.now.layout x.number.0 x.node.0 (view_variable x.var.now) x.slots.now c.timed.ensures.scheduled.legal c.timed.ensures.scheduled.layout c.consumer_at-consumer.ensures.consumer.is

pub cell_links-requires-clause-own : goal.cell_links-requires-clause-own
cell_links-requires-clause-own c =
    let x = c.consumer_at-consumer.result in
    subst (λ (own : List (List Slot)). AreOwn (view_variable x.var.now) x.slots.now own) (sym c.as_slice-in-loop-number-4.ensures) c.in_ok-slots.ensures

pub loop-number-preserved : goal.loop-number-preserved
loop-number-preserved c =
    let T = IsTapped (view_system c.args.scheduled.now.timed.flat) c.args.scheduled.now.timed.helpers c.args.scheduled.now.layout.placements c.args.scheduled.now.layout.cells in
    below_more_cells T c.loop-number.number [] c.loop-number.links c.cell_links.new.links c.loop-number.invariant
    (subst (λ (p : ℕ). HasLinks T (IsOn p) c.loop-number.links c.cell_links.new.links) c.consumer_at-consumer.ensures.number c.in_ok-cell_links.ensures)

pub returns : goal.returns
returns c =
    let done = c.loop-number-test.false in
    let all = ap (λ (l : List Cell). length l) c.cells-number-end.ensures.is in
    record { scheduled = c.timed.ensures.scheduled; are = are_links (view_system c.args.scheduled.now.timed.flat) c.args.scheduled.now.timed.helpers c.args.scheduled.now.layout.placements c.args.scheduled.now.layout.cells c.loop-number.number c.loop-number.links (omega (arith, done, all)) c.loop-number.invariant }
