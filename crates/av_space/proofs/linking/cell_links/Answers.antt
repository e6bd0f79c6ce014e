use Rattle.std.proofs.Common.{rules, ◌≡◌, ◌≤◌, ℕ, List, [], length, get_or, Some, sym, subst, ap, ◌∙◌, arith}
use Rattle.std.specs.Prelude.{slice_get}
use Rattle.std.proofs.lemmas.List.{length-map, nil_from_length}
use Rattle.av_flat.specs.Trees.{view_system, view_variable}
use Rattle.av_space.specs.declared.layout.Slot.{Slot}
use Rattle.av_space.specs.Taps.{Tap, IsTapped}
use Rattle.av_space.specs.inner.Readings.{taps_of_reader}
use Rattle.av_space.specs.inner.Runs.{AreRunsFrom}
use Rattle.av_space.specs.inner.Sites.{tap_of}
use Rattle.av_space.specs.inner.Stretches.{HasLinks, IsOn, IsBetween}
use Rattle.av_space.proofs.JoinedLinks.{between_more, none_between, of_others}
use Rattle.av_space.proofs.SiteLinks.{empty_run, few_sites, piece_of_reader}
use Rattle.av_space.proofs.SiteRuns.{next_run}
use Rattle.av_space.proofs.linking.cell_links.Goals as goal
use Rattle.av_space.proofs.linking.cell_links.Goals.{then-not-is_empty+in_ok-run_links, else-not-is_empty}
use Rattle.av_base.proofs.Lists.{get_mapped, nothing_left}

pub loop-run-init : goal.loop-run-init
loop-run-init c =
    let at = c.args.scheduled.now in
    (0, none_between (IsTapped (view_system at.timed.flat) at.timed.helpers at.layout.placements at.layout.cells) c.args.consumer.now.number.0 0 c.args.links.now, c.requires.runs)

pub site_at-site-requires : goal.site_at-site-requires
site_at-site-requires c =
    let taps = taps_of_reader c.args.scheduled.now c.args.consumer.now in
    let run = (next_run taps c.loop-run.invariant.0 c.loop-run.run-index c.args.runs.now (record { first = 0; end = 0 }) c.loop-run-test.true c.loop-run.invariant.2).1 in
    let many = ap (λ (ts : List Tap). length ts) c.requires.sites in
    let size = length-map c.args.sites.now tap_of in
    let some = run.some in
    let within = run.within in
    omega (arith, many, size, some, within)

pub slots_at-requires : goal.slots_at-requires
slots_at-requires c =
    let at = c.args.scheduled.now in
    let reader = c.args.consumer.now in
    let site = c.site_at-site.result.now in
    let first = (get_or c.args.runs.now c.loop-run.run-index (record { first = 0; end = 0 })).first in
    let is_tap = ap (λ (ts : List Tap). slice_get ts first) (sym c.requires.sites) ∙ get_mapped tap_of c.args.sites.now first site c.site_at-site.ensures in
    let low = piece_of_reader at reader c.requires.consumer c.args.own.now c.requires.own first (tap_of site) is_tap in
    let piece = c.piece.ensures in
    omega (arith, low, piece)

pub run_links-requires-clause-run : goal.run_links-requires-clause-run
run_links-requires-clause-run c =
    let taps = taps_of_reader c.args.scheduled.now c.args.consumer.now in
    (next_run taps c.loop-run.invariant.0 c.loop-run.run-index c.args.runs.now (record { first = 0; end = 0 }) c.loop-run-test.true c.loop-run.invariant.2).1

pub loop-run-preserved : goal.loop-run-preserved
loop-run-preserved c =
    let at = c.args.scheduled.now in
    let reader = c.args.consumer.now in
    let T = IsTapped (view_system at.timed.flat) at.timed.helpers at.layout.placements at.layout.cells in
    let p = reader.number.0 in
    let taps = taps_of_reader at reader in
    let reached = c.loop-run.invariant.0 in
    let run = get_or c.args.runs.now c.loop-run.run-index (record { first = 0; end = 0 }) in
    let turn = next_run taps reached c.loop-run.run-index c.args.runs.now (record { first = 0; end = 0 }) c.loop-run-test.true c.loop-run.invariant.2 in
    let site = c.site_at-site.result.now in
    let slots = c.slots_at.result.now in
    let mid = c.loop-run.links in
    let some = turn.1.some in
    let begins = turn.0 in
    let added : HasLinks T (IsBetween p run.first run.end) mid c.if-not-is_empty.links = elim c.if-not-is_empty.branch [
      | then-not-is_empty+in_ok-run_links w ↦ subst (HasLinks T (IsBetween p run.first run.end) mid) (sym w.links-is) w.in_ok-run_links.ensures
      | else-not-is_empty w ↦ (
          let is_tap = ap (λ (ts : List Tap). slice_get ts run.first) (sym c.requires.sites) ∙ get_mapped tap_of c.args.sites.now run.first site c.site_at-site.ensures in
          let size : length slots ≡ 0 = search rules in
          let none : slice_get c.args.own.now site.place.piece ≡ Some [] = ap (slice_get c.args.own.now) (sym c.piece.ensures) ∙ c.slots_at.ensures ∙ ap (λ (ts : List Slot). Some ts) (nil_from_length slots size) in
          subst (HasLinks T (IsBetween p run.first run.end) mid) (sym w.links-is) (empty_run at reader c.requires.consumer c.args.own.now c.requires.own run.first run.end turn.1 (tap_of site) is_tap none mid))
    ] in (
      run.end,
      between_more T p 0 reached run.end c.args.links.now mid c.if-not-is_empty.links (omega arith) (omega (arith, some, begins)) c.loop-run.invariant.1
          (subst (λ (n : ℕ). HasLinks T (IsBetween p n run.end) mid c.if-not-is_empty.links) begins added),
      turn.2,
    )

pub returns : goal.returns
returns c =
    let s = view_system c.args.scheduled.now.timed.flat in
    let hs = c.args.scheduled.now.timed.helpers in
    let placings = c.args.scheduled.now.layout.placements in
    let cells = c.args.scheduled.now.layout.cells in
    let p = c.args.consumer.now.number.0 in
    let end = c.loop-run.invariant.0 in
    let over : length c.args.runs.now ≤ c.loop-run.run-index = search rules in
    let whole : end ≡ length (taps_of_reader c.args.scheduled.now c.args.consumer.now) =
    subst (AreRunsFrom (taps_of_reader c.args.scheduled.now c.args.consumer.now) end) (nothing_left c.args.runs.now c.loop-run.run-index over) c.loop-run.invariant.2 in
    of_others (IsTapped s hs placings cells) (IsBetween p 0 end) (IsOn p) c.args.links.now c.loop-run.links (λ k i a. a.0)
    (λ k j i q d e t.
    let here = subst (λ (a : ℕ). IsTapped s hs placings cells a j i q d) e t in
    let low = few_sites s hs placings cells p c.args.consumer.now.node.0 (view_variable c.args.consumer.now.var.now) c.args.consumer.now.slots.now c.requires.consumer.is j i q d here in
    (e, omega arith, omega (arith, low, whole)))
    c.loop-run.invariant.1
