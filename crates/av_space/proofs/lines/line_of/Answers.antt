use Rattle.std.proofs.Common.{◌≡◌, ℕ, List, [], length, map, get_or, sym, ap, ◌∙◌, arith, Some}
use Rattle.std.specs.Prelude.{slice_get}
use Rattle.std.proofs.lemmas.List.{length-map}
use Rattle.std.proofs.lemmas.Option.{get_or_from_slice_get}
use Rattle.av_flat.specs.Trees.{view_system}
use Rattle.av_space.specs.declared.cells.Cell.{Cell}
use Rattle.av_space.specs.Taps.{Tap, helper_of}
use Rattle.av_space.specs.inner.Sites.{TapMade, tap_of}
use Rattle.av_space.proofs.Elements.{in_range}
use Rattle.av_space.proofs.NodeTaps.{taps_at_node}
use Rattle.av_space.proofs.LineLengths.{tapped_helper}
use Rattle.av_space.proofs.lines.line_of.Goals as goal
use Rattle.av_base.proofs.Lists.{get_mapped, some_is}

pub taps_of_node-own-requires : goal.taps_of_node-own-requires
taps_of_node-own-requires c =
    let r = c.requires.link.begins in
    let x = c.index-cells-link.result in
    let at : slice_get c.cells.result.now c.args.link.now.consumer ≡ Some r.computes.cell = ap (λ (l : List Cell). slice_get l c.args.link.now.consumer) c.cells.ensures.is ∙ r.computes.is_cell in
    let cell : x ≡ r.computes.cell = c.index-cells-link.is ∙ get_or_from_slice_get c.cells.result.now c.args.link.now.consumer r.computes.cell x at in
    let node = ap (λ (y : Cell). y.node) cell ∙ r.computes.stands.node in
    let t = (taps_at_node (view_system c.args.scheduled.now.timed.flat) c.args.scheduled.now.timed.helpers c.args.sites.now c.requires.sites r.node r.variable r.is_variable []).0 in
    omega (arith, t, node)

pub site_at-requires : goal.site_at-requires
site_at-requires c =
    let r = c.requires.link.begins in
    let x = c.index-cells-link.result in
    let at : slice_get c.cells.result.now c.args.link.now.consumer ≡ Some r.computes.cell = ap (λ (l : List Cell). slice_get l c.args.link.now.consumer) c.cells.ensures.is ∙ r.computes.is_cell in
    let cell : x ≡ r.computes.cell = c.index-cells-link.is ∙ get_or_from_slice_get c.cells.result.now c.args.link.now.consumer r.computes.cell x at in
    let node = ap (λ (y : Cell). y.node) cell ∙ r.computes.stands.node in
    let t = (taps_at_node (view_system c.args.scheduled.now.timed.flat) c.args.scheduled.now.timed.helpers c.args.sites.now c.requires.sites r.node r.variable r.is_variable []).1 in
    let own = c.taps_of_node-own.result.now in
    let all : map tap_of own ≡ map tap_of (get_or c.args.sites.now r.node []) = ap (map tap_of) (c.taps_of_node-own.ensures ∙ ap (λ (n : ℕ). get_or c.args.sites.now n []) node) in
    let low = in_range (map tap_of own) c.args.link.now.site r.tap (ap (λ (ts : List Tap). slice_get ts c.args.link.now.site) (all ∙ t) ∙ r.is_tap) in
    let size = length-map own tap_of in
    let items = ap (λ (ts : List TapMade). length ts) c.as_slice.ensures in
    omega (arith, low, size, items)

pub returns : goal.returns
returns c =
    let r = c.requires.link.begins in
    let s = view_system c.args.scheduled.now.timed.flat in
    let hs = c.args.scheduled.now.timed.helpers in
    let l = c.args.link.now in
    let x = c.index-cells-link.result in
    let at : slice_get c.cells.result.now c.args.link.now.consumer ≡ Some r.computes.cell = ap (λ (l : List Cell). slice_get l c.args.link.now.consumer) c.cells.ensures.is ∙ r.computes.is_cell in
    let cell : x ≡ r.computes.cell = c.index-cells-link.is ∙ get_or_from_slice_get c.cells.result.now c.args.link.now.consumer r.computes.cell x at in
    let node = ap (λ (y : Cell). y.node) cell ∙ r.computes.stands.node in
    let t = (taps_at_node s hs c.args.sites.now c.requires.sites r.node r.variable r.is_variable []).1 in
    let own = c.taps_of_node-own.result.now in
    let all : map tap_of own ≡ map tap_of (get_or c.args.sites.now r.node []) = ap (map tap_of) (c.taps_of_node-own.ensures ∙ ap (λ (n : ℕ). get_or c.args.sites.now n []) node) in
    let here : slice_get (map tap_of own) l.site ≡ Some r.tap = ap (λ (ts : List Tap). slice_get ts l.site) (all ∙ t) ∙ r.is_tap in
    let made = c.site_at.result.now in
    let there : slice_get own l.site ≡ Some made = ap (λ (ts : List TapMade). slice_get ts l.site) (sym c.as_slice.ensures) ∙ c.site_at.ensures in
    let one : tap_of made ≡ r.tap = some_is (tap_of made) r.tap (sym (get_mapped tap_of own l.site made there) ∙ here) in
    ap (λ h. record { cell = record { 0 = l.producer }; helper = h })
    (c.helper.ensures ∙ ap (λ (u : Tap). helper_of u.way) one ∙ sym (tapped_helper s hs c.args.scheduled.now.layout.placements c.args.scheduled.now.layout.cells l.consumer l.site l.first l.producer l.delay r))
