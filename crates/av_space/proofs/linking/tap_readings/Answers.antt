use Rattle.std.proofs.Common.{◌≡◌, length, map, sym, ap, subst, ◌∙◌, arith}
use Rattle.std.specs.Prelude.{slice_get}
use Rattle.std.proofs.lemmas.List.{length-map}
use Rattle.std.proofs.lemmas.Result.{IfOk-weaker}
use Rattle.av_flat.proofs.NodeNumbers.{chained_node}
use Rattle.av_flat.specs.Nodes.{node_place}
use Rattle.av_flat.specs.Trees.{Piece, view_piece, view_system, view_variable}
use Rattle.av_space.specs.inner.Readings.{IsReadingOf, AreReadings, AreReadBy}
use Rattle.av_space.specs.inner.Sites.{tap_of}
use Rattle.av_space.proofs.Elements.{in_range}
use Rattle.av_space.proofs.FineSites.{fine_tap}
use Rattle.av_space.proofs.OwnSlots.{readings_of_own}
use Rattle.av_space.proofs.SiteLinks.{site_on}
use Rattle.av_space.proofs.linking.tap_readings.Goals as goal
use Rattle.av_base.proofs.Lists.{some_is}

pub piece_at-piece-requires : goal.piece_at-piece-requires
piece_at-piece-requires c =
    let s = view_system c.args.scheduled.now.timed.flat in
    let v = view_variable c.args.consumer.now.var.now in
    let f = fine_tap c.args.scheduled.now.timed c.requires.consumer.scheduled.legal (node_place s c.args.consumer.now.node.0) v (chained_node s c.args.consumer.now.node.0 v c.requires.consumer.scheduled.legal.chained c.requires.consumer.is.is_variable)
    c.requires.site.0 (tap_of c.args.site.now) c.requires.site.1 in
    let low = in_range v.pieces c.args.site.now.place.piece f.piece f.is_piece in
    let size = length-map c.args.consumer.now.var.now.pieces view_piece in
    let e = c.piece-place.ensures in
    omega (arith, low, size, e)

pub slots_at-slots-requires : goal.slots_at-slots-requires
slots_at-slots-requires c =
    let s = view_system c.args.scheduled.now.timed.flat in
    let v = view_variable c.args.consumer.now.var.now in
    let f = fine_tap c.args.scheduled.now.timed c.requires.consumer.scheduled.legal (node_place s c.args.consumer.now.node.0) v (chained_node s c.args.consumer.now.node.0 v c.requires.consumer.scheduled.legal.chained c.requires.consumer.is.is_variable)
    c.requires.site.0 (tap_of c.args.site.now) c.requires.site.1 in
    let low = in_range v.pieces c.args.site.now.place.piece f.piece f.is_piece in
    let e = c.piece-place.ensures in
    let size : length (map view_piece c.args.consumer.now.var.now.pieces) ≡ length c.args.consumer.now.var.now.pieces = length-map c.args.consumer.now.var.now.pieces view_piece in
    let many = c.requires.own.number in
    omega (arith, low, e, size, many)

pub readings-requires : goal.readings-requires
readings-requires c = record {
  slots = c.args.consumer.now.slots.now;
  own_is = c.requires.own.each c.piece-place.result (view_piece c.piece_at-piece.result.now) c.slots_at-slots.result.now c.piece_at-piece.ensures c.slots_at-slots.ensures;
  site = record {
    consumer = c.args.consumer.now.number.0;
    number = c.requires.site.0;
    is = site_on (view_system c.args.scheduled.now.timed.flat) c.args.scheduled.now.timed.helpers c.args.scheduled.now.layout.placements c.args.scheduled.now.layout.cells c.args.consumer.now.number.0 c.requires.site.0 c.args.consumer.now.node.0
        (view_variable c.args.consumer.now.var.now) c.args.consumer.now.slots.now c.requires.consumer.is (tap_of c.args.site.now) c.requires.site.1 c.piece-place.result c.piece-place.ensures (view_piece c.piece_at-piece.result.now) c.piece_at-piece.ensures;
  };
}

pub returns : goal.returns
returns c =
    let s = view_system c.args.scheduled.now.timed.flat in
    let placings = c.args.scheduled.now.layout.placements in
    let cells = c.args.scheduled.now.layout.cells in
    let n = c.args.consumer.now.node.0 in
    let t = tap_of c.args.site.now in
    let piece = view_piece c.piece_at-piece.result.now in
    let slots = c.args.consumer.now.slots.now in
    let own = c.slots_at-slots.result.now in
    let own_is = c.requires.own.each c.piece-place.result piece own c.piece_at-piece.ensures c.slots_at-slots.ensures in
    IfOk-weaker c.readings.result (AreReadings (IsReadingOf s placings cells n t piece own)) (AreReadBy c.args.scheduled.now c.args.consumer.now t)
    (λ rs h other is_other.
    let same : piece ≡ other = some_is piece other (sym c.piece_at-piece.ensures ∙ ap (slice_get (view_variable c.args.consumer.now.var.now).pieces) c.piece-place.ensures ∙ is_other) in
    subst (λ (p : Piece). AreReadings (IsReadingOf s placings cells n t p slots) rs) same (readings_of_own s placings cells n t piece slots own own_is rs h))
    c.readings.ensures
