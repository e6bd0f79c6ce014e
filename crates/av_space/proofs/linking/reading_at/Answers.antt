use Rattle.std.proofs.Common.{rules, ◌≤◌, ◌^◌, length, arith, sym, subst, ◌∙◌, IsTrue}
use Rattle.std.specs.Prelude.{unsigned_abs}
use Rattle.std.proofs.lemmas.List.Elements.{All-weaker}
use Rattle.std.proofs.lemmas.Grind.{common_steps}
use Rattle.av_flat.specs.declared.timed.Timed.{Timed}
use Rattle.av_flat.specs.Points.{has}
use Rattle.av_flat.specs.Trees.{view, view_piece, view_system}
use Rattle.av_space.specs.inner.Sites.{tap_of, way_of}
use Rattle.av_space.specs.inner.Readings.{IsFineTap}
use Rattle.av_space.specs.Taps.{IsTapRead}
use Rattle.av_space.proofs.OneReading.{site_fine, read_before, slot_point, only_reading, reads_earlier}
use Rattle.av_space.proofs.linking.reading_at.Goals as goal

pub read_at-requires-clause-site : goal.read_at-requires-clause-site
read_at-requires-clause-site c =
    let s = c.requires in
    let at = c.args.scheduled.now in
    let tap = tap_of c.args.site.now in
    let fine = site_fine at.timed at.layout c.timed-timed.ensures.scheduled.legal c.timed-timed.ensures.scheduled.layout s.2.consumer s.2.number c.args.node.0 tap (view_piece c.args.piece.now) s.0 s.2.is in
    subst (λ (t : Timed). IsFineTap c.args.piece.now.domain.dim (length t.flat.vars) tap) (sym c.timed-timed.ensures.is) fine

pub is_in-requires-clause-fits : goal.is_in-requires-clause-fits
is_in-requires-clause-fits c =
    let s = c.requires in
    (slot_point c.args.scheduled.now.timed c.args.scheduled.now.layout c.timed-timed.ensures.scheduled.legal c.timed-timed.ensures.scheduled.layout s.2.consumer s.2.number c.args.node.0 (tap_of c.args.site.now) (view_piece c.args.piece.now) s.0 s.2.is c.args.slot.now.cycle c.args.slot.now.point s.1).0

pub is_in-requires-clause-small : goal.is_in-requires-clause-small
is_in-requires-clause-small c =
    let s = c.requires in
    let h = (slot_point c.args.scheduled.now.timed c.args.scheduled.now.layout c.timed-timed.ensures.scheduled.legal c.timed-timed.ensures.scheduled.layout s.2.consumer s.2.number c.args.node.0 (tap_of c.args.site.now) (view_piece c.args.piece.now) s.0 s.2.is c.args.slot.now.cycle c.args.slot.now.point s.1).1 in
    All-weaker (λ x. unsigned_abs x ≤ 4095) (λ x. unsigned_abs x ≤ 2 ^ 25) (λ x k. omega (arith, k)) c.args.slot.now.point h

pub read_at-requires-clause-point : goal.read_at-requires-clause-point
read_at-requires-clause-point c =
    let s = c.requires in
    let h = (slot_point c.args.scheduled.now.timed c.args.scheduled.now.layout c.timed-timed.ensures.scheduled.legal c.timed-timed.ensures.scheduled.layout s.2.consumer s.2.number c.args.node.0 (tap_of c.args.site.now) (view_piece c.args.piece.now) s.0 s.2.is c.args.slot.now.cycle c.args.slot.now.point s.1).1 in
    record { within = sym c.is_in.ensures ∙ c.if-not-is_in.false; entries = h }

pub locate-located-requires : goal.locate-located-requires
locate-located-requires c =
    let s = c.requires in
    let read = subst (λ (t : Timed). IsTapRead (view_system t.flat) c.args.node.0 (view c.args.site.now.place.tree) (way_of c.args.site.now.way) (view_piece c.args.piece.now) c.args.slot.now.point c.in_ok-read.read.node.0 c.in_ok-read.read.point) c.timed-timed.ensures.is c.in_ok-read.ensures in
    let inside : IsTrue (has c.args.piece.now.domain c.args.slot.now.point) = sym c.is_in.ensures ∙ c.if-not-is_in.false in
    (read_before c.args.scheduled.now.timed c.args.scheduled.now.layout c.timed-timed.ensures.scheduled.legal c.timed-timed.ensures.scheduled.layout s.2.consumer s.2.number c.args.node.0 (tap_of c.args.site.now) (view_piece c.args.piece.now) s.0 s.2.is c.args.slot.now.cycle c.args.slot.now.point s.1 inside
    c.in_ok-read.read.node.0 c.in_ok-read.read.point read).5.stands.computation

pub overflow_sub-result : goal.overflow_sub-result
overflow_sub-result c =
    let s = c.requires in
    let read = subst (λ (t : Timed). IsTapRead (view_system t.flat) c.args.node.0 (view c.args.site.now.place.tree) (way_of c.args.site.now.way) (view_piece c.args.piece.now) c.args.slot.now.point c.in_ok-read.read.node.0 c.in_ok-read.read.point) c.timed-timed.ensures.is c.in_ok-read.ensures in
    let inside : IsTrue (has c.args.piece.now.domain c.args.slot.now.point) = sym c.is_in.ensures ∙ c.if-not-is_in.false in
    reads_earlier c.args.scheduled.now.timed c.args.scheduled.now.layout c.timed-timed.ensures.scheduled.legal c.timed-timed.ensures.scheduled.layout s.2.consumer s.2.number c.args.node.0 (tap_of c.args.site.now) (view_piece c.args.piece.now) s.0 s.2.is c.args.slot.now.cycle c.args.slot.now.point s.1 inside
    c.in_ok-read.read.node.0 c.in_ok-read.read.point read c.locate-located.result.cell.0 c.locate-located.result.cycle c.locate-located.ensures

pub returns : goal.returns
returns c =
    let s = c.requires in
    let read = subst (λ (t : Timed). IsTapRead (view_system t.flat) c.args.node.0 (view c.args.site.now.place.tree) (way_of c.args.site.now.way) (view_piece c.args.piece.now) c.args.slot.now.point c.in_ok-read.read.node.0 c.in_ok-read.read.point) c.timed-timed.ensures.is c.in_ok-read.ensures in
    let inside : IsTrue (has c.args.piece.now.domain c.args.slot.now.point) = sym c.is_in.ensures ∙ c.if-not-is_in.false in
    record {
      cycle = search rules;
      reading = only_reading c.args.scheduled.now.timed c.args.scheduled.now.layout c.timed-timed.ensures.scheduled.legal c.timed-timed.ensures.scheduled.layout s.2.consumer s.2.number c.args.node.0 (tap_of c.args.site.now) (view_piece c.args.piece.now) s.0 s.2.is c.args.slot.now.cycle c.args.slot.now.point s.1 inside
          c.in_ok-read.read.node.0 c.in_ok-read.read.point read c.locate-located.result.cell.0 c.locate-located.result.cycle c.locate-located.ensures;
    }

pub returns-in_err-read-clause-reading : goal.returns-in_err-read-clause-reading
returns-in_err-read-clause-reading c = grind (arith, common_steps)

pub returns-in_err-read-clause-cycle : goal.returns-in_err-read-clause-cycle
returns-in_err-read-clause-cycle c = cc
