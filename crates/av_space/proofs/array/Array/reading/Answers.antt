use Rattle.std.proofs.Common.{◌≡◌, ◌∙◌, ℕ, ◌↔◌, List, Some, sym, ap, subst}
use Rattle.std.specs.Prelude.{Contains}
use Rattle.av_flat.specs.declared.timed.Timed.{Timed}
use Rattle.av_flat.specs.Legal.{IsLegal}
use Rattle.av_flat.specs.Trees.{view_piece}
use Rattle.av_space.specs.declared.layout.Slot.{Slot}
use Rattle.av_space.specs.Layouts.{IsLayout}
use Rattle.av_space.specs.inner.Readings.{IsReadingAt, IsSite}
use Rattle.av_space.specs.inner.Scheduled.{Scheduled, system_of, helpers_of, placings_of, cells_of}
use Rattle.av_space.specs.inner.Sites.{tap_of}
use Rattle.av_space.specs.inner.Stretches.{tap_reading}
use Rattle.av_space.proofs.SpotReadings.{site, read_of}
use Rattle.av_space.proofs.array.Array.reading.Goals as goal

pub new-scheduled-requires-clause-legal : goal.new-scheduled-requires-clause-legal
new-scheduled-requires-clause-legal c = let is = c.requires.array in subst IsLegal (sym is.nodes) is.legal

pub new-scheduled-requires-clause-layout : goal.new-scheduled-requires-clause-layout
new-scheduled-requires-clause-layout c = let is = c.requires.array in subst (λ (t : Timed). IsLayout t c.args.self.now.layout) (sym is.nodes) is.layout

pub reading_at-requires : goal.reading_at-requires
reading_at-requires c =
    let a = c.args.self.now in
    let at = c.args.spot.now in
    let tap = tap_of c.args.tap.now in
    let same = c.new-scheduled.ensures ∙ ap (λ (t : Timed). record { timed = t; layout = a.layout }) c.requires.array.nodes in
    subst (λ (of : Scheduled). (slots : List Slot) × Contains slots c.args.slot.now × IsSite (system_of of) (helpers_of of) (placings_of of) (cells_of of) at.node.0 tap (view_piece at.piece.now) slots) (sym same)
    (site a c.requires.array at c.requires.spot tap c.requires.tap c.args.slot.now c.requires.slot)

pub returns : goal.returns
returns c =
    let a = c.args.self.now in
    let at = c.args.spot.now in
    let tap = tap_of c.args.tap.now in
    let slot = c.args.slot.now in
    let r = c.reading_at.result in
    let same = c.new-scheduled.ensures ∙ ap (λ (t : Timed). record { timed = t; layout = a.layout }) c.requires.array.nodes in
    let reading = subst (λ (of : Scheduled). (q d : ℕ) → IsReadingAt (system_of of) (placings_of of) (cells_of of) at.node.0 tap (view_piece at.piece.now) slot.point slot.cycle q d ↔ (r ≡ Some (tap_reading slot.cycle q d))) same c.reading_at.ensures.reading in
    read_of a c.requires.array at c.requires.spot tap c.requires.tap slot c.requires.slot r c.reading_at.ensures.cycle reading
