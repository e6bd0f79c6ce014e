use Rattle.std.proofs.Common.{◌≡◌, ◌∙◌, Option, false, true, refl, sym, ap, subst, IsTrue}
use Rattle.std.specs.Prelude.{MatchOption, not, is_some}
use Rattle.std.proofs.lemmas.Result.{on_ok_weaker}
use Rattle.av_flat.specs.Helped.{before}
use Rattle.av_flat.specs.Points.{has}
use Rattle.av_flat.specs.Trees.{view, view_piece}
use Rattle.av_space.specs.declared.stretch.TapReading.{TapReading}
use Rattle.av_flat.specs.Sites.{place_of}
use Rattle.av_space.specs.Spots.{IsLinkedBy, handed_tap}
use Rattle.av_space.specs.Taps.{Pipeline, IsReadAt}
use Rattle.av_build.specs.inner.Blueprints.{seen, spot_of, lanes_of}
use Rattle.av_build.proofs.PipelinePushes.{handed_added, entry_added}
use Rattle.av_build.proofs.Handovers.{helper_of_producer}
use Rattle.av_build.proofs.PlaceSources.{pipeline_link, pipeline_own}
use Rattle.av_build.proofs.blueprint.Blueprint.add_pipeline_moment.Goals as goal

pub handed_source-source-requires-clause-lane : goal.handed_source-source-requires-clause-lane
handed_source-source-requires-clause-lane c =
    let b = c.args.self.now in
    let at = c.args.spot.now in
    let r = c.in-Some.reading in
    let inside : Type 0 = IsTrue (has at.piece.now.domain (before c.args.slot.now.point c.args.pipeline.now.direction)) in
    let told = subst (λ (o : Option TapReading). MatchOption o (inside → ⊥) (λ r. inside × IsLinkedBy b.array at c.args.slot.now.cycle (handed_tap (place_of c.args.site.now.place) c.args.pipeline.now) r.producer.0 r.delay)) c.in-Some.is c.handed-reading.ensures in
    helper_of_producer b c.requires.blueprint at c.requires.spot c.args.site.now c.requires.site c.args.pipeline.now c.requires.pipeline c.args.slot.now c.requires.slot told.0 r.producer.0 r.delay told.1

pub own_source-source-requires-clause-entered : goal.own_source-source-requires-clause-entered
own_source-source-requires-clause-entered c =
    let b = c.args.self.now in
    let at = c.args.spot.now in
    let inside : Type 0 = IsTrue (has at.piece.now.domain (before c.args.slot.now.point c.args.pipeline.now.direction)) in
    let told = subst (λ (o : Option TapReading). MatchOption o (inside → ⊥) (λ r. inside × IsLinkedBy b.array at c.args.slot.now.cycle (handed_tap (place_of c.args.site.now.place) c.args.pipeline.now) r.producer.0 r.delay)) c.in-None.is c.handed-reading.ensures in
    subst (λ (o : Option Pipeline). IsReadAt o (view_piece at.piece.now) c.args.slot.now.point) (sym c.requires.pipeline) (c.requires.slot.within, told)

pub returns-in-Some : goal.returns-in-Some
returns-in-Some c =
    let b = c.args.self.now in
    let at = c.args.spot.now in
    let mine = c.args.site.now in
    let r = c.in-Some.reading in
    let lanes = lanes_of b.cells in
    let source = c.handed_source-source.result in
    let inside : Type 0 = IsTrue (has at.piece.now.domain (before c.args.slot.now.point c.args.pipeline.now.direction)) in
    let told = subst (λ (o : Option TapReading). MatchOption o (inside → ⊥) (λ r. inside × IsLinkedBy b.array at c.args.slot.now.cycle (handed_tap (place_of mine.place) c.args.pipeline.now) r.producer.0 r.delay)) c.in-Some.is c.handed-reading.ensures in
    let is_own : c.is_some-is_own.result ≡ true = c.is_some-is_own.ensures ∙ ap is_some c.in-Some.is in
    let link = pipeline_link b.array lanes at mine c.requires.site c.args.slot.now c.args.pipeline.now c.requires.pipeline (view mine.place.tree) refl r.producer.0 r.delay source c.handed_source-source.ensures told.1 in
    on_ok_weaker c.push-in-Some.result (λ pushed. handed_added (seen b.array) lanes (spot_of at) mine.place.site c.args.pipeline.now (view mine.place.tree) c.args.slot.now c.args.number c.args.moments.now
    (record { entries = c.args.moments.now.entries; own = c.push-in-Some.new.self; entry_marks = c.push.new.self; own_marks = c.push-2.new.self })
    (record { number = c.args.number; holds = not c.is_some-is_own.result }) (record { number = c.args.number; holds = c.is_some-is_own.result })
    c.in_ok-push.ensures.ok refl c.in_ok-push-2.ensures.ok refl (record { number = c.args.number; source = source }) refl (ap not is_own) is_own told.0 pushed refl link) c.push-in-Some.ensures.ok

pub returns-in-None : goal.returns-in-None
returns-in-None c =
    let b = c.args.self.now in
    let at = c.args.spot.now in
    let mine = c.args.site.now in
    let lanes = lanes_of b.cells in
    let source = c.own_source-source.result in
    let inside : Type 0 = IsTrue (has at.piece.now.domain (before c.args.slot.now.point c.args.pipeline.now.direction)) in
    let told = subst (λ (o : Option TapReading). MatchOption o (inside → ⊥) (λ r. inside × IsLinkedBy b.array at c.args.slot.now.cycle (handed_tap (place_of mine.place) c.args.pipeline.now) r.producer.0 r.delay)) c.in-None.is c.handed-reading.ensures in
    let not_own : c.is_some-is_own.result ≡ false = c.is_some-is_own.ensures ∙ ap is_some c.in-None.is in
    let own = pipeline_own b.array lanes at mine c.requires.site c.args.slot.now c.args.pipeline.now c.requires.pipeline (view mine.place.tree) refl source c.own_source-source.ensures in
    on_ok_weaker c.push-in-None.result (λ pushed. entry_added (seen b.array) lanes (spot_of at) mine.place.site c.args.pipeline.now (view mine.place.tree) c.args.slot.now c.args.number c.args.moments.now
    (record { entries = c.push-in-None.new.self; own = c.args.moments.now.own; entry_marks = c.push.new.self; own_marks = c.push-2.new.self })
    (record { number = c.args.number; holds = not c.is_some-is_own.result }) (record { number = c.args.number; holds = c.is_some-is_own.result })
    c.in_ok-push.ensures.ok refl c.in_ok-push-2.ensures.ok refl (record { number = c.args.number; source = source }) refl (ap not not_own) not_own c.requires.slot.within told pushed refl own) c.push-in-None.ensures.ok
