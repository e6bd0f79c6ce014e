use Rattle.std.proofs.Common.{◌≡◌, ◌∙◌, sym, ap, subst}
use Rattle.av_flat.specs.Trees.{Tree, view, reference, pick}
use Rattle.av_flat.specs.Broadcasts.{references}
use Rattle.av_flat.specs.Signatures.{signatures}
use Rattle.av_space.specs.declared.origin.Origin.TheVariants as origin
use Rattle.av_flat.specs.Sites.{PlaceMade, place_of}
use Rattle.av_space.specs.Spots.{system_of, IsOriginBy}
use Rattle.av_space.proofs.SpotPlaces.{IsPlaceBy}
use Rattle.av_space.proofs.SpotReadings.{known}
use Rattle.av_space.proofs.SpotOrigins.{no_place, port_site, reads_port, reads_some, reads_link, pick_read, picks_none, picks_link}
use Rattle.av_space.proofs.array.Array.origin.Goals as goal

pub port-requires-clause-site : goal.port-requires-clause-site
port-requires-clause-site c =
    let tree : view c.args.site.now.place.tree ≡ reference c.in-Ref.var c.in-Ref.map = ap (λ (p : PlaceMade). view p.tree) (sym c.place.view_is) ∙ ap view c.in-Ref.is in
    port_site c.args.self.now c.requires.array c.args.spot.now c.requires.spot c.args.site.now c.requires.site c.args.slot.now c.requires.slot c.in-Ref.var c.in-Ref.map tree (sym c.if-not-is_computed_at.ensures)

pub returns-then-not-is_computed_at : goal.returns-then-not-is_computed_at
returns-then-not-is_computed_at c =
    let tree : view c.args.site.now.place.tree ≡ reference c.in-Ref.var c.in-Ref.map = ap (λ (p : PlaceMade). view p.tree) (sym c.place.view_is) ∙ ap view c.in-Ref.is in
    subst (λ (t : Tree). IsOriginBy c.args.self.now c.args.spot.now c.args.slot.now (place_of c.args.site.now.place) c.args.site.now.pipeline t (origin.Port c.port.result)) (sym tree)
    (reads_port c.args.self.now c.requires.array c.args.spot.now c.requires.spot c.args.site.now c.requires.site c.args.slot.now c.requires.slot c.in-Ref.var c.in-Ref.map tree (sym c.if-not-is_computed_at.ensures) c.port.result c.port.ensures)

pub unreachable-requires : goal.unreachable-requires
unreachable-requires c =
    let tree : view c.args.site.now.place.tree ≡ reference c.in-Ref.var c.in-Ref.map = ap (λ (p : PlaceMade). view p.tree) (sym c.place.view_is) ∙ ap view c.in-Ref.is in
    reads_some c.args.self.now c.requires.array c.args.spot.now c.requires.spot c.args.site.now c.requires.site c.args.slot.now c.requires.slot c.in-Ref.var c.in-Ref.map tree c.in_default-linked.ensures

pub linked-requires-in-Pick-clause-computed : goal.linked-requires-in-Pick-clause-computed
linked-requires-in-Pick-clause-computed c =
    let tree : view c.args.site.now.place.tree ≡ pick c.in-Pick.var c.in-Pick.choices c.in-Pick.otherwise.bits = ap (λ (p : PlaceMade). view p.tree) (sym c.place.view_is) ∙ ap view c.in-Pick.is in
    pick_read c.args.self.now c.requires.array c.args.spot.now c.requires.spot c.args.site.now c.requires.site c.args.slot.now c.requires.slot c.in-Pick.var c.in-Pick.choices c.in-Pick.otherwise.bits tree

pub unreachable-requires-in_default : goal.unreachable-requires-in_default
unreachable-requires-in_default c =
    let s = system_of c.args.self.now in
    let whole = references (view c.args.spot.now.piece.now.tree) in
    let e : view c.args.site.now.place.tree ≡ view c.place.inside.tree.now = ap (λ (p : PlaceMade). view p.tree) (sym c.place.view_is) in
    no_place (signatures s) whole (place_of c.args.site.now.place) c.place.inside.tree.now c.in_default.not-Ref c.in_default.not-Pick
    (subst (IsPlaceBy (signatures s) whole (place_of c.args.site.now.place)) e (known c.args.self.now c.requires.array c.args.spot.now c.requires.spot c.args.site.now c.requires.site))

pub returns-in-Some : goal.returns-in-Some
returns-in-Some c =
    let tree : view c.args.site.now.place.tree ≡ reference c.in-Ref.var c.in-Ref.map = ap (λ (p : PlaceMade). view p.tree) (sym c.place.view_is) ∙ ap view c.in-Ref.is in
    let r = c.in-Some.reading in
    let read = c.in-Some.ensures in
    subst (λ (t : Tree). IsOriginBy c.args.self.now c.args.spot.now c.args.slot.now (place_of c.args.site.now.place) c.args.site.now.pipeline t (origin.Value r.producer r.delay)) (sym tree)
    (reads_link c.args.self.now c.requires.array c.args.spot.now c.requires.spot c.args.site.now c.requires.site c.args.slot.now c.requires.slot c.in-Ref.var c.in-Ref.map tree (sym c.if-not-is_computed_at.ensures) r.producer.0 r.delay read.1)

pub returns-in-Some-linked : goal.returns-in-Some-linked
returns-in-Some-linked c =
    let tree : view c.args.site.now.place.tree ≡ pick c.in-Pick.var c.in-Pick.choices c.in-Pick.otherwise.bits = ap (λ (p : PlaceMade). view p.tree) (sym c.place.view_is) ∙ ap view c.in-Pick.is in
    let r = c.in-Some-linked.reading in
    let read = c.in-Some-linked.ensures in
    subst (λ (t : Tree). IsOriginBy c.args.self.now c.args.spot.now c.args.slot.now (place_of c.args.site.now.place) c.args.site.now.pipeline t (origin.Value r.producer r.delay)) (sym tree)
    (picks_link c.args.self.now c.requires.array c.args.spot.now c.requires.spot c.args.site.now c.requires.site c.args.slot.now c.requires.slot c.in-Pick.var c.in-Pick.choices c.in-Pick.otherwise.bits tree r.producer.0 r.delay read.0 read.1)

pub returns-in-None : goal.returns-in-None
returns-in-None c =
    let tree : view c.args.site.now.place.tree ≡ pick c.in-Pick.var c.in-Pick.choices c.in-Pick.otherwise.bits = ap (λ (p : PlaceMade). view p.tree) (sym c.place.view_is) ∙ ap view c.in-Pick.is in
    subst (λ (t : Tree). IsOriginBy c.args.self.now c.args.spot.now c.args.slot.now (place_of c.args.site.now.place) c.args.site.now.pipeline t (origin.Number c.in-Pick.otherwise)) (sym tree)
    (picks_none c.args.self.now c.requires.array c.args.spot.now c.requires.spot c.args.site.now c.requires.site c.args.slot.now c.requires.slot c.in-Pick.var c.in-Pick.choices c.in-Pick.otherwise.bits tree c.in-None.ensures)
