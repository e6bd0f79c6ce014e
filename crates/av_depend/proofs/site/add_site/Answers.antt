use Rattle.std.proofs.Common.{rules, ◌≡◌, ◌∙◌, ◌<◌, ◌∷◌, [], length, false, true, refl, sym, ap, subst, arith}
use Rattle.std.proofs.lemmas.List.{nil_from_length}
use Rattle.std.proofs.lemmas.Result.{on_ok_weaker}
use Rattle.std.specs.Prelude.{slice_get}
use Rattle.av_flat.specs.declared.flat.Flat.{Flat}
use Rattle.av_flat.specs.Trees.{view_system}
use Rattle.av_depend.specs.ComputedPlaces.{computed_at}
use Rattle.av_depend.specs.declared.edge.Edge.{Edge}
use Rattle.av_depend.specs.Edges.{AreGenerators, IsEdge}
use Rattle.av_depend.specs.inner.Adding.{HasAdded, site_at}
use Rattle.av_depend.proofs.Adds.{added_without, added_with, no_point_no_pair, not_computed_no_pair, has_pair, place_within, computed_here, here_computed}
use Rattle.av_depend.proofs.site.add_site.Goals as goal

pub returns-then-is_empty : goal.returns-then-is_empty
returns-then-is_empty c =
    let s = view_system c.args.nodes.now in
    let set = c.args.reading.now.set in
    let n : length c.as_slice.result.now ≡ 0 = search rules in
    let none : c.args.reading.now.points ≡ [] = nil_from_length c.args.reading.now.points (ap length (sym c.as_slice.ensures) ∙ n) in
    added_without s (site_at c.args.reading.now.node c.args.place.0 c.args.map.now set) c.args.edges.now (no_point_no_pair s c.args.reading.now.node c.args.place.0 c.args.map.now set c.args.reading.now.points none c.requires.reading.points)

pub returns-then-not-is_computed_at : goal.returns-then-not-is_computed_at
returns-then-not-is_computed_at c =
    let s = view_system c.args.nodes.now in
    let set = c.args.reading.now.set in
    let f : c.is_computed_at.result ≡ false = search rules in
    let computed = c.is_computed_at.ensures ∙ ap (λ (g : Flat). computed_at (slice_get (view_system g).variables c.args.place.0)) c.flat.ensures in
    added_without s (site_at c.args.reading.now.node c.args.place.0 c.args.map.now set) c.args.edges.now (not_computed_no_pair s c.args.reading.now.node c.args.place.0 c.args.map.now set (λ k. let t = computed in let u = here_computed s c.args.place.0 k in cc))

pub number-requires : goal.number-requires
number-requires c =
    let t : c.is_computed_at.result ≡ true = search rules in
    let computed = c.is_computed_at.ensures ∙ ap (λ (g : Flat). computed_at (slice_get (view_system g).variables c.args.place.0)) c.flat.ensures in
    let l = place_within (view_system c.args.nodes.now) c.args.nodes.now.vars c.args.place.0 refl (computed_here (view_system c.args.nodes.now) c.args.place.0 (sym computed ∙ t)) in
    omega (arith, l)

pub returns : goal.returns
returns c =
    let s = view_system c.args.nodes.now in
    let set = c.args.reading.now.set in
    let site = site_at c.args.reading.now.node c.args.place.0 c.args.map.now set in
    let t : c.is_computed_at.result ≡ true = search rules in
    let computed = c.is_computed_at.ensures ∙ ap (λ (g : Flat). computed_at (slice_get (view_system g).variables c.args.place.0)) c.flat.ensures in
    let k : 0 < length c.as_slice.result.now = search rules in
    let some : 0 < length c.args.reading.now.points = (let e = ap length c.as_slice.ensures in omega (arith, e, k)) in
    let pair = has_pair s c.args.reading.now.node c.args.place.0 c.args.map.now set c.args.reading.now.points (computed_here (view_system c.args.nodes.now) c.args.place.0 (sym computed ∙ t)) some c.requires.reading.points in
    let edge : Edge = record { consumer = c.args.reading.now.node; producer = c.number.result.0; map = c.copy_map.result; points = c.in_ok-copy_points.field-0 } in
    let points = subst (AreGenerators set) (sym (c.in_ok-copy_points.ensures ∙ c.as_slice-2.ensures)) c.requires.reading.generators in
    let is : IsEdge s site edge = record { consumer = refl; producer = c.number.ensures.is; map = c.copy_map.ensures; points = points } in
    on_ok_weaker c.push.result (λ e. subst (HasAdded s (site ∷ []) c.args.edges.now) (sym e) (added_with s site edge c.args.edges.now pair is)) c.push.ensures.ok
