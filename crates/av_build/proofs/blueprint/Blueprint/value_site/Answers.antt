use Rattle.std.proofs.Common.{◌∙◌, List, None, sym, ap, subst}
use Rattle.std.proofs.lemmas.Result.{IfOk-weaker}
use Rattle.av_flat.specs.declared.flat.Flat.{Flat}
use Rattle.av_flat.specs.declared.timed.Timed.{Timed}
use Rattle.av_flat.specs.Trees.{Tree, view, view_variable, view_system}
use Rattle.av_flat.specs.Sites.{PlaceMade}
use Rattle.av_space.specs.Spots.{system_of}
use Rattle.av_space.specs.Taps.{Pipeline}
use Rattle.av_history.specs.Widths.{read_width}
use Rattle.av_build.specs.declared.moments.Moment.{Moment}
use Rattle.av_build.specs.inner.Blueprints.{HasHelper, spot_of}
use Rattle.av_build.specs.inner.Lanes.{HasVariable, IsPipeSite}
use Rattle.av_build.specs.inner.Moments.{site_by}
use Rattle.av_build.specs.inner.Programmed.{inlet_by}
use Rattle.av_build.proofs.SpotsOn.{some_slots, spot_there, site_at, helper_on, variable_there}
use Rattle.av_build.proofs.ValueSites.{plain_site, piped_site}
use Rattle.av_build.proofs.blueprint.Blueprint.value_site.Goals as goal

pub pipe_site-requires-clause-helper : goal.pipe_site-requires-clause-helper
pipe_site-requires-clause-helper c =
    let b = c.args.self.now in
    let at = c.args.spot.now in
    let on = c.requires.place in
    let h = c.in-Some.pipeline in
    subst (λ j. HasHelper b at.cell.0 j) (ap (λ (g : Pipeline). g.number) (sym c.pipeline.view_is)) (helper_on b c.requires.blueprint at on.sites on.spot_on on.index c.args.place.now on.is_place h c.in-Some.is)

pub returns-in-Some : goal.returns-in-Some
returns-in-Some c = λ plan is_plan.
    let b = c.args.self.now in
    let at = c.args.spot.now in
    let on = c.requires.place in
    let h = c.in-Some.pipeline in
    let place = c.args.place.now in
    piped_site b c.requires.blueprint c.args.counter at (spot_there b c.requires.blueprint at on.sites on.spot_on) place (site_at b c.requires.blueprint at on.sites on.spot_on on.index place on.is_place) plan is_plan
    (some_slots b c.requires.blueprint at on.sites on.spot_on) h c.in-Some.is c.pipe_site.result (subst (λ j. IsPipeSite b (spot_of at) j c.pipe_site.result) (ap (λ (g : Pipeline). g.number) c.pipeline.view_is) c.pipe_site.ensures)

pub moments-requires-clause-spot : goal.moments-requires-clause-spot
moments-requires-clause-spot c = spot_there c.args.self.now c.requires.blueprint c.args.spot.now c.requires.place.sites c.requires.place.spot_on

pub moments-requires-clause-site : goal.moments-requires-clause-site
moments-requires-clause-site c = let on = c.requires.place in site_at c.args.self.now c.requires.blueprint c.args.spot.now on.sites on.spot_on on.index c.args.place.now on.is_place

pub width_read-width-requires : goal.width_read-width-requires
width_read-width-requires c =
    let b = c.args.self.now in
    let at = c.args.spot.now in
    let on = c.requires.place in
    let place = c.args.place.now in
    let tree = ap (λ (x : PlaceMade). view x.tree) c.read.view_is in
    subst (λ (f : Flat). HasVariable (view_system f) (view c.read.inside.tree.now)) (ap (λ (t : Timed). t.flat) (sym c.system-timed.ensures))
    (subst (λ (t : Tree). HasVariable (system_of b.array) t) (sym tree)
    (variable_there b c.requires.blueprint at (spot_there b c.requires.blueprint at on.sites on.spot_on) (some_slots b c.requires.blueprint at on.sites on.spot_on) place (site_at b c.requires.blueprint at on.sites on.spot_on on.index place on.is_place)))

pub returns : goal.returns
returns c =
    let b = c.args.self.now in
    let at = c.args.spot.now in
    let on = c.requires.place in
    let place = c.args.place.now in
    let moments = c.in_ok-moments.moments in
    let inlet = c.inlet_of.result in
    let width = c.width_read-width.result in
    let own = view c.read.inside.tree.now in
    let tree = ap (λ (x : PlaceMade). view x.tree) c.read.view_is in
    let inlet_is = c.inlet_of.ensures ∙ ap (λ (f : Flat). inlet_by (view_system f) (λ j. j) None own) (ap (λ (t : Timed). t.flat) c.system-timed.ensures) ∙ ap (λ (t : Tree). inlet_by (system_of b.array) (λ j. j) None t) tree in
    let width_is = c.width_read-width.ensures ∙ ap (λ (f : Flat). read_width (view_system f) (view_variable at.var.now).width None own) (ap (λ (t : Timed). t.flat) c.system-timed.ensures) ∙ ap (λ (t : Tree). read_width (system_of b.array) (view_variable at.var.now).width None t) tree in
    IfOk-weaker c.site.result _ _ (λ site e plan is_plan.
    plain_site b c.requires.blueprint c.args.counter at (spot_there b c.requires.blueprint at on.sites on.spot_on) place (site_at b c.requires.blueprint at on.sites on.spot_on on.index place on.is_place) plan is_plan
    c.in_default.is c.args.order.now c.requires.order moments c.in_ok-moments.ensures inlet inlet_is width width_is site
    (e ∙ ap (λ (l : List Moment). site_by inlet width l) c.as_slice.ensures)) c.site.ensures
