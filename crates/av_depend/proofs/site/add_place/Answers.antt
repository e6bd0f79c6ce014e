use Rattle.std.proofs.Common.{◌≡◌, ◌∙◌, sym, ap}
use Rattle.av_flat.specs.Sites.{PlaceMade}
use Rattle.av_flat.specs.Trees.{view, view_system}
use Rattle.av_depend.specs.inner.Adding.{sites_at}
use Rattle.av_depend.proofs.Adds.{added_none_of, no_sites_at}
use Rattle.av_depend.proofs.site.add_place.Goals as goal

pub returns-in_default : goal.returns-in_default
returns-in_default c =
    let sites = sites_at c.args.reading.now.node c.args.reading.now.set in
    let e : view c.args.place.now.tree ≡ view c.place.inside.tree.now = ap (λ (p : PlaceMade). view p.tree) (sym c.place.view_is) in
    let none = no_sites_at c.args.reading.now.node c.args.reading.now.set c.place.inside.tree.now c.in_default.not-Ref c.in_default.not-Pick in
    added_none_of (view_system c.args.nodes.now) (sites (view c.args.place.now.tree)) c.args.edges.now (ap sites e ∙ none)
