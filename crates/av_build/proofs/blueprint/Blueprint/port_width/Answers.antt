use Rattle.std.proofs.Common.{◌≡◌, ◌∙◌, List, length, arith, sym, ap, subst, None}
use Rattle.av_flat.specs.declared.flat.Flat.{Flat}
use Rattle.av_flat.specs.declared.timed.Timed.{Timed}
use Rattle.av_flat.specs.Trees.{Tree, view, view_system}
use Rattle.av_space.specs.declared.spots.Site.{Site}
use Rattle.av_history.specs.Widths.{read_width}
use Rattle.av_build.specs.declared.blueprint.CellPlan.{CellPlan}
use Rattle.av_build.specs.inner.Lanes.{HasVariable, IsPortPlace, HasPortPlace}
use Rattle.av_build.proofs.Pairwise.{element_of}
use Rattle.av_build.proofs.PortPlaces.{low, has_port_place, has_variable, port_width_is}
use Rattle.av_build.proofs.blueprint.Blueprint.port_width.Goals as goal

pub bounds-as_slice-port : goal.bounds-as_slice-port
bounds-as_slice-port c =
    let within = low c.args.self.now c.requires.blueprint c.args.port.now c.requires.port in
    let many = ap (λ (l : List CellPlan). length l) c.as_slice.ensures in
    omega (arith, within, many)

pub reference_of-site-requires : goal.reference_of-site-requires
reference_of-site-requires c =
    let b = c.args.self.now in
    let port = c.args.port.now in
    let x = c.index-as_slice-port.result in
    let within = low b c.requires.blueprint port c.requires.port in
    let is_x = element_of b.cells c.as_slice.result.now port.cell x x c.as_slice.ensures within c.index-as_slice-port.is in
    subst (λ (p : CellPlan). HasPortPlace p.pieces port) c.index-as_slice-port.is (has_port_place b c.requires.blueprint port c.requires.port x is_x)

pub width_read-requires : goal.width_read-requires
width_read-requires c =
    let b = c.args.self.now in
    let port = c.args.port.now in
    let x = c.index-as_slice-port.result in
    let within = low b c.requires.blueprint port c.requires.port in
    let is_x = element_of b.cells c.as_slice.result.now port.cell x x c.as_slice.ensures within c.index-as_slice-port.is in
    let site = c.reference_of-site.result.now in
    let found = subst (λ (p : CellPlan). IsPortPlace p.pieces port site) (sym c.index-as_slice-port.is) c.reference_of-site.ensures in
    let tree : view site.place.tree ≡ view c.site.inside.0.0.tree.now = ap (λ (s : Site). view s.place.tree) (sym c.site.view_is) in
    subst (λ (f : Flat). HasVariable (view_system f) (view c.site.inside.0.0.tree.now)) (ap (λ (t : Timed). t.flat) (sym c.system-timed.ensures))
    (subst (HasVariable (view_system b.array.timed.now.flat)) tree (has_variable b c.requires.blueprint port c.requires.port x is_x site found))

pub returns : goal.returns
returns c =
    let b = c.args.self.now in
    let port = c.args.port.now in
    let x = c.index-as_slice-port.result in
    let within = low b c.requires.blueprint port c.requires.port in
    let is_x = element_of b.cells c.as_slice.result.now port.cell x x c.as_slice.ensures within c.index-as_slice-port.is in
    let site = c.reference_of-site.result.now in
    let found = subst (λ (p : CellPlan). IsPortPlace p.pieces port site) (sym c.index-as_slice-port.is) c.reference_of-site.ensures in
    let bits = c.system-timed.result.now.flat.width.bits in
    let tree : view c.site.inside.0.0.tree.now ≡ view site.place.tree = ap (λ (s : Site). view s.place.tree) c.site.view_is in
    port_width_is b c.requires.blueprint port c.requires.port x is_x site found c.width_read.result bits
    (c.width_read.ensures ∙ ap (λ (f : Flat). read_width (view_system f) bits None (view c.site.inside.0.0.tree.now)) (ap (λ (t : Timed). t.flat) c.system-timed.ensures) ∙ ap (λ (t : Tree). read_width (view_system b.array.timed.now.flat) bits None t) tree)
