use Rattle.std.proofs.Common.{rules, ◌≡◌, ◌∙◌, ◌<◌, ℕ, List, false, IsTrue, length, refl, sym, ap, subst, arith}
use Rattle.std.proofs.lemmas.Option.{slice_get_within}
use Rattle.std.proofs.lemmas.Result.{on_ok_weaker}
use Rattle.av_flat.specs.declared.flat.Var.{Var}
use Rattle.av_flat.specs.declared.timed.Helper.{Helper}
use Rattle.av_flat.specs.declared.timed.Timed.{Timed}
use Rattle.av_flat.specs.Broadcasts.{Reference}
use Rattle.av_flat.specs.Nodes.{nodes, node_place}
use Rattle.av_flat.specs.Signatures.{is_computed}
use Rattle.av_flat.specs.Trees.{view_system, view_variable, reference}
use Rattle.av_space.specs.Taps.{helper_at}
use Rattle.av_space.specs.inner.Feeding.{direction_of}
use Rattle.av_space.specs.inner.NodePieces.{IsPart}
use Rattle.av_space.proofs.Fed.{pass_site, next_site}
use Rattle.av_space.proofs.PieceParts.{var_there, var_is, reference_there, reads_other, not_input, site_is}
use Rattle.av_space.proofs.ports.add_reference.Goals as goal

pub bounds-as_slice-read-inside : goal.bounds-as_slice-read-inside
bounds-as_slice-read-inside c =
    let part = subst (λ (r : Reference). IsPart c.args.at.now c.args.number.0 (reference r.place r.map)) (sym c.read.view_is) c.requires.part in
    let l = var_there c.args.at.now c.args.number.0 c.read.inside.var.0 c.read.inside.map.now part in
    let e = ap (λ (xs : List Var). length xs) (c.as_slice.ensures ∙ ap (λ (t : Timed). t.flat.vars) (c.system-timed.ensures ∙ c.timed-nodes.ensures.is)) in
    omega (arith, l, e)

pub offset_bounds-as_slice-read-inside : goal.offset_bounds-as_slice-read-inside
offset_bounds-as_slice-read-inside c = let within = bounds-as_slice-read-inside c in omega arith

pub returns-then-is_computed : goal.returns-then-is_computed
returns-then-is_computed c =
    let part = subst (λ (r : Reference). IsPart c.args.at.now c.args.number.0 (reference r.place r.map)) (sym c.read.view_is) c.requires.part in
    let at = c.args.at.now in
    let is = c.requires.at in
    let j = c.args.number.0 in
    let m = c.read.inside.map.now in
    let x = c.index-as_slice-read.result in
    let read = var_is at c.read.inside.var.0 x c.as_slice.result.now (var_there at j c.read.inside.var.0 m part) (c.as_slice.ensures ∙ ap (λ (t : Timed). t.flat.vars) (c.system-timed.ensures ∙ c.timed-nodes.ensures.is)) c.index-as_slice-read.is in
    let t : IsTrue c.is_computed.result = search rules in
    let kind : IsTrue (is_computed x.kind) = sym c.is_computed.ensures ∙ t in
    pass_site (view_system at.scheduled.now.timed.flat) at.scheduled.now.timed.helpers at.scheduled.now.layout.placements at.scheduled.now.layout.cells at.node.0 at.number j at.first c.args.ports.now is.first
    (reads_other at is j c.read.inside.var.0 m (view_variable x) (reference_there at j c.read.inside.var.0 m part) read (not_input (view_variable x) kind)) c.requires.old

pub place-place-requires : goal.place-place-requires
place-place-requires c =
    let at = c.args.at.now in
    let is = c.requires.at in
    let s = view_system at.scheduled.now.timed.flat in
    subst (λ (t : Timed). at.node.0 < length (nodes (view_system t.flat))) (sym c.timed-nodes.ensures.is) (slice_get_within (nodes s) at.node.0 is.variable is.is_variable)

pub add_site-requires-clause-site : goal.add_site-requires-clause-site
add_site-requires-clause-site c =
    let part = subst (λ (r : Reference). IsPart c.args.at.now c.args.number.0 (reference r.place r.map)) (sym c.read.view_is) c.requires.part in
    let at = c.args.at.now in
    let is = c.requires.at in
    let j = c.args.number.0 in
    let m = c.read.inside.map.now in
    let x = c.index-as_slice-read.result in
    let read = var_is at c.read.inside.var.0 x c.as_slice.result.now (var_there at j c.read.inside.var.0 m part) (c.as_slice.ensures ∙ ap (λ (t : Timed). t.flat.vars) (c.system-timed.ensures ∙ c.timed-nodes.ensures.is)) c.index-as_slice-read.is in
    let f : c.is_computed.result ≡ false = search rules in
    let kind : is_computed x.kind ≡ false = sym c.is_computed.ensures ∙ f in
    let direction = c.direction_of.ensures ∙ ap (λ (hs : List Helper). direction_of (helper_at hs c.place-place.result.0 at.number j)) (c.as_slice-helpers.ensures ∙ ap (λ (t : Timed). t.helpers) (c.system-timed.ensures ∙ c.timed-nodes.ensures.is))
    ∙ ap (λ (n : ℕ). direction_of (helper_at at.scheduled.now.timed.helpers n at.number j)) (c.place-place.ensures ∙ ap (λ (t : Timed). node_place (view_system t.flat) at.node.0) c.timed-nodes.ensures.is) in
    site_is at is j c.read.inside.var.0 m x _ part read kind refl refl refl direction

pub returns : goal.returns
returns c =
    let at = c.args.at.now in
    let is = c.requires.at in
    on_ok_weaker c.add_site.result
    (λ h. next_site (view_system at.scheduled.now.timed.flat) at.scheduled.now.timed.helpers at.scheduled.now.layout.placements at.scheduled.now.layout.cells at.node.0 at.number c.args.number.0 at.first at.last c.add_site.new.ports is.first is.last h)
    c.add_site.ensures
