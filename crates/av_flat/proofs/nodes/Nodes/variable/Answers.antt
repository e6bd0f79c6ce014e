use Rattle.std.proofs.Common.{◌∙◌, Some, sym, ap, arith}
use Rattle.std.specs.Prelude.{slice_get}
use Rattle.av_flat.specs.declared.flat.Flat.{Flat}
use Rattle.av_flat.specs.Trees.{view_system}
use Rattle.av_flat.proofs.NodeNumbers.{node_is_at, node_listed, is_viewed}
use Rattle.av_flat.proofs.nodes.Nodes.variable.Goals as goal

pub bounds-vars-place : goal.bounds-vars-place
bounds-vars-place c = node_listed c.args.self.now c.as_slice-vars.result.now c.args.node.0 c.place-place.result.0 (c.as_slice-vars.ensures ∙ ap (λ (f : Flat). f.vars) c.self.view_is) c.place-place.ensures c.requires

pub offset_bounds-vars-place : goal.offset_bounds-vars-place
offset_bounds-vars-place c =
    let within = node_listed c.args.self.now c.as_slice-vars.result.now c.args.node.0 c.place-place.result.0 (c.as_slice-vars.ensures ∙ ap (λ (f : Flat). f.vars) c.self.view_is) c.place-place.ensures c.requires in
    let t = c.as_slice-vars.type_inv.1 in
    omega (arith, within, t)

pub returns : goal.returns
returns c =
    let flat = c.args.self.now in
    let vars = c.as_slice-vars.result.now in
    let are = c.as_slice-vars.ensures ∙ ap (λ (f : Flat). f.vars) c.self.view_is in
    let within = node_listed flat vars c.args.node.0 c.place-place.result.0 are c.place-place.ensures c.requires in
    let at = node_is_at (view_system flat) c.args.node.0 c.requires in
    let there = ap (slice_get (view_system flat).variables) c.place-place.ensures ∙ at.is_variable in
    let same = is_viewed flat vars c.place-place.result.0 c.index-vars-place.result at.variable are within c.index-vars-place.is there in
    at.is ∙ ap Some (sym same)
