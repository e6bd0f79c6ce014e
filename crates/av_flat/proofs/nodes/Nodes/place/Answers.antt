use Rattle.std.proofs.Common.{◌∙◌, ap, arith}
use Rattle.av_flat.specs.declared.flat.Flat.{Flat}
use Rattle.av_flat.specs.Trees.{view_system}
use Rattle.av_flat.specs.Nodes.{places_of}
use Rattle.av_flat.proofs.NodeNumbers.{node_in_places, place_listed}
use Rattle.av_flat.proofs.nodes.Nodes.place.Goals as goal

pub bounds-as_slice-node : goal.bounds-as_slice-node
bounds-as_slice-node c =
    node_in_places (view_system c.args.self.now) c.as_slice.result.now c.args.node.0 (c.as_slice.ensures ∙ c.self.invariant.0 ∙ ap (λ (f : Flat). places_of (view_system f)) c.self.view_is) c.requires

pub offset_bounds-as_slice-node : goal.offset_bounds-as_slice-node
offset_bounds-as_slice-node c =
    let within = node_in_places (view_system c.args.self.now) c.as_slice.result.now c.args.node.0 (c.as_slice.ensures ∙ c.self.invariant.0 ∙ ap (λ (f : Flat). places_of (view_system f)) c.self.view_is) c.requires in
    omega arith

pub returns : goal.returns
returns c = place_listed (view_system c.args.self.now) c.as_slice.result.now c.args.node.0 0 (c.as_slice.ensures ∙ c.self.invariant.0 ∙ ap (λ (f : Flat). places_of (view_system f)) c.self.view_is) c.requires
