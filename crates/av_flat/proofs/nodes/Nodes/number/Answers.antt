use Rattle.std.proofs.Common.{◌∙◌, ◌<◌, length, sym, ap, subst, arith}
use Rattle.av_flat.specs.declared.flat.Flat.{Flat}
use Rattle.av_flat.specs.Trees.{view_system}
use Rattle.av_flat.specs.Nodes.{number_at}
use Rattle.av_flat.proofs.NodeNumbers.{number_within, place_in_numbers, number_listed}
use Rattle.av_flat.proofs.nodes.Nodes.number.Goals as goal

pub bounds-as_slice-place : goal.bounds-as_slice-place
bounds-as_slice-place c =
    place_in_numbers c.self.inside.flat.now c.as_slice.result.now c.args.place.0 (c.as_slice.ensures ∙ c.self.invariant.1) (subst (λ (f : Flat). c.args.place.0 < length f.vars) (sym c.self.view_is) c.requires)

pub offset_bounds-as_slice-place : goal.offset_bounds-as_slice-place
offset_bounds-as_slice-place c =
    let within = place_in_numbers c.self.inside.flat.now c.as_slice.result.now c.args.place.0 (c.as_slice.ensures ∙ c.self.invariant.1) (subst (λ (f : Flat). c.args.place.0 < length f.vars) (sym c.self.view_is) c.requires) in
    omega arith

pub returns-clause-is : goal.returns-clause-is
returns-clause-is c =
    let l : c.args.place.0 < length c.self.inside.flat.now.vars = subst (λ (f : Flat). c.args.place.0 < length f.vars) (sym c.self.view_is) c.requires in
    number_listed c.self.inside.flat.now c.as_slice.result.now c.args.place.0 0 (c.as_slice.ensures ∙ c.self.invariant.1) l ∙ ap (λ (f : Flat). number_at (view_system f) c.args.place.0) c.self.view_is

pub returns-clause-most : goal.returns-clause-most
returns-clause-most c =
    let flat = c.self.inside.flat.now in
    let l : c.args.place.0 < length flat.vars = subst (λ (f : Flat). c.args.place.0 < length f.vars) (sym c.self.view_is) c.requires in
    let e = number_listed flat c.as_slice.result.now c.args.place.0 0 (c.as_slice.ensures ∙ c.self.invariant.1) l in
    let w = number_within (view_system flat) c.args.place.0 in
    omega (arith, e, w, l)
