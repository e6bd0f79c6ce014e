use Rattle.std.proofs.Common.{◌∙◌, ◌<◌, Some, List, length, sym, ap, subst, arith}
use Rattle.std.specs.Prelude.{slice_get}
use Rattle.std.proofs.lemmas.Option.{slice_get-get_or}
use Rattle.av_flat.specs.declared.timed.Time.{Time}
use Rattle.av_flat.specs.declared.timed.Timed.{Timed}
use Rattle.av_flat.specs.Legal.{IsLegal}
use Rattle.av_space.proofs.timed_nodes.TimedNodes.time.Goals as goal

pub bounds-as_slice-node : goal.bounds-as_slice-node
bounds-as_slice-node c =
    let legal = subst IsLegal c.self.view_is c.self.invariant.1 in
    let e = ap (λ (ts : List Time). length ts) (c.as_slice.ensures ∙ ap (λ (t : Timed). t.times) c.self.view_is) in
    omega (arith, e, legal.schedule.one_each, c.requires)

pub offset_bounds-as_slice-node : goal.offset_bounds-as_slice-node
offset_bounds-as_slice-node c =
    let legal = subst IsLegal c.self.view_is c.self.invariant.1 in
    let e = ap (λ (ts : List Time). length ts) (c.as_slice.ensures ∙ ap (λ (t : Timed). t.times) c.self.view_is) in
    let t = c.as_slice.type_inv.1 in
    omega (arith, e, t, legal.schedule.one_each, c.requires)

pub returns : goal.returns
returns c =
    let ts = c.as_slice.result.now in
    let x = c.index-as_slice-node.result in
    let legal = subst IsLegal c.self.view_is c.self.invariant.1 in
    let are = c.as_slice.ensures ∙ ap (λ (t : Timed). t.times) c.self.view_is in
    let e = ap (λ (us : List Time). length us) are in
    let l : c.args.node.0 < length ts = omega (arith, e, legal.schedule.one_each, c.requires) in
    record { is = ap (λ (us : List Time). slice_get us c.args.node.0) (sym are) ∙ slice_get-get_or ts c.args.node.0 x l ∙ ap Some (sym c.index-as_slice-node.is); legal = legal }
