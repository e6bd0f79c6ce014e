use Rattle.std.proofs.Common.{◌≡◌, List, Option, None, map, sym, ap, subst, ◌∙◌}
use Rattle.std.specs.Prelude.{IfSome, slice_get}
use Rattle.av_poly.specs.Points.{Has}
use Rattle.av_tree.specs.Points.{Point}
use Rattle.av_flat.specs.declared.flat.Var.{Var}
use Rattle.av_flat.specs.Trees.{view_system, view_variable}
use Rattle.av_data.specs.Inputs.{word_among}
use Rattle.av_data.proofs.Missed.{ToldBefore, missing_at}
use Rattle.av_data.proofs.missing.first_missing.Goals as goal

pub returns-in-Some-clause-missing : goal.returns-in-Some-clause-missing
returns-in-Some-clause-missing c =
    let s = view_system c.args.flat.now in
    let p = c.loop-place.place in
    let v = view_variable c.variable_at-var.result.now in
    let ws = c.args.words.now in
    missing_at s ws p v c.in-Some.point (ap (λ (vs : List Var). slice_get (map view_variable vs) p) (sym c.as_slice-vars.ensures) ∙ c.variable_at-var.ensures) (sym c.is_computed.ensures ∙ c.if-is_computed.false)
    (subst (λ (o : Option Point). IfSome o (λ z. Has v.domain z × (word_among ws p z ≡ None))) c.in-Some.is c.in_ok-point.ensures.missing)
    (subst (λ (o : Option Point). IfSome o (λ z. ToldBefore ws p v.domain z)) c.in-Some.is c.in_ok-point.ensures.least) c.loop-place.invariant
