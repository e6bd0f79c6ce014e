use Rattle.std.proofs.Common.{◌<◌, ◌≤◌, List, length, get_or, map, sym, ap, subst, ◌∙◌}
use Rattle.std.specs.List.{list_any}
use Rattle.av_flat.specs.declared.flat.Var.{Var}
use Rattle.av_flat.specs.Trees.{view_variable}
use Rattle.av_commands.specs.inner.Reported.{is_output_named}
use Rattle.av_commands.proofs.Totals.{any_here, none_more, none_at_all}
use Rattle.av_commands.proofs.runs.names_output.Goals as goal

pub returns-then-is_output_named : goal.returns-then-is_output_named
returns-then-is_output_named c =
    let test = is_output_named c.args.name.now in
    let items = c.as_slice-var-items.result.now in
    let found = any_here test view_variable items c.loop-var.var-index c.var-item.result c.loop-var-test.true c.var-item.is (sym c.is_output_named.ensures ∙ c.if-is_output_named.true) in
    sym (ap (λ (vs : List Var). list_any test (map view_variable vs)) (sym c.as_slice-var-items.ensures) ∙ found)

pub loop-var-preserved : goal.loop-var-preserved
loop-var-preserved c =
    let k = c.loop-var.var-index in
    let var = c.var-item.result in
    let e = c.as_slice-var-items.ensures in
    none_more (is_output_named c.args.name.now) view_variable c.args.flat.now.vars k var (subst (λ (vs : List Var). k < length vs) e c.loop-var-test.true) (c.var-item.is ∙ ap (λ (vs : List Var). get_or vs k var) e)
    c.loop-var.invariant (sym c.is_output_named.ensures ∙ c.if-is_output_named.false)

pub returns : goal.returns
returns c =
    let k = c.loop-var.var-index in
    sym (none_at_all (is_output_named c.args.name.now) view_variable c.args.flat.now.vars k (subst (λ (vs : List Var). length vs ≤ k) c.as_slice-var-items.ensures c.loop-var-test.false) c.loop-var.invariant)
