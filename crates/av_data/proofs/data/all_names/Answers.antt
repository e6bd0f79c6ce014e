use Rattle.std.proofs.Common.{◌++◌, ◌∷◌, [], List, map, sym, ap, subst, ◌∙◌}
use Rattle.av_flat.specs.declared.flat.Var.{Var}
use Rattle.av_flat.specs.Trees.{Variable, view_system, view_variable}
use Rattle.av_net.specs.Names.{AreDistinct}
use Rattle.av_net.specs.Rows.{is_in}
use Rattle.av_data.proofs.Named.{added, is_new, one_named}
use Rattle.av_data.proofs.VariableNames.{var_names, names_are, distinct, var_name, all_taken}
use Rattle.av_data.proofs.data.all_names.Goals as goal

pub loop-var-preserved : goal.loop-var-preserved
loop-var-preserved c =
    let vars = c.as_slice-vars.result.now in
    let at = var_name vars c.loop-var.var-index c.var-item.result c.loop-var-test.true c.var-item.is in
    let own : AreDistinct (var_names vars) = subst AreDistinct (ap (λ (vs : List Var). map (λ (v : Variable). v.name) (map view_variable vs)) (sym c.as_slice-vars.ensures) ∙ names_are vars) (distinct (view_system c.args.flat.now).variables c.requires.names) in
    let new = ap (λ ns. is_in ns c.var-item.result.name) c.loop-var.invariant ∙ is_new (var_names vars) c.loop-var.var-index c.var-item.result.name at.0 at.1 own in
    added _ _ _ c.var-item.result.name c.in_ok-insert.ensures.all (c.as_bytes.ensures.value ∙ c.as_str.ensures) new
    ∙ ap (λ ns. ns ++ c.var-item.result.name ∷ []) c.loop-var.invariant ∙ sym (one_named (var_names vars) c.loop-var.var-index c.var-item.result.name at.0 at.1)

pub returns : goal.returns
returns c =
    all_taken c.loop-var.names c.as_slice-vars.result.now c.loop-var.var-index c.loop-var-test.false c.loop-var.invariant
    ∙ ap (λ (vs : List Var). map (λ (v : Variable). v.name) (map view_variable vs)) c.as_slice-vars.ensures
