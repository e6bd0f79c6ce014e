use Rattle.std.proofs.Common.{◌++◌, ◌∷◌, [], List, map, sym, ap, ◌∙◌}
use Rattle.av_flat.specs.declared.flat.Var.{Var}
use Rattle.av_flat.specs.Trees.{Variable, view_variable}
use Rattle.av_data.proofs.Named.{one_named}
use Rattle.av_data.proofs.VariableNames.{var_names, var_name, all_taken}
use Rattle.av_data.proofs.data.kept_names.Goals as goal

pub loop-var-preserved : goal.loop-var-preserved
loop-var-preserved c =
    let vars = c.as_slice-vars.result.now in
    let at = var_name vars c.loop-var.var-index c.var-item.result c.loop-var-test.true c.var-item.is in
    c.in_ok-push.ensures.ok ∙ ap (λ n. c.loop-var.names ++ n ∷ []) (c.in_ok-new.ensures ∙ c.as_str.ensures) ∙ ap (λ ns. ns ++ c.var-item.result.name ∷ []) c.loop-var.invariant
    ∙ sym (one_named (var_names vars) c.loop-var.var-index c.var-item.result.name at.0 at.1)

pub returns : goal.returns
returns c =
    all_taken c.loop-var.names c.as_slice-vars.result.now c.loop-var.var-index c.loop-var-test.false c.loop-var.invariant
    ∙ ap (λ (vs : List Var). map (λ (v : Variable). v.name) (map view_variable vs)) c.as_slice-vars.ensures
