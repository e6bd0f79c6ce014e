use Rattle.std.proofs.Common.{List, map, refl, sym, ap, ◌∙◌}
use Rattle.std.specs.Prelude.{slice_get}
use Rattle.av_flat.specs.declared.flat.Var.{Var}
use Rattle.av_flat.specs.Trees.{view_variable}
use Rattle.av_data.proofs.data.missing.Goals as goal

pub returns-in-Ok : goal.returns-in-Ok
returns-in-Ok c =
    (view_variable c.variable_at-var.result.now, ap (λ (vs : List Var). slice_get (map view_variable vs) c.args.place.0) (sym c.as_slice.ensures) ∙ c.variable_at-var.ensures, sym (c.in-Ok.ensures ∙ c.as_str.ensures), refl)
