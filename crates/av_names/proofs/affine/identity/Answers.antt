use Rattle.std.proofs.Common.{◌∙◌, ap, List}
use Rattle.av_affine.specs.declared.form.Form.{Form}
use Rattle.av_names.proofs.Summed.{identity_rows}
use Rattle.av_names.proofs.affine.identity.Goals as goal

pub returns : goal.returns
returns c =
    let e = rw (c.index_form.ensures, c.index_form-2.ensures, c.index_form-3.ensures, c.index_form-4.ensures) at c.first_forms.ensures in
    ap (λ (rows : List Form). record { from = c.args.indices; rows = rows }) (e ∙ identity_rows c.args.indices c.requires)
