use Rattle.std.proofs.Common.{◌≡◌, List, sym, subst, rules}
use Rattle.av_affine.specs.declared.form.Form.{Form}
use Rattle.av_poly.specs.Points.{Holds}
use Rattle.av_normal.proofs.all_pieces.is_idle.Goals as goal

pub returns-else-folds-clause-none : goal.returns-else-folds-clause-none
returns-else-folds-clause-none c = λ t z h.
    let e : c.as_slice.result.now ≡ c.args.domain.now.rows = search rules in
    c.are_contrary.ensures.none t z (subst (λ (rows : List Form). Holds rows z) (sym e) h.holds)
