use Rattle.std.proofs.Common.{◌≡◌, List, sym, subst, rules}
use Rattle.av_affine.specs.declared.form.Form.{Form}
use Rattle.av_poly.specs.Points.{Holds}
use Rattle.av_check.proofs.sets.least_point.Goals as goal

pub returns-then-are_contrary : goal.returns-then-are_contrary
returns-then-are_contrary c = λ z h.
    let e : c.as_slice.result.now ≡ c.args.set.now.rows = search rules in
    c.are_contrary.ensures.none c.if-are_contrary.true z (subst (λ (rows : List Form). Holds rows z) (sym e) h.holds)
