use Rattle.std.proofs.Common.{◌≡◌, drop, pos}
use Rattle.std.specs.List.{list_all}
use Rattle.std.specs.Ordering.{int_eq}
use Rattle.av_affine.specs.declared.form.Form.{Form}
use Rattle.av_affine.specs.Numbers.{dot}
use Rattle.av_flat.proofs.direction.stays.Given as goal

-- those to come stand for all
abbrev pub invariant-loop-form : goal.invariant-loop-form
invariant-loop-form l = list_all (λ (f : Form). int_eq (dot f.coef l.direction) (pos 0)) (drop l.form-index l.form-items) ≡ list_all (λ (f : Form). int_eq (dot f.coef l.direction) (pos 0)) l.form-items
