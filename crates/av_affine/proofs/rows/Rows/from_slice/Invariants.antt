use Rattle.std.proofs.Common.{◌≡◌, take}
use Rattle.av_affine.proofs.rows.Rows.from_slice.Given as goal

abbrev pub invariant-loop-form : goal.invariant-loop-form
invariant-loop-form l = l.rows.items ≡ take l.form-index l.forms
