use Rattle.std.proofs.Common.{◌≡◌, take, map}
use Rattle.av_affine.specs.Maps.{through}
use Rattle.av_affine.proofs.compose.composed.Given as goal

abbrev pub invariant-loop-form : goal.invariant-loop-form
invariant-loop-form l = l.forms.items ≡ map (through l.inner.from l.inner.rows) (take l.form-index l.form-items)
