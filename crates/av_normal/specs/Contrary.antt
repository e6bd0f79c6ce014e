-- Two rows that cannot hold at once, as their coefficients tell.
use Rattle.std.specs.Prelude.{pos, ◌≡◌, ◌+ℤ◌, ◌-ℤ◌, ◌<ℤ◌, map}
use Rattle.av_affine.specs.declared.form.Form.{Form}

-- a.z + c >= 0 and -a.z + d >= 0, where c + d < 0
pub record AreOpposed (some other : Form) : Type 0 where
  pub coefficients : other.coef ≡ map (λ x. pos 0 -ℤ x) some.coef
  pub constants : (some.constant +ℤ other.constant) <ℤ pos 0
