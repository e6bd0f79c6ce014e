-- Affine forms: whole coefficients, one for each index, and a constant (Mauras 1989; Wilde's reports on Alpha).
use Rattle.std.specs.Prelude.{ℤ, ◌+ℤ◌, ◌≤◌, ◌^◌, List, unsigned_abs}
use Rattle.av_affine.specs.declared.form.Form.{Form}
use Rattle.av_affine.specs.Numbers.{dot, AtMost}

-- the value at a point: each entry times its coefficient, and the constant
abbrev pub value_at : Form → List ℤ → ℤ
value_at f z = dot f.coef z +ℤ f.constant

-- coefficients of at most 1,024 and a constant of at most 2^20 in absolute value
pub record IsWithinLimits (f : Form) : Type 0 where
  pub coefficients : AtMost 1024 f.coef
  pub constant : unsigned_abs f.constant ≤ 2 ^ 20
