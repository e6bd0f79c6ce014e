use Rattle.std.proofs.Common.{◌≤◌, ◌^◌, arith}
use Rattle.std.specs.Int.RustNames.{unsigned_abs}
use Rattle.std.proofs.lemmas.List.Elements.{All-weaker}
use Rattle.av_poly.proofs.before.row_before.Goals as goal

pub returns-clause-small : goal.returns-clause-small
returns-clause-small c = record {
  coefficients = All-weaker (λ x. unsigned_abs x ≤ 2 ^ 32) (λ x. unsigned_abs x ≤ 2 ^ 40) (λ x h. omega (arith, h)) c.after.result.coef c.after.ensures.coefficients;
  constant = omega (arith, c.after.ensures.constant);
}
