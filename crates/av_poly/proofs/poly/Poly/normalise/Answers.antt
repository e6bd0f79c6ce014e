use Rattle.std.proofs.Common.{rules}
use Rattle.av_poly.specs.Normal.{AreNormalised}
use Rattle.av_poly.proofs.Normalising.{normal_set, normal_is}
use Rattle.av_poly.proofs.poly.Poly.normalise.Goals as goal

pub returns-clause-points : goal.returns-clause-points
returns-clause-points c = λ z. normal_set _ c.args.self.now z (search rules) (search rules)

pub returns-clause-normal : goal.returns-clause-normal
returns-clause-normal c =
    let s : AreNormalised c.self.inside.dim c.args.self.now.rows c.normalise_rows.new.rows = search rules in
    normal_is (record { dim = c.self.inside.dim; rows = c.normalise_rows.new.rows }) c.args.self.now.rows s
